-- The places of addresses, and the words at them.
use Rattle.std.proofs.Common.{◌≡◌, ◌≢◌, ℕ, suc, ◌<◌, Bool, true, false, ◌||◌, cond, nat_eq, List, [], ◌∷◌, ◌++◌, length, map, Option, Some, None, refl, sym, ap, ap₂, ◌∙◌, subst, inl, inr, arith}
use Rattle.std.specs.Prelude.{option_map, is_some, fold, replicate}
use Rattle.std.specs.List.{AllByRecursion, list_any}
use Rattle.std.specs.Option.{option_map_or}
use Rattle.std.proofs.lemmas.Bool.{cases_Bool, eq-eqb, ne_eqb, eqb-true}
use Rattle.lf_model.proofs.EachLemmas.{each_append}
use Rattle.lf_model.specs.Bus.Words.{Word, is_at, history_of, word_history, with_word, with_struck, words_struck}
use Rattle.lf_model.specs.Caches.Slot.{history_at, befalls}
use Rattle.lf_model.specs.Flips.{Moment}
use Rattle.lf_model.specs.declared.flip.Flip.{Flip}
use Rattle.lf_model.specs.declared.flip.Flip.TheVariants.{Mem, Reg, Tag, Line}
use Rattle.replay_words.specs.Places.{addr_of, place_in, with_address, AreDistinct, words_of}

-- ---- places

-- an address of which something does not hold that holds of all has none
pub absent : (P : ℕ → Type 0) (addrs : List ℕ) (addr : ℕ) → AllByRecursion P addrs → (P addr → ⊥) → place_in addrs addr ≡ None
absent P [] addr all not_it = refl
absent P (a ∷ addrs) addr all not_it = elim (cases_Bool (nat_eq a addr)) [
  | inl here ↦ absurd (not_it (subst P (eqb-true a addr here) all.0))
  | inr other ↦
      ap (λ (b : Bool). cond b (Some 0) (option_map suc (place_in addrs addr))) other ∙ ap (option_map suc) (absent P addrs addr all.1 not_it)
]

later : (p : ℕ) (place : Option ℕ) → option_map suc place ≡ Some p → (q : ℕ) × ((place ≡ Some q) × (p ≡ suc q))
later p None is = cc
later p (Some q) is = let e : suc q ≡ p = cc in (q, (refl, sym e))

-- a place is one of the addresses'
pub place_within : (addrs : List ℕ) (addr p : ℕ) → place_in addrs addr ≡ Some p → p < length addrs
place_within [] addr p is = cc
place_within (a ∷ addrs) addr p is = elim (cases_Bool (nat_eq a addr)) [
  | inl here ↦
      let first : Some 0 ≡ Some p = sym (ap (λ (b : Bool). cond b (Some 0) (option_map suc (place_in addrs addr))) here) ∙ is in
      let e : 0 ≡ p = cc in
      omega (arith, e)
  | inr other ↦
      let rest = later p (place_in addrs addr) (sym (ap (λ (b : Bool). cond b (Some 0) (option_map suc (place_in addrs addr))) other) ∙ is) in
      let lt = place_within addrs addr rest.0 rest.1.0 in
      omega (arith, lt, rest.1.1)
]

-- one address more
pub place_push_other : (addrs : List ℕ) (x addr : ℕ) → addr ≢ x → place_in (addrs ++ x ∷ []) addr ≡ place_in addrs addr
place_push_other [] x addr apart = ap (λ (b : Bool). cond b (Some 0) None) (ne_eqb x addr (λ e. apart (sym e)))
place_push_other (a ∷ addrs) x addr apart = ap (λ (place : Option ℕ). cond (nat_eq a addr) (Some 0) (option_map suc place)) (place_push_other addrs x addr apart)

pub place_push_here : (addrs : List ℕ) (x : ℕ) → place_in addrs x ≡ None → place_in (addrs ++ x ∷ []) x ≡ Some (length addrs)
place_push_here [] x none = ap (λ (b : Bool). cond b (Some 0) None) (eq-eqb x x refl)
place_push_here (a ∷ addrs) x none = elim (cases_Bool (nat_eq a x)) [
  | inl here ↦
      let first : Some 0 ≡ None = sym (ap (λ (b : Bool). cond b (Some 0) (option_map suc (place_in addrs x))) here) ∙ none in
      absurd cc
  | inr other ↦
      ap (λ (b : Bool). cond b (Some 0) (option_map suc (place_in (addrs ++ x ∷ []) x))) other
      ∙ ap (option_map suc)
      (place_push_here addrs x (rest (place_in addrs x) (sym (ap (λ (b : Bool). cond b (Some 0) (option_map suc (place_in addrs x))) other) ∙ none)))
]
  where
    rest : (place : Option ℕ) → option_map suc place ≡ None → place ≡ None
    rest None is = refl
    rest (Some q) is = cc

pub distinct_push : (addrs : List ℕ) (x : ℕ) → AreDistinct addrs → place_in addrs x ≡ None → AreDistinct (addrs ++ x ∷ [])
distinct_push [] x distinct none = (refl, tt)
distinct_push (a ∷ addrs) x distinct none = elim (cases_Bool (nat_eq a x)) [
  | inl here ↦
      let first : Some 0 ≡ None = sym (ap (λ (b : Bool). cond b (Some 0) (option_map suc (place_in addrs x))) here) ∙ none in
      absurd cc
  | inr other ↦ (
    place_push_other addrs x a (λ e. false_true (sym other ∙ eq-eqb a x e)) ∙ distinct.0,
    distinct_push addrs x distinct.1 (rest (place_in addrs x) (sym (ap (λ (b : Bool). cond b (Some 0) (option_map suc (place_in addrs x))) other) ∙ none)),
  )
]
  where
    rest : (place : Option ℕ) → option_map suc place ≡ None → place ≡ None
    rest None is = refl
    rest (Some q) is = cc

    false_true : false ≡ true → ⊥
    false_true e = cc

-- ---- the addresses of the words that a script strikes

any_place : (words : List Word) (addr : ℕ) → list_any (is_at addr) words ≡ is_some (place_in (map addr_of words) addr)
any_place [] addr = refl
any_place (w ∷ words) addr = by (nat_eq w.addr addr) (any_place words addr)
  where
    some_later : (place : Option ℕ) → is_some place ≡ is_some (option_map suc place)
    some_later None = refl
    some_later (Some p) = refl

    by : (b : Bool) → list_any (is_at addr) words ≡ is_some (place_in (map addr_of words) addr)
        → (b || list_any (is_at addr) words) ≡ is_some (cond b (Some 0) (option_map suc (place_in (map addr_of words) addr)))
    by true rest = refl
    by false rest = rest ∙ some_later (place_in (map addr_of words) addr)

map_push : (words : List Word) (w : Word) → map addr_of (words ++ w ∷ []) ≡ map addr_of words ++ w.addr ∷ []
map_push [] w = refl
map_push (v ∷ words) w = ap (λ (rest : List ℕ). v.addr ∷ rest) (map_push words w)

pub address_more : (words : List Word) (addr : ℕ) → map addr_of (with_word words addr) ≡ with_address (map addr_of words) addr
address_more words addr = by (list_any (is_at addr) words) ∙ ap (λ (b : Bool). cond b (map addr_of words) (map addr_of words ++ addr ∷ [])) (any_place words addr)
  where
    by : (b : Bool) → map addr_of (cond b words (words ++ record { addr = addr; history = [] } ∷ [])) ≡ cond b (map addr_of words) (map addr_of words ++ addr ∷ [])
    by true = refl
    by false = map_push words (record { addr = addr; history = [] })

-- ---- the words at addresses

abbrev NothingTo : Word → Type 0
NothingTo word = word.history ≡ []

fresh_word : (words : List Word) (addr : ℕ) → AllByRecursion NothingTo words → AllByRecursion NothingTo (with_word words addr)
fresh_word words addr all = by (list_any (is_at addr) words)
  where
    by : (b : Bool) → AllByRecursion NothingTo (cond b words (words ++ record { addr = addr; history = [] } ∷ []))
    by true = all
    by false = each_append NothingTo words (record { addr = addr; history = [] } ∷ []) all (refl, tt)

fresh_from : (flips : List Flip) (words : List Word) → AllByRecursion NothingTo words → AllByRecursion NothingTo (fold with_struck words flips)
fresh_from [] words all = all
fresh_from (Mem turn addr bit ∷ flips) words all = fresh_from flips (with_word words addr) (fresh_word words addr all)
fresh_from (Reg core step cell bit ∷ flips) words all = fresh_from flips words all
fresh_from (Tag core step fetch way set byte bit ∷ flips) words all = fresh_from flips words all
fresh_from (Line core step fetch way set byte bit ∷ flips) words all = fresh_from flips words all

same_words : (words : List Word) → AllByRecursion NothingTo words → words_of (map addr_of words) (replicate (length (map addr_of words)) []) ≡ words
same_words [] all = refl
same_words (w ∷ words) all =
    ap₂ (λ (h : List Moment) (rest : List Word). record { addr = w.addr; history = h } ∷ rest) (sym all.0) (same_words words all.1)

pub words_at_start : (script : List Flip) → words_of (map addr_of (words_struck script)) (replicate (length (map addr_of (words_struck script))) []) ≡ words_struck script
words_at_start script = same_words (words_struck script) (fresh_from script [] tt)

-- the history of the word at an address
abbrev pub history_in : List (List Moment) → Option ℕ → List Moment
history_in hs None = []
history_in hs (Some place) = history_at place hs

pub word_found : (addrs : List ℕ) (hs : List (List Moment)) (addr : ℕ) → length hs ≡ length addrs → word_history (words_of addrs hs) addr ≡ history_in hs (place_in addrs addr)
word_found [] hs addr long = refl
word_found (a ∷ addrs) [] addr long = cc
word_found (a ∷ addrs) (h ∷ hs) addr long = by (nat_eq a addr) (place_in addrs addr) (word_found addrs hs addr (let e : length hs ≡ length addrs = omega (arith, long) in e))
  where
    by : (b : Bool) (place : Option ℕ) → word_history (words_of addrs hs) addr ≡ history_in hs place
        → option_map_or history_of (cond b (Some (record { addr = a; history = h })) (Rattle.std.specs.Prelude.find (is_at addr) (words_of addrs hs))) []
        ≡ history_in (h ∷ hs) (cond b (Some 0) (option_map suc place))
    by true place rest = refl
    by false None rest = rest
    by false (Some p) rest = rest

-- this happens to the word at a place, if there is one
abbrev pub befalls_at : (List Moment → List Moment) → Option ℕ → List (List Moment) → List (List Moment)
befalls_at happen None hs = hs
befalls_at happen (Some place) hs = befalls happen place hs

module _ (addr : ℕ) (happen : List Moment → List Moment) (g : Word → Word) (g_is : (w : Word) → g w ≡ cond (nat_eq w.addr addr) (record w { history = happen w.history }) w) where
  elsewhere : (addrs : List ℕ) (hs : List (List Moment)) → place_in addrs addr ≡ None → map g (words_of addrs hs) ≡ words_of addrs hs
  elsewhere [] hs none = refl
  elsewhere (a ∷ addrs) [] none = refl
  elsewhere (a ∷ addrs) (h ∷ hs) none = elim (cases_Bool (nat_eq a addr)) [
    | inl here ↦
        let first : Some 0 ≡ None = sym (ap (λ (b : Bool). cond b (Some 0) (option_map suc (place_in addrs addr))) here) ∙ none in
        absurd cc
    | inr other ↦
        ap₂ (λ (w : Word) (rest : List Word). w ∷ rest)
        (g_is (record { addr = a; history = h }) ∙ ap (λ (b : Bool). cond b (record { addr = a; history = happen h }) (record { addr = a; history = h })) other)
        (elsewhere addrs hs (rest (place_in addrs addr) (sym (ap (λ (b : Bool). cond b (Some 0) (option_map suc (place_in addrs addr))) other) ∙ none)))
  ]
    where
      rest : (place : Option ℕ) → option_map suc place ≡ None → place ≡ None
      rest None is = refl
      rest (Some q) is = cc

  -- the word at an address changes
  pub one_word : (addrs : List ℕ) (hs : List (List Moment)) → AreDistinct addrs → length hs ≡ length addrs → map g (words_of addrs hs) ≡ words_of addrs (befalls_at happen (place_in addrs addr) hs)
  one_word [] hs distinct long = refl
  one_word (a ∷ addrs) [] distinct long = cc
  one_word (a ∷ addrs) (h ∷ hs) distinct long = elim (cases_Bool (nat_eq a addr)) [
    | inl here ↦
        let none : place_in addrs addr ≡ None = ap (place_in addrs) (sym (eqb-true a addr here)) ∙ distinct.0 in
        ap₂ (λ (w : Word) (rest : List Word). w ∷ rest)
        (g_is (record { addr = a; history = h }) ∙ ap (λ (b : Bool). cond b (record { addr = a; history = happen h }) (record { addr = a; history = h })) here)
        (elsewhere addrs hs none)
        ∙ sym (ap (λ (b : Bool). words_of (a ∷ addrs) (befalls_at happen (cond b (Some 0) (option_map suc (place_in addrs addr))) (h ∷ hs))) here)
    | inr other ↦
        ap₂ (λ (w : Word) (rest : List Word). w ∷ rest)
        (g_is (record { addr = a; history = h }) ∙ ap (λ (b : Bool). cond b (record { addr = a; history = happen h }) (record { addr = a; history = h })) other)
        (one_word addrs hs distinct.1 (let e : length hs ≡ length addrs = omega (arith, long) in e))
        ∙ by (place_in addrs addr)
        ∙ sym (ap (λ (b : Bool). words_of (a ∷ addrs) (befalls_at happen (cond b (Some 0) (option_map suc (place_in addrs addr))) (h ∷ hs))) other)
  ]
    where
      by : (place : Option ℕ) → record { addr = a; history = h } ∷ words_of addrs (befalls_at happen place hs) ≡ words_of (a ∷ addrs) (befalls_at happen (option_map suc place) (h ∷ hs))
      by None = refl
      by (Some p) = refl

pub place_found : (addrs : List ℕ) (addr p : ℕ) {found : Option ℕ} → found ≡ place_in addrs addr → found ≡ Some p → p < length addrs
place_found addrs addr p found is = place_within addrs addr p (sym found ∙ is)

module _ (addrs : List ℕ) (hs : List (List Moment)) (addr : ℕ) (long : length hs ≡ length addrs) {found : Option ℕ} (is : found ≡ place_in addrs addr) where
  pub found_word : (place : ℕ) → found ≡ Some place → history_at place hs ≡ word_history (words_of addrs hs) addr
  found_word place here = sym (word_found addrs hs addr long ∙ ap (history_in hs) (sym is ∙ here))

  pub no_word : found ≡ None → [] ≡ word_history (words_of addrs hs) addr
  no_word none = sym (word_found addrs hs addr long ∙ ap (history_in hs) (sym is ∙ none))
