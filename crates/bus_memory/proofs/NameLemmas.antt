-- Which words names name: with one name more, and with the names of all cores.
use Rattle.std.proofs.Common.{◌≡◌, ◌≢◌, ℕ, ◌<◌, Bool, true, false, ◌||◌, ◌&&◌, nat_eq, List, [], ◌∷◌, ◌++◌, length, get_or, zero, suc, Some, refl, sym, ap, ap₂, ◌∙◌, arith}
use Rattle.std.specs.List.{list_any}
use Rattle.std.proofs.lemmas.Bool.{eq-eqb, ne_eqb}
use Rattle.std.proofs.lemmas.List.Folds.{list_any-append}
use Rattle.lf_model.specs.Records.BusMemory.{is_turn, names_word}
use Rattle.lf_model.specs.declared.trace.Word2.{Word2}
use Rattle.bus_memory.specs.Names.{names_of}

-- the names of all cores
pub any_of_all : (p : Word2 → Bool) (cores : List (List Word2)) → list_any (λ (names : List Word2). list_any p names) cores ≡ list_any p (names_of cores)
any_of_all p [] = refl
any_of_all p (names ∷ cores) = ap (λ (b : Bool). list_any p names || b) (any_of_all p cores) ∙ sym (list_any-append p names (names_of cores))

-- a test that one element passes
pub any_here : {X : Type 0} (p : X → Bool) (xs : List X) (i : ℕ) (d : X) → i < length xs → p (get_or xs i d) ≡ true → list_any p xs ≡ true
any_here p [] i d lt here = absurd (omega arith)
any_here p (x ∷ xs) zero d lt here = ap (λ (b : Bool). b || list_any p xs) here
any_here p (x ∷ xs) (suc i) d lt here = ap (λ (b : Bool). p x || b) (any_here p xs i d (omega (arith, lt)) here) ∙ or_true (p x)
  where
    or_true : (b : Bool) → (b || true) ≡ true
    or_true true = refl
    or_true false = refl

or_none : (b : Bool) → (b || false) ≡ b
or_none true = refl
or_none false = refl

and_none : (b : Bool) → (b && false) ≡ false
and_none true = refl
and_none false = refl

-- a name of a turn is of no other turn
pub other_turn : (name : Word2) (turn u addr : ℕ) → name.value ≡ Some turn → u ≢ turn → (nat_eq name.addr addr && is_turn u name.value) ≡ false
other_turn name turn u addr value other =
    ap (λ (b : Bool). nat_eq name.addr addr && b) (ap (is_turn u) value ∙ ne_eqb turn u (λ e. other (sym e))) ∙ and_none (nat_eq name.addr addr)

module _ (named : List Word2) (name : Word2) where
  names_more : (turn addr : ℕ) → names_word (named ++ name ∷ []) turn addr ≡ (names_word named turn addr || (nat_eq name.addr addr && is_turn turn name.value || false))
  names_more turn addr = list_any-append (λ (w : Word2). nat_eq w.addr addr && is_turn turn w.value) named (name ∷ [])

  -- it names no word at this turn
  pub names_same : (turn addr : ℕ) → (nat_eq name.addr addr && is_turn turn name.value) ≡ false → names_word (named ++ name ∷ []) turn addr ≡ names_word named turn addr
  names_same turn addr not_it =
      names_more turn addr ∙ ap (λ (b : Bool). names_word named turn addr || (b || false)) not_it ∙ or_none (names_word named turn addr)

  -- it does
  pub names_now : (turn addr : ℕ) → name.value ≡ Some turn → name.addr ≡ addr → names_word named turn addr ≡ false → names_word (named ++ name ∷ []) turn addr ≡ true
  names_now turn addr value here none =
      names_more turn addr
      ∙ ap₂ (λ (a b : Bool). a || (b || false)) none (ap₂ (λ (a b : Bool). a && b) (eq-eqb name.addr addr here) (ap (is_turn turn) value ∙ eq-eqb turn turn refl))
