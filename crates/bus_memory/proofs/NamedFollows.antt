-- The array follows the definitions' words with one name more, where its word was named as that turn ended.
use Rattle.std.proofs.Common.{◌≡◌, ◌≢◌, ℕ, zero, suc, ◌+◌, ◌-◌, ◌<◌, ◌≤◌, ◌%◌, Bool, false, ◌||◌, ◌&&◌, nat_eq, List, [], ◌∷◌, ◌++◌, length, map, take, Some, refl, sym, ap, ap₂, ◌∙◌, subst, inl, inr, arith}
use Rattle.std.specs.List.{AllByRecursion, list_any}
use Rattle.std.proofs.lemmas.Bool.{cases_eq, ne_eqb, or_parts}
use Rattle.std.proofs.lemmas.List.{get_or-set_same, get_or-set_other, length-set}
use Rattle.coded_words.specs.Past.{named_behind}
use Rattle.flip_ledger.specs.Follows.{has_struck}
use Rattle.lf_model.specs.Bus.Words.{Word, is_at, words_struck}
use Rattle.lf_model.specs.Caches.Slot.{history_at, befalls}
use Rattle.lf_model.specs.Flips.{Moment}
use Rattle.lf_model.specs.Flips.Moment.{Struck, Written, Found, Named}
use Rattle.lf_model.specs.Records.BusMemory.{is_turn, names_word, memory_after}
use Rattle.lf_model.specs.Start.{ram_first}
use Rattle.lf_model.specs.declared.bus.Transfer.{Transfer}
use Rattle.lf_model.specs.declared.flip.Flip.{Flip}
use Rattle.lf_model.specs.declared.trace.Word2.{Word2}
use Rattle.bus_memory.specs.Followed.{address_of, IsUnstruck, IsShown, Follows}
use Rattle.bus_memory.proofs.FollowLemmas.{is_at_map}
use Rattle.bus_memory.proofs.NameLemmas.{names_same}
use Rattle.bus_memory.proofs.NamedWord.{addr_run, run_same, run_named}
use Rattle.bus_memory.proofs.PlaceLemmas.{address_back}
use Rattle.bus_memory.proofs.WordRun.{run_one, words_run}
use Rattle.ram_words.specs.Ram.{place_of}

-- ---- a name strikes nothing

pub struck_take : (i n : ℕ) (h : List Moment) → has_struck i h ≡ false → has_struck i (take n h) ≡ false
struck_take i zero h none = refl
struck_take i (suc n) [] none = refl
struck_take i (suc n) (Struck number bit ∷ h) none =
    let parts = or_parts (nat_eq number i) (has_struck i h) none in
    ap₂ (λ (a b : Bool). a || b) parts.0 (struck_take i n h parts.1)
struck_take i (suc n) (Written how ∷ h) none = struck_take i n h none
struck_take i (suc n) (Found ∷ h) none = struck_take i n h none
struck_take i (suc n) (Named ∷ h) none = struck_take i n h none

pub struck_append : (i : ℕ) (xs ys : List Moment) → has_struck i xs ≡ false → has_struck i ys ≡ false → has_struck i (xs ++ ys) ≡ false
struck_append i [] ys none more = more
struck_append i (Struck number bit ∷ xs) ys none more =
    let parts = or_parts (nat_eq number i) (has_struck i xs) none in
    ap₂ (λ (a b : Bool). a || b) parts.0 (struck_append i xs ys parts.1 more)
struck_append i (Written how ∷ xs) ys none more = struck_append i xs ys none more
struck_append i (Found ∷ xs) ys none more = struck_append i xs ys none more
struck_append i (Named ∷ xs) ys none more = struck_append i xs ys none more

unstruck_behind : (earlier h : List Moment) → IsUnstruck earlier → IsUnstruck h → IsUnstruck (named_behind earlier h)
unstruck_behind earlier h before now = λ i. struck_append i (take (length h - length earlier) h) (Named ∷ earlier) (struck_take i (length h - length earlier) h (now i)) (before i)

-- ---- the transfers up to a turn, that of the turn, and those after it

record IsSplit (ts : List Transfer) (turn : ℕ) : Type 0 where
  front : List Transfer
  at : Transfer
  rest : List Transfer
  long : length front ≡ turn
  whole : ts ≡ front ++ at ∷ rest
  early : take (turn + 1) ts ≡ front ++ at ∷ []

split_at : (ts : List Transfer) (turn : ℕ) → turn < length ts → IsSplit ts turn
split_at [] turn lt = absurd (omega arith)
split_at (t ∷ ts) zero lt = record { front = []; at = t; rest = ts; long = refl; whole = refl; early = refl }
split_at (t ∷ ts) (suc turn) lt =
    let more = split_at ts turn (omega (arith, lt)) in
    let next : suc turn + 1 ≡ suc (turn + 1) = omega arith in
    record {
      front = t ∷ more.front;
      at = more.at;
      rest = more.rest;
      long = let e : suc (length more.front) ≡ suc turn = ap suc more.long in omega (arith, e);
      whole = ap (λ (xs : List Transfer). t ∷ xs) more.whole;
      early = ap (λ (n : ℕ). take n (t ∷ ts)) next ∙ ap (λ (xs : List Transfer). t ∷ xs) more.early;
    }

-- ---- words and array, named together

module _ (f g f' : Word → Word) (hs past hs' : List (List Moment)) (long : length hs' ≡ length hs)
    (f_addr : (w : Word) → (f w).addr ≡ w.addr) (g_addr : (w : Word) → (g w).addr ≡ w.addr) (f'_addr : (w : Word) → (f' w).addr ≡ w.addr)
    (shows : (w : Word) → IsShown hs (f w) → IsShown past (g w) → history_at (place_of w.addr) hs' ≡ (f' w).history) where
  one : (w : Word) → IsShown hs (f w) → IsShown past (g w) → IsShown hs' (f' w)
  one w is was = record {
    aligned = rw (f'_addr w) (rw (f_addr w) at is.aligned);
    above = rw (f'_addr w) (rw (f_addr w) at is.above);
    within = rw (f'_addr w, long) (rw (f_addr w) at is.within);
    history = rw (f'_addr w) (shows w is was);
  }

  all : (ws : List Word) → AllByRecursion (IsShown hs) (map f ws) → AllByRecursion (IsShown past) (map g ws) → AllByRecursion (IsShown hs') (map f' ws)
  all [] h k = tt
  all (w ∷ ws) h k = (one w h.0 k.0, all ws h.1 k.1)

  follows_both : (base : List Word)
      → ((place : ℕ) → place < length hs → IsUnstruck (history_at place hs) → (place < length past → IsUnstruck (history_at place past)) → IsUnstruck (history_at place hs'))
      → Follows (map f base) hs → Follows (map g base) past → Follows (map f' base) hs'
  follows_both base stays now then_ = record {
    shown = all base now.shown then_.shown;
    others = λ place lt none.
        let before : place < length hs = omega (arith, lt, long) in
        let absent : list_any (is_at (address_of place)) base ≡ false = sym (is_at_map f' f'_addr (address_of place) base) ∙ none in
        stays place before (now.others place before (is_at_map f f_addr (address_of place) base ∙ absent))
        (λ within. then_.others place within (is_at_map g g_addr (address_of place) base ∙ absent));
  }

module _ (script : List Flip) (named : List Word2) (name : Word2) (turn : ℕ) (value : name.value ≡ Some turn)
    (aligned : name.addr % 4 ≡ 0) (above : ram_first ≤ name.addr) (none : names_word named turn name.addr ≡ false) where
  pub named_follows : (ts : List Transfer) (hs past : List (List Moment)) → turn < length ts → place_of name.addr < length hs → place_of name.addr < length past
      → Follows (memory_after script named ts).words hs → Follows (memory_after script named (take (turn + 1) ts)).words past
      → Follows (memory_after script (named ++ name ∷ []) ts).words (befalls (named_behind (history_at (place_of name.addr) past)) (place_of name.addr) hs)
  named_follows ts hs past within at at_past follows followed =
      let split = split_at ts turn within in
      let place = place_of name.addr in
      let f : Word → Word = run_one script named 0 ts in
      let g : Word → Word = run_one script named 0 (take (turn + 1) ts) in
      let f' : Word → Word = run_one script (named ++ name ∷ []) 0 ts in
      let shows : (w : Word) → IsShown hs (f w) → IsShown past (g w) → history_at (place_of w.addr) (befalls (named_behind (history_at (place_of name.addr) past)) (place_of name.addr) hs) ≡ (f' w).history =
      λ w is was. elim (cases_eq name.addr w.addr) [
        | inl same ↦
            let here : (run_one script (named ++ name ∷ []) 0 (split.front ++ split.at ∷ split.rest) w).history
            ≡ named_behind (run_one script named 0 (split.front ++ split.at ∷ []) w).history (run_one script named 0 (split.front ++ split.at ∷ split.rest) w).history =
            run_named script named name turn value split.front split.at split.rest w split.long same (ap (names_word named turn) (sym same) ∙ none) in
            let now : history_at (place_of name.addr) hs ≡ (f w).history = ap (λ (a : ℕ). history_at (place_of a) hs) (same ∙ sym (addr_run script named 0 ts w)) ∙ is.history in
            let then_ : history_at (place_of name.addr) past ≡ (g w).history = ap (λ (a : ℕ). history_at (place_of a) past) (same ∙ sym (addr_run script named 0 (take (turn + 1) ts) w)) ∙ was.history in
            ap (λ (a : ℕ). history_at (place_of a) (befalls (named_behind (history_at (place_of name.addr) past)) (place_of name.addr) hs)) (sym same)
            ∙ get_or-set_same hs (place_of name.addr) (named_behind (history_at (place_of name.addr) past) (history_at (place_of name.addr) hs)) [] at
            ∙ ap₂ named_behind then_ now
            ∙ ap₂ (λ (xs ys : List Transfer). named_behind (run_one script named 0 xs w).history (run_one script named 0 ys w).history) split.early split.whole
            ∙ sym here
            ∙ ap (λ (xs : List Transfer). (run_one script (named ++ name ∷ []) 0 xs w).history) (sym split.whole)
        | inr other ↦
            let there : w.addr % 4 ≡ 0 = rw (addr_run script named 0 ts w) at is.aligned in
            let up : ram_first ≤ w.addr = rw (addr_run script named 0 ts w) at is.above in
            let apart : place_of w.addr ≢ place_of name.addr =
            λ e. other (sym (address_back name.addr aligned above) ∙ ap address_of (sym e) ∙ address_back w.addr there up) in
            get_or-set_other hs (place_of name.addr) (place_of w.addr) (named_behind (history_at (place_of name.addr) past) (history_at (place_of name.addr) hs)) [] apart
            ∙ ap (λ (a : ℕ). history_at (place_of a) hs) (sym (addr_run script named 0 ts w))
            ∙ is.history
            ∙ sym (ap (λ (v : Word). v.history) (run_same script named name ts w (λ u lt. names_same named name u w.addr (ap (λ (b : Bool). b && is_turn u name.value) (ne_eqb name.addr w.addr other)))))
      ] in
      let stays : (p : ℕ) → p < length hs → IsUnstruck (history_at p hs) → (p < length past → IsUnstruck (history_at p past))
      → IsUnstruck (history_at p (befalls (named_behind (history_at (place_of name.addr) past)) (place_of name.addr) hs)) =
      λ p lt un was. elim (cases_eq p (place_of name.addr)) [
        | inl same ↦
            subst IsUnstruck
            (sym (ap (λ (q : ℕ). history_at q (befalls (named_behind (history_at (place_of name.addr) past)) (place_of name.addr) hs)) same
            ∙ get_or-set_same hs (place_of name.addr) (named_behind (history_at (place_of name.addr) past) (history_at (place_of name.addr) hs)) [] at))
            (unstruck_behind (history_at (place_of name.addr) past) (history_at (place_of name.addr) hs)
            (subst (λ (q : ℕ). IsUnstruck (history_at q past)) same (was (omega (arith, same, at_past))))
            (subst (λ (q : ℕ). IsUnstruck (history_at q hs)) same un))
        | inr other ↦
            subst IsUnstruck (sym (get_or-set_other hs (place_of name.addr) p (named_behind (history_at (place_of name.addr) past) (history_at (place_of name.addr) hs)) [] other)) un
      ] in
      rw (words_run script (named ++ name ∷ []) ts)
      (follows_both f g f' hs past (befalls (named_behind (history_at (place_of name.addr) past)) (place_of name.addr) hs)
      (length-set hs (place_of name.addr) (named_behind (history_at (place_of name.addr) past) (history_at (place_of name.addr) hs)))
      (addr_run script named 0 ts) (addr_run script named 0 (take (turn + 1) ts)) (addr_run script (named ++ name ∷ []) 0 ts) shows (words_struck script) stays
      (rw (words_run script named ts) at follows) (rw (words_run script named (take (turn + 1) ts)) at followed))
