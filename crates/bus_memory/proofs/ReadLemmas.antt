-- What a word of the array reads as is what the definitions' word does: the flips that stand in both are the same.
use Rattle.std.proofs.Common.{◌≡◌, ℕ, Bool, true, false, ◌||◌, nat_eq, List, [], ◌∷◌, length, Some, cond, refl, sym, ap, ◌∙◌, inl, inr}
use Rattle.std.specs.Prelude.{find}
use Rattle.std.specs.Option.{option_map_or}
use Rattle.std.specs.List.{AllByRecursion, list_any}
use Rattle.std.proofs.lemmas.Bool.{cases_Bool, or_parts, false≢true, eq-eqb, eqb-true}
use Rattle.flip_ledger.specs.Follows.{has_struck}
use Rattle.lf_model.specs.Bus.Words.{Word, is_at, history_of, word_history}
use Rattle.lf_model.specs.Caches.Slot.{history_at}
use Rattle.lf_model.specs.Flips.{Moment, Standing, standing, turned, word_bits, word_budget, is_fixed_word, is_bad_word, syndrome}
use Rattle.lf_model.specs.Flips.Moment.{Struck, Written, Found, Named}
use Rattle.lf_num.specs.Columns.{columns_sum}
use Rattle.bus_memory.specs.Followed.{IsUnstruck, IsShown, Follows, IsWordAt}
use Rattle.bus_memory.proofs.PlaceLemmas.{address_back}
use Rattle.ram_words.specs.Ram.{place_of}

-- no flip stands in a word that none struck
pub unstruck_standing : (budget : ℕ) (h : List Moment) → IsUnstruck h → standing budget h ≡ []
unstruck_standing budget [] un = refl
unstruck_standing budget (Struck number bit ∷ h) un = absurd (false≢true (sym (un number) ∙ ap (λ (b : Bool). b || has_struck number h) (eq-eqb number number refl)))
unstruck_standing budget (Written how ∷ h) un = refl
unstruck_standing budget (Found ∷ h) un = unstruck_standing budget h (λ i. un i)
unstruck_standing budget (Named ∷ h) un = unstruck_standing budget h (λ i. un i)

-- the word at an address, where the words have it, and where they have not
found : (addr : ℕ) (hs : List (List Moment)) (ws : List Word) → AllByRecursion (IsShown hs) ws → list_any (is_at addr) ws ≡ true
    → word_history ws addr ≡ history_at (place_of addr) hs
found addr hs [] all is = absurd (false≢true is)
found addr hs (w ∷ ws) all is = elim (cases_Bool (nat_eq w.addr addr)) [
  | inl here ↦
      ap (λ (b : Bool). option_map_or history_of (cond b (Some w) (find (is_at addr) ws)) []) here
      ∙ sym all.0.history
      ∙ ap (λ (a : ℕ). history_at (place_of a) hs) (eqb-true w.addr addr here)
  | inr other ↦
      ap (λ (b : Bool). option_map_or history_of (cond b (Some w) (find (is_at addr) ws)) []) other
      ∙ found addr hs ws all.1 (sym (ap (λ (b : Bool). b || list_any (is_at addr) ws) other) ∙ is)
]

absent : (addr : ℕ) (ws : List Word) → list_any (is_at addr) ws ≡ false → word_history ws addr ≡ []
absent addr [] none = refl
absent addr (w ∷ ws) none =
    let parts = or_parts (nat_eq w.addr addr) (list_any (is_at addr) ws) none in
    ap (λ (b : Bool). option_map_or history_of (cond b (Some w) (find (is_at addr) ws)) []) parts.0 ∙ absent addr ws parts.1

module _ (words : List Word) (hs : List (List Moment)) (addr : ℕ) (follows : Follows words hs) (at : IsWordAt (length hs) addr) where
  pub word_found : list_any (is_at addr) words ≡ true → word_history words addr ≡ history_at (place_of addr) hs
  word_found is = found addr hs words follows.shown is

  pub word_absent : list_any (is_at addr) words ≡ false → word_history words addr ≡ []
  word_absent none = absent addr words none

  pub other_unstruck : list_any (is_at addr) words ≡ false → IsUnstruck (history_at (place_of addr) hs)
  other_unstruck none = follows.others (place_of addr) at.within (ap (λ (a : ℕ). list_any (is_at a) words) (address_back addr at.aligned at.above) ∙ none)

  pub standing_same : (budget : ℕ) → standing budget (word_history words addr) ≡ standing budget (history_at (place_of addr) hs)
  standing_same budget = elim (cases_Bool (list_any (is_at addr) words)) [
    | inl is ↦ ap (standing budget) (word_found is)
    | inr none ↦ ap (standing budget) (word_absent none) ∙ sym (unstruck_standing budget (history_at (place_of addr) hs) (other_unstruck none))
  ]

  pub syndrome_same : syndrome (word_history words addr) ≡ syndrome (history_at (place_of addr) hs)
  syndrome_same = ap (λ (flips : List Standing). columns_sum (turned word_bits flips)) (standing_same word_budget)

  pub bad_same : is_bad_word (word_history words addr) ≡ is_bad_word (history_at (place_of addr) hs)
  bad_same = ap (λ (flips : List Standing). nat_eq (length (turned word_bits flips)) 2) (standing_same word_budget)

  pub fixed_same : is_fixed_word (word_history words addr) ≡ is_fixed_word (history_at (place_of addr) hs)
  fixed_same = ap (λ (flips : List Standing). nat_eq (length (turned word_bits flips)) 1) (standing_same word_budget)
