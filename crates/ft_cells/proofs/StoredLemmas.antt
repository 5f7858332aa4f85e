-- Cells as they are stored: the bits that differ from the encoding of the value last written.
use Rattle.std.proofs.Common.{◌≡◌, ◌≢◌, ℕ, ◌+◌, ◌^◌, ◌<◌, ◌≤◌, Bool, true, List, [], ◌∷◌, length, refl, sym, ap, ◌∙◌, arith, lit<}
use Rattle.std.specs.Int.Bits.{bit_xor, xor_assoc, xor_self}
use Rattle.std.proofs.lemmas.Nat.{xor_comm}
use Rattle.std.proofs.lemmas.List.{nil_from_length}
use Rattle.lf_num.specs.Bits.{ones_below}
use Rattle.lf_num.specs.Toggles.{places, differing_places, struck, IsPlaceSet}
use Rattle.lf_num.proofs.ToggleLemmas.{length-places, ones_below-turned, struck-differing, IsPlaceSet-places, turned_back}
use Rattle.ft_cells.specs.Toggling.{with_toggled}
use Rattle.ft_cells.specs.Cells.{IsCell}
use Rattle.ft_cells.specs.Stored.{state_of, AreStored}
use Rattle.ft_cells.proofs.ToggleLemmas.{places-zero, with_toggled-places}

-- a number differs from itself nowhere
pub differing-same : (width n : ℕ) → differing_places width n n ≡ []
differing-same width n = ap (places width) (xor_self n) ∙ places-zero width

-- one more turned bit
turned_later : (bits code bit : ℕ) → bit_xor (bit_xor bits (2 ^ bit)) code ≡ bit_xor (bit_xor bits code) (2 ^ bit)
turned_later bits code bit =
    xor_assoc bits (2 ^ bit) code ∙ ap (bit_xor bits) (xor_comm (2 ^ bit) code) ∙ sym (xor_assoc bits code (2 ^ bit))

pub differing-turned : (width bits code bit : ℕ) → differing_places width (bit_xor bits (2 ^ bit)) code ≡ with_toggled width (differing_places width bits code) bit
differing-turned width bits code bit =
    ap (places width) (turned_later bits code bit) ∙ sym (with_toggled-places width (bit_xor bits code) bit)

length-turned : (width bits code bit : ℕ) → length (differing_places width (bit_xor bits (2 ^ bit)) code) ≤ length (differing_places width bits code) + 1
length-turned width bits code bit =
    let before : length (differing_places width bits code) ≡ ones_below width (bit_xor bits code) = length-places width (bit_xor bits code) in
    let after : length (differing_places width (bit_xor bits (2 ^ bit)) code) ≡ ones_below width (bit_xor (bit_xor bits code) (2 ^ bit)) =
    ap (λ (n : ℕ). length (places width n)) (turned_later bits code bit) ∙ length-places width (bit_xor (bit_xor bits code) (2 ^ bit)) in
    omega (arith, ones_below-turned width (bit_xor bits code) bit)

-- a cell that was just written
pub stored_fresh : {width budget bits code : ℕ} {valued : Bool} → bits ≡ code → bits < 2 ^ width → valued ≡ true → AreStored width budget bits code 0 valued
stored_fresh {width} {budget} {bits} {code} {valued} is fits value = record {
  value = value;
  fits = fits;
  in_budget = omega arith;
  few = rw is (rw (differing-same width code) (omega arith));
}

pub state_fresh : {V : Type 0} (width : ℕ) {bits code : ℕ} (value written : V) → bits ≡ code → written ≡ value
    → state_of width bits code written 0 ≡ record { value = value; toggled = []; hits = 0 }
state_fresh {V} width {bits} {code} value written is same = rw (is, same, differing-same width code) refl

-- a cell after one more flip
pub stored_turned : {width budget bits code hits new : ℕ} {valued : Bool} (bit : ℕ) → AreStored width budget bits code hits valued → new ≡ bit_xor bits (2 ^ bit) → new < 2 ^ width
    → hits < budget → AreStored width budget new code (hits + 1) valued
stored_turned {width} {budget} {bits} {code} {hits} {new} {valued} bit is turned fits below = record {
  value = is.value;
  fits = fits;
  in_budget = omega arith;
  few = rw turned (omega (arith, is.few, length-turned width bits code bit));
}

-- what is known of a stored cell: its toggled bits are a set, and its bits are those of the encoding with these turned
pub is_cell : {V : Type 0} {width budget bits code hits : ℕ} {valued : Bool} (value : V) → AreStored width budget bits code hits valued → IsCell width budget (state_of width bits code value hits)
is_cell {V} {width} {budget} {bits} {code} {hits} value is = record {
  set = IsPlaceSet-places width (bit_xor bits code);
  few = is.few;
  in_budget = is.in_budget;
}

-- a cell that no flip struck
pub unstruck_bits : {width budget bits code hits : ℕ} {valued : Bool} → AreStored width budget bits code hits valued → code < 2 ^ width → hits ≡ 0
    → (bits ≡ code) × (differing_places width bits code ≡ [])
unstruck_bits {width} {budget} {bits} {code} {hits} is code_fits none =
    let empty : differing_places width bits code ≡ [] = nil_from_length (differing_places width bits code) (omega (arith, is.few)) in
    (sym (struck-differing width bits code is.fits code_fits) ∙ ap (struck code) empty, empty)

-- the one toggled bit that is flipped again
pub back_again : (width bits code bit : ℕ) {new : ℕ} → bits < 2 ^ width → code < 2 ^ width → differing_places width bits code ≡ bit ∷ [] → new ≡ bit_xor bits (2 ^ bit)
    → differing_places width new code ≡ []
back_again width bits code bit {new} fits code_fits one turned =
    let was : bit_xor code (2 ^ bit) ≡ bits = ap (struck code) (sym one) ∙ struck-differing width bits code fits code_fits in
    ap (λ (n : ℕ). differing_places width n code) (turned ∙ ap (λ (n : ℕ). bit_xor n (2 ^ bit)) (sym was) ∙ turned_back code bit)
    ∙ differing-same width code

-- what holds of each bit holds of each set of one bit, and what holds of two different bits of each set of two
pub single : (width : ℕ) (P : List ℕ → Type 0) → ((bit : ℕ) → bit < width → P (bit ∷ [])) → (set : List ℕ) → IsPlaceSet width set → length set ≡ 1 → P set
single width P each [] is long = absurd (omega arith)
single width P each (bit ∷ []) is long = each bit is.0
single width P each (a ∷ b ∷ rest) is long = absurd (omega arith)

pub pair : (width : ℕ) (P : List ℕ → Type 0) → ((a b : ℕ) → a < width → b < width → b ≢ a → P (a ∷ b ∷ [])) → (set : List ℕ) → IsPlaceSet width set → length set ≡ 2 → P set
pair width P each [] is long = absurd (omega arith)
pair width P each (a ∷ []) is long = absurd (omega arith)
pair width P each (a ∷ b ∷ []) is long = each a b is.0 is.2.0 (is.1 0 0 (lit< tt))
pair width P each (a ∷ b ∷ c ∷ rest) is long = absurd (omega arith)
