-- The line of a text word, or of an access to RAM, lies in RAM, which is whole lines.
use Rattle.std.proofs.Common.{◌≡◌, ◌+◌, ◌%◌, ◌<◌, ◌≤◌, ℕ, Bool, true, false, List, [], ◌∷◌, ◌&&◌, ◌||◌, nat_le, nat_lt, All, refl, arith}
use Rattle.std.specs.Prelude.{IsTrue}
use Rattle.std.specs.List.{list_all, range_with_len}
use Rattle.std.proofs.lemmas.Bool.{and_from, le-leb, leb-true, ltb-true}
use Rattle.std.proofs.lemmas.List.Elements.{All-head, All-tail}
use Rattle.lf_model.specs.Caches.Slot.{line_of}
use Rattle.lf_model.specs.Start.{ram_first, in_range, is_text_byte, is_text_word, is_in_ram}
use Rattle.lf_model.specs.declared.image.Range.{Range}

module _ (ram : ℕ) (whole : ram % 32 ≡ 0) where
  -- an address of RAM
  pub line_in_ram : (addr : ℕ) → ram_first ≤ addr → addr < ram_first + ram → IsTrue (is_in_ram ram (line_of addr) 32)
  line_in_ram addr low high =
      let first : ram_first ≤ line_of addr = omega (arith, low) in
      let last : line_of addr + 32 ≤ ram_first + ram = omega (arith, high, whole) in
      and_from _ _ (le-leb ram_first (line_of addr) first) (le-leb (line_of addr + 32) (ram_first + ram) last)

-- ---- text

both : (p q : Bool) → (p && q) ≡ true → (p ≡ true) × (q ≡ true)
both true q is = (refl, is)
both false q is = absurd cc

record Lies (ram a : ℕ) : Type 0 where
  low : ram_first ≤ a
  high : a < ram_first + ram

-- the range lies in RAM
abbrev InRam : ℕ → Range → Type 0
InRam ram r = IsTrue (is_in_ram ram r.first r.length)

in_text : (ram a : ℕ) (text : List Range) → All (InRam ram) text → is_text_byte text a ≡ true → Lies ram a
in_text ram a [] all is = absurd cc
in_text ram a (r ∷ text) all is = by (in_range a r) refl is (in_text ram a text (All-tail (InRam ram) r text all))
  where
    by : (here : Bool) → in_range a r ≡ here → (here || is_text_byte text a) ≡ true → (is_text_byte text a ≡ true → Lies ram a) → Lies ram a
    by true here it later =
        let at : (nat_le r.first a ≡ true) × (nat_lt a (r.first + r.length) ≡ true) = both (nat_le r.first a) (nat_lt a (r.first + r.length)) here in
        let lies : (nat_le ram_first r.first ≡ true) × (nat_le (r.first + r.length) (ram_first + ram) ≡ true) = both _ _ (All-head (InRam ram) r text all) in
        let low : r.first ≤ a = leb-true r.first a at.0 in
        let high : a < r.first + r.length = ltb-true a (r.first + r.length) at.1 in
        let first : ram_first ≤ r.first = leb-true ram_first r.first lies.0 in
        let last : r.first + r.length ≤ ram_first + ram = leb-true (r.first + r.length) (ram_first + ram) lies.1 in
        record { low = omega (arith, low, first); high = omega (arith, high, last) }
    by false here it later = later it

pub text_line_in_ram : (ram : ℕ) → ram % 32 ≡ 0 → (text : List Range) → All (λ (r : Range). IsTrue (is_in_ram ram r.first r.length)) text → (pc : ℕ) → is_text_word text pc ≡ true
    → IsTrue (is_in_ram ram (line_of pc) 32)
text_line_in_ram ram whole text all pc is =
    let first : (is_text_byte text (pc + 0) ≡ true) × (list_all (λ i. is_text_byte text (pc + i)) (range_with_len 1 3) ≡ true) = both _ _ is in
    let same : pc + 0 ≡ pc = omega arith in
    let lies : Lies ram pc = in_text ram pc text all (rw same at first.0) in
    line_in_ram ram whole pc lies.low lies.high

-- ---- an access to RAM

pub access_line_in_ram : (ram : ℕ) → ram % 32 ≡ 0 → (addr len : ℕ) → 1 ≤ len → is_in_ram ram addr len ≡ true → IsTrue (is_in_ram ram (line_of addr) 32)
access_line_in_ram ram whole addr len some is =
    let at : (nat_le ram_first addr ≡ true) × (nat_le (addr + len) (ram_first + ram) ≡ true) = both _ _ is in
    let low : ram_first ≤ addr = leb-true ram_first addr at.0 in
    let high : addr + len ≤ ram_first + ram = leb-true (addr + len) (ram_first + ram) at.1 in
    line_in_ram ram whole addr low (omega (arith, high, some))
