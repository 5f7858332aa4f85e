-- The 39 bits of a cell that keeps its word and its syndrome.
use Rattle.std.proofs.Common.{◌≡◌, ℕ, ◌+◌, ◌-◌, ◌*◌, ◌/◌, ◌%◌, ◌^◌, ◌<◌, ◌≤◌, sym, ap, ap₂, ◌∙◌, arith}
use Rattle.std.specs.Int.Bits.{bit_xor, xor_assoc, xor_self, xor_zero_r}
use Rattle.std.proofs.Math.Nat.{mod-eq_of_lt, mul-mod_left}
use Rattle.std.proofs.lemmas.Nat.{xor_comm, xor_lt, xor_mod, shr_high, mod_low, pow_below, pow-add}
use Rattle.lf_num.specs.Columns.{column}
use Rattle.edac_code.specs.Code.{check_bits, code, data_of, syndrome}
use Rattle.edac_code.specs.Kept.{cell_of}
use Rattle.edac_code.proofs.Tables.{column_rule}
use Rattle.edac_code.proofs.Checks.{check_bits-lt}
use Rattle.edac_code.proofs.Syndromes.{syndrome-turned}

pub column-lt : (bit : ℕ) → bit < 39 → column bit < 2 ^ 7
column-lt bit lt = (column_rule bit bit bit lt lt lt).fits

-- a number added twice falls out
added_twice : (checks s : ℕ) → bit_xor (bit_xor checks s) checks ≡ s
added_twice checks s =
    ap (λ (x : ℕ). bit_xor x checks) (xor_comm checks s) ∙ xor_assoc s checks checks ∙ ap (bit_xor s) (xor_self checks) ∙ xor_zero_r s

module _ (word s : ℕ) (fits : word < 2 ^ 32) (small : s < 2 ^ 7) where
  pub cell_of-lt : cell_of word s < 2 ^ 39
  unfolding cell_of
  cell_of-lt = omega (arith, xor_lt 7 (check_bits word) s (check_bits-lt word) small)

  pub data_of-cell : data_of (cell_of word s) ≡ word
  unfolding cell_of
  data_of-cell = mod_low (bit_xor (check_bits word) s) 32 word fits

  pub syndrome-cell : syndrome (cell_of word s) ≡ s
  unfolding cell_of syndrome
  syndrome-cell =
      ap₂ bit_xor (shr_high (bit_xor (check_bits word) s) 32 word fits) (ap check_bits (mod_low (bit_xor (check_bits word) s) 32 word fits))
      ∙ added_twice (check_bits word) s

-- a cell whose word was just written
pub cell_of-fresh : (word : ℕ) → cell_of word 0 ≡ code word
unfolding cell_of code
cell_of-fresh word = ap (λ (x : ℕ). x * 2 ^ 32 + word) (xor_zero_r (check_bits word))

-- each cell is made of its word and its syndrome
pub cell_of-parts : (c : ℕ) → cell_of (data_of c) (syndrome c) ≡ c
unfolding cell_of syndrome
cell_of-parts c =
    let stored : bit_xor (check_bits (c % 2 ^ 32)) (bit_xor (c / 2 ^ 32) (check_bits (c % 2 ^ 32))) ≡ c / 2 ^ 32 =
    xor_comm (check_bits (c % 2 ^ 32)) (bit_xor (c / 2 ^ 32) (check_bits (c % 2 ^ 32)))
    ∙ xor_assoc (c / 2 ^ 32) (check_bits (c % 2 ^ 32)) (check_bits (c % 2 ^ 32))
    ∙ ap (bit_xor (c / 2 ^ 32)) (xor_self (check_bits (c % 2 ^ 32))) ∙ xor_zero_r (c / 2 ^ 32) in
    ap (λ (x : ℕ). x * 2 ^ 32 + c % 2 ^ 32) stored ∙ omega arith

pub syndrome-lt : (c : ℕ) → c < 2 ^ 39 → syndrome c < 2 ^ 7
unfolding syndrome
syndrome-lt c fits = xor_lt 7 (c / 2 ^ 32) (check_bits (c % 2 ^ 32)) (omega arith) (check_bits-lt (c % 2 ^ 32))

-- the word after a bit is turned: a data bit turns in it, a check bit leaves it
data_of-turned : (c bit : ℕ) → bit < 32 → data_of (bit_xor c (2 ^ bit)) ≡ bit_xor (data_of c) (2 ^ bit)
data_of-turned c bit lt = xor_mod c (2 ^ bit) 32 ∙ ap (bit_xor (c % 2 ^ 32)) (mod-eq_of_lt (pow_below bit 32 lt))

data_of-kept : (c bit : ℕ) → 32 ≤ bit → data_of (bit_xor c (2 ^ bit)) ≡ data_of c
data_of-kept c bit high = from (bit - 32) (omega arith)
  where
    from : (j : ℕ) → bit ≡ j + 32 → data_of (bit_xor c (2 ^ bit)) ≡ data_of c
    from j is =
        xor_mod c (2 ^ bit) 32 ∙ ap (λ (x : ℕ). bit_xor (c % 2 ^ 32) (x % 2 ^ 32)) (ap (λ (x : ℕ). 2 ^ x) is ∙ pow-add 2 j 32)
        ∙ ap (bit_xor (c % 2 ^ 32)) (mul-mod_left (2 ^ j) (2 ^ 32)) ∙ xor_zero_r (c % 2 ^ 32)

module _ (word s bit : ℕ) (fits : word < 2 ^ 32) (small : s < 2 ^ 7) (lt : bit < 39) where
  turned_from : (new : ℕ) → data_of (bit_xor (cell_of word s) (2 ^ bit)) ≡ new → cell_of new (bit_xor s (column bit)) ≡ bit_xor (cell_of word s) (2 ^ bit)
  turned_from new shown =
      let turned : syndrome (bit_xor (cell_of word s) (2 ^ bit)) ≡ bit_xor s (column bit) =
      syndrome-turned (cell_of word s) bit lt ∙ ap (λ (x : ℕ). bit_xor x (column bit)) (syndrome-cell word s fits small) in
      ap₂ cell_of (sym shown) (sym turned) ∙ cell_of-parts (bit_xor (cell_of word s) (2 ^ bit))

  pub data_bit-turned : bit < 32 → cell_of (bit_xor word (2 ^ bit)) (bit_xor s (column bit)) ≡ bit_xor (cell_of word s) (2 ^ bit)
  data_bit-turned low =
      turned_from (bit_xor word (2 ^ bit)) (data_of-turned (cell_of word s) bit low ∙ ap (λ (x : ℕ). bit_xor x (2 ^ bit)) (data_of-cell word s fits small))

  pub check_bit-turned : 32 ≤ bit → cell_of word (bit_xor s (column bit)) ≡ bit_xor (cell_of word s) (2 ^ bit)
  check_bit-turned high = turned_from word (data_of-kept (cell_of word s) bit high ∙ data_of-cell word s fits small)

  pub turned-lt : bit_xor (cell_of word s) (2 ^ bit) < 2 ^ 39
  turned-lt = xor_lt 39 (cell_of word s) (2 ^ bit) (cell_of-lt word s fits small) (pow_below bit 39 lt)
