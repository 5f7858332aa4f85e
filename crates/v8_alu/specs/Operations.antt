-- What each operation of the arithmetic and logic unit gives (SPARC V8, appendix B, logical, shift, add and
-- subtract instructions). The carry is that of icc, 0 or 1; the operations whose names end in X take it in.
use Rattle.std.specs.Prelude.{ℕ, ℤ, Option, Some, None, bit_and, bit_or, bit_xor}
use Rattle.lf_num.specs.Arithmetic.{word_sum, sum_icc, signed_sum, word_difference, difference_icc, signed_difference, and_not, or_not, xor_not, plain_icc, shifted_left, shifted_right, shifted_right_signed}
use Rattle.v8_alu.specs.declared.AluOp.{AluOp}
use Rattle.v8_alu.specs.declared.AluOp.TheVariants.{Add, AddX, Sub, SubX, And, AndN, Or, OrN, Xor, XNor, Sll, Srl, Sra}

-- the result, a word
abbrev pub value_of : AluOp → ℕ → ℕ → ℕ → ℕ
value_of Add a b carry = word_sum a b 0
value_of AddX a b carry = word_sum a b carry
value_of Sub a b carry = word_difference a b 0
value_of SubX a b carry = word_difference a b carry
value_of And a b carry = bit_and a b
value_of AndN a b carry = and_not a b
value_of Or a b carry = bit_or a b
value_of OrN a b carry = or_not a b
value_of Xor a b carry = bit_xor a b
value_of XNor a b carry = xor_not a b
value_of Sll a b carry = shifted_left a b
value_of Srl a b carry = shifted_right a b
value_of Sra a b carry = shifted_right_signed a b

-- the condition codes: those of the sum or difference, by a logical result N and Z alone, and of a shift 0
abbrev pub codes_of : AluOp → ℕ → ℕ → ℕ → ℕ
codes_of Add a b carry = sum_icc a b 0
codes_of AddX a b carry = sum_icc a b carry
codes_of Sub a b carry = difference_icc a b 0
codes_of SubX a b carry = difference_icc a b carry
codes_of And a b carry = plain_icc (bit_and a b)
codes_of AndN a b carry = plain_icc (and_not a b)
codes_of Or a b carry = plain_icc (bit_or a b)
codes_of OrN a b carry = plain_icc (or_not a b)
codes_of Xor a b carry = plain_icc (bit_xor a b)
codes_of XNor a b carry = plain_icc (xor_not a b)
codes_of Sll a b carry = 0
codes_of Srl a b carry = 0
codes_of Sra a b carry = 0

-- what a sum or difference is of the operands as signed numbers, at any size; the other operations have none
abbrev pub signed_result : AluOp → ℕ → ℕ → ℕ → Option ℤ
signed_result Add a b carry = Some (signed_sum a b 0)
signed_result AddX a b carry = Some (signed_sum a b carry)
signed_result Sub a b carry = Some (signed_difference a b 0)
signed_result SubX a b carry = Some (signed_difference a b carry)
signed_result _ a b carry = None
