-- The instructions that calculate a register's value, the condition codes and Y (SPARC V8, appendix B, logical, shift,
-- add, tagged add, subtract, tagged subtract, multiply step, multiply and divide instructions).
use Rattle.std.specs.Prelude.{ℕ, ◌*◌, ◌^◌, true, false, bit_and, bit_or, bit_xor}
use Rattle.std.specs.Int.{bit_at}
use Rattle.lf_num.specs.Arithmetic.{word_sum, sum_icc, word_difference, difference_icc, and_not, or_not, xor_not, plain_icc, shifted_left, shifted_right, shifted_right_signed, product, low_word, quotient, quotient_icc, step_augend, step_addend, tagged_sum_icc, tagged_difference_icc}
use Rattle.lf_model.specs.State.{State, register, operand, with_register, advanced}
use Rattle.lf_model.specs.Effect.{Effect, cell_written, changes, sets}
use Rattle.lf_model.specs.Families.{y_after}
use Rattle.lf_model.specs.declared.instruction.Src.{Src}
use Rattle.lf_model.specs.declared.instruction.CalcName.{CalcName}
use Rattle.lf_model.specs.declared.instruction.CalcName.TheVariants.{Add, AddCc, And, AndCc, Or, OrCc, Xor, XorCc, Sub, SubCc, AndN, AndNCc, OrN, OrNCc, XNor, XNorCc, AddX, AddXCc, SubX, SubXCc, UMul, UMulCc, SMul, SMulCc, UDiv, UDivCc, SDiv, SDivCc, TAddCc, TSubCc, TAddCcTv, TSubCcTv, MulScc, Sll, Srl, Sra}

-- C as a number
abbrev pub carry_of : ℕ → ℕ
carry_of icc = bit_at icc 0

-- the result, which goes to rd: by the values a and b of the operands, icc and Y
unfoldable pub result_of : CalcName → ℕ → ℕ → ℕ → ℕ → ℕ
result_of Add a b icc y = word_sum a b 0
result_of AddCc a b icc y = word_sum a b 0
result_of AddX a b icc y = word_sum a b (carry_of icc)
result_of AddXCc a b icc y = word_sum a b (carry_of icc)
result_of Sub a b icc y = word_difference a b 0
result_of SubCc a b icc y = word_difference a b 0
result_of SubX a b icc y = word_difference a b (carry_of icc)
result_of SubXCc a b icc y = word_difference a b (carry_of icc)
result_of And a b icc y = bit_and a b
result_of AndCc a b icc y = bit_and a b
result_of AndN a b icc y = and_not a b
result_of AndNCc a b icc y = and_not a b
result_of Or a b icc y = bit_or a b
result_of OrCc a b icc y = bit_or a b
result_of OrN a b icc y = or_not a b
result_of OrNCc a b icc y = or_not a b
result_of Xor a b icc y = bit_xor a b
result_of XorCc a b icc y = bit_xor a b
result_of XNor a b icc y = xor_not a b
result_of XNorCc a b icc y = xor_not a b
result_of Sll a b icc y = shifted_left a b
result_of Srl a b icc y = shifted_right a b
result_of Sra a b icc y = shifted_right_signed a b
result_of UMul a b icc y = low_word (product false a b)
result_of UMulCc a b icc y = low_word (product false a b)
result_of SMul a b icc y = low_word (product true a b)
result_of SMulCc a b icc y = low_word (product true a b)
result_of UDiv a b icc y = quotient false y a b
result_of UDivCc a b icc y = quotient false y a b
result_of SDiv a b icc y = quotient true y a b
result_of SDivCc a b icc y = quotient true y a b
result_of MulScc a b icc y = word_sum (step_augend a icc) (step_addend b y) 0
result_of TAddCc a b icc y = word_sum a b 0
result_of TAddCcTv a b icc y = word_sum a b 0
result_of TSubCc a b icc y = word_difference a b 0
result_of TSubCcTv a b icc y = word_difference a b 0

-- icc afterwards: only the cc forms change it
unfoldable pub icc_after : CalcName → ℕ → ℕ → ℕ → ℕ → ℕ
icc_after AddCc a b icc y = sum_icc a b 0
icc_after AddXCc a b icc y = sum_icc a b (carry_of icc)
icc_after SubCc a b icc y = difference_icc a b 0
icc_after SubXCc a b icc y = difference_icc a b (carry_of icc)
icc_after AndCc a b icc y = plain_icc (bit_and a b)
icc_after AndNCc a b icc y = plain_icc (and_not a b)
icc_after OrCc a b icc y = plain_icc (bit_or a b)
icc_after OrNCc a b icc y = plain_icc (or_not a b)
icc_after XorCc a b icc y = plain_icc (bit_xor a b)
icc_after XNorCc a b icc y = plain_icc (xor_not a b)
icc_after UMulCc a b icc y = plain_icc (low_word (product false a b))
icc_after SMulCc a b icc y = plain_icc (low_word (product true a b))
icc_after UDivCc a b icc y = quotient_icc false y a b
icc_after SDivCc a b icc y = quotient_icc true y a b
icc_after MulScc a b icc y = sum_icc (step_augend a icc) (step_addend b y) 0
icc_after TAddCc a b icc y = tagged_sum_icc a b
icc_after TAddCcTv a b icc y = tagged_sum_icc a b
icc_after TSubCc a b icc y = tagged_difference_icc a b
icc_after TSubCcTv a b icc y = tagged_difference_icc a b
icc_after Add a b icc y = icc
icc_after And a b icc y = icc
icc_after Or a b icc y = icc
icc_after Xor a b icc y = icc
icc_after Sub a b icc y = icc
icc_after AndN a b icc y = icc
icc_after OrN a b icc y = icc
icc_after XNor a b icc y = icc
icc_after AddX a b icc y = icc
icc_after SubX a b icc y = icc
icc_after UMul a b icc y = icc
icc_after SMul a b icc y = icc
icc_after UDiv a b icc y = icc
icc_after SDiv a b icc y = icc
icc_after Sll a b icc y = icc
icc_after Srl a b icc y = icc
icc_after Sra a b icc y = icc

-- the state with a value, icc and Y as they are calculated
abbrev pub calculated : CalcName → ℕ → ℕ → ℕ → State → State
calculated name rd a b s = with_register rd (result_of name a b s.ctl.icc s.y)
    (record s { ctl = record s.ctl { icc = icc_after name a b s.ctl.icc s.y }; y = y_after name a b s.y })

-- rd gets the result, and icc and Y become as they are calculated
abbrev pub calc_effect : CalcName → ℕ → ℕ → Src → State → Effect
calc_effect name rd rs1 src s =
    changes (cell_written s rd) (advanced (calculated name rd (register s rs1) (operand s src) s))

-- SETHI: rd gets imm22 in its high bits
abbrev pub sethi_effect : ℕ → ℕ → State → Effect
sethi_effect rd imm22 s = sets rd (imm22 * 2 ^ 10) s
