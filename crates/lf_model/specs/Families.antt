-- The families of the instructions that calculate: what they do with Y, and which traps they have (SPARC V8, appendix B,
-- multiply step, multiply, divide, tagged add and tagged subtract instructions).
use Rattle.std.specs.Prelude.{ℕ, ◌==◌, Bool, true, false, ◌&&◌}
use Rattle.lf_num.specs.Arithmetic.{product, high_word, step_y, tagged_sum_icc, tagged_difference_icc}
use Rattle.lf_model.specs.Conditions.{codes_of}
use Rattle.lf_model.specs.declared.instruction.CalcName.{CalcName}
use Rattle.lf_model.specs.declared.instruction.CalcName.TheVariants.{Add, AddCc, And, AndCc, Or, OrCc, Xor, XorCc, Sub, SubCc, AndN, AndNCc, OrN, OrNCc, XNor, XNorCc, AddX, AddXCc, SubX, SubXCc, UMul, UMulCc, SMul, SMulCc, UDiv, UDivCc, SDiv, SDivCc, TAddCc, TSubCc, TAddCcTv, TSubCcTv, MulScc, Sll, Srl, Sra}

-- a product, signed or not, a quotient, a multiply step, a tagged sum or difference of a TV form, or another calculation
pub data Family : Type 0 where
  Plain : Family
  Product : (signed : Bool) → Family
  Quotient : Family
  MultiplyStep : Family
  TrappingSum : Family
  TrappingDifference : Family

abbrev pub family_of : CalcName → Family
family_of Add = Plain
family_of AddCc = Plain
family_of And = Plain
family_of AndCc = Plain
family_of Or = Plain
family_of OrCc = Plain
family_of Xor = Plain
family_of XorCc = Plain
family_of Sub = Plain
family_of SubCc = Plain
family_of AndN = Plain
family_of AndNCc = Plain
family_of OrN = Plain
family_of OrNCc = Plain
family_of XNor = Plain
family_of XNorCc = Plain
family_of AddX = Plain
family_of AddXCc = Plain
family_of SubX = Plain
family_of SubXCc = Plain
family_of UMul = Product false
family_of UMulCc = Product false
family_of SMul = Product true
family_of SMulCc = Product true
family_of UDiv = Quotient
family_of UDivCc = Quotient
family_of SDiv = Quotient
family_of SDivCc = Quotient
family_of TAddCc = Plain
family_of TSubCc = Plain
family_of TAddCcTv = TrappingSum
family_of TSubCcTv = TrappingDifference
family_of MulScc = MultiplyStep
family_of Sll = Plain
family_of Srl = Plain
family_of Sra = Plain

-- ---- Y

-- a product leaves its high word in Y
abbrev pub y_by : Family → ℕ → ℕ → ℕ → ℕ
y_by Plain a b y = y
y_by (Product signed) a b y = high_word (product signed a b)
y_by Quotient a b y = y
y_by MultiplyStep a b y = step_y a y
y_by TrappingSum a b y = y
y_by TrappingDifference a b y = y

-- Y afterwards, by the values a and b of the operands and Y
unfoldable pub y_after : CalcName → ℕ → ℕ → ℕ → ℕ
y_after name a b y = y_by (family_of name) a b y

-- ---- traps

abbrev pub overflow_by : Family → ℕ → ℕ → Bool
overflow_by Plain a b = false
overflow_by (Product signed) a b = false
overflow_by Quotient a b = false
overflow_by MultiplyStep a b = false
overflow_by TrappingSum a b = (codes_of (tagged_sum_icc a b)).v
overflow_by TrappingDifference a b = (codes_of (tagged_difference_icc a b)).v

-- V of a TV form would be 1
unfoldable pub overflows_tag : CalcName → ℕ → ℕ → Bool
overflows_tag name a b = overflow_by (family_of name) a b

abbrev pub is_quotient : Family → Bool
is_quotient Plain = false
is_quotient (Product signed) = false
is_quotient Quotient = true
is_quotient MultiplyStep = false
is_quotient TrappingSum = false
is_quotient TrappingDifference = false

-- a division by 0
unfoldable pub divides_by_zero : CalcName → ℕ → Bool
divides_by_zero name b = is_quotient (family_of name) && b == 0
