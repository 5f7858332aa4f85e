-- The kinds of instructions that programs have most.
use Rattle.std.specs.Prelude.{Bool, true, false}
use Rattle.lf_model.specs.declared.instruction.CalcName.{CalcName}
use Rattle.lf_model.specs.declared.instruction.CalcName.TheVariants.{Add, AddCc, And, AndCc, Or, OrCc, Xor, XorCc, Sub, SubCc, AndN, AndNCc, OrN, OrNCc, XNor, XNorCc, AddX, AddXCc, SubX, SubXCc, UMul, UMulCc, SMul, SMulCc, UDiv, UDivCc, SDiv, SDivCc, TAddCc, TSubCc, TAddCcTv, TSubCcTv, MulScc, Sll, Srl, Sra}

-- a sum, a difference, a logical operation or a shift, which reads neither icc nor Y
abbrev pub is_common : CalcName → Bool
is_common Add = true
is_common And = true
is_common Or = true
is_common Xor = true
is_common Sub = true
is_common AndN = true
is_common OrN = true
is_common XNor = true
is_common AddCc = true
is_common AndCc = true
is_common OrCc = true
is_common XorCc = true
is_common SubCc = true
is_common AndNCc = true
is_common OrNCc = true
is_common XNorCc = true
is_common AddX = false
is_common AddXCc = false
is_common SubX = false
is_common SubXCc = false
is_common UMul = false
is_common UMulCc = false
is_common SMul = false
is_common SMulCc = false
is_common UDiv = false
is_common UDivCc = false
is_common SDiv = false
is_common SDivCc = false
is_common TAddCc = false
is_common TSubCc = false
is_common TAddCcTv = false
is_common TSubCcTv = false
is_common MulScc = false
is_common Sll = true
is_common Srl = true
is_common Sra = true
