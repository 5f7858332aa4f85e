-- What a multiply step leaves, as the state that the next one takes.
use Rattle.lf_num.specs.Arithmetic.{Steps}
use Rattle.v8_muldiv.specs.declared.MulOut.{MulOut}

-- the result of a step, its condition codes and Y
abbrev pub steps_of : MulOut → Steps
steps_of out = record { value = out.value; icc = out.icc; y = out.y }
