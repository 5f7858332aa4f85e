use Rattle.std.specs.Prelude.{◌≡◌}
use Rattle.lf_num.specs.Arithmetic.{stepped_times}
use Rattle.v8_muldiv.specs.Stepping.{steps_of}
use Rattle.v8_muldiv.proofs.multiply_by_steps.Given as goal

abbrev pub invariant-loop : goal.invariant-loop
invariant-loop l = steps_of l.out ≡ stepped_times l.counter l.b (record { value = 0; icc = 0; y = l.y })
