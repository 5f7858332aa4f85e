-- How the arrays of a core are kept: the flips of its next step and of later ones are still to come.
use Rattle.std.specs.Prelude.{length}
use Rattle.flip_ledger.specs.Plan.{IsPlanned}
use Rattle.flip_ledger.specs.declared.plan.Owner.TheVariants.{Core}
use Rattle.replay_arrays.specs.ArraysState.{ArraysState}
use Rattle.replay_arrays.specs.Striking.{arrays_of, HasFlips, IsPending}
use Rattle.replay_arrays.specs.declared.arrays.Arrays.TheInside.{Inside}

abbrev pub seen : Inside → ArraysState
seen a = record { script = a.script.value; core = a.core; arrays = arrays_of a.parts; steps = a.steps }

pub record IsArrays (a : Inside) : Type 0 where
  pub flips : HasFlips (length a.script.value) a.parts
  pub planned : IsPlanned (Core a.core) a.script.value a.steps a.plan
  pub pending : IsPending a.core a.script.value a.parts a.plan
