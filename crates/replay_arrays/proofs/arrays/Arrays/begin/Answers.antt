use Rattle.replay_arrays.specs.Aims.{own_flips}
use Rattle.replay_arrays.specs.Striking.{arrays_of}
use Rattle.replay_arrays.proofs.PendingLemmas.{begin_uses}
use Rattle.replay_arrays.proofs.arrays.Arrays.begin.Goals as goal

pub returns-clause-uses : goal.returns-clause-uses
returns-clause-uses c =
    let arrays = c.self.inside in
    rw (← c.self.view_is, c.strike_due.ensures.begun) (begin_uses arrays.steps (own_flips arrays.core arrays.script.value) (arrays_of arrays.parts))
