-- The run of a core that has come so far along its course.
use Rattle.std.specs.Prelude.{◌≡◌, Some}
use Rattle.lf_model.specs.Course.Core.{Ground}
use Rattle.lf_model.specs.Course.Progress.{Progress}
use Rattle.lf_model.specs.Run.{run}

-- its state and operations are those of the run, with the numbers that it read, after the instructions that it retired
abbrev pub HasRun : Ground → Progress → Type 0
HasRun g k = run g.setup g.core g.given.answers k.retired ≡ Some k.run
