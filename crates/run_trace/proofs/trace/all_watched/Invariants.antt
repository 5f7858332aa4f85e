use Rattle.std.proofs.Common.{◌≡◌, true, take}
use Rattle.std.specs.List.{list_all}
use Rattle.lf_model.specs.Promise.Regular.{is_regular_word}
use Rattle.run_trace.proofs.trace.all_watched.Given as goal

abbrev pub invariant-loop-named : goal.invariant-loop-named
invariant-loop-named l = list_all is_regular_word (take l.named-index l.named-items) ≡ true
