use Rattle.std.proofs.Common.{◌≡◌, false, List, take}
use Rattle.std.specs.List.{list_any}
use Rattle.lf_model.specs.Records.BusMemory.{names_word}
use Rattle.lf_model.specs.declared.trace.Word2.{Word2}
use Rattle.bus_memory.proofs.names.some_has_name.Given as goal

abbrev pub invariant-loop-names : goal.invariant-loop-names
invariant-loop-names l = list_any (λ (names : List Word2). names_word names l.turn l.addr) (take l.names-index l.cores) ≡ false
