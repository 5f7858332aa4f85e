use Rattle.std.proofs.Common.{◌≡◌, ℕ, List, length, take}
use Rattle.lf_model.specs.Ledger.FlipFate.{flip_fates}
use Rattle.lf_model.specs.Records.BusMemory.{memory_after}
use Rattle.lf_model.specs.Records.BusRecord.{no_arrays}
use Rattle.lf_model.specs.declared.trace.Word2.{Word2}
use Rattle.bus_memory.specs.Named.{IsNamed}
use Rattle.bus_memory.proofs.record.note_fates.Given as goal

abbrev pub invariant-loop-number : goal.invariant-loop-number
invariant-loop-number l = record {
  long : length l.fates.items ≡ length l.script.value;
  fates : (count : ℕ) (named : List Word2) → IsNamed l.script.value l.transfers count named l.memory
      → take l.number l.fates.items ≡ take l.number (flip_fates l.script.value (memory_after l.script.value named l.transfers).words no_arrays);
}
