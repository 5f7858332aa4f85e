-- How the array of words stands with the transfers once error traps have named words.
use Rattle.std.specs.Prelude.{◌≡◌, ℕ, ◌+◌, ◌<◌, List, length, take}
use Rattle.std.specs.List.{AllByRecursion}
use Rattle.coded_words.specs.Past.{past_at}
use Rattle.coded_words.specs.Words.{Words}
use Rattle.lf_model.specs.Records.BusMemory.{memory_after}
use Rattle.lf_model.specs.declared.bus.Transfer.{Transfer}
use Rattle.lf_model.specs.declared.flip.Flip.{Flip}
use Rattle.lf_model.specs.declared.trace.Word2.{Word2}
use Rattle.bus_memory.specs.Kept.{IsArrayOf}
use Rattle.bus_memory.specs.Strikes.{AimsAt}

-- the array of so many words has the histories of the definitions' words, where traps named these, and had them as each turn ended
pub record IsNamed (script : List Flip) (transfers : List Transfer) (count : ℕ) (named : List Word2) (memory : Words) : Type 0 where
  pub flips : memory.flips ≡ length script
  pub aims : AllByRecursion (AimsAt count) script
  pub now : IsArrayOf script (memory_after script named transfers).words (length transfers) count memory.histories
  pub past : length memory.past ≡ length transfers
  pub passed : (t : ℕ) → t < length transfers → IsArrayOf script (memory_after script named (take (t + 1) transfers)).words (t + 1) count (past_at t memory.past)
