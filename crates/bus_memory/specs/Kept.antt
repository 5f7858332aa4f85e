-- How the array of words, the plan of flips and the transfers stand together.
use Rattle.std.specs.Prelude.{◌≡◌, ℕ, ◌+◌, ◌<◌, Bool, List, [], length, take, if◌then◌else◌}
use Rattle.std.specs.List.{AllByRecursion}
use Rattle.coded_words.specs.Past.{past_at}
use Rattle.coded_words.specs.Words.{Words}
use Rattle.flip_ledger.specs.Plan.{IsPlanned}
use Rattle.flip_ledger.specs.declared.plan.Owner.TheVariants.{Memory}
use Rattle.flip_ledger.specs.declared.plan.Strike.{Strike}
use Rattle.lf_model.specs.Bus.Words.{Word}
use Rattle.lf_model.specs.Flips.{Moment}
use Rattle.lf_model.specs.Records.BusMemory.{memory_after}
use Rattle.lf_model.specs.declared.bus.Transfer.{Transfer}
use Rattle.lf_model.specs.declared.flip.Flip.{Flip}
use Rattle.bus_memory.specs.Followed.{Follows}
use Rattle.bus_memory.specs.MemoryState.{words_between, words_at}
use Rattle.bus_memory.specs.Strikes.{AimsAt, IsCovered, Came}

-- the turns whose flips struck
abbrev pub turns_struck : ℕ → Bool → ℕ
turns_struck turns begun = turns + (if begun then 1 else 0)

-- an array of so many words has the histories of these words, and flips of turns before this one struck it
pub record IsArrayOf (script : List Flip) (words : List Word) (turn count : ℕ) (histories : List (List Moment)) : Type 0 where
  pub long : length histories ≡ count
  pub follows : Follows words histories
  pub came : Came script turn histories

pub record IsKept (script : List Flip) (transfers : List Transfer) (begun : Bool) (memory : Words) (plan : List Strike) : Type 0 where
  pub values : length memory.values ≡ length memory.histories
  pub flips : memory.flips ≡ length script
  -- the script aims at RAM, and the definitions' words are those that it strikes
  pub aims : AllByRecursion (AimsAt (length memory.histories)) script
  pub covered : AllByRecursion (IsCovered (words_at script transfers begun)) script
  -- the array has their histories
  pub follows : Follows (words_at script transfers begun) memory.histories
  -- the plan has the flips of later turns, and those of earlier ones struck
  pub planned : IsPlanned Memory script (turns_struck (length transfers) begun) plan
  pub came : Came script (turns_struck (length transfers) begun) memory.histories
  -- each transfer has what memory answered
  pub answered : (memory_after script [] transfers).answers ≡ transfers
  -- the array as each turn ended
  pub past : length memory.past ≡ length transfers
  pub passed : (t : ℕ) → t < length transfers → IsArrayOf script (words_between script (take (t + 1) transfers)) (t + 1) (length memory.histories) (past_at t memory.past)
