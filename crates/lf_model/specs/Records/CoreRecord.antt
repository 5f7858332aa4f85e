-- The record that a core leaves of its run is right, beside the log and the transfers that the bus leaves.
use Rattle.std.specs.Prelude.{ℕ, ◌≡◌, ◌==◌, ◌<◌, true, List, [], length, map, Option, Some, None, if◌then◌else◌}
use Rattle.std.specs.List.{list_all, zip}
use Rattle.lf_model.specs.Course.Arrays.{Arrays}
use Rattle.lf_model.specs.Course.Progress.{Completion}
use Rattle.lf_model.specs.Ledger.CoreAccount.{core_by_course, core_as_reported}
use Rattle.lf_model.specs.Ledger.FlipFate.{flip_fates}
use Rattle.lf_model.specs.Ledger.Steps.{HasSteps, own_transfers}
use Rattle.lf_model.specs.Promise.Regular.{is_regular_core, is_regular_op}
use Rattle.lf_model.specs.Records.CoreRules.{EndedCore, HasThread, ShowsResult, ground_of_ended, course_of_ended}
use Rattle.lf_model.specs.Records.OwnTurns.{OwnTurnAt, words_named}
use Rattle.lf_model.specs.Records.SeenOrder.{is_load, HasSeen}
use Rattle.lf_model.specs.Start.{initial_byte}
use Rattle.lf_model.specs.declared.bus.Entry.{Entry}
use Rattle.lf_model.specs.declared.bus.Transfer.{Transfer}
use Rattle.lf_model.specs.declared.record.CoreRecord.{CoreRecord}
use Rattle.lf_model.specs.declared.setup.Setup.{Setup}
use Rattle.lf_model.specs.declared.trace.Op.{Op}

-- the core that a record is of
abbrev pub core_of_record : ℕ → CoreRecord → List Transfer → EndedCore
core_of_record c kept transfers = record { core = c; result = kept.result; ops = kept.ops; transfers = transfers }

-- what a record says of the completion of an operation
abbrev pub completion_reported : Op → ℕ → Completion
completion_reported o seen = record { step = o.step; way = if is_load o then Some o.way else None; seen = seen }

abbrev pub completions_reported : CoreRecord → List Completion
completions_reported kept = map (λ (o : Op × ℕ). completion_reported o.0 o.1) (zip kept.ops kept.seen)

-- the arrays of core c alone are looked at
abbrev pub of_core_alone : ℕ → Arrays → ℕ → Option Arrays
of_core_alone c a core = if core == c then Some a else None

-- result, thread and steps; seen: its operations and what they read; account: that no step owes a turn, its stop, its lost
-- stores, its counters and its blanks; completed: step, way and what was seen of each operation; turns: its transfers; then the
-- ranges of its fields, the word that its stop names, and the fates of its own flips, those of others being late
pub record RecordOk (setup : Setup) (c : ℕ) (kept : CoreRecord) (log : List Entry) (transfers : List Transfer) : Type 0 where
  pub result : ShowsResult setup (core_of_record c kept transfers)
  pub thread : HasThread setup (core_of_record c kept transfers)
  pub steps : HasSteps setup kept.result (own_transfers c transfers)
  pub seen : HasSeen (initial_byte setup.image) c kept.ops kept.seen log
  pub account : core_by_course (ground_of_ended setup (core_of_record c kept transfers)) (course_of_ended setup (core_of_record c kept transfers))
      ≡ core_as_reported c kept.result kept.ops transfers
  pub completed : (course_of_ended setup (core_of_record c kept transfers)).completions ≡ completions_reported kept
  pub turns : (turn : ℕ) → turn < length transfers → OwnTurnAt (ground_of_ended setup (core_of_record c kept transfers)) transfers turn
  pub core_fits : is_regular_core kept.result ≡ true
  pub ops_fit : list_all is_regular_op kept.ops ≡ true
  pub named : kept.named ≡ words_named (ground_of_ended setup (core_of_record c kept transfers)) transfers
  pub fates : kept.fates ≡ flip_fates setup.flips [] (of_core_alone c (course_of_ended setup (core_of_record c kept transfers)).arrays)
