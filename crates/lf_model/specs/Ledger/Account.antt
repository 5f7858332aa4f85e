-- The account of a trace: that which its masters give, and that which it reports. They have to be the same.
use Rattle.std.specs.Prelude.{ℕ, ◌==◌, Bool, List, map, count_by, is_none, Option, option_map, slice_get}
use Rattle.std.specs.List.{enumerate_from, filter_map}
use Rattle.lf_model.specs.Bus.Replay.{Core, LogEntry, Made, Replay, replay}
use Rattle.lf_model.specs.Bus.Status.{AhbStatus, status_after}
use Rattle.lf_model.specs.Bus.Walk.{scrubber}
use Rattle.lf_model.specs.Bus.Words.{Word, word_history}
use Rattle.lf_model.specs.Course.Arrays.{Arrays}
use Rattle.lf_model.specs.Course.Core.{Ground, given_by, ground_of}
use Rattle.lf_model.specs.Course.Outcome.{Need}
use Rattle.lf_model.specs.Course.Outcome.Need.{Turn}
use Rattle.lf_model.specs.Course.Progress.{Completion}
use Rattle.lf_model.specs.ProgramOrder.{program_order}
use Rattle.lf_model.specs.Flips.{is_bad_word}
use Rattle.lf_model.specs.Ledger.CoreAccount.{CoreAccount, core_by_course, core_as_reported}
use Rattle.lf_model.specs.Ledger.FlipFate.{flip_fates}
use Rattle.lf_model.specs.Ledger.OrderAccount.{OrderAccount, before_all, along, place_by_course, place_as_reported}
use Rattle.lf_model.specs.declared.bus.Transfer.{Transfer}
use Rattle.lf_model.specs.declared.setup.Setup.{Setup}
use Rattle.lf_model.specs.declared.trace.CoreResult.{CoreResult}
use Rattle.lf_model.specs.declared.trace.Fate.{Fate}
use Rattle.lf_model.specs.declared.trace.Op.{Op}
use Rattle.lf_model.specs.declared.trace.Trace.{Trace}
use Rattle.lf_model.specs.declared.trace.Word2.{Word2}

-- a transfer, and what the step of a core, or the walk of the scrubber, needs
pub record TurnAccount : Type 0 where
  pub transfer : Transfer
  pub need : Need

-- AHBSTAT, which watched words are bad, and how many turns the scrubber makes
pub record FinalAccount : Type 0 where
  pub ahb : AhbStatus
  pub watch : List Bool
  pub scrub_turns : ℕ

pub record Account : Type 0 where
  pub cores : List CoreAccount
  pub order : List OrderAccount
  pub transfers : List TurnAccount
  pub fates : List Fate
  pub final : FinalAccount

-- this of each element and its number
abbrev pub map_numbered : {X Y : Type 0} → (ℕ → X → Y) → List X → List Y
map_numbered {X} f xs = map (λ (x : ℕ × X). f x.0 x.1) (enumerate_from 0 xs)

-- ---- by the masters

-- what core number c of a trace runs on
abbrev pub ground_in : Setup → Trace → ℕ → CoreResult → Ground
ground_in setup trace c r = ground_of setup c (given_by (program_order c trace.order)) r.end r.steps

-- of each core
abbrev pub grounds_in : Setup → Trace → List Ground
grounds_in setup trace = map_numbered (ground_in setup trace) trace.cores

-- the run of all masters over the transfers of a trace
abbrev pub replay_of : Setup → Trace → Replay
replay_of setup trace = replay setup (grounds_in setup trace) trace.transfers

-- a transfer as a trace reports it: no line shows its length
abbrev pub without_length : Transfer → Transfer
without_length t = record t { len = 0 }

abbrev pub transfer_made : Made → Transfer
transfer_made m = m.transfer

abbrev pub entry_made : Made → Option LogEntry
entry_made m = m.entry

abbrev pub turn_made : Made → TurnAccount
turn_made m = record { transfer = without_length m.transfer; need = m.need }

abbrev pub core_account : Core → CoreAccount
core_account c = core_by_course c.on c.progress

abbrev pub completions_of : Core → List Completion
completions_of c = c.progress.completions

abbrev pub arrays_of : Core → Arrays
arrays_of c = c.progress.arrays

abbrev pub arrays_at : List Core → ℕ → Option Arrays
arrays_at cores core = option_map arrays_of (slice_get cores core)

abbrev pub is_bad_at : List Word → ℕ → Bool
is_bad_at words addr = is_bad_word (word_history words addr)

abbrev pub final_by_replay : Setup → Replay → FinalAccount
final_by_replay setup r = record {
  ahb = status_after (map transfer_made r.made);
  watch = map (is_bad_at r.words) setup.config.watch;
  scrub_turns = setup.config.scrub_turns;
}

abbrev pub account_by_replay : Setup → List Op → Replay → Account
account_by_replay setup order r = record {
  cores = map core_account r.cores;
  order = along (place_by_course (filter_map entry_made r.made) (map completions_of r.cores)) before_all order;
  transfers = map turn_made r.made;
  fates = flip_fates setup.flips r.words (arrays_at r.cores);
  final = final_by_replay setup r;
}

abbrev pub account_by_course : Setup → Trace → Account
account_by_course setup trace = account_by_replay setup trace.order (replay_of setup trace)

-- ---- as reported

-- the step of a core, or the walk of the scrubber, needed the transfer
abbrev pub need_reported : Transfer → Need
need_reported t = Turn t.kind t.why

abbrev pub turn_reported : Transfer → TurnAccount
turn_reported t = record { transfer = t; need = need_reported t }

abbrev pub core_reported : Trace → ℕ → CoreResult → CoreAccount
core_reported trace c r = core_as_reported c r (program_order c trace.order) trace.transfers

abbrev pub value_missing : Word2 → Bool
value_missing word = is_none word.value

abbrev pub is_scrubbers : Transfer → Bool
is_scrubbers t = t.master == scrubber

abbrev pub final_reported : Trace → FinalAccount
final_reported trace = record {
  ahb = record { addr = trace.ahb_addr; status = trace.ahb_status };
  watch = map value_missing trace.watch;
  scrub_turns = count_by is_scrubbers trace.transfers;
}

abbrev pub account_as_reported : Trace → Account
account_as_reported trace = record {
  cores = map_numbered (core_reported trace) trace.cores;
  order = along place_as_reported before_all trace.order;
  transfers = map turn_reported trace.transfers;
  fates = trace.fates;
  final = final_reported trace;
}
