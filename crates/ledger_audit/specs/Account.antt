-- What is given to the audit, as the definitions have it, and the account that it makes.
use Rattle.std.specs.Prelude.{List, map}
use Rattle.std.specs.List.{range_with_len}
use Rattle.lf_model.specs.Bus.Replay.{LogEntry}
use Rattle.lf_model.specs.Bus.Status.{status_after}
use Rattle.lf_model.specs.Course.Outcome.{Need}
use Rattle.lf_model.specs.Course.Progress.{Completion, ErrorTrap}
use Rattle.lf_model.specs.Ledger.Account.{Account, FinalAccount, TurnAccount, without_length}
use Rattle.lf_model.specs.Ledger.CoreAccount.{CoreAccount}
use Rattle.lf_model.specs.Ledger.OrderAccount.{before_all, along, place_by_course}
use Rattle.lf_model.specs.declared.bus.Transfer.{Transfer}
use Rattle.lf_model.specs.declared.setup.Setup.{Setup}
use Rattle.lf_model.specs.declared.trace.Op.{Op}
use Rattle.ledger_audit.specs.declared.given.Completion.{Completion as Completes}
use Rattle.ledger_audit.specs.declared.given.CoreGiven.{CoreGiven}
use Rattle.ledger_audit.specs.declared.given.ErrorTrap.{ErrorTrap as Trap}
use Rattle.ledger_audit.specs.declared.given.Given.{Given}
use Rattle.ledger_audit.specs.declared.given.LogEntry.{LogEntry as Entry}
use Rattle.ledger_audit.specs.declared.given.Need.{Need as Needs}
use Rattle.ledger_audit.specs.declared.given.Need.TheVariants.{NoTurn, Turn, RegisterStop}
use Rattle.ledger_audit.specs.declared.given.TurnGiven.{TurnGiven}

-- ---- parts

abbrev pub completion_seen : Completes → Completion
completion_seen c = record { step = c.step; way = c.way; seen = c.seen }

abbrev pub trap_seen : Trap → ErrorTrap
trap_seen e = record { trap_type = e.trap_type; place = e.place; syndrome = e.syndrome; steps = e.steps; turns = e.turns }

abbrev pub need_seen : Needs → Need
need_seen NoTurn = Need.NoTurn
need_seen (Turn kind why) = Need.Turn kind why
need_seen (RegisterStop cell) = Need.RegisterStop cell

abbrev pub entry_seen : Entry → LogEntry
entry_seen e = record { core = e.core; number = e.number }

abbrev pub transfer_of : TurnGiven → Transfer
transfer_of t = t.transfer

abbrev pub completions_of : CoreGiven → List Completion
completions_of c = map completion_seen c.completions

-- ---- accounts

abbrev pub core_given : CoreGiven → CoreAccount
core_given c = record {
  owed = c.owed;
  errors = map trap_seen c.errors;
  lost = range_with_len c.lost.first c.lost.count;
  parity = c.parity;
  blank = c.blank;
}

-- no line shows the length of a transfer
abbrev pub turn_given : TurnGiven → TurnAccount
turn_given t = record { transfer = without_length t.transfer; need = need_seen t.need }

-- AHBSTAT is as the transfers leave it, and the scrubber makes all of its turns
abbrev pub final_given : Setup → Given → FinalAccount
final_given setup given = record {
  ahb = status_after (map transfer_of given.turns);
  watch = given.blank;
  scrub_turns = setup.config.scrub_turns;
}

-- the account of what is given, over the places of this order
abbrev pub account_given : Setup → List Op → Given → Account
account_given setup order given = record {
  cores = map core_given given.cores;
  order = along (place_by_course (map entry_seen given.log) (map completions_of given.cores)) before_all order;
  transfers = map turn_given given.turns;
  fates = given.fates;
  final = final_given setup given;
}
