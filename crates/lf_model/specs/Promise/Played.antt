-- What is promised of the trace of a run: on one thread, which follows a schedule, and on threads, each of which takes the bus when
-- it can.
use Rattle.std.specs.Prelude.{◌≡◌, not, Bool, true, List}
use Rattle.std.specs.List.{list_all}
use Rattle.lf_model.specs.Names.{same_why}
use Rattle.lf_model.specs.Ledger.Rule.{KeepsLedger}
use Rattle.lf_model.specs.Promise.Follows.{Follows}
use Rattle.lf_model.specs.Promise.Headline.{Headline}
use Rattle.lf_model.specs.Promise.Regular.{IsRegular}
use Rattle.lf_model.specs.declared.bus.Transfer.{Transfer}
use Rattle.lf_model.specs.declared.bus.Why.TheVariants.{Sched}
use Rattle.lf_model.specs.declared.setup.Event.{Event}
use Rattle.lf_model.specs.declared.setup.Setup.{Setup}
use Rattle.lf_model.specs.declared.trace.Trace.{Trace}

-- headline: it is an execution whose results it reports; ledger: all that it reports is what the course of its cores and the run of
-- its bus give; follows: its transfers come in the order of the schedule; regular: a report can show it
pub record IsPlayedBy (setup : Setup) (events : List Event) (trace : Trace) : Type 0 where
  pub headline : Headline setup trace
  pub ledger : KeepsLedger setup trace
  pub follows : Follows setup events trace
  pub regular : IsRegular trace

-- no schedule asked for the transfer
abbrev pub is_unscheduled : Transfer → Bool
is_unscheduled t = not (same_why t.why Sched)

-- the same of a run on threads, which has no schedule: no transfer is a scheduled drain
pub record IsRunOnThreads (setup : Setup) (trace : Trace) : Type 0 where
  pub headline : Headline setup trace
  pub ledger : KeepsLedger setup trace
  pub unscheduled : list_all is_unscheduled trace.transfers ≡ true
  pub regular : IsRegular trace
