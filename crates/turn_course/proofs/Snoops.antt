-- A turn that only catches up with the log keeps all that holds of the core.
use Rattle.std.proofs.Common.{◌≡◌, ◌∙◌, ◌+◌, ◌<◌, ◌++◌, List, [], ◌∷◌, None, Ok, length, take, drop, refl, ap, sym, subst}
use Rattle.ahb_bus.specs.BusState.{BusState}
use Rattle.core_course.proofs.BusSteps.{MakesTurn, GoesOnAfter, fills}
use Rattle.core_course.proofs.LocalGround.{place_of}
use Rattle.core_course.proofs.MayTurns.{in_a_step}
use Rattle.core_course.proofs.Running.{ground_running}
use Rattle.core_course.proofs.TurnGround.{turn_place}
use Rattle.core_course.specs.CoreOk.{buffer_of, CoreOk}
use Rattle.core_course.specs.Lines.{PortLines, LinesAre}
use Rattle.core_parts.specs.CoreValue.{CoreValue}
use Rattle.core_parts.specs.Makes.{Makes}
use Rattle.core_parts.specs.Moves.{Turns}
use Rattle.core_parts.specs.declared.phase.Phase.TheVariants.{Between}
use Rattle.core_turns.proofs.Answers.{good}
use Rattle.core_turns.proofs.Leaves.{snoop_turns}
use Rattle.core_turns.specs.AfterTurn.{snooping}
use Rattle.core_turns.specs.AskedTurn.{transfer_of}
use Rattle.core_turns.specs.BeforeTurn.{seat_at_turn, BeforeTurn}
use Rattle.lf_model.specs.Course.Core.{given_by}
use Rattle.lf_model.specs.Course.Progress.{Progress}
use Rattle.lf_model.specs.Course.Turned.{bad_wanted}
use Rattle.lf_model.specs.Records.OwnTurns.{next_effect}
use Rattle.lf_model.specs.Start.{initial_byte}
use Rattle.lf_model.specs.declared.bus.Entry.{Entry}
use Rattle.lf_model.specs.declared.bus.Pending.{Pending}
use Rattle.lf_model.specs.declared.bus.Transfer.{Transfer}
use Rattle.lf_model.specs.declared.bus.Why.TheVariants as whys
use Rattle.lf_model.specs.declared.step.Did.{Did}
use Rattle.lf_model.specs.declared.step.Turn.TheVariants.{Drain, Snoop}
use Rattle.lf_model.specs.declared.trace.CoreEnd.TheVariants.{Limit}
use Rattle.turn_course.proofs.TurnBegins.{here, before, place_is, makes_turn_at, wanted_is, all_log, count, few_wait, without_entry}
use Rattle.turn_course.proofs.TurnLines.{lines_caught}
use Rattle.turn_course.specs.BusStep.{TakesTurn, answer_of, ended_by}

no_drain : Snoop ≡ Drain whys.End → ⊥
no_drain is = absurd cc

module _ (v : CoreValue) (bus : BusState) (pending : List Pending) (x : TakesTurn v bus Snoop pending) where
  abbrev seen : List Entry
  seen = take v.log_seen bus.log

  abbrev more : List Entry
  more = drop v.log_seen bus.log

  abbrev known : List Transfer
  known = take v.turns_seen bus.transfers

  abbrev others : List Transfer
  others = drop v.turns_seen bus.transfers

  abbrev place : Progress
  place = place_of v known

  abbrev ready : CoreValue
  ready = snooping bus.log v

  abbrev pub t : Transfer
  t = transfer_of ready bus Snoop

  begins : BeforeTurn (ground_running v) place v bus.log whys.Window
  begins = before v bus Snoop pending x (given_by v.ops) Limit v.setup.config.steps refl

  makes : Makes (ground_running v) (seat_at_turn bus.log v place) v Snoop t
  makes = record { kind = refl; why = refl; aimed = (refl, refl); way = refl; words = refl }

  made : MakesTurn v seen more known others Snoop t
  made = makes_turn_at v bus Snoop pending x t makes refl refl refl

  left : v.steps < v.setup.config.steps
  left = in_a_step v Snoop t x.joins.ok.left x.may no_drain

  module _ (did : Did) (is : answer_of bus Snoop v ≡ Ok did) where
    abbrev new : CoreValue
    new = ended_by bus Snoop pending v (Ok did)

    none_bad : bad_wanted place.run.state.ctl.pc (next_effect (ground_running v) place) t ≡ None
    none_bad = wanted_is v bus Snoop pending x t refl ∙ good v.arch.ctl.pc Snoop t did is

    turns : Turns (ground_running new) (turn_place v known others) t v new
    turns = subst (λ k. Turns (ground_running v) k t v new) (sym (place_is v bus Snoop pending x))
        (snoop_turns (ground_running v) place v bus.log t begins Between v.named (length bus.transfers + 1) refl refl refl)

    after : GoesOnAfter v new (seen ++ more) ((known ++ others) ++ t ∷ [])
    after = record {
      keeps = record { setup = refl; core = refl };
      phase = refl;
      named = refl;
      log_length = ap length (all_log v bus Snoop pending x);
      turns = count v bus Snoop pending x t;
      few = few_wait v bus Snoop pending x;
    }

    lines : LinesAre new (seen ++ more) (buffer_of v)
    lines = subst (λ es. PortLines (initial_byte v.setup.image) (es ++ buffer_of v) new.ports) (sym (all_log v bus Snoop pending x))
        (lines_caught (initial_byte v.setup.image) bus.log (buffer_of v) v.log_seen v.ports x.entries (here v bus Snoop pending x).goes_on.lines)

    pub snoop_good : CoreOk new bus.log (bus.transfers ++ t ∷ [])
    snoop_good = without_entry v bus Snoop pending x new t
        (fills v new seen more known others Snoop t made after (record { ops = refl; seen_by = refl; waiting = refl }) turns refl left none_bad lines)
