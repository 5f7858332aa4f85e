-- What a core's turn on the bus leaves of the core and of the bus, for whoever made it.
use Rattle.std.proofs.Common.{◌≡◌, ◌∙◌, ℕ, List, Result, refl, sym, ap, subst}
use Rattle.ahb_bus.specs.BusState.{BusState}
use Rattle.core_course.specs.CoreOk.{CoreOk}
use Rattle.core_parts.specs.CoreValue.{CoreValue}
use Rattle.core_parts.specs.IsCore.{Waits}
use Rattle.core_turns.specs.MakesTurn.{bus_after}
use Rattle.leon_core.specs.CoreInside.{core_seen, IsKept}
use Rattle.leon_core.specs.EndsTurn.{turn_begun, did_of_turn, EndsTurn}
use Rattle.leon_core.specs.declared.one_core.Core.TheInside.{Inside}
use Rattle.lf_model.specs.declared.bus.Bad.{Bad}
use Rattle.lf_model.specs.declared.bus.Pending.{Pending}
use Rattle.lf_model.specs.declared.step.Did.{Did}
use Rattle.lf_model.specs.declared.step.Turn.{Turn}
use Rattle.turn_course.proofs.WholeTurn.{turn_keeps, turn_adds}
use Rattle.turn_course.specs.BusStep.{TakesTurn, answer_of, turned, transfer_at, AddsTransfer}

-- ---- what it comes to

pub did_same : (turn : Turn) {n n' : ℕ} {a a' : Result Did Bad} → n ≡ n' → a ≡ a' → did_of_turn turn n a ≡ did_of_turn turn n' a'
did_same turn e f = rw (e, f) refl

pub answer_same : (turn : Turn) {bus bus' : BusState} {v v' : CoreValue} → bus ≡ bus' → v ≡ v' → answer_of bus turn v ≡ answer_of bus' turn v'
answer_same turn {bus' = bus'} {v = v} e f = ap (λ (b : BusState). answer_of b turn v) e ∙ ap (answer_of bus' turn) f

-- ---- what it leaves

-- bus: the one before the turn, once the turn is begun; after: the one after it
module _ (old : Inside) (v : CoreValue) (view : core_seen old ≡ v) (turn : Turn) (before bus : BusState) (begun : bus ≡ turn_begun before) (after : BusState)
    (bus_is : after ≡ bus_after bus turn old.parts.buffer.waiting (core_seen old)) where
  abbrev pending : List Pending
  pending = old.parts.buffer.waiting

  pub adds : TakesTurn (core_seen old) bus turn pending → AddsTransfer turn v before after (transfer_at (turn_begun before) turn v)
  adds takes = record {
    made = added.made;
    own = added.own;
    step = added.step;
    kind = added.kind;
    why = added.why;
    entry = added.entry;
    setup = added.setup;
    idle = added.idle;
  }
    where
      added : AddsTransfer turn v (turn_begun before) after (transfer_at (turn_begun before) turn v)
      added =
          subst (λ (w : CoreValue). AddsTransfer turn w (turn_begun before) after (transfer_at (turn_begun before) turn w)) view
          (subst (λ (b : BusState). AddsTransfer turn (core_seen old) b after (transfer_at b turn (core_seen old))) begun
          (subst (λ (b : BusState). AddsTransfer turn (core_seen old) bus b (transfer_at bus turn (core_seen old))) (sym bus_is)
          (turn_adds (core_seen old) bus turn pending takes)))

  -- new: the core after it
  module _ (new : CoreValue) (core_is : new ≡ turned bus turn pending (core_seen old)) where
    pub ends : IsKept old → EndsTurn turn v new before after
    ends is = record {
      pending = pending;
      waiting = sym (ap (λ (w : CoreValue). w.ports.waiting) view);
      waits = subst (λ (w : CoreValue). Waits w.ops pending) view is.core.waits;
      core = core_is ∙ (ap (λ (b : BusState). turned b turn pending (core_seen old)) begun ∙ ap (turned (turn_begun before) turn pending) view);
      bus = bus_is ∙ (ap (λ (b : BusState). bus_after b turn pending (core_seen old)) begun ∙ ap (bus_after (turn_begun before) turn pending) view);
    }

    pub core_right : TakesTurn (core_seen old) bus turn pending → CoreOk new after.log after.transfers
    core_right takes =
        subst (λ (b : BusState). CoreOk new b.log b.transfers) (sym bus_is)
        (subst (λ (w : CoreValue). CoreOk w (bus_after bus turn pending (core_seen old)).log (bus_after bus turn pending (core_seen old)).transfers) (sym core_is)
        (turn_keeps (core_seen old) bus turn pending takes))
