-- The parts of a core in code, and what is known of the bus, give what the laws of a turn take.
use Rattle.std.proofs.Common.{◌≡◌, ◌<◌, ℕ, List, length, drop, refl, subst}
use Rattle.std.specs.List.{AllByRecursion}
use Rattle.ahb_bus.specs.BusOk.{BusOk}
use Rattle.ahb_bus.specs.BusState.{BusState}
use Rattle.core_course.specs.Calls.{Joins, MayTurn}
use Rattle.core_parts.specs.CoreValue.{CoreValue}
use Rattle.core_parts.specs.Inside.{value_of}
use Rattle.core_parts.specs.IsCore.{CanStore, IsCore}
use Rattle.core_parts.specs.declared.parts.Parts.{Parts}
use Rattle.core_parts.specs.declared.phase.Phase.{Phase}
use Rattle.lf_model.specs.declared.bus.Why.{Why}
use Rattle.lf_model.specs.declared.control.Arch.{Arch}
use Rattle.lf_model.specs.declared.setup.Setup.{Setup}
use Rattle.lf_model.specs.declared.step.Turn.{Turn}
use Rattle.lf_model.specs.declared.step.Turn.TheVariants.{Drain}
use Rattle.lf_model.specs.declared.trace.Word2.{Word2}
use Rattle.order_log.specs.LogState.{IsLogEntry}
use Rattle.turn_course.specs.BusStep.{IsInRam, TakesTurn}

module _ (a : Arch) (p : Parts) (core : IsCore a p) (quiet : ℕ) (named : List Word2) (phase : Phase) (bus : BusState) (setup : p.site ≡ bus.setup) where
  abbrev v : CoreValue
  v = value_of a p quiet named phase

  -- the stores that wait can reach memory
  pub drain_in_ram : (why : Why) → 0 < length p.buffer.waiting → IsInRam v bus (Drain why) p.buffer.waiting
  drain_in_ram why some = (some, subst (λ (s : Setup). AllByRecursion (CanStore s) p.buffer.waiting) setup core.can_store)

  pub takes_turn : (turn : Turn) → Joins v bus.log bus.transfers → MayTurn v turn → BusOk bus → AllByRecursion IsLogEntry (drop v.log_seen bus.log) → IsInRam v bus turn p.buffer.waiting
      → TakesTurn v bus turn p.buffer.waiting
  takes_turn turn joins may ok entries in_ram = record {
    joins = joins;
    may = may;
    setup = setup;
    ok = ok;
    entries = entries;
    waiting = refl;
    waits = core.waits;
    counted = core.made;
    ops_fit = core.ops_fit;
    in_ram = in_ram;
  }
