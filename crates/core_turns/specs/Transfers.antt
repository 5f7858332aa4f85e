-- What the transfer of a turn leaves of a core that has caught up with the log, and of the bus.
use Rattle.std.specs.Prelude.{ℕ, ◌≡◌, List, Result}
use Rattle.ahb_bus.specs.BusOk.{BusOk}
use Rattle.ahb_bus.specs.BusState.{BusState}
use Rattle.core_parts.specs.CanRun.{CanRun}
use Rattle.core_parts.specs.Inside.{value_of}
use Rattle.core_parts.specs.IsCore.{IsCore}
use Rattle.core_parts.specs.declared.parts.Parts.{Parts}
use Rattle.core_parts.specs.declared.phase.Phase.{Phase}
use Rattle.lf_model.specs.declared.bus.Bad.{Bad}
use Rattle.lf_model.specs.declared.control.Arch.{Arch}
use Rattle.lf_model.specs.declared.step.Did.{Did}
use Rattle.lf_model.specs.declared.step.Turn.{Turn}
use Rattle.lf_model.specs.declared.trace.Word2.{Word2}
use Rattle.core_turns.specs.AskedTurn.{transfer_of, turn_answer}
use Rattle.core_turns.specs.CanTurn.{steps_ended, turn_over}
use Rattle.core_turns.specs.MakesTurn.{transferred_by, bus_by}

-- arch, p and bus: before it; arch', p' and bus': after it. The core and the bus are as the definitions make them, the answer is theirs,
-- and what holds of the bus, of the core and of its parts stays.
pub record Transfers (turn : Turn) (arch arch' : Arch) (p p' : Parts) (bus bus' : BusState) (result : Result Did Bad) : Type 0 where
  pub core : (quiet : ℕ) (named : List Word2) (phase : Phase) → value_of arch' p' quiet named phase ≡ transferred_by bus turn p.buffer.waiting (value_of arch p quiet named phase)
  pub made : (quiet : ℕ) (named : List Word2) (phase : Phase) → bus' ≡ bus_by bus turn p.buffer.waiting (value_of arch p quiet named phase)
  pub answer : (quiet : ℕ) (named : List Word2) (phase : Phase) → result ≡ turn_answer arch.ctl.pc turn (transfer_of (value_of arch p quiet named phase) bus turn)
  pub ok : BusOk bus'
  pub keeps : IsCore arch' p'
  pub runs : CanRun (steps_ended p) 0 (turn_over p')
