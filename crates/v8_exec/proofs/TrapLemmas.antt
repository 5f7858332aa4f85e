-- What an instruction comes to where it traps, and where it does not.
use Rattle.std.proofs.Common.{◌≡◌, ℕ, List, Bool, true, false, Option, Some, refl, sym, ◌∙◌, slice_set}
use Rattle.lf_model.specs.State.{State, cell}
use Rattle.lf_model.specs.Effect.{Effect, with_reads}
use Rattle.lf_model.specs.Traps.{unless_trap, trap_effect, entered, handler_window}
use Rattle.lf_model.specs.Run.{Run}
use Rattle.lf_model.specs.Step.{Seen, Parts, state_of, run_seen, run_after}
use Rattle.lf_model.specs.declared.control.Arch.{Arch}
use Rattle.lf_model.specs.declared.control.Ctl.{Ctl}
use Rattle.lf_model.specs.declared.step.Did.{Did}
use Rattle.lf_model.specs.declared.step.Did.TheVariants.{Retired, Turned, Need, Halt, Stop}
use Rattle.v8_exec.specs.Frame.{DoesAfterReads}

-- ---- trap entry

same_run : (s t : State) (r : Run) → s ≡ t → ◌≡◌ {A = Run} (record r { state = s }) (record r { state = t })
same_run s t r states = rw states refl

-- the handler's window has PC and nPC, and the control state is that of trap entry
pub trap_entered : (seen after : Seen) (parts : Parts) (a : Arch) (ctl : Ctl) (tt_ window : ℕ)
    → a.ctl.et ≡ true → (entered tt_ (state_of a seen)).ctl ≡ ctl → window ≡ handler_window a.ctl.cwp
    → after ≡ record seen { cells = slice_set (slice_set seen.cells (cell window 17) a.ctl.pc) (cell window 18) a.ctl.npc }
    → DoesAfterReads seen.site.core parts (trap_effect tt_ (state_of a seen)) Retired (run_seen a seen) (run_seen (record a { ctl = ctl }) after)
trap_entered seen after parts a ctl tt_ window enabled control own written = record {
  answer = rw enabled refl;
  leaves = rw written (rw own (rw (sym control) (rw enabled refl)));
}

pub not_false : (b : Bool) → (b ≡ false → ⊥) → b ≡ true
not_false true h = refl
not_false false h = absurd (h refl)

-- ---- an ordinary trap

-- the registers that an effect has read make no difference after they are read
reads_apart : (core : ℕ) (parts : Parts) (did : Did) (registers : List ℕ) (e : Effect) (r : Run)
    → run_after core parts did (with_reads registers e) r ≡ run_after core parts did e r
reads_apart core parts Retired registers e r = refl
reads_apart core parts Turned registers e r = refl
reads_apart core parts (Need turn) registers e r = refl
reads_apart core parts (Halt tt_) registers e r = refl
reads_apart core parts (Stop tt_ place syn) registers e r = refl

-- the trap that an instruction takes is in place of its effect
pub trap_does : (core : ℕ) (parts : Parts) (trap : Option ℕ) (tt_ : ℕ) (s : State) (e : Effect) (did : Did) (old new : Run)
    → trap ≡ Some tt_ → DoesAfterReads core parts (trap_effect tt_ s) did old new → DoesAfterReads core parts (unless_trap trap s e) did old new
trap_does core parts trap tt_ s e did old new is does = rw is (record { answer = does.answer; leaves = does.leaves ∙ sym (reads_apart core parts did e.reads (trap_effect tt_ s) old) })
