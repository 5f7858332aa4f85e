-- Ordinary traps: which of several is taken, entry into the handler, and error mode (SPARC V8, chapter 7, traps).
-- That error mode leaves the whole state as it was is this machine's own.
use Rattle.std.specs.Prelude.{ℕ, ◌+◌, ◌*◌, ◌/◌, ◌%◌, ◌^◌, ◌∷◌, [], Bool, true, false, List, Option, Some, None, if◌then◌else◌, slice_set}
use Rattle.std.specs.Option.{option_or}
use Rattle.lf_model.specs.State.{State, cell}
use Rattle.lf_model.specs.Effect.{Effect, with_reads}
use Rattle.lf_model.specs.declared.trap.Checks.{Checks}

-- ---- the trap types by their names

abbrev pub instruction_access_exception : ℕ
instruction_access_exception = 0x01

abbrev pub privileged_instruction : ℕ
privileged_instruction = 0x03

abbrev pub illegal_instruction : ℕ
illegal_instruction = 0x02

abbrev pub fp_disabled : ℕ
fp_disabled = 0x04

abbrev pub cp_disabled : ℕ
cp_disabled = 0x24

abbrev pub window_overflow : ℕ
window_overflow = 0x05

abbrev pub window_underflow : ℕ
window_underflow = 0x06

abbrev pub mem_address_not_aligned : ℕ
mem_address_not_aligned = 0x07

abbrev pub data_access_exception : ℕ
data_access_exception = 0x09

abbrev pub tag_overflow : ℕ
tag_overflow = 0x0a

abbrev pub division_by_zero : ℕ
division_by_zero = 0x2a

-- ---- the order of the traps

-- the trap type where a test holds
abbrev pub when : Bool → ℕ → Option ℕ
when test tt_ = if test then Some tt_ else None

-- no test holds
abbrev pub no_checks : Checks
no_checks = record {
  fetch = false;
  privileged = false;
  illegal = false;
  fp_off = false;
  cp_off = false;
  over = false;
  under = false;
  align = false;
  access = false;
  tag = false;
  zero = false;
  ticc = None;
}

-- the ordinary traps in their order, the one that is taken before all others first; Ticc gives its trap type itself
abbrev pub traps_in_order : Checks → List (Option ℕ)
traps_in_order c =
    when c.fetch instruction_access_exception
    ∷ when c.privileged privileged_instruction
    ∷ when c.illegal illegal_instruction
    ∷ when c.fp_off fp_disabled
    ∷ when c.cp_off cp_disabled
    ∷ when c.over window_overflow
    ∷ when c.under window_underflow
    ∷ when c.align mem_address_not_aligned
    ∷ when c.access data_access_exception
    ∷ when c.tag tag_overflow
    ∷ when c.zero division_by_zero
    ∷ c.ticc
    ∷ []

-- the first of these traps that there is
abbrev pub first_trap : List (Option ℕ) → Option ℕ
first_trap [] = None
first_trap (trap ∷ traps) = option_or trap (first_trap traps)

-- ---- what a trap does

-- the window of a trap's handler: CWP - 1 modulo 8
abbrev pub handler_window : ℕ → ℕ
handler_window window = (window + 7) % 8

-- trap entry: PC and nPC go to %l1 and %l2 of the handler's window, and PC to the vector of the trap type
abbrev pub entered : ℕ → State → State
entered tt_ s =
    let window = handler_window s.ctl.cwp in
    let vector = s.ctl.tbr / 2 ^ 12 * 2 ^ 12 + tt_ * 2 ^ 4 in
    record s {
      cells = slice_set (slice_set s.cells (cell window 17) s.ctl.pc) (cell window 18) s.ctl.npc;
      ctl = record s.ctl { s = true; ps = s.ctl.s; et = false; cwp = window; tbr = vector; pc = vector; npc = (vector + 4) % 2 ^ 32 };
    }

-- an ordinary trap: trap entry where traps are enabled, else error mode, in which the state stays
abbrev pub trap_effect : ℕ → State → Effect
trap_effect tt_ s = record {
  reads = [];
  trap = Some tt_;
  access = None;
  barrier = None;
  writes = if s.ctl.et then cell (handler_window s.ctl.cwp) 17 ∷ cell (handler_window s.ctl.cwp) 18 ∷ [] else [];
  next = λ _. if s.ctl.et then entered tt_ s else record s { halt = Some tt_ };
}

-- the trap, if there is one, in place of the effect, whose registers are read before
abbrev pub unless_trap : Option ℕ → State → Effect → Effect
unless_trap None s e = e
unless_trap (Some tt_) s e = with_reads e.reads (trap_effect tt_ s)

-- the trap of a PC that is no text word; no word is fetched there, so that no other trap comes
abbrev pub fetch_trap : State → Effect
fetch_trap s = trap_effect instruction_access_exception s
