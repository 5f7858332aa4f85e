-- The result that a core shows at its end.
use Rattle.std.specs.Prelude.{ℕ, ◌==◌, map, slice_index, Option, Some, None, if◌then◌else◌}
use Rattle.std.specs.List.{range_with_len}
use Rattle.core_parts.specs.CoreValue.{CoreValue}
use Rattle.core_parts.specs.PortState.{arrays_in}
use Rattle.lf_model.specs.Caches.Slot.{history_at}
use Rattle.lf_model.specs.Flips.{is_bad_word}
use Rattle.lf_model.specs.Ledger.CoreAccount.{parity_errors}
use Rattle.lf_model.specs.State.{cell, psr_of}
use Rattle.lf_model.specs.declared.trace.CoreEnd.{CoreEnd}
use Rattle.lf_model.specs.declared.trace.CoreResult.{CoreResult}

-- a register cell that reads bad has no value
abbrev pub cell_shown : CoreValue → ℕ → Option ℕ
cell_shown v c = if is_bad_word (history_at c v.ports.cells) then None else Some (slice_index v.values c)

-- register n of the current window; register 0 is 0
abbrev pub register_shown : CoreValue → ℕ → Option ℕ
register_shown v n = if n == 0 then Some 0 else cell_shown v (cell v.arch.ctl.cwp n)

abbrev pub result_of : CoreValue → CoreEnd → CoreResult
result_of v end = record {
  end = end;
  n = v.arch.n;
  steps = v.steps;
  out = v.out;
  regs = map (register_shown v) (range_with_len 0 32);
  psr = psr_of v.arch.ctl;
  wim = v.arch.wim;
  tbr = v.arch.ctl.tbr;
  y = v.arch.y;
  pc = v.arch.ctl.pc;
  npc = v.arch.ctl.npc;
  parity = parity_errors (arrays_in v.ports);
}
