-- The seventh SAVE enters window 1, which is invalid at reset, and halts the core by 05.
-- WIM is 2. Checked: six saves go from window 0 to 7, 6, 5, 4, 3 and 2 (CWP 2 in PSR F3000082); the seventh is counted.
use Prim.Native.String.{String}
use Rattle.std.specs.Prelude.{ℕ, ◌∷◌, [], List}
use Rattle.lf_worked.specs.Rows.{range, code_at, plain, known, transfer, parity, text_lines}
use Rattle.lf_model.specs.declared.setup.Setup.{Setup}
use Rattle.lf_model.specs.declared.setup.Event.{Event}
use Rattle.lf_model.specs.declared.trace.Trace.{Trace}
use Rattle.lf_model.specs.declared.trace.CoreEnd.TheVariants.{Halt}
use Rattle.lf_model.specs.declared.bus.TurnKind.TheVariants as kinds
use Rattle.lf_model.specs.declared.bus.Why.TheVariants as whys

unfoldable pub window_overflow_setup : Setup
window_overflow_setup = record {
  image = record {
    entry = 0x40000000;
    segments = code_at 0x40000000 (
        0x81E02000  -- save %g0, 0x0, %g0
        ∷ 0x81E02000  -- save %g0, 0x0, %g0
        ∷ 0x81E02000  -- save %g0, 0x0, %g0
        ∷ 0x81E02000  -- save %g0, 0x0, %g0
        ∷ 0x81E02000  -- save %g0, 0x0, %g0
        ∷ 0x81E02000  -- save %g0, 0x0, %g0
        ∷ 0x81E02000  -- save %g0, 0x0, %g0
        ∷ []) ∷ [];
    text = range 0x40000000 28 ∷ [];
  };
  config = plain;
  flips = [];
}

unfoldable pub window_overflow_events : List Event
window_overflow_events = []

unfoldable pub window_overflow_trace : Trace
window_overflow_trace = record {
  cores = record {
    end = Halt 0x05;
    n = 7;
    steps = 8;
    out = [];
    regs = known (
        0x00000000 ∷ 0x00000000 ∷ 0x00000000 ∷ 0x00000000 ∷ 0x00000000 ∷ 0x00000000 ∷ 0x00000000 ∷ 0x00000000
        ∷ 0x00000000 ∷ 0x00000000 ∷ 0x00000000 ∷ 0x00000000 ∷ 0x00000000 ∷ 0x00000000 ∷ 0x00000000 ∷ 0x00000000
        ∷ 0x00000000 ∷ 0x00000000 ∷ 0x00000000 ∷ 0x00000000 ∷ 0x00000000 ∷ 0x00000000 ∷ 0x00000000 ∷ 0x00000000
        ∷ 0x00000000 ∷ 0x00000000 ∷ 0x00000000 ∷ 0x00000000 ∷ 0x00000000 ∷ 0x00000000 ∷ 0x00000000 ∷ 0x00000000 ∷ []);
    psr = 0xF3000082;
    wim = 0x00000002;
    tbr = 0x00000000;
    y = 0x00000000;
    pc = 0x40000018;
    npc = 0x4000001C;
    parity = parity 0 0 0 0;
  } ∷ [];
  ahb_addr = 0x00000000;
  ahb_status = 0x00000000;
  transfers = transfer 0 0 0 kinds.Fetch whys.Absent 0x40000000 0 8 0x0000000000000000 ∷ [];
  order = [];
  fates = [];
  watch = [];
}

unfoldable pub window_overflow_lines : List String
window_overflow_lines =
    "leon3ft report 1"
    ∷ "cores 1"
    ∷ "core 0 halt 05 7 8"
    ∷ "out 0 -"
    ∷ "g 0 00000000 00000000 00000000 00000000 00000000 00000000 00000000 00000000"
    ∷ "o 0 00000000 00000000 00000000 00000000 00000000 00000000 00000000 00000000"
    ∷ "l 0 00000000 00000000 00000000 00000000 00000000 00000000 00000000 00000000"
    ∷ "i 0 00000000 00000000 00000000 00000000 00000000 00000000 00000000 00000000"
    ∷ "ctl 0 F3000082 00000002 00000000 00000000 40000018 4000001C"
    ∷ "parity 0 0 0 0 0"
    ∷ "ahb 00000000 00000000"
    ∷ "transfers 1"
    ∷ "t 0 0 0 fetch absent 40000000 0 0000000000000000"
    ∷ "order 0"
    ∷ "flips 0"
    ∷ "watch 0"
    ∷ "end" ∷ []

unfoldable pub window_overflow_text : List ℕ
unfolding window_overflow_lines
window_overflow_text = text_lines window_overflow_lines
