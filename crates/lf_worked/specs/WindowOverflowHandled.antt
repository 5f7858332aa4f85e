-- A window overflow trap with traps enabled goes to its handler.
-- TBR is 40000000, so trap 05 enters at 40000050. Six of seven saves go to window 2; the seventh traps. Checked: the handler runs
-- in window 1, whose WIM bit is not looked at (CWP 1, S, PS, ET 0: PSR F30000C1), with PC and nPC in %l1 and %l2.
use Prim.Native.String.{String}
use Rattle.std.specs.Prelude.{ℕ, ◌∷◌, [], List}
use Rattle.lf_worked.specs.Rows.{range, code_at, plain, known, transfer, parity, text_lines}
use Rattle.lf_model.specs.declared.setup.Setup.{Setup}
use Rattle.lf_model.specs.declared.setup.Event.{Event}
use Rattle.lf_model.specs.declared.trace.Trace.{Trace}
use Rattle.lf_model.specs.declared.trace.CoreEnd.TheVariants.{Halt}
use Rattle.lf_model.specs.declared.bus.TurnKind.TheVariants as kinds
use Rattle.lf_model.specs.declared.bus.Why.TheVariants as whys

unfoldable pub window_overflow_handled_setup : Setup
window_overflow_handled_setup = record {
  image = record {
    entry = 0x40000000;
    segments =
        code_at 0x40000000 (
        0x03100000  -- sethi %hi(0x40000000), %g1
        ∷ 0x81986000  -- wr %g1, 0x0, %tbr
        ∷ 0x818820A0  -- wr %g0, 0xA0, %psr
        ∷ 0x81E00000  -- save %g0, %g0, %g0
        ∷ 0x81E00000  -- save %g0, %g0, %g0
        ∷ 0x81E00000  -- save %g0, %g0, %g0
        ∷ 0x81E00000  -- save %g0, %g0, %g0
        ∷ 0x81E00000  -- save %g0, %g0, %g0
        ∷ 0x81E00000  -- save %g0, %g0, %g0
        ∷ 0x81E00000  -- save %g0, %g0, %g0
        ∷ [])
        ∷ code_at 0x40000050 (
        0x90102005  -- or %g0, 0x5, %o0
        ∷ 0x91D02000  -- ta 0x0
        ∷ []) ∷ [];
    text =
        range 0x40000000 40
        ∷ range 0x40000050 8 ∷ [];
  };
  config = plain;
  flips = [];
}

unfoldable pub window_overflow_handled_events : List Event
window_overflow_handled_events = []

unfoldable pub window_overflow_handled_trace : Trace
window_overflow_handled_trace = record {
  cores = record {
    end = Halt 0x80;
    n = 12;
    steps = 15;
    out = [];
    regs = known (
        0x00000000 ∷ 0x40000000 ∷ 0x00000000 ∷ 0x00000000 ∷ 0x00000000 ∷ 0x00000000 ∷ 0x00000000 ∷ 0x00000000
        ∷ 0x00000005 ∷ 0x00000000 ∷ 0x00000000 ∷ 0x00000000 ∷ 0x00000000 ∷ 0x00000000 ∷ 0x00000000 ∷ 0x00000000
        ∷ 0x00000000 ∷ 0x40000024 ∷ 0x40000028 ∷ 0x00000000 ∷ 0x00000000 ∷ 0x00000000 ∷ 0x00000000 ∷ 0x00000000
        ∷ 0x00000000 ∷ 0x00000000 ∷ 0x00000000 ∷ 0x00000000 ∷ 0x00000000 ∷ 0x00000000 ∷ 0x00000000 ∷ 0x00000000 ∷ []);
    psr = 0xF30000C1;
    wim = 0x00000002;
    tbr = 0x40000050;
    y = 0x00000000;
    pc = 0x40000054;
    npc = 0x40000058;
    parity = parity 0 0 0 0;
  } ∷ [];
  ahb_addr = 0x00000000;
  ahb_status = 0x00000000;
  transfers =
      transfer 0 0 0 kinds.Fetch whys.Absent 0x40000000 0 8 0x0000000000000000
      ∷ transfer 1 0 9 kinds.Fetch whys.Absent 0x40000020 0 8 0x0000000000000000
      ∷ transfer 2 0 12 kinds.Fetch whys.Absent 0x40000040 0 8 0x0000000000000000 ∷ [];
  order = [];
  fates = [];
  watch = [];
}

unfoldable pub window_overflow_handled_lines : List String
window_overflow_handled_lines =
    "leon3ft report 1"
    ∷ "cores 1"
    ∷ "core 0 halt 80 12 15"
    ∷ "out 0 -"
    ∷ "g 0 00000000 40000000 00000000 00000000 00000000 00000000 00000000 00000000"
    ∷ "o 0 00000005 00000000 00000000 00000000 00000000 00000000 00000000 00000000"
    ∷ "l 0 00000000 40000024 40000028 00000000 00000000 00000000 00000000 00000000"
    ∷ "i 0 00000000 00000000 00000000 00000000 00000000 00000000 00000000 00000000"
    ∷ "ctl 0 F30000C1 00000002 40000050 00000000 40000054 40000058"
    ∷ "parity 0 0 0 0 0"
    ∷ "ahb 00000000 00000000"
    ∷ "transfers 3"
    ∷ "t 0 0 0 fetch absent 40000000 0 0000000000000000"
    ∷ "t 1 0 9 fetch absent 40000020 0 0000000000000000"
    ∷ "t 2 0 12 fetch absent 40000040 0 0000000000000000"
    ∷ "order 0"
    ∷ "flips 0"
    ∷ "watch 0"
    ∷ "end" ∷ []

unfoldable pub window_overflow_handled_text : List ℕ
unfolding window_overflow_handled_lines
window_overflow_handled_text = text_lines window_overflow_handled_lines
