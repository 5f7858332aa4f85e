-- A limit of just the steps that the program needs: it halts.
-- Checked: the report is that of the run without a limit.
use Prim.Native.String.{String}
use Rattle.std.specs.Prelude.{ℕ, ◌∷◌, [], List}
use Rattle.lf_worked.specs.Rows.{range, code_at, plain, known, transfer, parity, text_lines}
use Rattle.lf_model.specs.declared.setup.Setup.{Setup}
use Rattle.lf_model.specs.declared.setup.Event.{Event}
use Rattle.lf_model.specs.declared.trace.Trace.{Trace}
use Rattle.lf_model.specs.declared.trace.CoreEnd.TheVariants.{Halt}
use Rattle.lf_model.specs.declared.bus.TurnKind.TheVariants as kinds
use Rattle.lf_model.specs.declared.bus.Why.TheVariants as whys

unfoldable pub five_steps_setup : Setup
five_steps_setup = record {
  image = record {
    entry = 0x40000000;
    segments = code_at 0x40000000 (
        0x03200000  -- sethi %hi(0x80000000), %g1
        ∷ 0x90102041  -- or %g0, 0x41, %o0
        ∷ 0xD0206100  -- st %o0, [%g1 + 0x100]
        ∷ 0x91D02000  -- ta 0x0
        ∷ 0x01000000  -- nop
        ∷ []) ∷ [];
    text = range 0x40000000 20 ∷ [];
  };
  config = record plain { steps = 5 };
  flips = [];
}

unfoldable pub five_steps_events : List Event
five_steps_events = []

unfoldable pub five_steps_trace : Trace
five_steps_trace = record {
  cores = record {
    end = Halt 0x80;
    n = 4;
    steps = 5;
    out = 0x41 ∷ [];
    regs = known (
        0x00000000 ∷ 0x80000000 ∷ 0x00000000 ∷ 0x00000000 ∷ 0x00000000 ∷ 0x00000000 ∷ 0x00000000 ∷ 0x00000000
        ∷ 0x00000041 ∷ 0x00000000 ∷ 0x00000000 ∷ 0x00000000 ∷ 0x00000000 ∷ 0x00000000 ∷ 0x00000000 ∷ 0x00000000
        ∷ 0x00000000 ∷ 0x00000000 ∷ 0x00000000 ∷ 0x00000000 ∷ 0x00000000 ∷ 0x00000000 ∷ 0x00000000 ∷ 0x00000000
        ∷ 0x00000000 ∷ 0x00000000 ∷ 0x00000000 ∷ 0x00000000 ∷ 0x00000000 ∷ 0x00000000 ∷ 0x00000000 ∷ 0x00000000 ∷ []);
    psr = 0xF3000080;
    wim = 0x00000002;
    tbr = 0x00000000;
    y = 0x00000000;
    pc = 0x4000000C;
    npc = 0x40000010;
    parity = parity 0 0 0 0;
  } ∷ [];
  ahb_addr = 0x00000000;
  ahb_status = 0x00000000;
  transfers = transfer 0 0 0 kinds.Fetch whys.Absent 0x40000000 0 8 0x0000000000000000 ∷ [];
  order = [];
  fates = [];
  watch = [];
}

unfoldable pub five_steps_lines : List String
five_steps_lines =
    "leon3ft report 1"
    ∷ "cores 1"
    ∷ "core 0 halt 80 4 5"
    ∷ "out 0 41"
    ∷ "g 0 00000000 80000000 00000000 00000000 00000000 00000000 00000000 00000000"
    ∷ "o 0 00000041 00000000 00000000 00000000 00000000 00000000 00000000 00000000"
    ∷ "l 0 00000000 00000000 00000000 00000000 00000000 00000000 00000000 00000000"
    ∷ "i 0 00000000 00000000 00000000 00000000 00000000 00000000 00000000 00000000"
    ∷ "ctl 0 F3000080 00000002 00000000 00000000 4000000C 40000010"
    ∷ "parity 0 0 0 0 0"
    ∷ "ahb 00000000 00000000"
    ∷ "transfers 1"
    ∷ "t 0 0 0 fetch absent 40000000 0 0000000000000000"
    ∷ "order 0"
    ∷ "flips 0"
    ∷ "watch 0"
    ∷ "end" ∷ []

unfoldable pub five_steps_text : List ℕ
unfolding five_steps_lines
five_steps_text = text_lines five_steps_lines
