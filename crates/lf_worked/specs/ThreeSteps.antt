-- A limit of three steps: one fill and two instructions.
-- Checked: PC is that of the third instruction, and nothing was put out.
use Prim.Native.String.{String}
use Rattle.std.specs.Prelude.{ℕ, ◌∷◌, [], List}
use Rattle.lf_worked.specs.Rows.{range, code_at, plain, known, transfer, parity, text_lines}
use Rattle.lf_model.specs.declared.setup.Setup.{Setup}
use Rattle.lf_model.specs.declared.setup.Event.{Event}
use Rattle.lf_model.specs.declared.trace.Trace.{Trace}
use Rattle.lf_model.specs.declared.trace.CoreEnd.TheVariants.{Limit}
use Rattle.lf_model.specs.declared.bus.TurnKind.TheVariants as kinds
use Rattle.lf_model.specs.declared.bus.Why.TheVariants as whys

unfoldable pub three_steps_setup : Setup
three_steps_setup = record {
  image = record {
    entry = 0x40000000;
    segments = code_at 0x40000000 (
        0x03200000  -- sethi %hi(0x80000000), %g1
        ∷ 0x90102041  -- or %g0, 0x41, %o0
        ∷ 0xD0206100  -- st %o0, [%g1 + 0x100]
        ∷ 0x91D02000  -- ta 0x0
        ∷ 0x01000000  -- nop
        ∷ []) ∷ [];
    text = range 0x40000000 20 ∷ [];
  };
  config = record plain { steps = 3 };
  flips = [];
}

unfoldable pub three_steps_events : List Event
three_steps_events = []

unfoldable pub three_steps_trace : Trace
three_steps_trace = record {
  cores = record {
    end = Limit;
    n = 2;
    steps = 3;
    out = [];
    regs = known (
        0x00000000 ∷ 0x80000000 ∷ 0x00000000 ∷ 0x00000000 ∷ 0x00000000 ∷ 0x00000000 ∷ 0x00000000 ∷ 0x00000000
        ∷ 0x00000041 ∷ 0x00000000 ∷ 0x00000000 ∷ 0x00000000 ∷ 0x00000000 ∷ 0x00000000 ∷ 0x00000000 ∷ 0x00000000
        ∷ 0x00000000 ∷ 0x00000000 ∷ 0x00000000 ∷ 0x00000000 ∷ 0x00000000 ∷ 0x00000000 ∷ 0x00000000 ∷ 0x00000000
        ∷ 0x00000000 ∷ 0x00000000 ∷ 0x00000000 ∷ 0x00000000 ∷ 0x00000000 ∷ 0x00000000 ∷ 0x00000000 ∷ 0x00000000 ∷ []);
    psr = 0xF3000080;
    wim = 0x00000002;
    tbr = 0x00000000;
    y = 0x00000000;
    pc = 0x40000008;
    npc = 0x4000000C;
    parity = parity 0 0 0 0;
  } ∷ [];
  ahb_addr = 0x00000000;
  ahb_status = 0x00000000;
  transfers = transfer 0 0 0 kinds.Fetch whys.Absent 0x40000000 0 8 0x0000000000000000 ∷ [];
  order = [];
  fates = [];
  watch = [];
}

unfoldable pub three_steps_lines : List String
three_steps_lines =
    "leon3ft report 1"
    ∷ "cores 1"
    ∷ "core 0 limit 2 3"
    ∷ "out 0 -"
    ∷ "g 0 00000000 80000000 00000000 00000000 00000000 00000000 00000000 00000000"
    ∷ "o 0 00000041 00000000 00000000 00000000 00000000 00000000 00000000 00000000"
    ∷ "l 0 00000000 00000000 00000000 00000000 00000000 00000000 00000000 00000000"
    ∷ "i 0 00000000 00000000 00000000 00000000 00000000 00000000 00000000 00000000"
    ∷ "ctl 0 F3000080 00000002 00000000 00000000 40000008 4000000C"
    ∷ "parity 0 0 0 0 0"
    ∷ "ahb 00000000 00000000"
    ∷ "transfers 1"
    ∷ "t 0 0 0 fetch absent 40000000 0 0000000000000000"
    ∷ "order 0"
    ∷ "flips 0"
    ∷ "watch 0"
    ∷ "end" ∷ []

unfoldable pub three_steps_text : List ℕ
unfolding three_steps_lines
three_steps_text = text_lines three_steps_lines
