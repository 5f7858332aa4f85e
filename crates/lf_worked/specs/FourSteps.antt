-- A limit of four steps, one before the halt.
-- Checked: three instructions, the byte is out, and PC is that of `ta 0`.
use Prim.Native.String.{String}
use Rattle.std.specs.Prelude.{ℕ, ◌∷◌, [], List}
use Rattle.lf_worked.specs.Rows.{range, code_at, plain, known, transfer, parity, text_lines}
use Rattle.lf_model.specs.declared.setup.Setup.{Setup}
use Rattle.lf_model.specs.declared.setup.Event.{Event}
use Rattle.lf_model.specs.declared.trace.Trace.{Trace}
use Rattle.lf_model.specs.declared.trace.CoreEnd.TheVariants.{Limit}
use Rattle.lf_model.specs.declared.bus.TurnKind.TheVariants as kinds
use Rattle.lf_model.specs.declared.bus.Why.TheVariants as whys

unfoldable pub four_steps_setup : Setup
four_steps_setup = record {
  image = record {
    entry = 0x40000000;
    segments = code_at 0x40000000 (
        0x03200000  -- sethi %hi(0x80000000), %g1
        ∷ 0x90102041  -- or %g0, 0x41, %o0
        ∷ 0xD0206100  -- st %o0, [%g1 + 0x100]
        ∷ 0x91D02000  -- ta 0x0
        ∷ 0x01000000  -- nop
        ∷ []) ∷ [];
    text = range 0x40000000 20 ∷ [];
  };
  config = record plain { steps = 4 };
  flips = [];
}

unfoldable pub four_steps_events : List Event
four_steps_events = []

unfoldable pub four_steps_trace : Trace
four_steps_trace = record {
  cores = record {
    end = Limit;
    n = 3;
    steps = 4;
    out = 0x41 ∷ [];
    regs = known (
        0x00000000 ∷ 0x80000000 ∷ 0x00000000 ∷ 0x00000000 ∷ 0x00000000 ∷ 0x00000000 ∷ 0x00000000 ∷ 0x00000000
        ∷ 0x00000041 ∷ 0x00000000 ∷ 0x00000000 ∷ 0x00000000 ∷ 0x00000000 ∷ 0x00000000 ∷ 0x00000000 ∷ 0x00000000
        ∷ 0x00000000 ∷ 0x00000000 ∷ 0x00000000 ∷ 0x00000000 ∷ 0x00000000 ∷ 0x00000000 ∷ 0x00000000 ∷ 0x00000000
        ∷ 0x00000000 ∷ 0x00000000 ∷ 0x00000000 ∷ 0x00000000 ∷ 0x00000000 ∷ 0x00000000 ∷ 0x00000000 ∷ 0x00000000 ∷ []);
    psr = 0xF3000080;
    wim = 0x00000002;
    tbr = 0x00000000;
    y = 0x00000000;
    pc = 0x4000000C;
    npc = 0x40000010;
    parity = parity 0 0 0 0;
  } ∷ [];
  ahb_addr = 0x00000000;
  ahb_status = 0x00000000;
  transfers = transfer 0 0 0 kinds.Fetch whys.Absent 0x40000000 0 8 0x0000000000000000 ∷ [];
  order = [];
  fates = [];
  watch = [];
}

unfoldable pub four_steps_lines : List String
four_steps_lines =
    "leon3ft report 1"
    ∷ "cores 1"
    ∷ "core 0 limit 3 4"
    ∷ "out 0 41"
    ∷ "g 0 00000000 80000000 00000000 00000000 00000000 00000000 00000000 00000000"
    ∷ "o 0 00000041 00000000 00000000 00000000 00000000 00000000 00000000 00000000"
    ∷ "l 0 00000000 00000000 00000000 00000000 00000000 00000000 00000000 00000000"
    ∷ "i 0 00000000 00000000 00000000 00000000 00000000 00000000 00000000 00000000"
    ∷ "ctl 0 F3000080 00000002 00000000 00000000 4000000C 40000010"
    ∷ "parity 0 0 0 0 0"
    ∷ "ahb 00000000 00000000"
    ∷ "transfers 1"
    ∷ "t 0 0 0 fetch absent 40000000 0 0000000000000000"
    ∷ "order 0"
    ∷ "flips 0"
    ∷ "watch 0"
    ∷ "end" ∷ []

unfoldable pub four_steps_text : List ℕ
unfolding four_steps_lines
four_steps_text = text_lines four_steps_lines
