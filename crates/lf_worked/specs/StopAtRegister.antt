-- A register with two turned bits stops the core that reads it, by 20.
-- Step 2 strikes cell 1 (%g1) and makes the second instruction, which does not read it; step 3 does. Checked: place is the
-- cell, 1, and 05 the columns of bits 0 and 1; %g1 is reported without a value; nothing is put out.
use Prim.Native.String.{String}
use Rattle.std.specs.Prelude.{ℕ, ◌∷◌, [], List}
use Rattle.lf_worked.specs.Rows.{range, code_at, plain, known_but, transfer, parity, text_lines}
use Rattle.lf_model.specs.declared.setup.Setup.{Setup}
use Rattle.lf_model.specs.declared.setup.Event.{Event}
use Rattle.lf_model.specs.declared.trace.Trace.{Trace}
use Rattle.lf_model.specs.declared.trace.CoreEnd.TheVariants.{Stop}
use Rattle.lf_model.specs.declared.flip.Flip.TheVariants as flips
use Rattle.lf_model.specs.declared.trace.Fate.TheVariants as fates
use Rattle.lf_model.specs.declared.bus.TurnKind.TheVariants as kinds
use Rattle.lf_model.specs.declared.bus.Why.TheVariants as whys

unfoldable pub stop_at_register_setup : Setup
stop_at_register_setup = record {
  image = record {
    entry = 0x40000000;
    segments = code_at 0x40000000 (
        0x03200000  -- sethi %hi(0x80000000), %g1
        ∷ 0x90102041  -- or %g0, 0x41, %o0
        ∷ 0xD0206100  -- st %o0, [%g1 + 0x100]
        ∷ 0x91D02000  -- ta 0x0
        ∷ 0x01000000  -- nop
        ∷ []) ∷ [];
    text = range 0x40000000 20 ∷ [];
  };
  config = plain;
  flips =
      flips.Reg 0 2 1 0
      ∷ flips.Reg 0 2 1 1 ∷ [];
}

unfoldable pub stop_at_register_events : List Event
stop_at_register_events = []

unfoldable pub stop_at_register_trace : Trace
stop_at_register_trace = record {
  cores = record {
    end = Stop 0x20 1 0x05;
    n = 2;
    steps = 4;
    out = [];
    regs = known_but (1 ∷ []) (
        0x00000000 ∷ 0x00000000 ∷ 0x00000000 ∷ 0x00000000 ∷ 0x00000000 ∷ 0x00000000 ∷ 0x00000000 ∷ 0x00000000
        ∷ 0x00000041 ∷ 0x00000000 ∷ 0x00000000 ∷ 0x00000000 ∷ 0x00000000 ∷ 0x00000000 ∷ 0x00000000 ∷ 0x00000000
        ∷ 0x00000000 ∷ 0x00000000 ∷ 0x00000000 ∷ 0x00000000 ∷ 0x00000000 ∷ 0x00000000 ∷ 0x00000000 ∷ 0x00000000
        ∷ 0x00000000 ∷ 0x00000000 ∷ 0x00000000 ∷ 0x00000000 ∷ 0x00000000 ∷ 0x00000000 ∷ 0x00000000 ∷ 0x00000000 ∷ []);
    psr = 0xF3000080;
    wim = 0x00000002;
    tbr = 0x00000000;
    y = 0x00000000;
    pc = 0x40000008;
    npc = 0x4000000C;
    parity = parity 0 0 0 0;
  } ∷ [];
  ahb_addr = 0x00000000;
  ahb_status = 0x00000000;
  transfers = transfer 0 0 0 kinds.Fetch whys.Absent 0x40000000 0 8 0x0000000000000000 ∷ [];
  order = [];
  fates = fates.Stopped ∷ fates.Stopped ∷ [];
  watch = [];
}

unfoldable pub stop_at_register_lines : List String
stop_at_register_lines =
    "leon3ft report 1"
    ∷ "cores 1"
    ∷ "core 0 stop 20 2 4 1 05"
    ∷ "out 0 -"
    ∷ "g 0 00000000 -------- 00000000 00000000 00000000 00000000 00000000 00000000"
    ∷ "o 0 00000041 00000000 00000000 00000000 00000000 00000000 00000000 00000000"
    ∷ "l 0 00000000 00000000 00000000 00000000 00000000 00000000 00000000 00000000"
    ∷ "i 0 00000000 00000000 00000000 00000000 00000000 00000000 00000000 00000000"
    ∷ "ctl 0 F3000080 00000002 00000000 00000000 40000008 4000000C"
    ∷ "parity 0 0 0 0 0"
    ∷ "ahb 00000000 00000000"
    ∷ "transfers 1"
    ∷ "t 0 0 0 fetch absent 40000000 0 0000000000000000"
    ∷ "order 0"
    ∷ "flips 2"
    ∷ "f 0 stopped"
    ∷ "f 1 stopped"
    ∷ "watch 0"
    ∷ "end" ∷ []

unfoldable pub stop_at_register_text : List ℕ
unfolding stop_at_register_lines
stop_at_register_text = text_lines stop_at_register_lines
