-- A fetch that misses comes before the registers are read.
-- Step 2 strikes a tag byte of the line of code and two bits of %g1. Checked: step 2 fills by `tag`, step 3 stops by 20.
use Prim.Native.String.{String}
use Rattle.std.specs.Prelude.{ℕ, ◌∷◌, [], List, true}
use Rattle.lf_worked.specs.Rows.{range, code_at, plain, known_but, transfer, parity, text_lines}
use Rattle.lf_model.specs.declared.setup.Setup.{Setup}
use Rattle.lf_model.specs.declared.setup.Event.{Event}
use Rattle.lf_model.specs.declared.trace.Trace.{Trace}
use Rattle.lf_model.specs.declared.trace.CoreEnd.TheVariants.{Stop}
use Rattle.lf_model.specs.declared.flip.Flip.TheVariants as flips
use Rattle.lf_model.specs.declared.trace.Fate.TheVariants as fates
use Rattle.lf_model.specs.declared.bus.TurnKind.TheVariants as kinds
use Rattle.lf_model.specs.declared.bus.Why.TheVariants as whys

unfoldable pub fetch_before_registers_setup : Setup
fetch_before_registers_setup = record {
  image = record {
    entry = 0x40000000;
    segments = code_at 0x40000000 (
        0x82102001  -- or %g0, 0x1, %g1
        ∷ 0x84006001  -- add %g1, 0x1, %g2
        ∷ 0x91D02000  -- ta 0x0
        ∷ []) ∷ [];
    text = range 0x40000000 12 ∷ [];
  };
  config = plain;
  flips =
      flips.Tag 0 2 true 0 0 3 0
      ∷ flips.Reg 0 2 1 0
      ∷ flips.Reg 0 2 1 1 ∷ [];
}

unfoldable pub fetch_before_registers_events : List Event
fetch_before_registers_events = []

unfoldable pub fetch_before_registers_trace : Trace
fetch_before_registers_trace = record {
  cores = record {
    end = Stop 0x20 1 0x05;
    n = 1;
    steps = 4;
    out = [];
    regs = known_but (1 ∷ []) (
        0x00000000 ∷ 0x00000000 ∷ 0x00000000 ∷ 0x00000000 ∷ 0x00000000 ∷ 0x00000000 ∷ 0x00000000 ∷ 0x00000000
        ∷ 0x00000000 ∷ 0x00000000 ∷ 0x00000000 ∷ 0x00000000 ∷ 0x00000000 ∷ 0x00000000 ∷ 0x00000000 ∷ 0x00000000
        ∷ 0x00000000 ∷ 0x00000000 ∷ 0x00000000 ∷ 0x00000000 ∷ 0x00000000 ∷ 0x00000000 ∷ 0x00000000 ∷ 0x00000000
        ∷ 0x00000000 ∷ 0x00000000 ∷ 0x00000000 ∷ 0x00000000 ∷ 0x00000000 ∷ 0x00000000 ∷ 0x00000000 ∷ 0x00000000 ∷ []);
    psr = 0xF3000080;
    wim = 0x00000002;
    tbr = 0x00000000;
    y = 0x00000000;
    pc = 0x40000004;
    npc = 0x40000008;
    parity = parity 1 0 0 0;
  } ∷ [];
  ahb_addr = 0x00000000;
  ahb_status = 0x00000000;
  transfers =
      transfer 0 0 0 kinds.Fetch whys.Absent 0x40000000 0 8 0x0000000000000000
      ∷ transfer 1 0 2 kinds.Fetch whys.Tag 0x40000000 0 8 0x0000000000000000 ∷ [];
  order = [];
  fates = fates.Discarded ∷ fates.Stopped ∷ fates.Stopped ∷ [];
  watch = [];
}

unfoldable pub fetch_before_registers_lines : List String
fetch_before_registers_lines =
    "leon3ft report 1"
    ∷ "cores 1"
    ∷ "core 0 stop 20 1 4 1 05"
    ∷ "out 0 -"
    ∷ "g 0 00000000 -------- 00000000 00000000 00000000 00000000 00000000 00000000"
    ∷ "o 0 00000000 00000000 00000000 00000000 00000000 00000000 00000000 00000000"
    ∷ "l 0 00000000 00000000 00000000 00000000 00000000 00000000 00000000 00000000"
    ∷ "i 0 00000000 00000000 00000000 00000000 00000000 00000000 00000000 00000000"
    ∷ "ctl 0 F3000080 00000002 00000000 00000000 40000004 40000008"
    ∷ "parity 0 1 0 0 0"
    ∷ "ahb 00000000 00000000"
    ∷ "transfers 2"
    ∷ "t 0 0 0 fetch absent 40000000 0 0000000000000000"
    ∷ "t 1 0 2 fetch tag 40000000 0 0000000000000000"
    ∷ "order 0"
    ∷ "flips 3"
    ∷ "f 0 discarded"
    ∷ "f 1 stopped"
    ∷ "f 2 stopped"
    ∷ "watch 0"
    ∷ "end" ∷ []

unfoldable pub fetch_before_registers_text : List ℕ
unfolding fetch_before_registers_lines
fetch_before_registers_text = text_lines fetch_before_registers_lines
