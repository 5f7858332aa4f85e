-- A load whose address register is bad makes no look at the data cache.
-- Step 4 strikes a tag byte of the resident line and two bits of %g1. Checked: the tag counter stays 0 and the flip dormant.
use Prim.Native.String.{String}
use Rattle.std.specs.Prelude.{ℕ, ◌∷◌, [], List, false}
use Rattle.lf_worked.specs.Rows.{range, code_at, data_at, plain, known_but, transfer, load, parity, text_lines}
use Rattle.lf_model.specs.declared.setup.Setup.{Setup}
use Rattle.lf_model.specs.declared.setup.Event.{Event}
use Rattle.lf_model.specs.declared.trace.Trace.{Trace}
use Rattle.lf_model.specs.declared.trace.CoreEnd.TheVariants.{Stop}
use Rattle.lf_model.specs.declared.flip.Flip.TheVariants as flips
use Rattle.lf_model.specs.declared.trace.Fate.TheVariants as fates
use Rattle.lf_model.specs.declared.bus.TurnKind.TheVariants as kinds
use Rattle.lf_model.specs.declared.bus.Why.TheVariants as whys

unfoldable pub no_look_before_a_stop_setup : Setup
no_look_before_a_stop_setup = record {
  image = record {
    entry = 0x40000000;
    segments =
        code_at 0x40000000 (
        0x03100004  -- sethi %hi(0x40001000), %g1
        ∷ 0xD0004000  -- ld [%g1], %o0
        ∷ 0xD2004000  -- ld [%g1], %o1
        ∷ 0x91D02000  -- ta 0x0
        ∷ [])
        ∷ data_at 0x40001000 (0x0000005A ∷ []) ∷ [];
    text = range 0x40000000 16 ∷ [];
  };
  config = plain;
  flips =
      flips.Tag 0 4 false 0 0 3 0
      ∷ flips.Reg 0 4 1 2
      ∷ flips.Reg 0 4 1 3 ∷ [];
}

unfoldable pub no_look_before_a_stop_events : List Event
no_look_before_a_stop_events = []

unfoldable pub no_look_before_a_stop_trace : Trace
no_look_before_a_stop_trace = record {
  cores = record {
    end = Stop 0x20 1 0x06;
    n = 2;
    steps = 5;
    out = [];
    regs = known_but (1 ∷ []) (
        0x00000000 ∷ 0x00000000 ∷ 0x00000000 ∷ 0x00000000 ∷ 0x00000000 ∷ 0x00000000 ∷ 0x00000000 ∷ 0x00000000
        ∷ 0x0000005A ∷ 0x00000000 ∷ 0x00000000 ∷ 0x00000000 ∷ 0x00000000 ∷ 0x00000000 ∷ 0x00000000 ∷ 0x00000000
        ∷ 0x00000000 ∷ 0x00000000 ∷ 0x00000000 ∷ 0x00000000 ∷ 0x00000000 ∷ 0x00000000 ∷ 0x00000000 ∷ 0x00000000
        ∷ 0x00000000 ∷ 0x00000000 ∷ 0x00000000 ∷ 0x00000000 ∷ 0x00000000 ∷ 0x00000000 ∷ 0x00000000 ∷ 0x00000000 ∷ []);
    psr = 0xF3000080;
    wim = 0x00000002;
    tbr = 0x00000000;
    y = 0x00000000;
    pc = 0x40000008;
    npc = 0x4000000C;
    parity = parity 0 0 0 0;
  } ∷ [];
  ahb_addr = 0x00000000;
  ahb_status = 0x00000000;
  transfers =
      transfer 0 0 0 kinds.Fetch whys.Absent 0x40000000 0 8 0x0000000000000000
      ∷ transfer 1 0 2 kinds.Load whys.Absent 0x40001000 0 8 0x0000000000000000 ∷ [];
  order = load 0 0 3 0x40001000 4 0x0000005A 0 ∷ [];
  fates = fates.Dormant ∷ fates.Stopped ∷ fates.Stopped ∷ [];
  watch = [];
}

unfoldable pub no_look_before_a_stop_lines : List String
no_look_before_a_stop_lines =
    "leon3ft report 1"
    ∷ "cores 1"
    ∷ "core 0 stop 20 2 5 1 06"
    ∷ "out 0 -"
    ∷ "g 0 00000000 -------- 00000000 00000000 00000000 00000000 00000000 00000000"
    ∷ "o 0 0000005A 00000000 00000000 00000000 00000000 00000000 00000000 00000000"
    ∷ "l 0 00000000 00000000 00000000 00000000 00000000 00000000 00000000 00000000"
    ∷ "i 0 00000000 00000000 00000000 00000000 00000000 00000000 00000000 00000000"
    ∷ "ctl 0 F3000080 00000002 00000000 00000000 40000008 4000000C"
    ∷ "parity 0 0 0 0 0"
    ∷ "ahb 00000000 00000000"
    ∷ "transfers 2"
    ∷ "t 0 0 0 fetch absent 40000000 0 0000000000000000"
    ∷ "t 1 0 2 load absent 40001000 0 0000000000000000"
    ∷ "order 1"
    ∷ "L 0 0 3 40001000 0000005A 0"
    ∷ "flips 3"
    ∷ "f 0 dormant"
    ∷ "f 1 stopped"
    ∷ "f 2 stopped"
    ∷ "watch 0"
    ∷ "end" ∷ []

unfoldable pub no_look_before_a_stop_text : List ℕ
unfolding no_look_before_a_stop_lines
no_look_before_a_stop_text = text_lines no_look_before_a_stop_lines
