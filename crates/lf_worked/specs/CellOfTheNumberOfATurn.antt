-- A core stops at cell 2 after an atomic in turn 2, which retires.
-- The place of a stop by 20 is a cell, and no transfer. Checked: SWAP is counted (3 instructions) and is reported; the stop comes in
-- step 5, at the read of %g2.
use Prim.Native.String.{String}
use Rattle.std.specs.Prelude.{ℕ, ◌∷◌, [], List}
use Rattle.lf_worked.specs.Rows.{range, code_at, data_at, plain, known_but, transfer, load, atomic, parity, text_lines}
use Rattle.lf_model.specs.declared.setup.Setup.{Setup}
use Rattle.lf_model.specs.declared.setup.Event.{Event}
use Rattle.lf_model.specs.declared.trace.Trace.{Trace}
use Rattle.lf_model.specs.declared.trace.CoreEnd.TheVariants.{Stop}
use Rattle.lf_model.specs.declared.flip.Flip.TheVariants as flips
use Rattle.lf_model.specs.declared.trace.Fate.TheVariants as fates
use Rattle.lf_model.specs.declared.bus.TurnKind.TheVariants as kinds
use Rattle.lf_model.specs.declared.bus.Why.TheVariants as whys

unfoldable pub cell_of_the_number_of_a_turn_setup : Setup
cell_of_the_number_of_a_turn_setup = record {
  image = record {
    entry = 0x40000000;
    segments =
        code_at 0x40000000 (
        0x03100004  -- sethi %hi(0x40001000), %g1
        ∷ 0xD0004000  -- ld [%g1], %o0
        ∷ 0xD0784000  -- swap [%g1], %o0
        ∷ 0x8600A001  -- add %g2, 0x1, %g3
        ∷ 0x91D02000  -- ta 0x0
        ∷ [])
        ∷ data_at 0x40001000 (0x0000005A ∷ []) ∷ [];
    text = range 0x40000000 20 ∷ [];
  };
  config = plain;
  flips =
      flips.Reg 0 5 2 0
      ∷ flips.Reg 0 5 2 1 ∷ [];
}

unfoldable pub cell_of_the_number_of_a_turn_events : List Event
cell_of_the_number_of_a_turn_events = []

unfoldable pub cell_of_the_number_of_a_turn_trace : Trace
cell_of_the_number_of_a_turn_trace = record {
  cores = record {
    end = Stop 0x20 2 0x05;
    n = 3;
    steps = 6;
    out = [];
    regs = known_but (2 ∷ []) (
        0x00000000 ∷ 0x40001000 ∷ 0x00000000 ∷ 0x00000000 ∷ 0x00000000 ∷ 0x00000000 ∷ 0x00000000 ∷ 0x00000000
        ∷ 0x0000005A ∷ 0x00000000 ∷ 0x00000000 ∷ 0x00000000 ∷ 0x00000000 ∷ 0x00000000 ∷ 0x00000000 ∷ 0x00000000
        ∷ 0x00000000 ∷ 0x00000000 ∷ 0x00000000 ∷ 0x00000000 ∷ 0x00000000 ∷ 0x00000000 ∷ 0x00000000 ∷ 0x00000000
        ∷ 0x00000000 ∷ 0x00000000 ∷ 0x00000000 ∷ 0x00000000 ∷ 0x00000000 ∷ 0x00000000 ∷ 0x00000000 ∷ 0x00000000 ∷ []);
    psr = 0xF3000080;
    wim = 0x00000002;
    tbr = 0x00000000;
    y = 0x00000000;
    pc = 0x4000000C;
    npc = 0x40000010;
    parity = parity 0 0 0 0;
  } ∷ [];
  ahb_addr = 0x00000000;
  ahb_status = 0x00000000;
  transfers =
      transfer 0 0 0 kinds.Fetch whys.Absent 0x40000000 0 8 0x0000000000000000
      ∷ transfer 1 0 2 kinds.Load whys.Absent 0x40001000 0 8 0x0000000000000000
      ∷ transfer 2 0 4 kinds.Atomic whys.None 0x40001000 0 1 0x0000000000000000 ∷ [];
  order =
      load 0 0 3 0x40001000 4 0x0000005A 0
      ∷ atomic 0 1 4 0x40001000 4 0x0000005A 0x0000005A ∷ [];
  fates = fates.Stopped ∷ fates.Stopped ∷ [];
  watch = [];
}

unfoldable pub cell_of_the_number_of_a_turn_lines : List String
cell_of_the_number_of_a_turn_lines =
    "leon3ft report 1"
    ∷ "cores 1"
    ∷ "core 0 stop 20 3 6 2 05"
    ∷ "out 0 -"
    ∷ "g 0 00000000 40001000 -------- 00000000 00000000 00000000 00000000 00000000"
    ∷ "o 0 0000005A 00000000 00000000 00000000 00000000 00000000 00000000 00000000"
    ∷ "l 0 00000000 00000000 00000000 00000000 00000000 00000000 00000000 00000000"
    ∷ "i 0 00000000 00000000 00000000 00000000 00000000 00000000 00000000 00000000"
    ∷ "ctl 0 F3000080 00000002 00000000 00000000 4000000C 40000010"
    ∷ "parity 0 0 0 0 0"
    ∷ "ahb 00000000 00000000"
    ∷ "transfers 3"
    ∷ "t 0 0 0 fetch absent 40000000 0 0000000000000000"
    ∷ "t 1 0 2 load absent 40001000 0 0000000000000000"
    ∷ "t 2 0 4 atomic - 40001000 - 00"
    ∷ "order 2"
    ∷ "L 0 0 3 40001000 0000005A 0"
    ∷ "A 0 1 4 40001000 0000005A 0000005A"
    ∷ "flips 2"
    ∷ "f 0 stopped"
    ∷ "f 1 stopped"
    ∷ "watch 0"
    ∷ "end" ∷ []

unfoldable pub cell_of_the_number_of_a_turn_text : List ℕ
unfolding cell_of_the_number_of_a_turn_lines
cell_of_the_number_of_a_turn_text = text_lines cell_of_the_number_of_a_turn_lines
