-- Two lines of one set whose addresses differ in bit 16 alone.
-- Both are of set 3 of 8. Checked: they take the ways 0 and 1 and each load hits its own; tag byte 1 of way 1, set 3, is struck in
-- step 7, and the load fills way 1 again, by `tag`.
use Prim.Native.String.{String}
use Rattle.std.specs.Prelude.{ℕ, ◌∷◌, [], List, false}
use Rattle.lf_worked.specs.Rows.{range, code_at, data_at, plain, shape, known, transfer, load, parity, text_lines}
use Rattle.lf_model.specs.declared.setup.Setup.{Setup}
use Rattle.lf_model.specs.declared.setup.Event.{Event}
use Rattle.lf_model.specs.declared.trace.Trace.{Trace}
use Rattle.lf_model.specs.declared.trace.CoreEnd.TheVariants.{Halt}
use Rattle.lf_model.specs.declared.flip.Flip.TheVariants as flips
use Rattle.lf_model.specs.declared.trace.Fate.TheVariants as fates
use Rattle.lf_model.specs.declared.bus.TurnKind.TheVariants as kinds
use Rattle.lf_model.specs.declared.bus.Why.TheVariants as whys

unfoldable pub far_lines_of_one_set_setup : Setup
far_lines_of_one_set_setup = record {
  image = record {
    entry = 0x40000000;
    segments =
        code_at 0x40000000 (
        0x03100004  -- sethi %hi(0x40001000), %g1
        ∷ 0x05100044  -- sethi %hi(0x40011000), %g2
        ∷ 0xD0006060  -- ld [%g1 + 0x60], %o0
        ∷ 0xD200A060  -- ld [%g2 + 0x60], %o1
        ∷ 0xD4006060  -- ld [%g1 + 0x60], %o2
        ∷ 0xD600A060  -- ld [%g2 + 0x60], %o3
        ∷ 0x91D02000  -- ta 0x0
        ∷ [])
        ∷ data_at 0x40001060 (0x00000001 ∷ [])
        ∷ data_at 0x40011060 (0x00000002 ∷ []) ∷ [];
    text = range 0x40000000 28 ∷ [];
  };
  config = record plain { load_cache = shape 2 8 };
  flips = flips.Tag 0 7 false 1 3 1 0 ∷ [];
}

unfoldable pub far_lines_of_one_set_events : List Event
far_lines_of_one_set_events = []

unfoldable pub far_lines_of_one_set_trace : Trace
far_lines_of_one_set_trace = record {
  cores = record {
    end = Halt 0x80;
    n = 7;
    steps = 11;
    out = [];
    regs = known (
        0x00000000 ∷ 0x40001000 ∷ 0x40011000 ∷ 0x00000000 ∷ 0x00000000 ∷ 0x00000000 ∷ 0x00000000 ∷ 0x00000000
        ∷ 0x00000001 ∷ 0x00000002 ∷ 0x00000001 ∷ 0x00000002 ∷ 0x00000000 ∷ 0x00000000 ∷ 0x00000000 ∷ 0x00000000
        ∷ 0x00000000 ∷ 0x00000000 ∷ 0x00000000 ∷ 0x00000000 ∷ 0x00000000 ∷ 0x00000000 ∷ 0x00000000 ∷ 0x00000000
        ∷ 0x00000000 ∷ 0x00000000 ∷ 0x00000000 ∷ 0x00000000 ∷ 0x00000000 ∷ 0x00000000 ∷ 0x00000000 ∷ 0x00000000 ∷ []);
    psr = 0xF3000080;
    wim = 0x00000002;
    tbr = 0x00000000;
    y = 0x00000000;
    pc = 0x40000018;
    npc = 0x4000001C;
    parity = parity 0 0 1 0;
  } ∷ [];
  ahb_addr = 0x00000000;
  ahb_status = 0x00000000;
  transfers =
      transfer 0 0 0 kinds.Fetch whys.Absent 0x40000000 0 8 0x0000000000000000
      ∷ transfer 1 0 3 kinds.Load whys.Absent 0x40001060 0 8 0x0000000000000000
      ∷ transfer 2 0 5 kinds.Load whys.Absent 0x40011060 1 8 0x0000000000000000
      ∷ transfer 3 0 8 kinds.Load whys.Absent 0x40011060 1 8 0x0000000000000000 ∷ [];
  order =
      load 0 0 4 0x40001060 4 0x00000001 0
      ∷ load 0 1 6 0x40011060 4 0x00000002 1
      ∷ load 0 2 7 0x40001060 4 0x00000001 0
      ∷ load 0 3 9 0x40011060 4 0x00000002 1 ∷ [];
  fates = fates.Discarded ∷ [];
  watch = [];
}

unfoldable pub far_lines_of_one_set_lines : List String
far_lines_of_one_set_lines =
    "leon3ft report 1"
    ∷ "cores 1"
    ∷ "core 0 halt 80 7 11"
    ∷ "out 0 -"
    ∷ "g 0 00000000 40001000 40011000 00000000 00000000 00000000 00000000 00000000"
    ∷ "o 0 00000001 00000002 00000001 00000002 00000000 00000000 00000000 00000000"
    ∷ "l 0 00000000 00000000 00000000 00000000 00000000 00000000 00000000 00000000"
    ∷ "i 0 00000000 00000000 00000000 00000000 00000000 00000000 00000000 00000000"
    ∷ "ctl 0 F3000080 00000002 00000000 00000000 40000018 4000001C"
    ∷ "parity 0 0 0 1 0"
    ∷ "ahb 00000000 00000000"
    ∷ "transfers 4"
    ∷ "t 0 0 0 fetch absent 40000000 0 0000000000000000"
    ∷ "t 1 0 3 load absent 40001060 0 0000000000000000"
    ∷ "t 2 0 5 load absent 40011060 1 0000000000000000"
    ∷ "t 3 0 8 load absent 40011060 1 0000000000000000"
    ∷ "order 4"
    ∷ "L 0 0 4 40001060 00000001 0"
    ∷ "L 0 1 6 40011060 00000002 1"
    ∷ "L 0 2 7 40001060 00000001 0"
    ∷ "L 0 3 9 40011060 00000002 1"
    ∷ "flips 1"
    ∷ "f 0 discarded"
    ∷ "watch 0"
    ∷ "end" ∷ []

unfoldable pub far_lines_of_one_set_text : List ℕ
unfolding far_lines_of_one_set_lines
far_lines_of_one_set_text = text_lines far_lines_of_one_set_lines
