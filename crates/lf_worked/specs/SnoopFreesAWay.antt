-- A line that the turn of a fill drops frees its way for that fill.
-- Core 1 has 40001000 in way 0 and 40001100 in way 1, which is the more recent. Core 0 then stores a byte to 40001100. Checked:
-- the fill for 40001200 at turn 7 catches up first, so way 1 is free and is taken, and not way 0.
use Prim.Native.String.{String}
use Rattle.std.specs.Prelude.{ℕ, ◌∷◌, [], List}
use Rattle.lf_worked.specs.Rows.{range, code_at, data_at, plain, shape, steps_of, known, transfer, load, store, parity, text_lines}
use Rattle.lf_model.specs.declared.setup.Setup.{Setup}
use Rattle.lf_model.specs.declared.setup.Event.{Event}
use Rattle.lf_model.specs.declared.trace.Trace.{Trace}
use Rattle.lf_model.specs.declared.trace.CoreEnd.TheVariants.{Halt}
use Rattle.lf_model.specs.declared.bus.TurnKind.TheVariants as kinds
use Rattle.lf_model.specs.declared.bus.Why.TheVariants as whys

unfoldable pub snoop_frees_a_way_setup : Setup
snoop_frees_a_way_setup = record {
  image = record {
    entry = 0x40000000;
    segments =
        code_at 0x40000000 (
        0x03100004  -- sethi %hi(0x40001000), %g1
        ∷ 0x80A22000  -- subcc %o0, 0x0, %g0
        ∷ 0x02800005  -- be 0x4000001C
        ∷ 0xD2004000  -- ld [%g1], %o1
        ∷ 0xD4006100  -- ld [%g1 + 0x100], %o2
        ∷ 0xD6006200  -- ld [%g1 + 0x200], %o3
        ∷ 0x91D02000  -- ta 0x0
        ∷ 0xC2286100  -- stb %g1, [%g1 + 0x100]
        ∷ 0x91D02000  -- ta 0x0
        ∷ [])
        ∷ data_at 0x40001000 (0x00000001 ∷ [])
        ∷ data_at 0x40001100 (0x00000002 ∷ [])
        ∷ data_at 0x40001200 (0x00000003 ∷ []) ∷ [];
    text = range 0x40000000 36 ∷ [];
  };
  config = record plain { cores = 2; load_cache = shape 2 8 };
  flips = [];
}

unfoldable pub snoop_frees_a_way_events : List Event
snoop_frees_a_way_events = steps_of 1 8 ∷ steps_of 0 9 ∷ []

unfoldable pub snoop_frees_a_way_trace : Trace
snoop_frees_a_way_trace = record {
  cores =
      record {
        end = Halt 0x80;
        n = 6;
        steps = 10;
        out = [];
        regs = known (
            0x00000000 ∷ 0x40001000 ∷ 0x00000000 ∷ 0x00000000 ∷ 0x00000000 ∷ 0x00000000 ∷ 0x00000000 ∷ 0x00000000
            ∷ 0x00000000 ∷ 0x00000001 ∷ 0x00000000 ∷ 0x00000000 ∷ 0x00000000 ∷ 0x00000000 ∷ 0x00000000 ∷ 0x00000000
            ∷ 0x00000000 ∷ 0x00000000 ∷ 0x00000000 ∷ 0x00000000 ∷ 0x00000000 ∷ 0x00000000 ∷ 0x00000000 ∷ 0x00000000
            ∷ 0x00000000 ∷ 0x00000000 ∷ 0x00000000 ∷ 0x00000000 ∷ 0x00000000 ∷ 0x00000000 ∷ 0x00000000 ∷ 0x00000000 ∷ []);
        psr = 0xF3400080;
        wim = 0x00000002;
        tbr = 0x00000000;
        y = 0x00000000;
        pc = 0x40000020;
        npc = 0x40000024;
        parity = parity 0 0 0 0;
      }
      ∷ record {
        end = Halt 0x80;
        n = 7;
        steps = 11;
        out = [];
        regs = known (
            0x00000000 ∷ 0x40001000 ∷ 0x00000000 ∷ 0x00000000 ∷ 0x00000000 ∷ 0x00000000 ∷ 0x00000000 ∷ 0x00000000
            ∷ 0x00000001 ∷ 0x00000001 ∷ 0x00000002 ∷ 0x00000003 ∷ 0x00000000 ∷ 0x00000000 ∷ 0x00000000 ∷ 0x00000000
            ∷ 0x00000000 ∷ 0x00000000 ∷ 0x00000000 ∷ 0x00000000 ∷ 0x00000000 ∷ 0x00000000 ∷ 0x00000000 ∷ 0x00000000
            ∷ 0x00000000 ∷ 0x00000000 ∷ 0x00000000 ∷ 0x00000000 ∷ 0x00000000 ∷ 0x00000000 ∷ 0x00000000 ∷ 0x00000000 ∷ []);
        psr = 0xF3000080;
        wim = 0x00000002;
        tbr = 0x00000000;
        y = 0x00000000;
        pc = 0x40000018;
        npc = 0x4000001C;
        parity = parity 0 0 0 0;
      } ∷ [];
  ahb_addr = 0x00000000;
  ahb_status = 0x00000000;
  transfers =
      transfer 0 1 0 kinds.Fetch whys.Absent 0x40000000 0 8 0x0000000000000000
      ∷ transfer 1 1 4 kinds.Load whys.Absent 0x40001000 0 8 0x0000000000000000
      ∷ transfer 2 1 6 kinds.Load whys.Absent 0x40001100 1 8 0x0000000000000000
      ∷ transfer 3 0 0 kinds.Fetch whys.Absent 0x40000000 0 8 0x0000000000000000
      ∷ transfer 4 0 4 kinds.Load whys.Absent 0x40001000 0 8 0x0000000000000000
      ∷ transfer 5 0 7 kinds.Store whys.Miss 0x40001100 0 1 0x0000000000000000
      ∷ transfer 6 0 8 kinds.Fetch whys.Absent 0x40000020 0 8 0x0000000000000000
      ∷ transfer 7 1 8 kinds.Load whys.Absent 0x40001200 1 8 0x0000000000000000 ∷ [];
  order =
      load 0 0 5 0x40001000 4 0x00000001 0
      ∷ load 1 0 5 0x40001000 4 0x00000001 0
      ∷ load 1 1 7 0x40001100 4 0x00000002 1
      ∷ store 0 1 6 0x40001100 1 0x00
      ∷ load 1 2 9 0x40001200 4 0x00000003 1 ∷ [];
  fates = [];
  watch = [];
}

unfoldable pub snoop_frees_a_way_lines : List String
snoop_frees_a_way_lines =
    "leon3ft report 1"
    ∷ "cores 2"
    ∷ "core 0 halt 80 6 10"
    ∷ "out 0 -"
    ∷ "g 0 00000000 40001000 00000000 00000000 00000000 00000000 00000000 00000000"
    ∷ "o 0 00000000 00000001 00000000 00000000 00000000 00000000 00000000 00000000"
    ∷ "l 0 00000000 00000000 00000000 00000000 00000000 00000000 00000000 00000000"
    ∷ "i 0 00000000 00000000 00000000 00000000 00000000 00000000 00000000 00000000"
    ∷ "ctl 0 F3400080 00000002 00000000 00000000 40000020 40000024"
    ∷ "parity 0 0 0 0 0"
    ∷ "core 1 halt 80 7 11"
    ∷ "out 1 -"
    ∷ "g 1 00000000 40001000 00000000 00000000 00000000 00000000 00000000 00000000"
    ∷ "o 1 00000001 00000001 00000002 00000003 00000000 00000000 00000000 00000000"
    ∷ "l 1 00000000 00000000 00000000 00000000 00000000 00000000 00000000 00000000"
    ∷ "i 1 00000000 00000000 00000000 00000000 00000000 00000000 00000000 00000000"
    ∷ "ctl 1 F3000080 00000002 00000000 00000000 40000018 4000001C"
    ∷ "parity 1 0 0 0 0"
    ∷ "ahb 00000000 00000000"
    ∷ "transfers 8"
    ∷ "t 0 1 0 fetch absent 40000000 0 0000000000000000"
    ∷ "t 1 1 4 load absent 40001000 0 0000000000000000"
    ∷ "t 2 1 6 load absent 40001100 1 0000000000000000"
    ∷ "t 3 0 0 fetch absent 40000000 0 0000000000000000"
    ∷ "t 4 0 4 load absent 40001000 0 0000000000000000"
    ∷ "t 5 0 7 store miss 40001100 - 00"
    ∷ "t 6 0 8 fetch absent 40000020 0 0000000000000000"
    ∷ "t 7 1 8 load absent 40001200 1 0000000000000000"
    ∷ "order 5"
    ∷ "L 0 0 5 40001000 00000001 0"
    ∷ "L 1 0 5 40001000 00000001 0"
    ∷ "L 1 1 7 40001100 00000002 1"
    ∷ "S 0 1 6 40001100 00"
    ∷ "L 1 2 9 40001200 00000003 1"
    ∷ "flips 0"
    ∷ "watch 0"
    ∷ "end" ∷ []

unfoldable pub snoop_frees_a_way_text : List ℕ
unfolding snoop_frees_a_way_lines
snoop_frees_a_way_text = text_lines snoop_frees_a_way_lines
