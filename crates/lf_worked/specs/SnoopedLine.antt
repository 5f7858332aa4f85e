-- A line that another core stored to is dropped at the next turn, here a snoop.
-- After two local steps each core needs a turn (window 2). Core 1 loads, core 0 stores and drains (cause `window`, step 8), core
-- 1 snoops at turn 8. Checked: its second load misses by `absent` and reads the new word; it comes after the store.
use Prim.Native.String.{String}
use Rattle.std.specs.Prelude.{ℕ, ◌∷◌, [], List}
use Rattle.lf_worked.specs.Rows.{range, code_at, data_at, plain, steps_of, known, transfer, load, store, parity, text_lines}
use Rattle.lf_model.specs.declared.setup.Setup.{Setup}
use Rattle.lf_model.specs.declared.setup.Event.{Event}
use Rattle.lf_model.specs.declared.trace.Trace.{Trace}
use Rattle.lf_model.specs.declared.trace.CoreEnd.TheVariants.{Halt}
use Rattle.lf_model.specs.declared.bus.TurnKind.TheVariants as kinds
use Rattle.lf_model.specs.declared.bus.Why.TheVariants as whys

unfoldable pub snooped_line_setup : Setup
snooped_line_setup = record {
  image = record {
    entry = 0x40000000;
    segments =
        code_at 0x40000000 (
        0x03100004  -- sethi %hi(0x40001000), %g1
        ∷ 0x80A22000  -- subcc %o0, 0x0, %g0
        ∷ 0x02800005  -- be 0x4000001C
        ∷ 0xD2004000  -- ld [%g1], %o1
        ∷ 0x01000000  -- nop
        ∷ 0xD4004000  -- ld [%g1], %o2
        ∷ 0x91D02000  -- ta 0x0
        ∷ 0xC2204000  -- st %g1, [%g1]
        ∷ 0x91D02000  -- ta 0x0
        ∷ [])
        ∷ data_at 0x40001000 (0x0000005A ∷ []) ∷ [];
    text = range 0x40000000 36 ∷ [];
  };
  config = record plain { cores = 2; window = 2 };
  flips = [];
}

unfoldable pub snooped_line_events : List Event
snooped_line_events = steps_of 1 8 ∷ steps_of 0 10 ∷ []

unfoldable pub snooped_line_trace : Trace
snooped_line_trace = record {
  cores =
      record {
        end = Halt 0x80;
        n = 6;
        steps = 11;
        out = [];
        regs = known (
            0x00000000 ∷ 0x40001000 ∷ 0x00000000 ∷ 0x00000000 ∷ 0x00000000 ∷ 0x00000000 ∷ 0x00000000 ∷ 0x00000000
            ∷ 0x00000000 ∷ 0x0000005A ∷ 0x00000000 ∷ 0x00000000 ∷ 0x00000000 ∷ 0x00000000 ∷ 0x00000000 ∷ 0x00000000
            ∷ 0x00000000 ∷ 0x00000000 ∷ 0x00000000 ∷ 0x00000000 ∷ 0x00000000 ∷ 0x00000000 ∷ 0x00000000 ∷ 0x00000000
            ∷ 0x00000000 ∷ 0x00000000 ∷ 0x00000000 ∷ 0x00000000 ∷ 0x00000000 ∷ 0x00000000 ∷ 0x00000000 ∷ 0x00000000 ∷ []);
        psr = 0xF3400080;
        wim = 0x00000002;
        tbr = 0x00000000;
        y = 0x00000000;
        pc = 0x40000020;
        npc = 0x40000024;
        parity = parity 0 0 0 0;
      }
      ∷ record {
        end = Halt 0x80;
        n = 7;
        steps = 12;
        out = [];
        regs = known (
            0x00000000 ∷ 0x40001000 ∷ 0x00000000 ∷ 0x00000000 ∷ 0x00000000 ∷ 0x00000000 ∷ 0x00000000 ∷ 0x00000000
            ∷ 0x00000001 ∷ 0x0000005A ∷ 0x40001000 ∷ 0x00000000 ∷ 0x00000000 ∷ 0x00000000 ∷ 0x00000000 ∷ 0x00000000
            ∷ 0x00000000 ∷ 0x00000000 ∷ 0x00000000 ∷ 0x00000000 ∷ 0x00000000 ∷ 0x00000000 ∷ 0x00000000 ∷ 0x00000000
            ∷ 0x00000000 ∷ 0x00000000 ∷ 0x00000000 ∷ 0x00000000 ∷ 0x00000000 ∷ 0x00000000 ∷ 0x00000000 ∷ 0x00000000 ∷ []);
        psr = 0xF3000080;
        wim = 0x00000002;
        tbr = 0x00000000;
        y = 0x00000000;
        pc = 0x40000018;
        npc = 0x4000001C;
        parity = parity 0 0 0 0;
      } ∷ [];
  ahb_addr = 0x00000000;
  ahb_status = 0x00000000;
  transfers =
      transfer 0 1 0 kinds.Fetch whys.Absent 0x40000000 0 8 0x0000000000000000
      ∷ transfer 1 1 3 kinds.Snoop whys.Window 0x00000000 0 0 0
      ∷ transfer 2 1 5 kinds.Load whys.Absent 0x40001000 0 8 0x0000000000000000
      ∷ transfer 3 0 0 kinds.Fetch whys.Absent 0x40000000 0 8 0x0000000000000000
      ∷ transfer 4 0 3 kinds.Snoop whys.Window 0x00000000 0 0 0
      ∷ transfer 5 0 5 kinds.Load whys.Absent 0x40001000 0 8 0x0000000000000000
      ∷ transfer 6 0 8 kinds.Store whys.Window 0x40001000 0 0 0
      ∷ transfer 7 0 9 kinds.Fetch whys.Absent 0x40000020 0 8 0x0000000000000000
      ∷ transfer 8 1 8 kinds.Snoop whys.Window 0x00000000 0 0 0
      ∷ transfer 9 1 9 kinds.Load whys.Absent 0x40001000 0 8 0x0000000000000000 ∷ [];
  order =
      load 0 0 6 0x40001000 4 0x0000005A 0
      ∷ load 1 0 6 0x40001000 4 0x0000005A 0
      ∷ store 0 1 7 0x40001000 4 0x40001000
      ∷ load 1 1 10 0x40001000 4 0x40001000 0 ∷ [];
  fates = [];
  watch = [];
}

unfoldable pub snooped_line_lines : List String
snooped_line_lines =
    "leon3ft report 1"
    ∷ "cores 2"
    ∷ "core 0 halt 80 6 11"
    ∷ "out 0 -"
    ∷ "g 0 00000000 40001000 00000000 00000000 00000000 00000000 00000000 00000000"
    ∷ "o 0 00000000 0000005A 00000000 00000000 00000000 00000000 00000000 00000000"
    ∷ "l 0 00000000 00000000 00000000 00000000 00000000 00000000 00000000 00000000"
    ∷ "i 0 00000000 00000000 00000000 00000000 00000000 00000000 00000000 00000000"
    ∷ "ctl 0 F3400080 00000002 00000000 00000000 40000020 40000024"
    ∷ "parity 0 0 0 0 0"
    ∷ "core 1 halt 80 7 12"
    ∷ "out 1 -"
    ∷ "g 1 00000000 40001000 00000000 00000000 00000000 00000000 00000000 00000000"
    ∷ "o 1 00000001 0000005A 40001000 00000000 00000000 00000000 00000000 00000000"
    ∷ "l 1 00000000 00000000 00000000 00000000 00000000 00000000 00000000 00000000"
    ∷ "i 1 00000000 00000000 00000000 00000000 00000000 00000000 00000000 00000000"
    ∷ "ctl 1 F3000080 00000002 00000000 00000000 40000018 4000001C"
    ∷ "parity 1 0 0 0 0"
    ∷ "ahb 00000000 00000000"
    ∷ "transfers 10"
    ∷ "t 0 1 0 fetch absent 40000000 0 0000000000000000"
    ∷ "t 1 1 3 snoop window 00000000 - -"
    ∷ "t 2 1 5 load absent 40001000 0 0000000000000000"
    ∷ "t 3 0 0 fetch absent 40000000 0 0000000000000000"
    ∷ "t 4 0 3 snoop window 00000000 - -"
    ∷ "t 5 0 5 load absent 40001000 0 0000000000000000"
    ∷ "t 6 0 8 store window 40001000 - --"
    ∷ "t 7 0 9 fetch absent 40000020 0 0000000000000000"
    ∷ "t 8 1 8 snoop window 00000000 - -"
    ∷ "t 9 1 9 load absent 40001000 0 0000000000000000"
    ∷ "order 4"
    ∷ "L 0 0 6 40001000 0000005A 0"
    ∷ "L 1 0 6 40001000 0000005A 0"
    ∷ "S 0 1 7 40001000 40001000"
    ∷ "L 1 1 10 40001000 40001000 0"
    ∷ "flips 0"
    ∷ "watch 0"
    ∷ "end" ∷ []

unfoldable pub snooped_line_text : List ℕ
unfolding snooped_line_lines
snooped_line_text = text_lines snooped_line_lines
