-- A core that sees the new flag sees the new data too.
-- Core 1 loads the data, then core 0 stores data and flag and drains both before it halts, then core 1 loads the flag and the
-- data. Checked: the fill of turn 6 first drops the line of the data, which core 0 stored to in turn 4; so the last load fills
-- again (turn 7, `absent`) and reads 1.
use Prim.Native.String.{String}
use Rattle.std.specs.Prelude.{ℕ, ◌∷◌, [], List}
use Rattle.lf_worked.specs.Rows.{range, code_at, zeros_at, plain, steps_of, known, transfer, load, store, parity, text_lines}
use Rattle.lf_model.specs.declared.setup.Setup.{Setup}
use Rattle.lf_model.specs.declared.setup.Event.{Event}
use Rattle.lf_model.specs.declared.trace.Trace.{Trace}
use Rattle.lf_model.specs.declared.trace.CoreEnd.TheVariants.{Halt}
use Rattle.lf_model.specs.declared.bus.TurnKind.TheVariants as kinds
use Rattle.lf_model.specs.declared.bus.Why.TheVariants as whys

unfoldable pub message_passing_setup : Setup
message_passing_setup = record {
  image = record {
    entry = 0x40000000;
    segments =
        code_at 0x40000000 (
        0x03100004  -- sethi %hi(0x40001000), %g1
        ∷ 0x88102001  -- or %g0, 0x1, %g4
        ∷ 0x80A22000  -- subcc %o0, 0x0, %g0
        ∷ 0x12800005  -- bne 0x40000020
        ∷ 0x01000000  -- nop
        ∷ 0xC8206000  -- st %g4, [%g1]
        ∷ 0xC8206020  -- st %g4, [%g1 + 0x20]
        ∷ 0x91D02000  -- ta 0x0
        ∷ 0xD2006000  -- ld [%g1], %o1
        ∷ 0xD4006020  -- ld [%g1 + 0x20], %o2
        ∷ 0xD6006000  -- ld [%g1], %o3
        ∷ 0x91D02000  -- ta 0x0
        ∷ [])
        ∷ zeros_at 0x40001000 64 ∷ [];
    text = range 0x40000000 48 ∷ [];
  };
  config = record plain { cores = 2 };
  flips = [];
}

unfoldable pub message_passing_events : List Event
message_passing_events = steps_of 1 9 ∷ steps_of 0 11 ∷ []

unfoldable pub message_passing_trace : Trace
message_passing_trace = record {
  cores =
      record {
        end = Halt 0x80;
        n = 8;
        steps = 11;
        out = [];
        regs = known (
            0x00000000 ∷ 0x40001000 ∷ 0x00000000 ∷ 0x00000000 ∷ 0x00000001 ∷ 0x00000000 ∷ 0x00000000 ∷ 0x00000000
            ∷ 0x00000000 ∷ 0x00000000 ∷ 0x00000000 ∷ 0x00000000 ∷ 0x00000000 ∷ 0x00000000 ∷ 0x00000000 ∷ 0x00000000
            ∷ 0x00000000 ∷ 0x00000000 ∷ 0x00000000 ∷ 0x00000000 ∷ 0x00000000 ∷ 0x00000000 ∷ 0x00000000 ∷ 0x00000000
            ∷ 0x00000000 ∷ 0x00000000 ∷ 0x00000000 ∷ 0x00000000 ∷ 0x00000000 ∷ 0x00000000 ∷ 0x00000000 ∷ 0x00000000 ∷ []);
        psr = 0xF3400080;
        wim = 0x00000002;
        tbr = 0x00000000;
        y = 0x00000000;
        pc = 0x4000001C;
        npc = 0x40000020;
        parity = parity 0 0 0 0;
      }
      ∷ record {
        end = Halt 0x80;
        n = 9;
        steps = 14;
        out = [];
        regs = known (
            0x00000000 ∷ 0x40001000 ∷ 0x00000000 ∷ 0x00000000 ∷ 0x00000001 ∷ 0x00000000 ∷ 0x00000000 ∷ 0x00000000
            ∷ 0x00000001 ∷ 0x00000000 ∷ 0x00000001 ∷ 0x00000001 ∷ 0x00000000 ∷ 0x00000000 ∷ 0x00000000 ∷ 0x00000000
            ∷ 0x00000000 ∷ 0x00000000 ∷ 0x00000000 ∷ 0x00000000 ∷ 0x00000000 ∷ 0x00000000 ∷ 0x00000000 ∷ 0x00000000
            ∷ 0x00000000 ∷ 0x00000000 ∷ 0x00000000 ∷ 0x00000000 ∷ 0x00000000 ∷ 0x00000000 ∷ 0x00000000 ∷ 0x00000000 ∷ []);
        psr = 0xF3000080;
        wim = 0x00000002;
        tbr = 0x00000000;
        y = 0x00000000;
        pc = 0x4000002C;
        npc = 0x40000030;
        parity = parity 0 0 0 0;
      } ∷ [];
  ahb_addr = 0x00000000;
  ahb_status = 0x00000000;
  transfers =
      transfer 0 1 0 kinds.Fetch whys.Absent 0x40000000 0 8 0x0000000000000000
      ∷ transfer 1 1 6 kinds.Fetch whys.Absent 0x40000020 0 8 0x0000000000000000
      ∷ transfer 2 1 7 kinds.Load whys.Absent 0x40001000 0 8 0x0000000000000000
      ∷ transfer 3 0 0 kinds.Fetch whys.Absent 0x40000000 0 8 0x0000000000000000
      ∷ transfer 4 0 8 kinds.Store whys.End 0x40001000 0 0 0
      ∷ transfer 5 0 9 kinds.Store whys.End 0x40001020 0 0 0
      ∷ transfer 6 1 9 kinds.Load whys.Absent 0x40001020 0 8 0x0000000000000000
      ∷ transfer 7 1 11 kinds.Load whys.Absent 0x40001000 0 8 0x0000000000000000 ∷ [];
  order =
      load 1 0 8 0x40001000 4 0x00000000 0
      ∷ store 0 0 6 0x40001000 4 0x00000001
      ∷ store 0 1 7 0x40001020 4 0x00000001
      ∷ load 1 1 10 0x40001020 4 0x00000001 0
      ∷ load 1 2 12 0x40001000 4 0x00000001 0 ∷ [];
  fates = [];
  watch = [];
}

unfoldable pub message_passing_lines : List String
message_passing_lines =
    "leon3ft report 1"
    ∷ "cores 2"
    ∷ "core 0 halt 80 8 11"
    ∷ "out 0 -"
    ∷ "g 0 00000000 40001000 00000000 00000000 00000001 00000000 00000000 00000000"
    ∷ "o 0 00000000 00000000 00000000 00000000 00000000 00000000 00000000 00000000"
    ∷ "l 0 00000000 00000000 00000000 00000000 00000000 00000000 00000000 00000000"
    ∷ "i 0 00000000 00000000 00000000 00000000 00000000 00000000 00000000 00000000"
    ∷ "ctl 0 F3400080 00000002 00000000 00000000 4000001C 40000020"
    ∷ "parity 0 0 0 0 0"
    ∷ "core 1 halt 80 9 14"
    ∷ "out 1 -"
    ∷ "g 1 00000000 40001000 00000000 00000000 00000001 00000000 00000000 00000000"
    ∷ "o 1 00000001 00000000 00000001 00000001 00000000 00000000 00000000 00000000"
    ∷ "l 1 00000000 00000000 00000000 00000000 00000000 00000000 00000000 00000000"
    ∷ "i 1 00000000 00000000 00000000 00000000 00000000 00000000 00000000 00000000"
    ∷ "ctl 1 F3000080 00000002 00000000 00000000 4000002C 40000030"
    ∷ "parity 1 0 0 0 0"
    ∷ "ahb 00000000 00000000"
    ∷ "transfers 8"
    ∷ "t 0 1 0 fetch absent 40000000 0 0000000000000000"
    ∷ "t 1 1 6 fetch absent 40000020 0 0000000000000000"
    ∷ "t 2 1 7 load absent 40001000 0 0000000000000000"
    ∷ "t 3 0 0 fetch absent 40000000 0 0000000000000000"
    ∷ "t 4 0 8 store end 40001000 - --"
    ∷ "t 5 0 9 store end 40001020 - --"
    ∷ "t 6 1 9 load absent 40001020 0 0000000000000000"
    ∷ "t 7 1 11 load absent 40001000 0 0000000000000000"
    ∷ "order 5"
    ∷ "L 1 0 8 40001000 00000000 0"
    ∷ "S 0 0 6 40001000 00000001"
    ∷ "S 0 1 7 40001020 00000001"
    ∷ "L 1 1 10 40001020 00000001 0"
    ∷ "L 1 2 12 40001000 00000001 0"
    ∷ "flips 0"
    ∷ "watch 0"
    ∷ "end" ∷ []

unfoldable pub message_passing_text : List ℕ
unfolding message_passing_lines
message_passing_text = text_lines message_passing_lines
