-- A snoop checks the tags of its set before it drops the line.
-- Core 0 stores to the line that core 1 holds; core 1's next turn is an atomic of another line, in whose step a tag byte of the held
-- line is struck. Checked: catching up drops it by its tag: the counter of core 1 is 1 and the flip is discarded.
use Prim.Native.String.{String}
use Rattle.std.specs.Prelude.{ℕ, ◌∷◌, [], List, false}
use Rattle.lf_worked.specs.Rows.{range, code_at, data_at, plain, steps_of, known, transfer, load, store, atomic, parity, text_lines}
use Rattle.lf_model.specs.declared.setup.Setup.{Setup}
use Rattle.lf_model.specs.declared.setup.Event.{Event}
use Rattle.lf_model.specs.declared.trace.Trace.{Trace}
use Rattle.lf_model.specs.declared.trace.CoreEnd.TheVariants.{Halt}
use Rattle.lf_model.specs.declared.flip.Flip.TheVariants as flips
use Rattle.lf_model.specs.declared.trace.Fate.TheVariants as fates
use Rattle.lf_model.specs.declared.bus.TurnKind.TheVariants as kinds
use Rattle.lf_model.specs.declared.bus.Why.TheVariants as whys

unfoldable pub snoop_checks_tags_setup : Setup
snoop_checks_tags_setup = record {
  image = record {
    entry = 0x40000000;
    segments =
        code_at 0x40000000 (
        0x03100004  -- sethi %hi(0x40001000), %g1
        ∷ 0x80A22000  -- subcc %o0, 0x0, %g0
        ∷ 0x02800004  -- be 0x40000018
        ∷ 0xD2004000  -- ld [%g1], %o1
        ∷ 0xD4686020  -- ldstub [%g1 + 0x20], %o2
        ∷ 0x91D02000  -- ta 0x0
        ∷ 0xC2204000  -- st %g1, [%g1]
        ∷ 0x91D02000  -- ta 0x0
        ∷ [])
        ∷ data_at 0x40001000 (
        0x0000005A ∷ 0x00000000 ∷ 0x00000000 ∷ 0x00000000 ∷ 0x00000000 ∷ 0x00000000 ∷ 0x00000000 ∷ 0x00000000
        ∷ 0x00000000 ∷ []) ∷ [];
    text = range 0x40000000 32 ∷ [];
  };
  config = record plain { cores = 2 };
  flips = flips.Tag 1 6 false 0 0 3 0 ∷ [];
}

unfoldable pub snoop_checks_tags_events : List Event
snoop_checks_tags_events = steps_of 1 6 ∷ steps_of 0 9 ∷ []

unfoldable pub snoop_checks_tags_trace : Trace
snoop_checks_tags_trace = record {
  cores =
      record {
        end = Halt 0x80;
        n = 6;
        steps = 9;
        out = [];
        regs = known (
            0x00000000 ∷ 0x40001000 ∷ 0x00000000 ∷ 0x00000000 ∷ 0x00000000 ∷ 0x00000000 ∷ 0x00000000 ∷ 0x00000000
            ∷ 0x00000000 ∷ 0x0000005A ∷ 0x00000000 ∷ 0x00000000 ∷ 0x00000000 ∷ 0x00000000 ∷ 0x00000000 ∷ 0x00000000
            ∷ 0x00000000 ∷ 0x00000000 ∷ 0x00000000 ∷ 0x00000000 ∷ 0x00000000 ∷ 0x00000000 ∷ 0x00000000 ∷ 0x00000000
            ∷ 0x00000000 ∷ 0x00000000 ∷ 0x00000000 ∷ 0x00000000 ∷ 0x00000000 ∷ 0x00000000 ∷ 0x00000000 ∷ 0x00000000 ∷ []);
        psr = 0xF3400080;
        wim = 0x00000002;
        tbr = 0x00000000;
        y = 0x00000000;
        pc = 0x4000001C;
        npc = 0x40000020;
        parity = parity 0 0 0 0;
      }
      ∷ record {
        end = Halt 0x80;
        n = 6;
        steps = 8;
        out = [];
        regs = known (
            0x00000000 ∷ 0x40001000 ∷ 0x00000000 ∷ 0x00000000 ∷ 0x00000000 ∷ 0x00000000 ∷ 0x00000000 ∷ 0x00000000
            ∷ 0x00000001 ∷ 0x0000005A ∷ 0x00000000 ∷ 0x00000000 ∷ 0x00000000 ∷ 0x00000000 ∷ 0x00000000 ∷ 0x00000000
            ∷ 0x00000000 ∷ 0x00000000 ∷ 0x00000000 ∷ 0x00000000 ∷ 0x00000000 ∷ 0x00000000 ∷ 0x00000000 ∷ 0x00000000
            ∷ 0x00000000 ∷ 0x00000000 ∷ 0x00000000 ∷ 0x00000000 ∷ 0x00000000 ∷ 0x00000000 ∷ 0x00000000 ∷ 0x00000000 ∷ []);
        psr = 0xF3000080;
        wim = 0x00000002;
        tbr = 0x00000000;
        y = 0x00000000;
        pc = 0x40000014;
        npc = 0x40000018;
        parity = parity 0 0 1 0;
      } ∷ [];
  ahb_addr = 0x00000000;
  ahb_status = 0x00000000;
  transfers =
      transfer 0 1 0 kinds.Fetch whys.Absent 0x40000000 0 8 0x0000000000000000
      ∷ transfer 1 1 4 kinds.Load whys.Absent 0x40001000 0 8 0x0000000000000000
      ∷ transfer 2 0 0 kinds.Fetch whys.Absent 0x40000000 0 8 0x0000000000000000
      ∷ transfer 3 0 4 kinds.Load whys.Absent 0x40001000 0 8 0x0000000000000000
      ∷ transfer 4 0 7 kinds.Store whys.End 0x40001000 0 0 0
      ∷ transfer 5 1 6 kinds.Atomic whys.None 0x40001020 0 1 0x0000000000000000 ∷ [];
  order =
      load 0 0 5 0x40001000 4 0x0000005A 0
      ∷ load 1 0 5 0x40001000 4 0x0000005A 0
      ∷ store 0 1 6 0x40001000 4 0x40001000
      ∷ atomic 1 1 6 0x40001020 1 0x00 0xFF ∷ [];
  fates = fates.Discarded ∷ [];
  watch = [];
}

unfoldable pub snoop_checks_tags_lines : List String
snoop_checks_tags_lines =
    "leon3ft report 1"
    ∷ "cores 2"
    ∷ "core 0 halt 80 6 9"
    ∷ "out 0 -"
    ∷ "g 0 00000000 40001000 00000000 00000000 00000000 00000000 00000000 00000000"
    ∷ "o 0 00000000 0000005A 00000000 00000000 00000000 00000000 00000000 00000000"
    ∷ "l 0 00000000 00000000 00000000 00000000 00000000 00000000 00000000 00000000"
    ∷ "i 0 00000000 00000000 00000000 00000000 00000000 00000000 00000000 00000000"
    ∷ "ctl 0 F3400080 00000002 00000000 00000000 4000001C 40000020"
    ∷ "parity 0 0 0 0 0"
    ∷ "core 1 halt 80 6 8"
    ∷ "out 1 -"
    ∷ "g 1 00000000 40001000 00000000 00000000 00000000 00000000 00000000 00000000"
    ∷ "o 1 00000001 0000005A 00000000 00000000 00000000 00000000 00000000 00000000"
    ∷ "l 1 00000000 00000000 00000000 00000000 00000000 00000000 00000000 00000000"
    ∷ "i 1 00000000 00000000 00000000 00000000 00000000 00000000 00000000 00000000"
    ∷ "ctl 1 F3000080 00000002 00000000 00000000 40000014 40000018"
    ∷ "parity 1 0 0 1 0"
    ∷ "ahb 00000000 00000000"
    ∷ "transfers 6"
    ∷ "t 0 1 0 fetch absent 40000000 0 0000000000000000"
    ∷ "t 1 1 4 load absent 40001000 0 0000000000000000"
    ∷ "t 2 0 0 fetch absent 40000000 0 0000000000000000"
    ∷ "t 3 0 4 load absent 40001000 0 0000000000000000"
    ∷ "t 4 0 7 store end 40001000 - --"
    ∷ "t 5 1 6 atomic - 40001020 - 00"
    ∷ "order 4"
    ∷ "L 0 0 5 40001000 0000005A 0"
    ∷ "L 1 0 5 40001000 0000005A 0"
    ∷ "S 0 1 6 40001000 40001000"
    ∷ "A 1 1 6 40001020 00 FF"
    ∷ "flips 1"
    ∷ "f 0 discarded"
    ∷ "watch 0"
    ∷ "end" ∷ []

unfoldable pub snoop_checks_tags_text : List ℕ
unfolding snoop_checks_tags_lines
snoop_checks_tags_text = text_lines snoop_checks_tags_lines
