-- Two cores each store to one word and then load the other's: both read 0.
-- Core 0 stores to 40001000 and reads 40001020, core 1 the other way round; both lines were loaded before. Checked: the stores
-- wait until the end (cause `end`), so the last loads come before both stores in the order; loads at one place are sorted by
-- core, then by number.
use Prim.Native.String.{String}
use Rattle.std.specs.Prelude.{ℕ, ◌∷◌, [], List}
use Rattle.lf_worked.specs.Rows.{range, code_at, zeros_at, plain, known, transfer, load, store, parity, text_lines}
use Rattle.lf_model.specs.declared.setup.Setup.{Setup}
use Rattle.lf_model.specs.declared.setup.Event.{Event}
use Rattle.lf_model.specs.declared.trace.Trace.{Trace}
use Rattle.lf_model.specs.declared.trace.CoreEnd.TheVariants.{Halt}
use Rattle.lf_model.specs.declared.bus.TurnKind.TheVariants as kinds
use Rattle.lf_model.specs.declared.bus.Why.TheVariants as whys

unfoldable pub store_buffering_setup : Setup
store_buffering_setup = record {
  image = record {
    entry = 0x40000000;
    segments =
        code_at 0x40000000 (
        0x03100004  -- sethi %hi(0x40001000), %g1
        ∷ 0x852A2005  -- sll %o0, 0x5, %g2
        ∷ 0x8618A020  -- xor %g2, 0x20, %g3
        ∷ 0xD2004003  -- ld [%g1 + %g3], %o1
        ∷ 0x88102001  -- or %g0, 0x1, %g4
        ∷ 0xC8204002  -- st %g4, [%g1 + %g2]
        ∷ 0xD4004003  -- ld [%g1 + %g3], %o2
        ∷ 0x91D02000  -- ta 0x0
        ∷ [])
        ∷ zeros_at 0x40001000 64 ∷ [];
    text = range 0x40000000 32 ∷ [];
  };
  config = record plain { cores = 2 };
  flips = [];
}

unfoldable pub store_buffering_events : List Event
store_buffering_events = []

unfoldable pub store_buffering_trace : Trace
store_buffering_trace = record {
  cores =
      record {
        end = Halt 0x80;
        n = 8;
        steps = 11;
        out = [];
        regs = known (
            0x00000000 ∷ 0x40001000 ∷ 0x00000000 ∷ 0x00000020 ∷ 0x00000001 ∷ 0x00000000 ∷ 0x00000000 ∷ 0x00000000
            ∷ 0x00000000 ∷ 0x00000000 ∷ 0x00000000 ∷ 0x00000000 ∷ 0x00000000 ∷ 0x00000000 ∷ 0x00000000 ∷ 0x00000000
            ∷ 0x00000000 ∷ 0x00000000 ∷ 0x00000000 ∷ 0x00000000 ∷ 0x00000000 ∷ 0x00000000 ∷ 0x00000000 ∷ 0x00000000
            ∷ 0x00000000 ∷ 0x00000000 ∷ 0x00000000 ∷ 0x00000000 ∷ 0x00000000 ∷ 0x00000000 ∷ 0x00000000 ∷ 0x00000000 ∷ []);
        psr = 0xF3000080;
        wim = 0x00000002;
        tbr = 0x00000000;
        y = 0x00000000;
        pc = 0x4000001C;
        npc = 0x40000020;
        parity = parity 0 0 0 0;
      }
      ∷ record {
        end = Halt 0x80;
        n = 8;
        steps = 11;
        out = [];
        regs = known (
            0x00000000 ∷ 0x40001000 ∷ 0x00000020 ∷ 0x00000000 ∷ 0x00000001 ∷ 0x00000000 ∷ 0x00000000 ∷ 0x00000000
            ∷ 0x00000001 ∷ 0x00000000 ∷ 0x00000000 ∷ 0x00000000 ∷ 0x00000000 ∷ 0x00000000 ∷ 0x00000000 ∷ 0x00000000
            ∷ 0x00000000 ∷ 0x00000000 ∷ 0x00000000 ∷ 0x00000000 ∷ 0x00000000 ∷ 0x00000000 ∷ 0x00000000 ∷ 0x00000000
            ∷ 0x00000000 ∷ 0x00000000 ∷ 0x00000000 ∷ 0x00000000 ∷ 0x00000000 ∷ 0x00000000 ∷ 0x00000000 ∷ 0x00000000 ∷ []);
        psr = 0xF3000080;
        wim = 0x00000002;
        tbr = 0x00000000;
        y = 0x00000000;
        pc = 0x4000001C;
        npc = 0x40000020;
        parity = parity 0 0 0 0;
      } ∷ [];
  ahb_addr = 0x00000000;
  ahb_status = 0x00000000;
  transfers =
      transfer 0 0 0 kinds.Fetch whys.Absent 0x40000000 0 8 0x0000000000000000
      ∷ transfer 1 1 0 kinds.Fetch whys.Absent 0x40000000 0 8 0x0000000000000000
      ∷ transfer 2 0 4 kinds.Load whys.Absent 0x40001020 0 8 0x0000000000000000
      ∷ transfer 3 1 4 kinds.Load whys.Absent 0x40001000 0 8 0x0000000000000000
      ∷ transfer 4 0 9 kinds.Store whys.End 0x40001000 0 0 0
      ∷ transfer 5 1 9 kinds.Store whys.End 0x40001020 0 0 0 ∷ [];
  order =
      load 0 0 5 0x40001020 4 0x00000000 0
      ∷ load 0 2 8 0x40001020 4 0x00000000 0
      ∷ load 1 0 5 0x40001000 4 0x00000000 0
      ∷ load 1 2 8 0x40001000 4 0x00000000 0
      ∷ store 0 1 7 0x40001000 4 0x00000001
      ∷ store 1 1 7 0x40001020 4 0x00000001 ∷ [];
  fates = [];
  watch = [];
}

unfoldable pub store_buffering_lines : List String
store_buffering_lines =
    "leon3ft report 1"
    ∷ "cores 2"
    ∷ "core 0 halt 80 8 11"
    ∷ "out 0 -"
    ∷ "g 0 00000000 40001000 00000000 00000020 00000001 00000000 00000000 00000000"
    ∷ "o 0 00000000 00000000 00000000 00000000 00000000 00000000 00000000 00000000"
    ∷ "l 0 00000000 00000000 00000000 00000000 00000000 00000000 00000000 00000000"
    ∷ "i 0 00000000 00000000 00000000 00000000 00000000 00000000 00000000 00000000"
    ∷ "ctl 0 F3000080 00000002 00000000 00000000 4000001C 40000020"
    ∷ "parity 0 0 0 0 0"
    ∷ "core 1 halt 80 8 11"
    ∷ "out 1 -"
    ∷ "g 1 00000000 40001000 00000020 00000000 00000001 00000000 00000000 00000000"
    ∷ "o 1 00000001 00000000 00000000 00000000 00000000 00000000 00000000 00000000"
    ∷ "l 1 00000000 00000000 00000000 00000000 00000000 00000000 00000000 00000000"
    ∷ "i 1 00000000 00000000 00000000 00000000 00000000 00000000 00000000 00000000"
    ∷ "ctl 1 F3000080 00000002 00000000 00000000 4000001C 40000020"
    ∷ "parity 1 0 0 0 0"
    ∷ "ahb 00000000 00000000"
    ∷ "transfers 6"
    ∷ "t 0 0 0 fetch absent 40000000 0 0000000000000000"
    ∷ "t 1 1 0 fetch absent 40000000 0 0000000000000000"
    ∷ "t 2 0 4 load absent 40001020 0 0000000000000000"
    ∷ "t 3 1 4 load absent 40001000 0 0000000000000000"
    ∷ "t 4 0 9 store end 40001000 - --"
    ∷ "t 5 1 9 store end 40001020 - --"
    ∷ "order 6"
    ∷ "L 0 0 5 40001020 00000000 0"
    ∷ "L 0 2 8 40001020 00000000 0"
    ∷ "L 1 0 5 40001000 00000000 0"
    ∷ "L 1 2 8 40001000 00000000 0"
    ∷ "S 0 1 7 40001000 00000001"
    ∷ "S 1 1 7 40001020 00000001"
    ∷ "flips 0"
    ∷ "watch 0"
    ∷ "end" ∷ []

unfoldable pub store_buffering_text : List ℕ
unfolding store_buffering_lines
store_buffering_text = text_lines store_buffering_lines
