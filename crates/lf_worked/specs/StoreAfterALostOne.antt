-- Core 0 loses a store, and core 1 stores after it.
-- The bytes are of two words; that of core 0 has two turned bits. Checked: the lost store is no entry of the log, so the store of core 1 is
-- the first, and the lost one comes last; the word of core 0 has no value, that of core 1 is 00222222.
use Prim.Native.String.{String}
use Rattle.std.specs.Prelude.{ℕ, ◌∷◌, [], List, Some, None}
use Rattle.lf_worked.specs.Rows.{range, code_at, data_at, plain, known, transfer, store, lost, word, parity, text_lines}
use Rattle.lf_model.specs.declared.setup.Setup.{Setup}
use Rattle.lf_model.specs.declared.setup.Event.{Event}
use Rattle.lf_model.specs.declared.trace.Trace.{Trace}
use Rattle.lf_model.specs.declared.trace.CoreEnd.TheVariants.{Halt, Stop}
use Rattle.lf_model.specs.declared.flip.Flip.TheVariants as flips
use Rattle.lf_model.specs.declared.trace.Fate.TheVariants as fates
use Rattle.lf_model.specs.declared.bus.TurnKind.TheVariants as kinds
use Rattle.lf_model.specs.declared.bus.Why.TheVariants as whys

unfoldable pub store_after_a_lost_one_setup : Setup
store_after_a_lost_one_setup = record {
  image = record {
    entry = 0x40000000;
    segments =
        code_at 0x40000000 (
        0x03100004  -- sethi %hi(0x40001000), %g1
        ∷ 0x932A2002  -- sll %o0, 0x2, %o1
        ∷ 0xC0284009  -- stb %g0, [%g1 + %o1]
        ∷ 0x91D02000  -- ta 0x0
        ∷ [])
        ∷ data_at 0x40001000 (0x11111111 ∷ 0x22222222 ∷ []) ∷ [];
    text = range 0x40000000 16 ∷ [];
  };
  config = record plain { cores = 2; watch = 0x40001000 ∷ 0x40001004 ∷ [] };
  flips =
      flips.Mem 2 0x40001000 0
      ∷ flips.Mem 2 0x40001000 1 ∷ [];
}

unfoldable pub store_after_a_lost_one_events : List Event
store_after_a_lost_one_events = []

unfoldable pub store_after_a_lost_one_trace : Trace
store_after_a_lost_one_trace = record {
  cores =
      record {
        end = Stop 0x2B 2 0x05;
        n = 3;
        steps = 5;
        out = [];
        regs = known (
            0x00000000 ∷ 0x40001000 ∷ 0x00000000 ∷ 0x00000000 ∷ 0x00000000 ∷ 0x00000000 ∷ 0x00000000 ∷ 0x00000000
            ∷ 0x00000000 ∷ 0x00000000 ∷ 0x00000000 ∷ 0x00000000 ∷ 0x00000000 ∷ 0x00000000 ∷ 0x00000000 ∷ 0x00000000
            ∷ 0x00000000 ∷ 0x00000000 ∷ 0x00000000 ∷ 0x00000000 ∷ 0x00000000 ∷ 0x00000000 ∷ 0x00000000 ∷ 0x00000000
            ∷ 0x00000000 ∷ 0x00000000 ∷ 0x00000000 ∷ 0x00000000 ∷ 0x00000000 ∷ 0x00000000 ∷ 0x00000000 ∷ 0x00000000 ∷ []);
        psr = 0xF3000080;
        wim = 0x00000002;
        tbr = 0x00000000;
        y = 0x00000000;
        pc = 0x4000000C;
        npc = 0x40000010;
        parity = parity 0 0 0 0;
      }
      ∷ record {
        end = Halt 0x80;
        n = 4;
        steps = 6;
        out = [];
        regs = known (
            0x00000000 ∷ 0x40001000 ∷ 0x00000000 ∷ 0x00000000 ∷ 0x00000000 ∷ 0x00000000 ∷ 0x00000000 ∷ 0x00000000
            ∷ 0x00000001 ∷ 0x00000004 ∷ 0x00000000 ∷ 0x00000000 ∷ 0x00000000 ∷ 0x00000000 ∷ 0x00000000 ∷ 0x00000000
            ∷ 0x00000000 ∷ 0x00000000 ∷ 0x00000000 ∷ 0x00000000 ∷ 0x00000000 ∷ 0x00000000 ∷ 0x00000000 ∷ 0x00000000
            ∷ 0x00000000 ∷ 0x00000000 ∷ 0x00000000 ∷ 0x00000000 ∷ 0x00000000 ∷ 0x00000000 ∷ 0x00000000 ∷ 0x00000000 ∷ []);
        psr = 0xF3000080;
        wim = 0x00000002;
        tbr = 0x00000000;
        y = 0x00000000;
        pc = 0x4000000C;
        npc = 0x40000010;
        parity = parity 0 0 0 0;
      } ∷ [];
  ahb_addr = 0x40001000;
  ahb_status = 0x00000180;
  transfers =
      transfer 0 0 0 kinds.Fetch whys.Absent 0x40000000 0 8 0x0000000000000000
      ∷ transfer 1 1 0 kinds.Fetch whys.Absent 0x40000000 0 8 0x0000000000000000
      ∷ transfer 2 0 4 kinds.Store whys.End 0x40001000 0 1 0x0500000000000000
      ∷ transfer 3 1 4 kinds.Store whys.End 0x40001004 0 1 0x0000000000000000 ∷ [];
  order =
      store 1 0 3 0x40001004 1 0x00
      ∷ lost 0 0 3 0x40001000 1 0x00 ∷ [];
  fates = fates.Stopped ∷ fates.Stopped ∷ [];
  watch =
      word 0x40001000 None
      ∷ word 0x40001004 (Some 0x00222222) ∷ [];
}

unfoldable pub store_after_a_lost_one_lines : List String
store_after_a_lost_one_lines =
    "leon3ft report 1"
    ∷ "cores 2"
    ∷ "core 0 stop 2B 3 5 2 05"
    ∷ "out 0 -"
    ∷ "g 0 00000000 40001000 00000000 00000000 00000000 00000000 00000000 00000000"
    ∷ "o 0 00000000 00000000 00000000 00000000 00000000 00000000 00000000 00000000"
    ∷ "l 0 00000000 00000000 00000000 00000000 00000000 00000000 00000000 00000000"
    ∷ "i 0 00000000 00000000 00000000 00000000 00000000 00000000 00000000 00000000"
    ∷ "ctl 0 F3000080 00000002 00000000 00000000 4000000C 40000010"
    ∷ "parity 0 0 0 0 0"
    ∷ "core 1 halt 80 4 6"
    ∷ "out 1 -"
    ∷ "g 1 00000000 40001000 00000000 00000000 00000000 00000000 00000000 00000000"
    ∷ "o 1 00000001 00000004 00000000 00000000 00000000 00000000 00000000 00000000"
    ∷ "l 1 00000000 00000000 00000000 00000000 00000000 00000000 00000000 00000000"
    ∷ "i 1 00000000 00000000 00000000 00000000 00000000 00000000 00000000 00000000"
    ∷ "ctl 1 F3000080 00000002 00000000 00000000 4000000C 40000010"
    ∷ "parity 1 0 0 0 0"
    ∷ "ahb 40001000 00000180"
    ∷ "transfers 4"
    ∷ "t 0 0 0 fetch absent 40000000 0 0000000000000000"
    ∷ "t 1 1 0 fetch absent 40000000 0 0000000000000000"
    ∷ "t 2 0 4 store end 40001000 - 05"
    ∷ "t 3 1 4 store end 40001004 - 00"
    ∷ "order 2"
    ∷ "S 1 0 3 40001004 00"
    ∷ "X 0 0 3 40001000 00"
    ∷ "flips 2"
    ∷ "f 0 stopped"
    ∷ "f 1 stopped"
    ∷ "watch 2"
    ∷ "w 40001000 --------"
    ∷ "w 40001004 00222222"
    ∷ "end" ∷ []

unfoldable pub store_after_a_lost_one_text : List ℕ
unfolding store_after_a_lost_one_lines
store_after_a_lost_one_text = text_lines store_after_a_lost_one_lines
