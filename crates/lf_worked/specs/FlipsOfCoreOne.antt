-- Flips of one core's arrays leave the other's alone.
-- Both cores make the same loads. Checked: %g1 of core 1 is read and written back in step 3; its %l4 (cell 20) has two turned bits and
-- no value, and that of core 0 has one; the second load of core 1 fills again by `data`, and its step 5 fetches again by `tag`; core 0 does neither.
use Prim.Native.String.{String}
use Rattle.std.specs.Prelude.{ℕ, ◌∷◌, [], List, true, false}
use Rattle.lf_worked.specs.Rows.{range, code_at, data_at, plain, known, known_but, transfer, load, parity, text_lines}
use Rattle.lf_model.specs.declared.setup.Setup.{Setup}
use Rattle.lf_model.specs.declared.setup.Event.{Event}
use Rattle.lf_model.specs.declared.trace.Trace.{Trace}
use Rattle.lf_model.specs.declared.trace.CoreEnd.TheVariants.{Halt}
use Rattle.lf_model.specs.declared.flip.Flip.TheVariants as flips
use Rattle.lf_model.specs.declared.trace.Fate.TheVariants as fates
use Rattle.lf_model.specs.declared.bus.TurnKind.TheVariants as kinds
use Rattle.lf_model.specs.declared.bus.Why.TheVariants as whys

unfoldable pub flips_of_core_one_setup : Setup
flips_of_core_one_setup = record {
  image = record {
    entry = 0x40000000;
    segments =
        code_at 0x40000000 (
        0x03100004  -- sethi %hi(0x40001000), %g1
        ∷ 0xD2004000  -- ld [%g1], %o1
        ∷ 0xD4006004  -- ld [%g1 + 0x4], %o2
        ∷ 0x91D02000  -- ta 0x0
        ∷ [])
        ∷ data_at 0x40001000 (0x00000001 ∷ 0x00000002 ∷ []) ∷ [];
    text = range 0x40000000 16 ∷ [];
  };
  config = record plain { cores = 2 };
  flips =
      flips.Reg 1 3 1 4
      ∷ flips.Reg 1 3 20 0
      ∷ flips.Reg 1 3 20 1
      ∷ flips.Line 1 4 false 0 0 4 3
      ∷ flips.Tag 1 5 true 0 0 0 0 ∷ [];
}

unfoldable pub flips_of_core_one_events : List Event
flips_of_core_one_events = []

unfoldable pub flips_of_core_one_trace : Trace
flips_of_core_one_trace = record {
  cores =
      record {
        end = Halt 0x80;
        n = 4;
        steps = 6;
        out = [];
        regs = known (
            0x00000000 ∷ 0x40001000 ∷ 0x00000000 ∷ 0x00000000 ∷ 0x00000000 ∷ 0x00000000 ∷ 0x00000000 ∷ 0x00000000
            ∷ 0x00000000 ∷ 0x00000001 ∷ 0x00000002 ∷ 0x00000000 ∷ 0x00000000 ∷ 0x00000000 ∷ 0x00000000 ∷ 0x00000000
            ∷ 0x00000000 ∷ 0x00000000 ∷ 0x00000000 ∷ 0x00000000 ∷ 0x00000000 ∷ 0x00000000 ∷ 0x00000000 ∷ 0x00000000
            ∷ 0x00000000 ∷ 0x00000000 ∷ 0x00000000 ∷ 0x00000000 ∷ 0x00000000 ∷ 0x00000000 ∷ 0x00000000 ∷ 0x00000000 ∷ []);
        psr = 0xF3000080;
        wim = 0x00000002;
        tbr = 0x00000000;
        y = 0x00000000;
        pc = 0x4000000C;
        npc = 0x40000010;
        parity = parity 0 0 0 0;
      }
      ∷ record {
        end = Halt 0x80;
        n = 4;
        steps = 8;
        out = [];
        regs = known_but (20 ∷ []) (
            0x00000000 ∷ 0x40001000 ∷ 0x00000000 ∷ 0x00000000 ∷ 0x00000000 ∷ 0x00000000 ∷ 0x00000000 ∷ 0x00000000
            ∷ 0x00000001 ∷ 0x00000001 ∷ 0x00000002 ∷ 0x00000000 ∷ 0x00000000 ∷ 0x00000000 ∷ 0x00000000 ∷ 0x00000000
            ∷ 0x00000000 ∷ 0x00000000 ∷ 0x00000000 ∷ 0x00000000 ∷ 0x00000000 ∷ 0x00000000 ∷ 0x00000000 ∷ 0x00000000
            ∷ 0x00000000 ∷ 0x00000000 ∷ 0x00000000 ∷ 0x00000000 ∷ 0x00000000 ∷ 0x00000000 ∷ 0x00000000 ∷ 0x00000000 ∷ []);
        psr = 0xF3000080;
        wim = 0x00000002;
        tbr = 0x00000000;
        y = 0x00000000;
        pc = 0x4000000C;
        npc = 0x40000010;
        parity = parity 1 0 0 1;
      } ∷ [];
  ahb_addr = 0x00000000;
  ahb_status = 0x00000000;
  transfers =
      transfer 0 0 0 kinds.Fetch whys.Absent 0x40000000 0 8 0x0000000000000000
      ∷ transfer 1 1 0 kinds.Fetch whys.Absent 0x40000000 0 8 0x0000000000000000
      ∷ transfer 2 0 2 kinds.Load whys.Absent 0x40001000 0 8 0x0000000000000000
      ∷ transfer 3 1 2 kinds.Load whys.Absent 0x40001000 0 8 0x0000000000000000
      ∷ transfer 4 1 4 kinds.Load whys.Byte 0x40001000 0 8 0x0000000000000000
      ∷ transfer 5 1 5 kinds.Fetch whys.Tag 0x40000000 0 8 0x0000000000000000 ∷ [];
  order =
      load 0 0 3 0x40001000 4 0x00000001 0
      ∷ load 0 1 4 0x40001004 4 0x00000002 0
      ∷ load 1 0 3 0x40001000 4 0x00000001 0
      ∷ load 1 1 6 0x40001004 4 0x00000002 0 ∷ [];
  fates =
      fates.Repaired ∷ fates.Dormant ∷ fates.Dormant ∷ fates.Discarded
      ∷ fates.Discarded ∷ [];
  watch = [];
}

unfoldable pub flips_of_core_one_lines : List String
flips_of_core_one_lines =
    "leon3ft report 1"
    ∷ "cores 2"
    ∷ "core 0 halt 80 4 6"
    ∷ "out 0 -"
    ∷ "g 0 00000000 40001000 00000000 00000000 00000000 00000000 00000000 00000000"
    ∷ "o 0 00000000 00000001 00000002 00000000 00000000 00000000 00000000 00000000"
    ∷ "l 0 00000000 00000000 00000000 00000000 00000000 00000000 00000000 00000000"
    ∷ "i 0 00000000 00000000 00000000 00000000 00000000 00000000 00000000 00000000"
    ∷ "ctl 0 F3000080 00000002 00000000 00000000 4000000C 40000010"
    ∷ "parity 0 0 0 0 0"
    ∷ "core 1 halt 80 4 8"
    ∷ "out 1 -"
    ∷ "g 1 00000000 40001000 00000000 00000000 00000000 00000000 00000000 00000000"
    ∷ "o 1 00000001 00000001 00000002 00000000 00000000 00000000 00000000 00000000"
    ∷ "l 1 00000000 00000000 00000000 00000000 -------- 00000000 00000000 00000000"
    ∷ "i 1 00000000 00000000 00000000 00000000 00000000 00000000 00000000 00000000"
    ∷ "ctl 1 F3000080 00000002 00000000 00000000 4000000C 40000010"
    ∷ "parity 1 1 0 0 1"
    ∷ "ahb 00000000 00000000"
    ∷ "transfers 6"
    ∷ "t 0 0 0 fetch absent 40000000 0 0000000000000000"
    ∷ "t 1 1 0 fetch absent 40000000 0 0000000000000000"
    ∷ "t 2 0 2 load absent 40001000 0 0000000000000000"
    ∷ "t 3 1 2 load absent 40001000 0 0000000000000000"
    ∷ "t 4 1 4 load data 40001000 0 0000000000000000"
    ∷ "t 5 1 5 fetch tag 40000000 0 0000000000000000"
    ∷ "order 4"
    ∷ "L 0 0 3 40001000 00000001 0"
    ∷ "L 0 1 4 40001004 00000002 0"
    ∷ "L 1 0 3 40001000 00000001 0"
    ∷ "L 1 1 6 40001004 00000002 0"
    ∷ "flips 5"
    ∷ "f 0 repaired"
    ∷ "f 1 dormant"
    ∷ "f 2 dormant"
    ∷ "f 3 discarded"
    ∷ "f 4 discarded"
    ∷ "watch 0"
    ∷ "end" ∷ []

unfoldable pub flips_of_core_one_text : List ℕ
unfolding flips_of_core_one_lines
flips_of_core_one_text = text_lines flips_of_core_one_lines
