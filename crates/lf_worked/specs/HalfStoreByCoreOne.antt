-- A half stored into a word with one turned bit, by core 1.
-- Checked: AHBSTAT is 389: NE and CE (300), HWRITE (80), master 1 (8) and HSIZE 1; the word is corrected and merged (repaired), and
-- watched as 5A5A0077.
use Prim.Native.String.{String}
use Rattle.std.specs.Prelude.{ℕ, ◌∷◌, [], List, Some}
use Rattle.lf_worked.specs.Rows.{range, code_at, data_at, plain, known, transfer, store, word, parity, text_lines}
use Rattle.lf_model.specs.declared.setup.Setup.{Setup}
use Rattle.lf_model.specs.declared.setup.Event.{Event}
use Rattle.lf_model.specs.declared.trace.Trace.{Trace}
use Rattle.lf_model.specs.declared.trace.CoreEnd.TheVariants.{Halt}
use Rattle.lf_model.specs.declared.flip.Flip.TheVariants as flips
use Rattle.lf_model.specs.declared.trace.Fate.TheVariants as fates
use Rattle.lf_model.specs.declared.bus.TurnKind.TheVariants as kinds
use Rattle.lf_model.specs.declared.bus.Why.TheVariants as whys

unfoldable pub half_store_by_core_one_setup : Setup
half_store_by_core_one_setup = record {
  image = record {
    entry = 0x40000000;
    segments =
        code_at 0x40000000 (
        0x03100004  -- sethi %hi(0x40001000), %g1
        ∷ 0x80A22000  -- subcc %o0, 0x0, %g0
        ∷ 0x02800003  -- be 0x40000014
        ∷ 0x92102077  -- or %g0, 0x77, %o1
        ∷ 0xD2306002  -- sth %o1, [%g1 + 0x2]
        ∷ 0x91D02000  -- ta 0x0
        ∷ [])
        ∷ data_at 0x40001000 (0x5A5A5A5A ∷ []) ∷ [];
    text = range 0x40000000 24 ∷ [];
  };
  config = record plain { cores = 2; watch = 0x40001000 ∷ [] };
  flips = flips.Mem 2 0x40001000 0 ∷ [];
}

unfoldable pub half_store_by_core_one_events : List Event
half_store_by_core_one_events = []

unfoldable pub half_store_by_core_one_trace : Trace
half_store_by_core_one_trace = record {
  cores =
      record {
        end = Halt 0x80;
        n = 5;
        steps = 6;
        out = [];
        regs = known (
            0x00000000 ∷ 0x40001000 ∷ 0x00000000 ∷ 0x00000000 ∷ 0x00000000 ∷ 0x00000000 ∷ 0x00000000 ∷ 0x00000000
            ∷ 0x00000000 ∷ 0x00000077 ∷ 0x00000000 ∷ 0x00000000 ∷ 0x00000000 ∷ 0x00000000 ∷ 0x00000000 ∷ 0x00000000
            ∷ 0x00000000 ∷ 0x00000000 ∷ 0x00000000 ∷ 0x00000000 ∷ 0x00000000 ∷ 0x00000000 ∷ 0x00000000 ∷ 0x00000000
            ∷ 0x00000000 ∷ 0x00000000 ∷ 0x00000000 ∷ 0x00000000 ∷ 0x00000000 ∷ 0x00000000 ∷ 0x00000000 ∷ 0x00000000 ∷ []);
        psr = 0xF3400080;
        wim = 0x00000002;
        tbr = 0x00000000;
        y = 0x00000000;
        pc = 0x40000014;
        npc = 0x40000018;
        parity = parity 0 0 0 0;
      }
      ∷ record {
        end = Halt 0x80;
        n = 6;
        steps = 8;
        out = [];
        regs = known (
            0x00000000 ∷ 0x40001000 ∷ 0x00000000 ∷ 0x00000000 ∷ 0x00000000 ∷ 0x00000000 ∷ 0x00000000 ∷ 0x00000000
            ∷ 0x00000001 ∷ 0x00000077 ∷ 0x00000000 ∷ 0x00000000 ∷ 0x00000000 ∷ 0x00000000 ∷ 0x00000000 ∷ 0x00000000
            ∷ 0x00000000 ∷ 0x00000000 ∷ 0x00000000 ∷ 0x00000000 ∷ 0x00000000 ∷ 0x00000000 ∷ 0x00000000 ∷ 0x00000000
            ∷ 0x00000000 ∷ 0x00000000 ∷ 0x00000000 ∷ 0x00000000 ∷ 0x00000000 ∷ 0x00000000 ∷ 0x00000000 ∷ 0x00000000 ∷ []);
        psr = 0xF3000080;
        wim = 0x00000002;
        tbr = 0x00000000;
        y = 0x00000000;
        pc = 0x40000014;
        npc = 0x40000018;
        parity = parity 0 0 0 0;
      } ∷ [];
  ahb_addr = 0x40001000;
  ahb_status = 0x00000389;
  transfers =
      transfer 0 0 0 kinds.Fetch whys.Absent 0x40000000 0 8 0x0000000000000000
      ∷ transfer 1 1 0 kinds.Fetch whys.Absent 0x40000000 0 8 0x0000000000000000
      ∷ transfer 2 1 6 kinds.Store whys.End 0x40001002 0 1 0x4F00000000000000 ∷ [];
  order = store 1 0 5 0x40001002 2 0x0077 ∷ [];
  fates = fates.Repaired ∷ [];
  watch = word 0x40001000 (Some 0x5A5A0077) ∷ [];
}

unfoldable pub half_store_by_core_one_lines : List String
half_store_by_core_one_lines =
    "leon3ft report 1"
    ∷ "cores 2"
    ∷ "core 0 halt 80 5 6"
    ∷ "out 0 -"
    ∷ "g 0 00000000 40001000 00000000 00000000 00000000 00000000 00000000 00000000"
    ∷ "o 0 00000000 00000077 00000000 00000000 00000000 00000000 00000000 00000000"
    ∷ "l 0 00000000 00000000 00000000 00000000 00000000 00000000 00000000 00000000"
    ∷ "i 0 00000000 00000000 00000000 00000000 00000000 00000000 00000000 00000000"
    ∷ "ctl 0 F3400080 00000002 00000000 00000000 40000014 40000018"
    ∷ "parity 0 0 0 0 0"
    ∷ "core 1 halt 80 6 8"
    ∷ "out 1 -"
    ∷ "g 1 00000000 40001000 00000000 00000000 00000000 00000000 00000000 00000000"
    ∷ "o 1 00000001 00000077 00000000 00000000 00000000 00000000 00000000 00000000"
    ∷ "l 1 00000000 00000000 00000000 00000000 00000000 00000000 00000000 00000000"
    ∷ "i 1 00000000 00000000 00000000 00000000 00000000 00000000 00000000 00000000"
    ∷ "ctl 1 F3000080 00000002 00000000 00000000 40000014 40000018"
    ∷ "parity 1 0 0 0 0"
    ∷ "ahb 40001000 00000389"
    ∷ "transfers 3"
    ∷ "t 0 0 0 fetch absent 40000000 0 0000000000000000"
    ∷ "t 1 1 0 fetch absent 40000000 0 0000000000000000"
    ∷ "t 2 1 6 store end 40001002 - 4F"
    ∷ "order 1"
    ∷ "S 1 0 5 40001002 0077"
    ∷ "flips 1"
    ∷ "f 0 repaired"
    ∷ "watch 1"
    ∷ "w 40001000 5A5A0077"
    ∷ "end" ∷ []

unfoldable pub half_store_by_core_one_text : List ℕ
unfolding half_store_by_core_one_lines
half_store_by_core_one_text = text_lines half_store_by_core_one_lines
