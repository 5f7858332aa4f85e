-- Two cores lose stores to one bad word.
-- Each drains a byte store before STBAR, meets the same word and loses the store after it too. Checked: the X come last, by core
-- and then by number; the flips are stopped; the note of AHBSTAT is that of core 0, which came first.
use Prim.Native.String.{String}
use Rattle.std.specs.Prelude.{ℕ, ◌∷◌, [], List}
use Rattle.lf_worked.specs.Rows.{range, code_at, data_at, plain, known, transfer, lost, parity, text_lines}
use Rattle.lf_model.specs.declared.setup.Setup.{Setup}
use Rattle.lf_model.specs.declared.setup.Event.{Event}
use Rattle.lf_model.specs.declared.trace.Trace.{Trace}
use Rattle.lf_model.specs.declared.trace.CoreEnd.TheVariants.{Stop}
use Rattle.lf_model.specs.declared.flip.Flip.TheVariants as flips
use Rattle.lf_model.specs.declared.trace.Fate.TheVariants as fates
use Rattle.lf_model.specs.declared.bus.TurnKind.TheVariants as kinds
use Rattle.lf_model.specs.declared.bus.Why.TheVariants as whys

unfoldable pub lost_stores_of_two_cores_setup : Setup
lost_stores_of_two_cores_setup = record {
  image = record {
    entry = 0x40000000;
    segments =
        code_at 0x40000000 (
        0x03100004  -- sethi %hi(0x40001000), %g1
        ∷ 0xC2284000  -- stb %g1, [%g1]
        ∷ 0xD0206004  -- st %o0, [%g1 + 0x4]
        ∷ 0x8143C000  -- stbar
        ∷ 0x91D02000  -- ta 0x0
        ∷ [])
        ∷ data_at 0x40001000 (0x00000001 ∷ 0x00000002 ∷ []) ∷ [];
    text = range 0x40000000 20 ∷ [];
  };
  config = record plain { cores = 2 };
  flips =
      flips.Mem 2 0x40001000 0
      ∷ flips.Mem 2 0x40001000 1 ∷ [];
}

unfoldable pub lost_stores_of_two_cores_events : List Event
lost_stores_of_two_cores_events = []

unfoldable pub lost_stores_of_two_cores_trace : Trace
lost_stores_of_two_cores_trace = record {
  cores =
      record {
        end = Stop 0x2B 2 0x05;
        n = 3;
        steps = 5;
        out = [];
        regs = known (
            0x00000000 ∷ 0x40001000 ∷ 0x00000000 ∷ 0x00000000 ∷ 0x00000000 ∷ 0x00000000 ∷ 0x00000000 ∷ 0x00000000
            ∷ 0x00000000 ∷ 0x00000000 ∷ 0x00000000 ∷ 0x00000000 ∷ 0x00000000 ∷ 0x00000000 ∷ 0x00000000 ∷ 0x00000000
            ∷ 0x00000000 ∷ 0x00000000 ∷ 0x00000000 ∷ 0x00000000 ∷ 0x00000000 ∷ 0x00000000 ∷ 0x00000000 ∷ 0x00000000
            ∷ 0x00000000 ∷ 0x00000000 ∷ 0x00000000 ∷ 0x00000000 ∷ 0x00000000 ∷ 0x00000000 ∷ 0x00000000 ∷ 0x00000000 ∷ []);
        psr = 0xF3000080;
        wim = 0x00000002;
        tbr = 0x00000000;
        y = 0x00000000;
        pc = 0x4000000C;
        npc = 0x40000010;
        parity = parity 0 0 0 0;
      }
      ∷ record {
        end = Stop 0x2B 3 0x05;
        n = 3;
        steps = 5;
        out = [];
        regs = known (
            0x00000000 ∷ 0x40001000 ∷ 0x00000000 ∷ 0x00000000 ∷ 0x00000000 ∷ 0x00000000 ∷ 0x00000000 ∷ 0x00000000
            ∷ 0x00000001 ∷ 0x00000000 ∷ 0x00000000 ∷ 0x00000000 ∷ 0x00000000 ∷ 0x00000000 ∷ 0x00000000 ∷ 0x00000000
            ∷ 0x00000000 ∷ 0x00000000 ∷ 0x00000000 ∷ 0x00000000 ∷ 0x00000000 ∷ 0x00000000 ∷ 0x00000000 ∷ 0x00000000
            ∷ 0x00000000 ∷ 0x00000000 ∷ 0x00000000 ∷ 0x00000000 ∷ 0x00000000 ∷ 0x00000000 ∷ 0x00000000 ∷ 0x00000000 ∷ []);
        psr = 0xF3000080;
        wim = 0x00000002;
        tbr = 0x00000000;
        y = 0x00000000;
        pc = 0x4000000C;
        npc = 0x40000010;
        parity = parity 0 0 0 0;
      } ∷ [];
  ahb_addr = 0x40001000;
  ahb_status = 0x00000180;
  transfers =
      transfer 0 0 0 kinds.Fetch whys.Absent 0x40000000 0 8 0x0000000000000000
      ∷ transfer 1 1 0 kinds.Fetch whys.Absent 0x40000000 0 8 0x0000000000000000
      ∷ transfer 2 0 4 kinds.Store whys.Stbar 0x40001000 0 1 0x0500000000000000
      ∷ transfer 3 1 4 kinds.Store whys.Stbar 0x40001000 0 1 0x0500000000000000 ∷ [];
  order =
      lost 0 0 2 0x40001000 1 0x00
      ∷ lost 0 1 3 0x40001004 4 0x00000000
      ∷ lost 1 0 2 0x40001000 1 0x00
      ∷ lost 1 1 3 0x40001004 4 0x00000001 ∷ [];
  fates = fates.Stopped ∷ fates.Stopped ∷ [];
  watch = [];
}

unfoldable pub lost_stores_of_two_cores_lines : List String
lost_stores_of_two_cores_lines =
    "leon3ft report 1"
    ∷ "cores 2"
    ∷ "core 0 stop 2B 3 5 2 05"
    ∷ "out 0 -"
    ∷ "g 0 00000000 40001000 00000000 00000000 00000000 00000000 00000000 00000000"
    ∷ "o 0 00000000 00000000 00000000 00000000 00000000 00000000 00000000 00000000"
    ∷ "l 0 00000000 00000000 00000000 00000000 00000000 00000000 00000000 00000000"
    ∷ "i 0 00000000 00000000 00000000 00000000 00000000 00000000 00000000 00000000"
    ∷ "ctl 0 F3000080 00000002 00000000 00000000 4000000C 40000010"
    ∷ "parity 0 0 0 0 0"
    ∷ "core 1 stop 2B 3 5 3 05"
    ∷ "out 1 -"
    ∷ "g 1 00000000 40001000 00000000 00000000 00000000 00000000 00000000 00000000"
    ∷ "o 1 00000001 00000000 00000000 00000000 00000000 00000000 00000000 00000000"
    ∷ "l 1 00000000 00000000 00000000 00000000 00000000 00000000 00000000 00000000"
    ∷ "i 1 00000000 00000000 00000000 00000000 00000000 00000000 00000000 00000000"
    ∷ "ctl 1 F3000080 00000002 00000000 00000000 4000000C 40000010"
    ∷ "parity 1 0 0 0 0"
    ∷ "ahb 40001000 00000180"
    ∷ "transfers 4"
    ∷ "t 0 0 0 fetch absent 40000000 0 0000000000000000"
    ∷ "t 1 1 0 fetch absent 40000000 0 0000000000000000"
    ∷ "t 2 0 4 store stbar 40001000 - 05"
    ∷ "t 3 1 4 store stbar 40001000 - 05"
    ∷ "order 4"
    ∷ "X 0 0 2 40001000 00"
    ∷ "X 0 1 3 40001004 00000000"
    ∷ "X 1 0 2 40001000 00"
    ∷ "X 1 1 3 40001004 00000001"
    ∷ "flips 2"
    ∷ "f 0 stopped"
    ∷ "f 1 stopped"
    ∷ "watch 0"
    ∷ "end" ∷ []

unfoldable pub lost_stores_of_two_cores_text : List ℕ
unfolding lost_stores_of_two_cores_lines
lost_stores_of_two_cores_text = text_lines lost_stores_of_two_cores_lines
