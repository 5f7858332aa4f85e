-- The last drains can stop a core: its store is lost, and so is the one after it.
-- Checked: `stop 2B` with 4 steps; both stores are X, by their numbers; 6F is 4F xor 20, the columns of bit 0 and check bit 5 (bit
-- 37); the watched word is reported without a value.
use Prim.Native.String.{String}
use Rattle.std.specs.Prelude.{ℕ, ◌∷◌, [], List, Some, None}
use Rattle.lf_worked.specs.Rows.{range, code_at, data_at, plain, known, transfer, lost, word, parity, text_lines}
use Rattle.lf_model.specs.declared.setup.Setup.{Setup}
use Rattle.lf_model.specs.declared.setup.Event.{Event}
use Rattle.lf_model.specs.declared.trace.Trace.{Trace}
use Rattle.lf_model.specs.declared.trace.CoreEnd.TheVariants.{Stop}
use Rattle.lf_model.specs.declared.flip.Flip.TheVariants as flips
use Rattle.lf_model.specs.declared.trace.Fate.TheVariants as fates
use Rattle.lf_model.specs.declared.bus.TurnKind.TheVariants as kinds
use Rattle.lf_model.specs.declared.bus.Why.TheVariants as whys

unfoldable pub limit_and_a_lost_store_setup : Setup
limit_and_a_lost_store_setup = record {
  image = record {
    entry = 0x40000000;
    segments =
        code_at 0x40000000 (
        0x03100004  -- sethi %hi(0x40001000), %g1
        ∷ 0xC2284000  -- stb %g1, [%g1]
        ∷ 0xC2206004  -- st %g1, [%g1 + 0x4]
        ∷ 0x01000000  -- nop
        ∷ 0x91D02000  -- ta 0x0
        ∷ [])
        ∷ data_at 0x40001000 (0x00000000 ∷ 0x00000000 ∷ []) ∷ [];
    text = range 0x40000000 20 ∷ [];
  };
  config = record plain { steps = 4; watch = 0x40001000 ∷ 0x40001004 ∷ [] };
  flips =
      flips.Mem 1 0x40001000 0
      ∷ flips.Mem 1 0x40001000 37 ∷ [];
}

unfoldable pub limit_and_a_lost_store_events : List Event
limit_and_a_lost_store_events = []

unfoldable pub limit_and_a_lost_store_trace : Trace
limit_and_a_lost_store_trace = record {
  cores = record {
    end = Stop 0x2B 1 0x6F;
    n = 3;
    steps = 4;
    out = [];
    regs = known (
        0x00000000 ∷ 0x40001000 ∷ 0x00000000 ∷ 0x00000000 ∷ 0x00000000 ∷ 0x00000000 ∷ 0x00000000 ∷ 0x00000000
        ∷ 0x00000000 ∷ 0x00000000 ∷ 0x00000000 ∷ 0x00000000 ∷ 0x00000000 ∷ 0x00000000 ∷ 0x00000000 ∷ 0x00000000
        ∷ 0x00000000 ∷ 0x00000000 ∷ 0x00000000 ∷ 0x00000000 ∷ 0x00000000 ∷ 0x00000000 ∷ 0x00000000 ∷ 0x00000000
        ∷ 0x00000000 ∷ 0x00000000 ∷ 0x00000000 ∷ 0x00000000 ∷ 0x00000000 ∷ 0x00000000 ∷ 0x00000000 ∷ 0x00000000 ∷ []);
    psr = 0xF3000080;
    wim = 0x00000002;
    tbr = 0x00000000;
    y = 0x00000000;
    pc = 0x4000000C;
    npc = 0x40000010;
    parity = parity 0 0 0 0;
  } ∷ [];
  ahb_addr = 0x40001000;
  ahb_status = 0x00000180;
  transfers =
      transfer 0 0 0 kinds.Fetch whys.Absent 0x40000000 0 8 0x0000000000000000
      ∷ transfer 1 0 4 kinds.Store whys.End 0x40001000 0 1 0x6F00000000000000 ∷ [];
  order =
      lost 0 0 2 0x40001000 1 0x00
      ∷ lost 0 1 3 0x40001004 4 0x40001000 ∷ [];
  fates = fates.Stopped ∷ fates.Stopped ∷ [];
  watch =
      word 0x40001000 None
      ∷ word 0x40001004 (Some 0x00000000) ∷ [];
}

unfoldable pub limit_and_a_lost_store_lines : List String
limit_and_a_lost_store_lines =
    "leon3ft report 1"
    ∷ "cores 1"
    ∷ "core 0 stop 2B 3 4 1 6F"
    ∷ "out 0 -"
    ∷ "g 0 00000000 40001000 00000000 00000000 00000000 00000000 00000000 00000000"
    ∷ "o 0 00000000 00000000 00000000 00000000 00000000 00000000 00000000 00000000"
    ∷ "l 0 00000000 00000000 00000000 00000000 00000000 00000000 00000000 00000000"
    ∷ "i 0 00000000 00000000 00000000 00000000 00000000 00000000 00000000 00000000"
    ∷ "ctl 0 F3000080 00000002 00000000 00000000 4000000C 40000010"
    ∷ "parity 0 0 0 0 0"
    ∷ "ahb 40001000 00000180"
    ∷ "transfers 2"
    ∷ "t 0 0 0 fetch absent 40000000 0 0000000000000000"
    ∷ "t 1 0 4 store end 40001000 - 6F"
    ∷ "order 2"
    ∷ "X 0 0 2 40001000 00"
    ∷ "X 0 1 3 40001004 40001000"
    ∷ "flips 2"
    ∷ "f 0 stopped"
    ∷ "f 1 stopped"
    ∷ "watch 2"
    ∷ "w 40001000 --------"
    ∷ "w 40001004 00000000"
    ∷ "end" ∷ []

unfoldable pub limit_and_a_lost_store_text : List ℕ
unfolding limit_and_a_lost_store_lines
limit_and_a_lost_store_text = text_lines limit_and_a_lost_store_lines
