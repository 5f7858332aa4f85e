-- At its limit a core still drains the stores that wait.
-- Checked: both drains show step 4, the limit, which is no step of the core; %g1 was struck in step 3 and read there; a flip of
-- turn 3 never comes.
use Prim.Native.String.{String}
use Rattle.std.specs.Prelude.{ℕ, ◌∷◌, [], List}
use Rattle.lf_worked.specs.Rows.{range, code_at, data_at, plain, known, transfer, store, parity, text_lines}
use Rattle.lf_model.specs.declared.setup.Setup.{Setup}
use Rattle.lf_model.specs.declared.setup.Event.{Event}
use Rattle.lf_model.specs.declared.trace.Trace.{Trace}
use Rattle.lf_model.specs.declared.trace.CoreEnd.TheVariants.{Limit}
use Rattle.lf_model.specs.declared.flip.Flip.TheVariants as flips
use Rattle.lf_model.specs.declared.trace.Fate.TheVariants as fates
use Rattle.lf_model.specs.declared.bus.TurnKind.TheVariants as kinds
use Rattle.lf_model.specs.declared.bus.Why.TheVariants as whys

unfoldable pub limit_with_last_drains_setup : Setup
limit_with_last_drains_setup = record {
  image = record {
    entry = 0x40000000;
    segments =
        code_at 0x40000000 (
        0x03100004  -- sethi %hi(0x40001000), %g1
        ∷ 0xC2204000  -- st %g1, [%g1]
        ∷ 0xC2206004  -- st %g1, [%g1 + 0x4]
        ∷ 0x01000000  -- nop
        ∷ 0x91D02000  -- ta 0x0
        ∷ [])
        ∷ data_at 0x40001000 (0x00000000 ∷ 0x00000000 ∷ []) ∷ [];
    text = range 0x40000000 20 ∷ [];
  };
  config = record plain { steps = 4 };
  flips =
      flips.Reg 0 3 1 0
      ∷ flips.Reg 0 3 2 0
      ∷ flips.Mem 3 0x40001000 0 ∷ [];
}

unfoldable pub limit_with_last_drains_events : List Event
limit_with_last_drains_events = []

unfoldable pub limit_with_last_drains_trace : Trace
limit_with_last_drains_trace = record {
  cores = record {
    end = Limit;
    n = 3;
    steps = 4;
    out = [];
    regs = known (
        0x00000000 ∷ 0x40001000 ∷ 0x00000000 ∷ 0x00000000 ∷ 0x00000000 ∷ 0x00000000 ∷ 0x00000000 ∷ 0x00000000
        ∷ 0x00000000 ∷ 0x00000000 ∷ 0x00000000 ∷ 0x00000000 ∷ 0x00000000 ∷ 0x00000000 ∷ 0x00000000 ∷ 0x00000000
        ∷ 0x00000000 ∷ 0x00000000 ∷ 0x00000000 ∷ 0x00000000 ∷ 0x00000000 ∷ 0x00000000 ∷ 0x00000000 ∷ 0x00000000
        ∷ 0x00000000 ∷ 0x00000000 ∷ 0x00000000 ∷ 0x00000000 ∷ 0x00000000 ∷ 0x00000000 ∷ 0x00000000 ∷ 0x00000000 ∷ []);
    psr = 0xF3000080;
    wim = 0x00000002;
    tbr = 0x00000000;
    y = 0x00000000;
    pc = 0x4000000C;
    npc = 0x40000010;
    parity = parity 0 0 0 0;
  } ∷ [];
  ahb_addr = 0x00000000;
  ahb_status = 0x00000000;
  transfers =
      transfer 0 0 0 kinds.Fetch whys.Absent 0x40000000 0 8 0x0000000000000000
      ∷ transfer 1 0 4 kinds.Store whys.End 0x40001000 0 0 0
      ∷ transfer 2 0 4 kinds.Store whys.End 0x40001004 0 0 0 ∷ [];
  order =
      store 0 0 2 0x40001000 4 0x40001000
      ∷ store 0 1 3 0x40001004 4 0x40001000 ∷ [];
  fates = fates.Repaired ∷ fates.Dormant ∷ fates.Late ∷ [];
  watch = [];
}

unfoldable pub limit_with_last_drains_lines : List String
limit_with_last_drains_lines =
    "leon3ft report 1"
    ∷ "cores 1"
    ∷ "core 0 limit 3 4"
    ∷ "out 0 -"
    ∷ "g 0 00000000 40001000 00000000 00000000 00000000 00000000 00000000 00000000"
    ∷ "o 0 00000000 00000000 00000000 00000000 00000000 00000000 00000000 00000000"
    ∷ "l 0 00000000 00000000 00000000 00000000 00000000 00000000 00000000 00000000"
    ∷ "i 0 00000000 00000000 00000000 00000000 00000000 00000000 00000000 00000000"
    ∷ "ctl 0 F3000080 00000002 00000000 00000000 4000000C 40000010"
    ∷ "parity 0 0 0 0 0"
    ∷ "ahb 00000000 00000000"
    ∷ "transfers 3"
    ∷ "t 0 0 0 fetch absent 40000000 0 0000000000000000"
    ∷ "t 1 0 4 store end 40001000 - --"
    ∷ "t 2 0 4 store end 40001004 - --"
    ∷ "order 2"
    ∷ "S 0 0 2 40001000 40001000"
    ∷ "S 0 1 3 40001004 40001000"
    ∷ "flips 3"
    ∷ "f 0 repaired"
    ∷ "f 1 dormant"
    ∷ "f 2 late"
    ∷ "watch 0"
    ∷ "end" ∷ []

unfoldable pub limit_with_last_drains_text : List ℕ
unfolding limit_with_last_drains_lines
limit_with_last_drains_text = text_lines limit_with_last_drains_lines
