-- The schedule drains stores: each drain is a step of its core.
-- The first `drain` finds no store, and the last neither: they are passed over. Checked: the drains are in steps 4 and 5 by
-- `sched`, and the flips of these steps strike; no fetch look is made in step 4, so the struck tag is found in step 6 (`tag`);
-- %g1 is read and written back in step 7, and %g3 is written over.
use Prim.Native.String.{String}
use Rattle.std.specs.Prelude.{ℕ, ◌∷◌, [], List, true}
use Rattle.lf_worked.specs.Rows.{range, code_at, data_at, plain, steps_of, drains_of, known, transfer, store, parity, text_lines}
use Rattle.lf_model.specs.declared.setup.Setup.{Setup}
use Rattle.lf_model.specs.declared.setup.Event.{Event}
use Rattle.lf_model.specs.declared.trace.Trace.{Trace}
use Rattle.lf_model.specs.declared.trace.CoreEnd.TheVariants.{Halt}
use Rattle.lf_model.specs.declared.flip.Flip.TheVariants as flips
use Rattle.lf_model.specs.declared.trace.Fate.TheVariants as fates
use Rattle.lf_model.specs.declared.bus.TurnKind.TheVariants as kinds
use Rattle.lf_model.specs.declared.bus.Why.TheVariants as whys

unfoldable pub drain_by_schedule_setup : Setup
drain_by_schedule_setup = record {
  image = record {
    entry = 0x40000000;
    segments =
        code_at 0x40000000 (
        0x03100004  -- sethi %hi(0x40001000), %g1
        ∷ 0xC2204000  -- st %g1, [%g1]
        ∷ 0xC2206004  -- st %g1, [%g1 + 0x4]
        ∷ 0x86006001  -- add %g1, 0x1, %g3
        ∷ 0x91D02000  -- ta 0x0
        ∷ [])
        ∷ data_at 0x40001000 (0x00000000 ∷ 0x00000000 ∷ []) ∷ [];
    text = range 0x40000000 20 ∷ [];
  };
  config = plain;
  flips =
      flips.Reg 0 4 1 3
      ∷ flips.Reg 0 5 3 0
      ∷ flips.Tag 0 4 true 0 0 1 1 ∷ [];
}

unfoldable pub drain_by_schedule_events : List Event
drain_by_schedule_events = drains_of 0 1 ∷ steps_of 0 4 ∷ drains_of 0 3 ∷ drains_of 0 1 ∷ []

unfoldable pub drain_by_schedule_trace : Trace
drain_by_schedule_trace = record {
  cores = record {
    end = Halt 0x80;
    n = 5;
    steps = 9;
    out = [];
    regs = known (
        0x00000000 ∷ 0x40001000 ∷ 0x00000000 ∷ 0x40001001 ∷ 0x00000000 ∷ 0x00000000 ∷ 0x00000000 ∷ 0x00000000
        ∷ 0x00000000 ∷ 0x00000000 ∷ 0x00000000 ∷ 0x00000000 ∷ 0x00000000 ∷ 0x00000000 ∷ 0x00000000 ∷ 0x00000000
        ∷ 0x00000000 ∷ 0x00000000 ∷ 0x00000000 ∷ 0x00000000 ∷ 0x00000000 ∷ 0x00000000 ∷ 0x00000000 ∷ 0x00000000
        ∷ 0x00000000 ∷ 0x00000000 ∷ 0x00000000 ∷ 0x00000000 ∷ 0x00000000 ∷ 0x00000000 ∷ 0x00000000 ∷ 0x00000000 ∷ []);
    psr = 0xF3000080;
    wim = 0x00000002;
    tbr = 0x00000000;
    y = 0x00000000;
    pc = 0x40000010;
    npc = 0x40000014;
    parity = parity 1 0 0 0;
  } ∷ [];
  ahb_addr = 0x00000000;
  ahb_status = 0x00000000;
  transfers =
      transfer 0 0 0 kinds.Fetch whys.Absent 0x40000000 0 8 0x0000000000000000
      ∷ transfer 1 0 4 kinds.Store whys.Sched 0x40001000 0 0 0
      ∷ transfer 2 0 5 kinds.Store whys.Sched 0x40001004 0 0 0
      ∷ transfer 3 0 6 kinds.Fetch whys.Tag 0x40000000 0 8 0x0000000000000000 ∷ [];
  order =
      store 0 0 2 0x40001000 4 0x40001000
      ∷ store 0 1 3 0x40001004 4 0x40001000 ∷ [];
  fates = fates.Repaired ∷ fates.Overwritten ∷ fates.Discarded ∷ [];
  watch = [];
}

unfoldable pub drain_by_schedule_lines : List String
drain_by_schedule_lines =
    "leon3ft report 1"
    ∷ "cores 1"
    ∷ "core 0 halt 80 5 9"
    ∷ "out 0 -"
    ∷ "g 0 00000000 40001000 00000000 40001001 00000000 00000000 00000000 00000000"
    ∷ "o 0 00000000 00000000 00000000 00000000 00000000 00000000 00000000 00000000"
    ∷ "l 0 00000000 00000000 00000000 00000000 00000000 00000000 00000000 00000000"
    ∷ "i 0 00000000 00000000 00000000 00000000 00000000 00000000 00000000 00000000"
    ∷ "ctl 0 F3000080 00000002 00000000 00000000 40000010 40000014"
    ∷ "parity 0 1 0 0 0"
    ∷ "ahb 00000000 00000000"
    ∷ "transfers 4"
    ∷ "t 0 0 0 fetch absent 40000000 0 0000000000000000"
    ∷ "t 1 0 4 store sched 40001000 - --"
    ∷ "t 2 0 5 store sched 40001004 - --"
    ∷ "t 3 0 6 fetch tag 40000000 0 0000000000000000"
    ∷ "order 2"
    ∷ "S 0 0 2 40001000 40001000"
    ∷ "S 0 1 3 40001004 40001000"
    ∷ "flips 3"
    ∷ "f 0 repaired"
    ∷ "f 1 overwritten"
    ∷ "f 2 discarded"
    ∷ "watch 0"
    ∷ "end" ∷ []

unfoldable pub drain_by_schedule_text : List ℕ
unfolding drain_by_schedule_lines
drain_by_schedule_text = text_lines drain_by_schedule_lines
