-- A byte for which its line was dropped stays struck until it is written.
-- Step 5 strikes byte 1: the load's look drops the line, and the step drains first. Checked: in step 6 byte 1 takes no other flip
-- (declined) and byte 2 does; the fill of step 6, by `absent`, writes both; the first flip was found (discarded).
use Prim.Native.String.{String}
use Rattle.std.specs.Prelude.{ℕ, ◌∷◌, [], List, false}
use Rattle.lf_worked.specs.Rows.{range, code_at, data_at, plain, known, transfer, load, store, parity, text_lines}
use Rattle.lf_model.specs.declared.setup.Setup.{Setup}
use Rattle.lf_model.specs.declared.setup.Event.{Event}
use Rattle.lf_model.specs.declared.trace.Trace.{Trace}
use Rattle.lf_model.specs.declared.trace.CoreEnd.TheVariants.{Halt}
use Rattle.lf_model.specs.declared.flip.Flip.TheVariants as flips
use Rattle.lf_model.specs.declared.trace.Fate.TheVariants as fates
use Rattle.lf_model.specs.declared.bus.TurnKind.TheVariants as kinds
use Rattle.lf_model.specs.declared.bus.Why.TheVariants as whys

unfoldable pub discarded_byte_stays_struck_setup : Setup
discarded_byte_stays_struck_setup = record {
  image = record {
    entry = 0x40000000;
    segments =
        code_at 0x40000000 (
        0x03100004  -- sethi %hi(0x40001000), %g1
        ∷ 0xD0004000  -- ld [%g1], %o0
        ∷ 0xC2206020  -- st %g1, [%g1 + 0x20]
        ∷ 0xD2004000  -- ld [%g1], %o1
        ∷ 0x91D02000  -- ta 0x0
        ∷ [])
        ∷ data_at 0x40001000 (
        0x0000005A ∷ 0x00000000 ∷ 0x00000000 ∷ 0x00000000 ∷ 0x00000000 ∷ 0x00000000 ∷ 0x00000000 ∷ 0x00000000
        ∷ 0x00000000 ∷ []) ∷ [];
    text = range 0x40000000 20 ∷ [];
  };
  config = plain;
  flips =
      flips.Line 0 5 false 0 0 1 0
      ∷ flips.Line 0 6 false 0 0 1 4
      ∷ flips.Line 0 6 false 0 0 2 4 ∷ [];
}

unfoldable pub discarded_byte_stays_struck_events : List Event
discarded_byte_stays_struck_events = []

unfoldable pub discarded_byte_stays_struck_trace : Trace
discarded_byte_stays_struck_trace = record {
  cores = record {
    end = Halt 0x80;
    n = 5;
    steps = 9;
    out = [];
    regs = known (
        0x00000000 ∷ 0x40001000 ∷ 0x00000000 ∷ 0x00000000 ∷ 0x00000000 ∷ 0x00000000 ∷ 0x00000000 ∷ 0x00000000
        ∷ 0x0000005A ∷ 0x0000005A ∷ 0x00000000 ∷ 0x00000000 ∷ 0x00000000 ∷ 0x00000000 ∷ 0x00000000 ∷ 0x00000000
        ∷ 0x00000000 ∷ 0x00000000 ∷ 0x00000000 ∷ 0x00000000 ∷ 0x00000000 ∷ 0x00000000 ∷ 0x00000000 ∷ 0x00000000
        ∷ 0x00000000 ∷ 0x00000000 ∷ 0x00000000 ∷ 0x00000000 ∷ 0x00000000 ∷ 0x00000000 ∷ 0x00000000 ∷ 0x00000000 ∷ []);
    psr = 0xF3000080;
    wim = 0x00000002;
    tbr = 0x00000000;
    y = 0x00000000;
    pc = 0x40000010;
    npc = 0x40000014;
    parity = parity 0 0 0 1;
  } ∷ [];
  ahb_addr = 0x00000000;
  ahb_status = 0x00000000;
  transfers =
      transfer 0 0 0 kinds.Fetch whys.Absent 0x40000000 0 8 0x0000000000000000
      ∷ transfer 1 0 2 kinds.Load whys.Absent 0x40001000 0 8 0x0000000000000000
      ∷ transfer 2 0 5 kinds.Store whys.Miss 0x40001020 0 0 0
      ∷ transfer 3 0 6 kinds.Load whys.Absent 0x40001000 0 8 0x0000000000000000 ∷ [];
  order =
      load 0 0 3 0x40001000 4 0x0000005A 0
      ∷ store 0 1 4 0x40001020 4 0x40001000
      ∷ load 0 2 7 0x40001000 4 0x0000005A 0 ∷ [];
  fates = fates.Discarded ∷ fates.Declined ∷ fates.Overwritten ∷ [];
  watch = [];
}

unfoldable pub discarded_byte_stays_struck_lines : List String
discarded_byte_stays_struck_lines =
    "leon3ft report 1"
    ∷ "cores 1"
    ∷ "core 0 halt 80 5 9"
    ∷ "out 0 -"
    ∷ "g 0 00000000 40001000 00000000 00000000 00000000 00000000 00000000 00000000"
    ∷ "o 0 0000005A 0000005A 00000000 00000000 00000000 00000000 00000000 00000000"
    ∷ "l 0 00000000 00000000 00000000 00000000 00000000 00000000 00000000 00000000"
    ∷ "i 0 00000000 00000000 00000000 00000000 00000000 00000000 00000000 00000000"
    ∷ "ctl 0 F3000080 00000002 00000000 00000000 40000010 40000014"
    ∷ "parity 0 0 0 0 1"
    ∷ "ahb 00000000 00000000"
    ∷ "transfers 4"
    ∷ "t 0 0 0 fetch absent 40000000 0 0000000000000000"
    ∷ "t 1 0 2 load absent 40001000 0 0000000000000000"
    ∷ "t 2 0 5 store miss 40001020 - --"
    ∷ "t 3 0 6 load absent 40001000 0 0000000000000000"
    ∷ "order 3"
    ∷ "L 0 0 3 40001000 0000005A 0"
    ∷ "S 0 1 4 40001020 40001000"
    ∷ "L 0 2 7 40001000 0000005A 0"
    ∷ "flips 3"
    ∷ "f 0 discarded"
    ∷ "f 1 declined"
    ∷ "f 2 overwritten"
    ∷ "watch 0"
    ∷ "end" ∷ []

unfoldable pub discarded_byte_stays_struck_text : List ℕ
unfolding discarded_byte_stays_struck_lines
discarded_byte_stays_struck_text = text_lines discarded_byte_stays_struck_lines
