-- A store checks the tags of its set before it updates the line.
-- Step 4 strikes a tag byte of the resident line, and the store of that step drops it. Checked: the counter is 1 and the flip
-- discarded, though no load looks; the drop wrote the byte, so it takes another flip in step 5 (dormant).
use Prim.Native.String.{String}
use Rattle.std.specs.Prelude.{ℕ, ◌∷◌, [], List, false}
use Rattle.lf_worked.specs.Rows.{range, code_at, data_at, plain, known, transfer, load, store, parity, text_lines}
use Rattle.lf_model.specs.declared.setup.Setup.{Setup}
use Rattle.lf_model.specs.declared.setup.Event.{Event}
use Rattle.lf_model.specs.declared.trace.Trace.{Trace}
use Rattle.lf_model.specs.declared.trace.CoreEnd.TheVariants.{Halt}
use Rattle.lf_model.specs.declared.flip.Flip.TheVariants as flips
use Rattle.lf_model.specs.declared.trace.Fate.TheVariants as fates
use Rattle.lf_model.specs.declared.bus.TurnKind.TheVariants as kinds
use Rattle.lf_model.specs.declared.bus.Why.TheVariants as whys

unfoldable pub store_checks_tags_setup : Setup
store_checks_tags_setup = record {
  image = record {
    entry = 0x40000000;
    segments =
        code_at 0x40000000 (
        0x03100004  -- sethi %hi(0x40001000), %g1
        ∷ 0xD0004000  -- ld [%g1], %o0
        ∷ 0xC2204000  -- st %g1, [%g1]
        ∷ 0x91D02000  -- ta 0x0
        ∷ [])
        ∷ data_at 0x40001000 (0x0000005A ∷ []) ∷ [];
    text = range 0x40000000 16 ∷ [];
  };
  config = plain;
  flips =
      flips.Tag 0 4 false 0 0 2 7
      ∷ flips.Tag 0 5 false 0 0 2 6 ∷ [];
}

unfoldable pub store_checks_tags_events : List Event
store_checks_tags_events = []

unfoldable pub store_checks_tags_trace : Trace
store_checks_tags_trace = record {
  cores = record {
    end = Halt 0x80;
    n = 4;
    steps = 7;
    out = [];
    regs = known (
        0x00000000 ∷ 0x40001000 ∷ 0x00000000 ∷ 0x00000000 ∷ 0x00000000 ∷ 0x00000000 ∷ 0x00000000 ∷ 0x00000000
        ∷ 0x0000005A ∷ 0x00000000 ∷ 0x00000000 ∷ 0x00000000 ∷ 0x00000000 ∷ 0x00000000 ∷ 0x00000000 ∷ 0x00000000
        ∷ 0x00000000 ∷ 0x00000000 ∷ 0x00000000 ∷ 0x00000000 ∷ 0x00000000 ∷ 0x00000000 ∷ 0x00000000 ∷ 0x00000000
        ∷ 0x00000000 ∷ 0x00000000 ∷ 0x00000000 ∷ 0x00000000 ∷ 0x00000000 ∷ 0x00000000 ∷ 0x00000000 ∷ 0x00000000 ∷ []);
    psr = 0xF3000080;
    wim = 0x00000002;
    tbr = 0x00000000;
    y = 0x00000000;
    pc = 0x4000000C;
    npc = 0x40000010;
    parity = parity 0 0 1 0;
  } ∷ [];
  ahb_addr = 0x00000000;
  ahb_status = 0x00000000;
  transfers =
      transfer 0 0 0 kinds.Fetch whys.Absent 0x40000000 0 8 0x0000000000000000
      ∷ transfer 1 0 2 kinds.Load whys.Absent 0x40001000 0 8 0x0000000000000000
      ∷ transfer 2 0 5 kinds.Store whys.End 0x40001000 0 0 0 ∷ [];
  order =
      load 0 0 3 0x40001000 4 0x0000005A 0
      ∷ store 0 1 4 0x40001000 4 0x40001000 ∷ [];
  fates = fates.Discarded ∷ fates.Dormant ∷ [];
  watch = [];
}

unfoldable pub store_checks_tags_lines : List String
store_checks_tags_lines =
    "leon3ft report 1"
    ∷ "cores 1"
    ∷ "core 0 halt 80 4 7"
    ∷ "out 0 -"
    ∷ "g 0 00000000 40001000 00000000 00000000 00000000 00000000 00000000 00000000"
    ∷ "o 0 0000005A 00000000 00000000 00000000 00000000 00000000 00000000 00000000"
    ∷ "l 0 00000000 00000000 00000000 00000000 00000000 00000000 00000000 00000000"
    ∷ "i 0 00000000 00000000 00000000 00000000 00000000 00000000 00000000 00000000"
    ∷ "ctl 0 F3000080 00000002 00000000 00000000 4000000C 40000010"
    ∷ "parity 0 0 0 1 0"
    ∷ "ahb 00000000 00000000"
    ∷ "transfers 3"
    ∷ "t 0 0 0 fetch absent 40000000 0 0000000000000000"
    ∷ "t 1 0 2 load absent 40001000 0 0000000000000000"
    ∷ "t 2 0 5 store end 40001000 - --"
    ∷ "order 2"
    ∷ "L 0 0 3 40001000 0000005A 0"
    ∷ "S 0 1 4 40001000 40001000"
    ∷ "flips 2"
    ∷ "f 0 discarded"
    ∷ "f 1 dormant"
    ∷ "watch 0"
    ∷ "end" ∷ []

unfoldable pub store_checks_tags_text : List ℕ
unfolding store_checks_tags_lines
store_checks_tags_text = text_lines store_checks_tags_lines
