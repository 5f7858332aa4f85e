-- A store to a word that is not valid writes none of its bytes in the cache.
-- The word at 40001000 was bad when the line was filled. Step 4 strikes its byte 0 and stores to it. Checked: in step 5 the byte takes no
-- other flip (declined), as it was not written; the fill of step 6 writes it (overwritten).
use Prim.Native.String.{String}
use Rattle.std.specs.Prelude.{ℕ, ◌∷◌, [], List, false}
use Rattle.lf_worked.specs.Rows.{range, code_at, data_at, plain, known, transfer, load, store, parity, text_lines}
use Rattle.lf_model.specs.declared.setup.Setup.{Setup}
use Rattle.lf_model.specs.declared.setup.Event.{Event}
use Rattle.lf_model.specs.declared.trace.Trace.{Trace}
use Rattle.lf_model.specs.declared.trace.CoreEnd.TheVariants.{Halt}
use Rattle.lf_model.specs.declared.flip.Flip.TheVariants as flips
use Rattle.lf_model.specs.declared.trace.Fate.TheVariants as fates
use Rattle.lf_model.specs.declared.bus.TurnKind.TheVariants as kinds
use Rattle.lf_model.specs.declared.bus.Why.TheVariants as whys

unfoldable pub store_to_a_word_not_valid_setup : Setup
store_to_a_word_not_valid_setup = record {
  image = record {
    entry = 0x40000000;
    segments =
        code_at 0x40000000 (
        0x03100004  -- sethi %hi(0x40001000), %g1
        ∷ 0xD0006004  -- ld [%g1 + 0x4], %o0
        ∷ 0xC2204000  -- st %g1, [%g1]
        ∷ 0xD2004000  -- ld [%g1], %o1
        ∷ 0x91D02000  -- ta 0x0
        ∷ [])
        ∷ data_at 0x40001000 (0x0000005A ∷ 0x0000005B ∷ []) ∷ [];
    text = range 0x40000000 20 ∷ [];
  };
  config = plain;
  flips =
      flips.Mem 1 0x40001000 0
      ∷ flips.Mem 1 0x40001000 1
      ∷ flips.Line 0 4 false 0 0 0 0
      ∷ flips.Line 0 5 false 0 0 0 1 ∷ [];
}

unfoldable pub store_to_a_word_not_valid_events : List Event
store_to_a_word_not_valid_events = []

unfoldable pub store_to_a_word_not_valid_trace : Trace
store_to_a_word_not_valid_trace = record {
  cores = record {
    end = Halt 0x80;
    n = 5;
    steps = 9;
    out = [];
    regs = known (
        0x00000000 ∷ 0x40001000 ∷ 0x00000000 ∷ 0x00000000 ∷ 0x00000000 ∷ 0x00000000 ∷ 0x00000000 ∷ 0x00000000
        ∷ 0x0000005B ∷ 0x40001000 ∷ 0x00000000 ∷ 0x00000000 ∷ 0x00000000 ∷ 0x00000000 ∷ 0x00000000 ∷ 0x00000000
        ∷ 0x00000000 ∷ 0x00000000 ∷ 0x00000000 ∷ 0x00000000 ∷ 0x00000000 ∷ 0x00000000 ∷ 0x00000000 ∷ 0x00000000
        ∷ 0x00000000 ∷ 0x00000000 ∷ 0x00000000 ∷ 0x00000000 ∷ 0x00000000 ∷ 0x00000000 ∷ 0x00000000 ∷ 0x00000000 ∷ []);
    psr = 0xF3000080;
    wim = 0x00000002;
    tbr = 0x00000000;
    y = 0x00000000;
    pc = 0x40000010;
    npc = 0x40000014;
    parity = parity 0 0 0 0;
  } ∷ [];
  ahb_addr = 0x40001000;
  ahb_status = 0x00000102;
  transfers =
      transfer 0 0 0 kinds.Fetch whys.Absent 0x40000000 0 8 0x0000000000000000
      ∷ transfer 1 0 2 kinds.Load whys.Absent 0x40001000 0 8 0x0500000000000000
      ∷ transfer 2 0 5 kinds.Store whys.Miss 0x40001000 0 0 0
      ∷ transfer 3 0 6 kinds.Load whys.Word 0x40001000 0 8 0x0000000000000000 ∷ [];
  order =
      load 0 0 3 0x40001004 4 0x0000005B 0
      ∷ store 0 1 4 0x40001000 4 0x40001000
      ∷ load 0 2 7 0x40001000 4 0x40001000 0 ∷ [];
  fates = fates.Overwritten ∷ fates.Overwritten ∷ fates.Overwritten ∷ fates.Declined ∷ [];
  watch = [];
}

unfoldable pub store_to_a_word_not_valid_lines : List String
store_to_a_word_not_valid_lines =
    "leon3ft report 1"
    ∷ "cores 1"
    ∷ "core 0 halt 80 5 9"
    ∷ "out 0 -"
    ∷ "g 0 00000000 40001000 00000000 00000000 00000000 00000000 00000000 00000000"
    ∷ "o 0 0000005B 40001000 00000000 00000000 00000000 00000000 00000000 00000000"
    ∷ "l 0 00000000 00000000 00000000 00000000 00000000 00000000 00000000 00000000"
    ∷ "i 0 00000000 00000000 00000000 00000000 00000000 00000000 00000000 00000000"
    ∷ "ctl 0 F3000080 00000002 00000000 00000000 40000010 40000014"
    ∷ "parity 0 0 0 0 0"
    ∷ "ahb 40001000 00000102"
    ∷ "transfers 4"
    ∷ "t 0 0 0 fetch absent 40000000 0 0000000000000000"
    ∷ "t 1 0 2 load absent 40001000 0 0500000000000000"
    ∷ "t 2 0 5 store miss 40001000 - --"
    ∷ "t 3 0 6 load word 40001000 0 0000000000000000"
    ∷ "order 3"
    ∷ "L 0 0 3 40001004 0000005B 0"
    ∷ "S 0 1 4 40001000 40001000"
    ∷ "L 0 2 7 40001000 40001000 0"
    ∷ "flips 4"
    ∷ "f 0 overwritten"
    ∷ "f 1 overwritten"
    ∷ "f 2 overwritten"
    ∷ "f 3 declined"
    ∷ "watch 0"
    ∷ "end" ∷ []

unfoldable pub store_to_a_word_not_valid_text : List ℕ
unfolding store_to_a_word_not_valid_lines
store_to_a_word_not_valid_text = text_lines store_to_a_word_not_valid_lines
