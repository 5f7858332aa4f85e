-- A word store writes a word with two turned bits whole, without reading it.
-- The program of the lost byte store with ST in place of STB. Checked: the transfer shows `--`, no syndrome and no note in
-- AHBSTAT; both flips are overwritten; the byte at 40001000 is then 00, the first of 00000077.
use Prim.Native.String.{String}
use Rattle.std.specs.Prelude.{ℕ, ◌∷◌, [], List}
use Rattle.lf_worked.specs.Rows.{range, code_at, data_at, plain, known, transfer, load, store, parity, text_lines}
use Rattle.lf_model.specs.declared.setup.Setup.{Setup}
use Rattle.lf_model.specs.declared.setup.Event.{Event}
use Rattle.lf_model.specs.declared.trace.Trace.{Trace}
use Rattle.lf_model.specs.declared.trace.CoreEnd.TheVariants.{Halt}
use Rattle.lf_model.specs.declared.flip.Flip.TheVariants as flips
use Rattle.lf_model.specs.declared.trace.Fate.TheVariants as fates
use Rattle.lf_model.specs.declared.bus.TurnKind.TheVariants as kinds
use Rattle.lf_model.specs.declared.bus.Why.TheVariants as whys

unfoldable pub word_store_mends_setup : Setup
word_store_mends_setup = record {
  image = record {
    entry = 0x40000000;
    segments =
        code_at 0x40000000 (
        0x03100004  -- sethi %hi(0x40001000), %g1
        ∷ 0x05200000  -- sethi %hi(0x80000000), %g2
        ∷ 0xD0006000  -- ld [%g1], %o0
        ∷ 0x92102077  -- or %g0, 0x77, %o1
        ∷ 0xD2206000  -- st %o1, [%g1]
        ∷ 0xD4086000  -- ldub [%g1], %o2
        ∷ 0xD420A100  -- st %o2, [%g2 + 0x100]
        ∷ 0x91D02000  -- ta 0x0
        ∷ [])
        ∷ data_at 0x40001000 (0x0000005A ∷ []) ∷ [];
    text = range 0x40000000 32 ∷ [];
  };
  config = plain;
  flips =
      flips.Mem 2 0x40001000 0
      ∷ flips.Mem 2 0x40001000 1 ∷ [];
}

unfoldable pub word_store_mends_events : List Event
word_store_mends_events = []

unfoldable pub word_store_mends_trace : Trace
word_store_mends_trace = record {
  cores = record {
    end = Halt 0x80;
    n = 8;
    steps = 11;
    out = 0x00 ∷ [];
    regs = known (
        0x00000000 ∷ 0x40001000 ∷ 0x80000000 ∷ 0x00000000 ∷ 0x00000000 ∷ 0x00000000 ∷ 0x00000000 ∷ 0x00000000
        ∷ 0x0000005A ∷ 0x00000077 ∷ 0x00000000 ∷ 0x00000000 ∷ 0x00000000 ∷ 0x00000000 ∷ 0x00000000 ∷ 0x00000000
        ∷ 0x00000000 ∷ 0x00000000 ∷ 0x00000000 ∷ 0x00000000 ∷ 0x00000000 ∷ 0x00000000 ∷ 0x00000000 ∷ 0x00000000
        ∷ 0x00000000 ∷ 0x00000000 ∷ 0x00000000 ∷ 0x00000000 ∷ 0x00000000 ∷ 0x00000000 ∷ 0x00000000 ∷ 0x00000000 ∷ []);
    psr = 0xF3000080;
    wim = 0x00000002;
    tbr = 0x00000000;
    y = 0x00000000;
    pc = 0x4000001C;
    npc = 0x40000020;
    parity = parity 0 0 0 0;
  } ∷ [];
  ahb_addr = 0x00000000;
  ahb_status = 0x00000000;
  transfers =
      transfer 0 0 0 kinds.Fetch whys.Absent 0x40000000 0 8 0x0000000000000000
      ∷ transfer 1 0 3 kinds.Load whys.Absent 0x40001000 0 8 0x0000000000000000
      ∷ transfer 2 0 9 kinds.Store whys.End 0x40001000 0 0 0 ∷ [];
  order =
      load 0 0 4 0x40001000 4 0x0000005A 0
      ∷ load 0 2 7 0x40001000 1 0x00 0
      ∷ store 0 1 6 0x40001000 4 0x00000077 ∷ [];
  fates = fates.Overwritten ∷ fates.Overwritten ∷ [];
  watch = [];
}

unfoldable pub word_store_mends_lines : List String
word_store_mends_lines =
    "leon3ft report 1"
    ∷ "cores 1"
    ∷ "core 0 halt 80 8 11"
    ∷ "out 0 00"
    ∷ "g 0 00000000 40001000 80000000 00000000 00000000 00000000 00000000 00000000"
    ∷ "o 0 0000005A 00000077 00000000 00000000 00000000 00000000 00000000 00000000"
    ∷ "l 0 00000000 00000000 00000000 00000000 00000000 00000000 00000000 00000000"
    ∷ "i 0 00000000 00000000 00000000 00000000 00000000 00000000 00000000 00000000"
    ∷ "ctl 0 F3000080 00000002 00000000 00000000 4000001C 40000020"
    ∷ "parity 0 0 0 0 0"
    ∷ "ahb 00000000 00000000"
    ∷ "transfers 3"
    ∷ "t 0 0 0 fetch absent 40000000 0 0000000000000000"
    ∷ "t 1 0 3 load absent 40001000 0 0000000000000000"
    ∷ "t 2 0 9 store end 40001000 - --"
    ∷ "order 3"
    ∷ "L 0 0 4 40001000 0000005A 0"
    ∷ "L 0 2 7 40001000 00 0"
    ∷ "S 0 1 6 40001000 00000077"
    ∷ "flips 2"
    ∷ "f 0 overwritten"
    ∷ "f 1 overwritten"
    ∷ "watch 0"
    ∷ "end" ∷ []

unfoldable pub word_store_mends_text : List ℕ
unfolding word_store_mends_lines
word_store_mends_text = text_lines word_store_mends_lines
