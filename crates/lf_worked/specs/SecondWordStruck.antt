-- LDD looks at both its words: a struck byte of the second drops the line.
-- Step 4 strikes byte 6, of the second word, and byte 8, of the third. Checked: byte 6 is discarded, with a fill by `data`, which
-- writes byte 8 (overwritten).
use Prim.Native.String.{String}
use Rattle.std.specs.Prelude.{ℕ, ◌∷◌, [], List, false}
use Rattle.lf_worked.specs.Rows.{range, code_at, data_at, plain, known, transfer, load, parity, text_lines}
use Rattle.lf_model.specs.declared.setup.Setup.{Setup}
use Rattle.lf_model.specs.declared.setup.Event.{Event}
use Rattle.lf_model.specs.declared.trace.Trace.{Trace}
use Rattle.lf_model.specs.declared.trace.CoreEnd.TheVariants.{Halt}
use Rattle.lf_model.specs.declared.flip.Flip.TheVariants as flips
use Rattle.lf_model.specs.declared.trace.Fate.TheVariants as fates
use Rattle.lf_model.specs.declared.bus.TurnKind.TheVariants as kinds
use Rattle.lf_model.specs.declared.bus.Why.TheVariants as whys

unfoldable pub second_word_struck_setup : Setup
second_word_struck_setup = record {
  image = record {
    entry = 0x40000000;
    segments =
        code_at 0x40000000 (
        0x03100004  -- sethi %hi(0x40001000), %g1
        ∷ 0xD0184000  -- ldd [%g1], %o0
        ∷ 0xD4184000  -- ldd [%g1], %o2
        ∷ 0x91D02000  -- ta 0x0
        ∷ [])
        ∷ data_at 0x40001000 (0x00000001 ∷ 0x00000002 ∷ 0x00000003 ∷ 0x00000004 ∷ []) ∷ [];
    text = range 0x40000000 16 ∷ [];
  };
  config = plain;
  flips =
      flips.Line 0 4 false 0 0 6 0
      ∷ flips.Line 0 4 false 0 0 8 0 ∷ [];
}

unfoldable pub second_word_struck_events : List Event
second_word_struck_events = []

unfoldable pub second_word_struck_trace : Trace
second_word_struck_trace = record {
  cores = record {
    end = Halt 0x80;
    n = 4;
    steps = 7;
    out = [];
    regs = known (
        0x00000000 ∷ 0x40001000 ∷ 0x00000000 ∷ 0x00000000 ∷ 0x00000000 ∷ 0x00000000 ∷ 0x00000000 ∷ 0x00000000
        ∷ 0x00000001 ∷ 0x00000002 ∷ 0x00000001 ∷ 0x00000002 ∷ 0x00000000 ∷ 0x00000000 ∷ 0x00000000 ∷ 0x00000000
        ∷ 0x00000000 ∷ 0x00000000 ∷ 0x00000000 ∷ 0x00000000 ∷ 0x00000000 ∷ 0x00000000 ∷ 0x00000000 ∷ 0x00000000
        ∷ 0x00000000 ∷ 0x00000000 ∷ 0x00000000 ∷ 0x00000000 ∷ 0x00000000 ∷ 0x00000000 ∷ 0x00000000 ∷ 0x00000000 ∷ []);
    psr = 0xF3000080;
    wim = 0x00000002;
    tbr = 0x00000000;
    y = 0x00000000;
    pc = 0x4000000C;
    npc = 0x40000010;
    parity = parity 0 0 0 1;
  } ∷ [];
  ahb_addr = 0x00000000;
  ahb_status = 0x00000000;
  transfers =
      transfer 0 0 0 kinds.Fetch whys.Absent 0x40000000 0 8 0x0000000000000000
      ∷ transfer 1 0 2 kinds.Load whys.Absent 0x40001000 0 8 0x0000000000000000
      ∷ transfer 2 0 4 kinds.Load whys.Byte 0x40001000 0 8 0x0000000000000000 ∷ [];
  order =
      load 0 0 3 0x40001000 8 0x0000000100000002 0
      ∷ load 0 1 5 0x40001000 8 0x0000000100000002 0 ∷ [];
  fates = fates.Discarded ∷ fates.Overwritten ∷ [];
  watch = [];
}

unfoldable pub second_word_struck_lines : List String
second_word_struck_lines =
    "leon3ft report 1"
    ∷ "cores 1"
    ∷ "core 0 halt 80 4 7"
    ∷ "out 0 -"
    ∷ "g 0 00000000 40001000 00000000 00000000 00000000 00000000 00000000 00000000"
    ∷ "o 0 00000001 00000002 00000001 00000002 00000000 00000000 00000000 00000000"
    ∷ "l 0 00000000 00000000 00000000 00000000 00000000 00000000 00000000 00000000"
    ∷ "i 0 00000000 00000000 00000000 00000000 00000000 00000000 00000000 00000000"
    ∷ "ctl 0 F3000080 00000002 00000000 00000000 4000000C 40000010"
    ∷ "parity 0 0 0 0 1"
    ∷ "ahb 00000000 00000000"
    ∷ "transfers 3"
    ∷ "t 0 0 0 fetch absent 40000000 0 0000000000000000"
    ∷ "t 1 0 2 load absent 40001000 0 0000000000000000"
    ∷ "t 2 0 4 load data 40001000 0 0000000000000000"
    ∷ "order 2"
    ∷ "L 0 0 3 40001000 0000000100000002 0"
    ∷ "L 0 1 5 40001000 0000000100000002 0"
    ∷ "flips 2"
    ∷ "f 0 discarded"
    ∷ "f 1 overwritten"
    ∷ "watch 0"
    ∷ "end" ∷ []

unfoldable pub second_word_struck_text : List ℕ
unfolding second_word_struck_lines
second_word_struck_text = text_lines second_word_struck_lines
