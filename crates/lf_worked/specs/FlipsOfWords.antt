-- What becomes of flips of memory words.
-- Turn 1 strikes the first word and loads it; turn 2 stores a byte into it; turn 3 strikes the second word, which SWAP reads and
-- writes, and the third, twice. Checked: a part store and an atomic write back what they corrected (repaired); the third word
-- takes two flips (dormant) and declines a third; turn 4 never comes; the third word is reported without a value.
use Prim.Native.String.{String}
use Rattle.std.specs.Prelude.{ℕ, ◌∷◌, [], List, Some, None}
use Rattle.lf_worked.specs.Rows.{range, code_at, data_at, plain, known, transfer, load, store, atomic, word, parity, text_lines}
use Rattle.lf_model.specs.declared.setup.Setup.{Setup}
use Rattle.lf_model.specs.declared.setup.Event.{Event}
use Rattle.lf_model.specs.declared.trace.Trace.{Trace}
use Rattle.lf_model.specs.declared.trace.CoreEnd.TheVariants.{Halt}
use Rattle.lf_model.specs.declared.flip.Flip.TheVariants as flips
use Rattle.lf_model.specs.declared.trace.Fate.TheVariants as fates
use Rattle.lf_model.specs.declared.bus.TurnKind.TheVariants as kinds
use Rattle.lf_model.specs.declared.bus.Why.TheVariants as whys

unfoldable pub flips_of_words_setup : Setup
flips_of_words_setup = record {
  image = record {
    entry = 0x40000000;
    segments =
        code_at 0x40000000 (
        0x03100004  -- sethi %hi(0x40001000), %g1
        ∷ 0xD0084000  -- ldub [%g1], %o0
        ∷ 0xC0286001  -- stb %g0, [%g1 + 0x1]
        ∷ 0xD2786004  -- swap [%g1 + 0x4], %o1
        ∷ 0x91D02000  -- ta 0x0
        ∷ [])
        ∷ data_at 0x40001000 (0x00000011 ∷ 0x00000022 ∷ 0x00000033 ∷ []) ∷ [];
    text = range 0x40000000 20 ∷ [];
  };
  config = record plain { watch = 0x40001000 ∷ 0x40001008 ∷ [] };
  flips =
      flips.Mem 1 0x40001000 0
      ∷ flips.Mem 3 0x40001004 9
      ∷ flips.Mem 0 0x40001008 0
      ∷ flips.Mem 3 0x40001008 1
      ∷ flips.Mem 3 0x40001008 2
      ∷ flips.Mem 4 0x40001000 0 ∷ [];
}

unfoldable pub flips_of_words_events : List Event
flips_of_words_events = []

unfoldable pub flips_of_words_trace : Trace
flips_of_words_trace = record {
  cores = record {
    end = Halt 0x80;
    n = 5;
    steps = 8;
    out = [];
    regs = known (
        0x00000000 ∷ 0x40001000 ∷ 0x00000000 ∷ 0x00000000 ∷ 0x00000000 ∷ 0x00000000 ∷ 0x00000000 ∷ 0x00000000
        ∷ 0x00000000 ∷ 0x00000022 ∷ 0x00000000 ∷ 0x00000000 ∷ 0x00000000 ∷ 0x00000000 ∷ 0x00000000 ∷ 0x00000000
        ∷ 0x00000000 ∷ 0x00000000 ∷ 0x00000000 ∷ 0x00000000 ∷ 0x00000000 ∷ 0x00000000 ∷ 0x00000000 ∷ 0x00000000
        ∷ 0x00000000 ∷ 0x00000000 ∷ 0x00000000 ∷ 0x00000000 ∷ 0x00000000 ∷ 0x00000000 ∷ 0x00000000 ∷ 0x00000000 ∷ []);
    psr = 0xF3000080;
    wim = 0x00000002;
    tbr = 0x00000000;
    y = 0x00000000;
    pc = 0x40000010;
    npc = 0x40000014;
    parity = parity 0 0 0 0;
  } ∷ [];
  ahb_addr = 0x40001000;
  ahb_status = 0x00000302;
  transfers =
      transfer 0 0 0 kinds.Fetch whys.Absent 0x40000000 0 8 0x0000000000000000
      ∷ transfer 1 0 2 kinds.Load whys.Absent 0x40001000 0 8 0x4F004F0000000000
      ∷ transfer 2 0 5 kinds.Store whys.Atomic 0x40001001 0 1 0x4F00000000000000
      ∷ transfer 3 0 6 kinds.Atomic whys.None 0x40001004 0 1 0x2500000000000000 ∷ [];
  order =
      load 0 0 3 0x40001000 1 0x00 0
      ∷ store 0 1 4 0x40001001 1 0x00
      ∷ atomic 0 2 6 0x40001004 4 0x00000022 0x00000000 ∷ [];
  fates =
      fates.Repaired ∷ fates.Repaired ∷ fates.Dormant ∷ fates.Dormant
      ∷ fates.Declined ∷ fates.Late ∷ [];
  watch =
      word 0x40001000 (Some 0x00000011)
      ∷ word 0x40001008 None ∷ [];
}

unfoldable pub flips_of_words_lines : List String
flips_of_words_lines =
    "leon3ft report 1"
    ∷ "cores 1"
    ∷ "core 0 halt 80 5 8"
    ∷ "out 0 -"
    ∷ "g 0 00000000 40001000 00000000 00000000 00000000 00000000 00000000 00000000"
    ∷ "o 0 00000000 00000022 00000000 00000000 00000000 00000000 00000000 00000000"
    ∷ "l 0 00000000 00000000 00000000 00000000 00000000 00000000 00000000 00000000"
    ∷ "i 0 00000000 00000000 00000000 00000000 00000000 00000000 00000000 00000000"
    ∷ "ctl 0 F3000080 00000002 00000000 00000000 40000010 40000014"
    ∷ "parity 0 0 0 0 0"
    ∷ "ahb 40001000 00000302"
    ∷ "transfers 4"
    ∷ "t 0 0 0 fetch absent 40000000 0 0000000000000000"
    ∷ "t 1 0 2 load absent 40001000 0 4F004F0000000000"
    ∷ "t 2 0 5 store atomic 40001001 - 4F"
    ∷ "t 3 0 6 atomic - 40001004 - 25"
    ∷ "order 3"
    ∷ "L 0 0 3 40001000 00 0"
    ∷ "S 0 1 4 40001001 00"
    ∷ "A 0 2 6 40001004 00000022 00000000"
    ∷ "flips 6"
    ∷ "f 0 repaired"
    ∷ "f 1 repaired"
    ∷ "f 2 dormant"
    ∷ "f 3 dormant"
    ∷ "f 4 declined"
    ∷ "f 5 late"
    ∷ "watch 2"
    ∷ "w 40001000 00000011"
    ∷ "w 40001008 --------"
    ∷ "end" ∷ []

unfoldable pub flips_of_words_text : List ℕ
unfolding flips_of_words_lines
flips_of_words_text = text_lines flips_of_words_lines
