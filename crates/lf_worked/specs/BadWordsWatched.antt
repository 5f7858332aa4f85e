-- Watched words: one with two turned bits, and one that the scrubber corrected.
-- Checked: the first is reported without a value, and its flips are dormant, as no trap met it; the second is repaired; the note of the
-- first stays.
use Prim.Native.String.{String}
use Rattle.std.specs.Prelude.{ℕ, ◌∷◌, [], List, Some, None}
use Rattle.lf_worked.specs.Rows.{range, code_at, data_at, plain, steps_of, scrubs, known, transfer, word, parity, text_lines}
use Rattle.lf_model.specs.declared.setup.Setup.{Setup}
use Rattle.lf_model.specs.declared.setup.Event.{Event}
use Rattle.lf_model.specs.declared.trace.Trace.{Trace}
use Rattle.lf_model.specs.declared.trace.CoreEnd.TheVariants.{Halt}
use Rattle.lf_model.specs.declared.flip.Flip.TheVariants as flips
use Rattle.lf_model.specs.declared.trace.Fate.TheVariants as fates
use Rattle.lf_model.specs.declared.bus.TurnKind.TheVariants as kinds
use Rattle.lf_model.specs.declared.bus.Why.TheVariants as whys

unfoldable pub bad_words_watched_setup : Setup
bad_words_watched_setup = record {
  image = record {
    entry = 0x40000000;
    segments =
        code_at 0x40000000 (
        0x03100004  -- sethi %hi(0x40001000), %g1
        ∷ 0x90102001  -- or %g0, 0x1, %o0
        ∷ 0x91D02000  -- ta 0x0
        ∷ [])
        ∷ data_at 0x40001000 (0x00000001 ∷ 0x00000002 ∷ []) ∷ [];
    text = range 0x40000000 12 ∷ [];
  };
  config = record plain { scrub = range 0x40001000 32; scrub_turns = 3; watch = 0x40001000 ∷ 0x40001004 ∷ [] };
  flips =
      flips.Mem 1 0x40001000 0
      ∷ flips.Mem 1 0x40001000 1
      ∷ flips.Mem 1 0x40001004 2 ∷ [];
}

unfoldable pub bad_words_watched_events : List Event
bad_words_watched_events = steps_of 0 1 ∷ scrubs 3 ∷ []

unfoldable pub bad_words_watched_trace : Trace
bad_words_watched_trace = record {
  cores = record {
    end = Halt 0x80;
    n = 3;
    steps = 4;
    out = [];
    regs = known (
        0x00000000 ∷ 0x40001000 ∷ 0x00000000 ∷ 0x00000000 ∷ 0x00000000 ∷ 0x00000000 ∷ 0x00000000 ∷ 0x00000000
        ∷ 0x00000001 ∷ 0x00000000 ∷ 0x00000000 ∷ 0x00000000 ∷ 0x00000000 ∷ 0x00000000 ∷ 0x00000000 ∷ 0x00000000
        ∷ 0x00000000 ∷ 0x00000000 ∷ 0x00000000 ∷ 0x00000000 ∷ 0x00000000 ∷ 0x00000000 ∷ 0x00000000 ∷ 0x00000000
        ∷ 0x00000000 ∷ 0x00000000 ∷ 0x00000000 ∷ 0x00000000 ∷ 0x00000000 ∷ 0x00000000 ∷ 0x00000000 ∷ 0x00000000 ∷ []);
    psr = 0xF3000080;
    wim = 0x00000002;
    tbr = 0x00000000;
    y = 0x00000000;
    pc = 0x40000008;
    npc = 0x4000000C;
    parity = parity 0 0 0 0;
  } ∷ [];
  ahb_addr = 0x40001000;
  ahb_status = 0x00000142;
  transfers =
      transfer 0 0 0 kinds.Fetch whys.Absent 0x40000000 0 8 0x0000000000000000
      ∷ transfer 1 8 0 kinds.Look whys.None 0x40001000 0 8 0x0552000000000000
      ∷ transfer 2 8 1 kinds.Fix whys.None 0x40001000 0 1 0x0500000000000000
      ∷ transfer 3 8 2 kinds.Fix whys.None 0x40001004 0 1 0x5200000000000000 ∷ [];
  order = [];
  fates = fates.Dormant ∷ fates.Dormant ∷ fates.Repaired ∷ [];
  watch =
      word 0x40001000 None
      ∷ word 0x40001004 (Some 0x00000002) ∷ [];
}

unfoldable pub bad_words_watched_lines : List String
bad_words_watched_lines =
    "leon3ft report 1"
    ∷ "cores 1"
    ∷ "core 0 halt 80 3 4"
    ∷ "out 0 -"
    ∷ "g 0 00000000 40001000 00000000 00000000 00000000 00000000 00000000 00000000"
    ∷ "o 0 00000001 00000000 00000000 00000000 00000000 00000000 00000000 00000000"
    ∷ "l 0 00000000 00000000 00000000 00000000 00000000 00000000 00000000 00000000"
    ∷ "i 0 00000000 00000000 00000000 00000000 00000000 00000000 00000000 00000000"
    ∷ "ctl 0 F3000080 00000002 00000000 00000000 40000008 4000000C"
    ∷ "parity 0 0 0 0 0"
    ∷ "ahb 40001000 00000142"
    ∷ "transfers 4"
    ∷ "t 0 0 0 fetch absent 40000000 0 0000000000000000"
    ∷ "t 1 8 0 look - 40001000 - 0552000000000000"
    ∷ "t 2 8 1 fix - 40001000 - 05"
    ∷ "t 3 8 2 fix - 40001004 - 52"
    ∷ "order 0"
    ∷ "flips 3"
    ∷ "f 0 dormant"
    ∷ "f 1 dormant"
    ∷ "f 2 repaired"
    ∷ "watch 2"
    ∷ "w 40001000 --------"
    ∷ "w 40001004 00000002"
    ∷ "end" ∷ []

unfoldable pub bad_words_watched_text : List ℕ
unfolding bad_words_watched_lines
bad_words_watched_text = text_lines bad_words_watched_lines
