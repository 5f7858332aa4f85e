-- A word noted by a look was stored whole before its fix.
-- The scrubber looks at turn 0 and notes the word; the core stores it whole at turn 2; the fix reads it clean. Checked: a
-- clean fix at the latched address sets AHBSTAT to 0; the flip is overwritten; the watched word is that of the store.
use Prim.Native.String.{String}
use Rattle.std.specs.Prelude.{ℕ, ◌∷◌, [], List, Some}
use Rattle.lf_worked.specs.Rows.{range, code_at, zeros_at, plain, steps_of, scrubs, known, transfer, store, word, parity, text_lines}
use Rattle.lf_model.specs.declared.setup.Setup.{Setup}
use Rattle.lf_model.specs.declared.setup.Event.{Event}
use Rattle.lf_model.specs.declared.trace.Trace.{Trace}
use Rattle.lf_model.specs.declared.trace.CoreEnd.TheVariants.{Halt}
use Rattle.lf_model.specs.declared.flip.Flip.TheVariants as flips
use Rattle.lf_model.specs.declared.trace.Fate.TheVariants as fates
use Rattle.lf_model.specs.declared.bus.TurnKind.TheVariants as kinds
use Rattle.lf_model.specs.declared.bus.Why.TheVariants as whys

unfoldable pub scrubbed_word_setup : Setup
scrubbed_word_setup = record {
  image = record {
    entry = 0x40000000;
    segments =
        code_at 0x40000000 (
        0x03100004  -- sethi %hi(0x40001000), %g1
        ∷ 0x88102001  -- or %g0, 0x1, %g4
        ∷ 0xC8206000  -- st %g4, [%g1]
        ∷ 0x91D02000  -- ta 0x0
        ∷ [])
        ∷ zeros_at 0x40001000 4 ∷ [];
    text = range 0x40000000 16 ∷ [];
  };
  config = record plain { scrub = range 0x40001000 32; scrub_turns = 2; watch = 0x40001000 ∷ [] };
  flips = flips.Mem 0 0x40001000 5 ∷ [];
}

unfoldable pub scrubbed_word_events : List Event
scrubbed_word_events = scrubs 1 ∷ steps_of 0 6 ∷ []

unfoldable pub scrubbed_word_trace : Trace
scrubbed_word_trace = record {
  cores = record {
    end = Halt 0x80;
    n = 4;
    steps = 6;
    out = [];
    regs = known (
        0x00000000 ∷ 0x40001000 ∷ 0x00000000 ∷ 0x00000000 ∷ 0x00000001 ∷ 0x00000000 ∷ 0x00000000 ∷ 0x00000000
        ∷ 0x00000000 ∷ 0x00000000 ∷ 0x00000000 ∷ 0x00000000 ∷ 0x00000000 ∷ 0x00000000 ∷ 0x00000000 ∷ 0x00000000
        ∷ 0x00000000 ∷ 0x00000000 ∷ 0x00000000 ∷ 0x00000000 ∷ 0x00000000 ∷ 0x00000000 ∷ 0x00000000 ∷ 0x00000000
        ∷ 0x00000000 ∷ 0x00000000 ∷ 0x00000000 ∷ 0x00000000 ∷ 0x00000000 ∷ 0x00000000 ∷ 0x00000000 ∷ 0x00000000 ∷ []);
    psr = 0xF3000080;
    wim = 0x00000002;
    tbr = 0x00000000;
    y = 0x00000000;
    pc = 0x4000000C;
    npc = 0x40000010;
    parity = parity 0 0 0 0;
  } ∷ [];
  ahb_addr = 0x00000000;
  ahb_status = 0x00000000;
  transfers =
      transfer 0 8 0 kinds.Look whys.None 0x40001000 0 8 0x5800000000000000
      ∷ transfer 1 0 0 kinds.Fetch whys.Absent 0x40000000 0 8 0x0000000000000000
      ∷ transfer 2 0 4 kinds.Store whys.End 0x40001000 0 0 0
      ∷ transfer 3 8 1 kinds.Fix whys.None 0x40001000 0 1 0x0000000000000000 ∷ [];
  order = store 0 0 3 0x40001000 4 0x00000001 ∷ [];
  fates = fates.Overwritten ∷ [];
  watch = word 0x40001000 (Some 0x00000001) ∷ [];
}

unfoldable pub scrubbed_word_lines : List String
scrubbed_word_lines =
    "leon3ft report 1"
    ∷ "cores 1"
    ∷ "core 0 halt 80 4 6"
    ∷ "out 0 -"
    ∷ "g 0 00000000 40001000 00000000 00000000 00000001 00000000 00000000 00000000"
    ∷ "o 0 00000000 00000000 00000000 00000000 00000000 00000000 00000000 00000000"
    ∷ "l 0 00000000 00000000 00000000 00000000 00000000 00000000 00000000 00000000"
    ∷ "i 0 00000000 00000000 00000000 00000000 00000000 00000000 00000000 00000000"
    ∷ "ctl 0 F3000080 00000002 00000000 00000000 4000000C 40000010"
    ∷ "parity 0 0 0 0 0"
    ∷ "ahb 00000000 00000000"
    ∷ "transfers 4"
    ∷ "t 0 8 0 look - 40001000 - 5800000000000000"
    ∷ "t 1 0 0 fetch absent 40000000 0 0000000000000000"
    ∷ "t 2 0 4 store end 40001000 - --"
    ∷ "t 3 8 1 fix - 40001000 - 00"
    ∷ "order 1"
    ∷ "S 0 0 3 40001000 00000001"
    ∷ "flips 1"
    ∷ "f 0 overwritten"
    ∷ "watch 1"
    ∷ "w 40001000 00000001"
    ∷ "end" ∷ []

unfoldable pub scrubbed_word_text : List ℕ
unfolding scrubbed_word_lines
scrubbed_word_text = text_lines scrubbed_word_lines
