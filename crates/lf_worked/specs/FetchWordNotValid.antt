-- A word that was bad when its line was filled is not valid: its fetch misses by `word`, and stops the core.
-- Checked: 3A is 4F xor 75; the first instruction is made; the fetch of the second misses by `word` in step 2 and its fill
-- meets the bad word again; the third flip is over the budget of two; AHBSTAT keeps its first note.
use Prim.Native.String.{String}
use Rattle.std.specs.Prelude.{ℕ, ◌∷◌, [], List}
use Rattle.lf_worked.specs.Rows.{range, code_at, plain, known, transfer, parity, text_lines}
use Rattle.lf_model.specs.declared.setup.Setup.{Setup}
use Rattle.lf_model.specs.declared.setup.Event.{Event}
use Rattle.lf_model.specs.declared.trace.Trace.{Trace}
use Rattle.lf_model.specs.declared.trace.CoreEnd.TheVariants.{Stop}
use Rattle.lf_model.specs.declared.flip.Flip.TheVariants as flips
use Rattle.lf_model.specs.declared.trace.Fate.TheVariants as fates
use Rattle.lf_model.specs.declared.bus.TurnKind.TheVariants as kinds
use Rattle.lf_model.specs.declared.bus.Why.TheVariants as whys

unfoldable pub fetch_word_not_valid_setup : Setup
fetch_word_not_valid_setup = record {
  image = record {
    entry = 0x40000000;
    segments = code_at 0x40000000 (
        0x90102001  -- or %g0, 0x1, %o0
        ∷ 0x92102002  -- or %g0, 0x2, %o1
        ∷ 0x91D02000  -- ta 0x0
        ∷ []) ∷ [];
    text = range 0x40000000 12 ∷ [];
  };
  config = plain;
  flips =
      flips.Mem 0 0x40000004 0
      ∷ flips.Mem 0 0x40000004 31
      ∷ flips.Mem 0 0x40000004 5 ∷ [];
}

unfoldable pub fetch_word_not_valid_events : List Event
fetch_word_not_valid_events = []

unfoldable pub fetch_word_not_valid_trace : Trace
fetch_word_not_valid_trace = record {
  cores = record {
    end = Stop 0x01 1 0x3A;
    n = 1;
    steps = 3;
    out = [];
    regs = known (
        0x00000000 ∷ 0x00000000 ∷ 0x00000000 ∷ 0x00000000 ∷ 0x00000000 ∷ 0x00000000 ∷ 0x00000000 ∷ 0x00000000
        ∷ 0x00000001 ∷ 0x00000000 ∷ 0x00000000 ∷ 0x00000000 ∷ 0x00000000 ∷ 0x00000000 ∷ 0x00000000 ∷ 0x00000000
        ∷ 0x00000000 ∷ 0x00000000 ∷ 0x00000000 ∷ 0x00000000 ∷ 0x00000000 ∷ 0x00000000 ∷ 0x00000000 ∷ 0x00000000
        ∷ 0x00000000 ∷ 0x00000000 ∷ 0x00000000 ∷ 0x00000000 ∷ 0x00000000 ∷ 0x00000000 ∷ 0x00000000 ∷ 0x00000000 ∷ []);
    psr = 0xF3000080;
    wim = 0x00000002;
    tbr = 0x00000000;
    y = 0x00000000;
    pc = 0x40000004;
    npc = 0x40000008;
    parity = parity 0 0 0 0;
  } ∷ [];
  ahb_addr = 0x40000004;
  ahb_status = 0x00000102;
  transfers =
      transfer 0 0 0 kinds.Fetch whys.Absent 0x40000000 0 8 0x003A000000000000
      ∷ transfer 1 0 2 kinds.Fetch whys.Word 0x40000000 0 8 0x003A000000000000 ∷ [];
  order = [];
  fates = fates.Stopped ∷ fates.Stopped ∷ fates.Declined ∷ [];
  watch = [];
}

unfoldable pub fetch_word_not_valid_lines : List String
fetch_word_not_valid_lines =
    "leon3ft report 1"
    ∷ "cores 1"
    ∷ "core 0 stop 01 1 3 1 3A"
    ∷ "out 0 -"
    ∷ "g 0 00000000 00000000 00000000 00000000 00000000 00000000 00000000 00000000"
    ∷ "o 0 00000001 00000000 00000000 00000000 00000000 00000000 00000000 00000000"
    ∷ "l 0 00000000 00000000 00000000 00000000 00000000 00000000 00000000 00000000"
    ∷ "i 0 00000000 00000000 00000000 00000000 00000000 00000000 00000000 00000000"
    ∷ "ctl 0 F3000080 00000002 00000000 00000000 40000004 40000008"
    ∷ "parity 0 0 0 0 0"
    ∷ "ahb 40000004 00000102"
    ∷ "transfers 2"
    ∷ "t 0 0 0 fetch absent 40000000 0 003A000000000000"
    ∷ "t 1 0 2 fetch word 40000000 0 003A000000000000"
    ∷ "order 0"
    ∷ "flips 3"
    ∷ "f 0 stopped"
    ∷ "f 1 stopped"
    ∷ "f 2 declined"
    ∷ "watch 0"
    ∷ "end" ∷ []

unfoldable pub fetch_word_not_valid_text : List ℕ
unfolding fetch_word_not_valid_lines
fetch_word_not_valid_text = text_lines fetch_word_not_valid_lines
