-- The first instruction has two turned bits: the fetch stops the core by 01.
-- Checked: 0F is 4F xor 40, the columns of data bit 0 and check bit 6 (bit 38); AHBSTAT notes the lowest word that is not clean,
-- that of PC, as not corrected; the word at 40000008 has one turned bit and syndrome 25, and its flip is dormant.
use Prim.Native.String.{String}
use Rattle.std.specs.Prelude.{ℕ, ◌∷◌, [], List}
use Rattle.lf_worked.specs.Rows.{range, code_at, plain, known, transfer, parity, text_lines}
use Rattle.lf_model.specs.declared.setup.Setup.{Setup}
use Rattle.lf_model.specs.declared.setup.Event.{Event}
use Rattle.lf_model.specs.declared.trace.Trace.{Trace}
use Rattle.lf_model.specs.declared.trace.CoreEnd.TheVariants.{Stop}
use Rattle.lf_model.specs.declared.flip.Flip.TheVariants as flips
use Rattle.lf_model.specs.declared.trace.Fate.TheVariants as fates
use Rattle.lf_model.specs.declared.bus.TurnKind.TheVariants as kinds
use Rattle.lf_model.specs.declared.bus.Why.TheVariants as whys

unfoldable pub fetch_bad_word_setup : Setup
fetch_bad_word_setup = record {
  image = record {
    entry = 0x40000000;
    segments = code_at 0x40000000 (
        0x90102001  -- or %g0, 0x1, %o0
        ∷ 0x92102002  -- or %g0, 0x2, %o1
        ∷ 0x91D02000  -- ta 0x0
        ∷ []) ∷ [];
    text = range 0x40000000 12 ∷ [];
  };
  config = plain;
  flips =
      flips.Mem 0 0x40000000 0
      ∷ flips.Mem 0 0x40000000 38
      ∷ flips.Mem 0 0x40000008 9 ∷ [];
}

unfoldable pub fetch_bad_word_events : List Event
fetch_bad_word_events = []

unfoldable pub fetch_bad_word_trace : Trace
fetch_bad_word_trace = record {
  cores = record {
    end = Stop 0x01 0 0x0F;
    n = 0;
    steps = 1;
    out = [];
    regs = known (
        0x00000000 ∷ 0x00000000 ∷ 0x00000000 ∷ 0x00000000 ∷ 0x00000000 ∷ 0x00000000 ∷ 0x00000000 ∷ 0x00000000
        ∷ 0x00000000 ∷ 0x00000000 ∷ 0x00000000 ∷ 0x00000000 ∷ 0x00000000 ∷ 0x00000000 ∷ 0x00000000 ∷ 0x00000000
        ∷ 0x00000000 ∷ 0x00000000 ∷ 0x00000000 ∷ 0x00000000 ∷ 0x00000000 ∷ 0x00000000 ∷ 0x00000000 ∷ 0x00000000
        ∷ 0x00000000 ∷ 0x00000000 ∷ 0x00000000 ∷ 0x00000000 ∷ 0x00000000 ∷ 0x00000000 ∷ 0x00000000 ∷ 0x00000000 ∷ []);
    psr = 0xF3000080;
    wim = 0x00000002;
    tbr = 0x00000000;
    y = 0x00000000;
    pc = 0x40000000;
    npc = 0x40000004;
    parity = parity 0 0 0 0;
  } ∷ [];
  ahb_addr = 0x40000000;
  ahb_status = 0x00000102;
  transfers = transfer 0 0 0 kinds.Fetch whys.Absent 0x40000000 0 8 0x0F00250000000000 ∷ [];
  order = [];
  fates = fates.Stopped ∷ fates.Stopped ∷ fates.Dormant ∷ [];
  watch = [];
}

unfoldable pub fetch_bad_word_lines : List String
fetch_bad_word_lines =
    "leon3ft report 1"
    ∷ "cores 1"
    ∷ "core 0 stop 01 0 1 0 0F"
    ∷ "out 0 -"
    ∷ "g 0 00000000 00000000 00000000 00000000 00000000 00000000 00000000 00000000"
    ∷ "o 0 00000000 00000000 00000000 00000000 00000000 00000000 00000000 00000000"
    ∷ "l 0 00000000 00000000 00000000 00000000 00000000 00000000 00000000 00000000"
    ∷ "i 0 00000000 00000000 00000000 00000000 00000000 00000000 00000000 00000000"
    ∷ "ctl 0 F3000080 00000002 00000000 00000000 40000000 40000004"
    ∷ "parity 0 0 0 0 0"
    ∷ "ahb 40000000 00000102"
    ∷ "transfers 1"
    ∷ "t 0 0 0 fetch absent 40000000 0 0F00250000000000"
    ∷ "order 0"
    ∷ "flips 3"
    ∷ "f 0 stopped"
    ∷ "f 1 stopped"
    ∷ "f 2 dormant"
    ∷ "watch 0"
    ∷ "end" ∷ []

unfoldable pub fetch_bad_word_text : List ℕ
unfolding fetch_bad_word_lines
fetch_bad_word_text = text_lines fetch_bad_word_lines
