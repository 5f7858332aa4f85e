-- LDD whose second word has two turned bits stops the core by 09.
-- Checked: 4E is 4F xor 01; AHBSTAT notes the lowest word that is not clean, 40001000, which was corrected and which LDD does not
-- want: 302.
use Prim.Native.String.{String}
use Rattle.std.specs.Prelude.{ℕ, ◌∷◌, [], List}
use Rattle.lf_worked.specs.Rows.{range, code_at, data_at, plain, known, transfer, parity, text_lines}
use Rattle.lf_model.specs.declared.setup.Setup.{Setup}
use Rattle.lf_model.specs.declared.setup.Event.{Event}
use Rattle.lf_model.specs.declared.trace.Trace.{Trace}
use Rattle.lf_model.specs.declared.trace.CoreEnd.TheVariants.{Stop}
use Rattle.lf_model.specs.declared.flip.Flip.TheVariants as flips
use Rattle.lf_model.specs.declared.trace.Fate.TheVariants as fates
use Rattle.lf_model.specs.declared.bus.TurnKind.TheVariants as kinds
use Rattle.lf_model.specs.declared.bus.Why.TheVariants as whys

unfoldable pub stop_at_second_word_setup : Setup
stop_at_second_word_setup = record {
  image = record {
    entry = 0x40000000;
    segments =
        code_at 0x40000000 (
        0x03100004  -- sethi %hi(0x40001000), %g1
        ∷ 0xD4186008  -- ldd [%g1 + 0x8], %o2
        ∷ 0x91D02000  -- ta 0x0
        ∷ [])
        ∷ data_at 0x40001000 (0x00000001 ∷ 0x00000002 ∷ 0x00000003 ∷ 0x00000004 ∷ []) ∷ [];
    text = range 0x40000000 12 ∷ [];
  };
  config = plain;
  flips =
      flips.Mem 1 0x40001000 0
      ∷ flips.Mem 1 0x4000100C 0
      ∷ flips.Mem 1 0x4000100C 32 ∷ [];
}

unfoldable pub stop_at_second_word_events : List Event
stop_at_second_word_events = []

unfoldable pub stop_at_second_word_trace : Trace
stop_at_second_word_trace = record {
  cores = record {
    end = Stop 0x09 1 0x4E;
    n = 1;
    steps = 3;
    out = [];
    regs = known (
        0x00000000 ∷ 0x40001000 ∷ 0x00000000 ∷ 0x00000000 ∷ 0x00000000 ∷ 0x00000000 ∷ 0x00000000 ∷ 0x00000000
        ∷ 0x00000000 ∷ 0x00000000 ∷ 0x00000000 ∷ 0x00000000 ∷ 0x00000000 ∷ 0x00000000 ∷ 0x00000000 ∷ 0x00000000
        ∷ 0x00000000 ∷ 0x00000000 ∷ 0x00000000 ∷ 0x00000000 ∷ 0x00000000 ∷ 0x00000000 ∷ 0x00000000 ∷ 0x00000000
        ∷ 0x00000000 ∷ 0x00000000 ∷ 0x00000000 ∷ 0x00000000 ∷ 0x00000000 ∷ 0x00000000 ∷ 0x00000000 ∷ 0x00000000 ∷ []);
    psr = 0xF3000080;
    wim = 0x00000002;
    tbr = 0x00000000;
    y = 0x00000000;
    pc = 0x40000004;
    npc = 0x40000008;
    parity = parity 0 0 0 0;
  } ∷ [];
  ahb_addr = 0x40001000;
  ahb_status = 0x00000302;
  transfers =
      transfer 0 0 0 kinds.Fetch whys.Absent 0x40000000 0 8 0x0000000000000000
      ∷ transfer 1 0 2 kinds.Load whys.Absent 0x40001000 0 8 0x4F00004E00000000 ∷ [];
  order = [];
  fates = fates.Dormant ∷ fates.Stopped ∷ fates.Stopped ∷ [];
  watch = [];
}

unfoldable pub stop_at_second_word_lines : List String
stop_at_second_word_lines =
    "leon3ft report 1"
    ∷ "cores 1"
    ∷ "core 0 stop 09 1 3 1 4E"
    ∷ "out 0 -"
    ∷ "g 0 00000000 40001000 00000000 00000000 00000000 00000000 00000000 00000000"
    ∷ "o 0 00000000 00000000 00000000 00000000 00000000 00000000 00000000 00000000"
    ∷ "l 0 00000000 00000000 00000000 00000000 00000000 00000000 00000000 00000000"
    ∷ "i 0 00000000 00000000 00000000 00000000 00000000 00000000 00000000 00000000"
    ∷ "ctl 0 F3000080 00000002 00000000 00000000 40000004 40000008"
    ∷ "parity 0 0 0 0 0"
    ∷ "ahb 40001000 00000302"
    ∷ "transfers 2"
    ∷ "t 0 0 0 fetch absent 40000000 0 0000000000000000"
    ∷ "t 1 0 2 load absent 40001000 0 4F00004E00000000"
    ∷ "order 0"
    ∷ "flips 3"
    ∷ "f 0 dormant"
    ∷ "f 1 stopped"
    ∷ "f 2 stopped"
    ∷ "watch 0"
    ∷ "end" ∷ []

unfoldable pub stop_at_second_word_text : List ℕ
unfolding stop_at_second_word_lines
stop_at_second_word_text = text_lines stop_at_second_word_lines
