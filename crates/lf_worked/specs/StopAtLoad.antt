-- A load of a word with two turned bits stops the core by 09.
-- Checked: the syndrome 05 is 4F xor 4A, the columns of bits 0 and 1; the load is not counted (2 instructions) and its fill is
-- in the last of 4 steps; AHBSTAT is 102, not corrected; PC is that of the load; both flips were met by the stop.
use Prim.Native.String.{String}
use Rattle.std.specs.Prelude.{ℕ, ◌∷◌, [], List}
use Rattle.lf_worked.specs.Rows.{range, code_at, data_at, plain, known, transfer, parity, text_lines}
use Rattle.lf_model.specs.declared.setup.Setup.{Setup}
use Rattle.lf_model.specs.declared.setup.Event.{Event}
use Rattle.lf_model.specs.declared.trace.Trace.{Trace}
use Rattle.lf_model.specs.declared.trace.CoreEnd.TheVariants.{Stop}
use Rattle.lf_model.specs.declared.flip.Flip.TheVariants as flips
use Rattle.lf_model.specs.declared.trace.Fate.TheVariants as fates
use Rattle.lf_model.specs.declared.bus.TurnKind.TheVariants as kinds
use Rattle.lf_model.specs.declared.bus.Why.TheVariants as whys

unfoldable pub stop_at_load_setup : Setup
stop_at_load_setup = record {
  image = record {
    entry = 0x40000000;
    segments =
        code_at 0x40000000 (
        0x03100004  -- sethi %hi(0x40001000), %g1
        ∷ 0x05200000  -- sethi %hi(0x80000000), %g2
        ∷ 0xD0006000  -- ld [%g1], %o0
        ∷ 0xD020A100  -- st %o0, [%g2 + 0x100]
        ∷ 0x91D02000  -- ta 0x0
        ∷ [])
        ∷ data_at 0x40001000 (0x0000005A ∷ []) ∷ [];
    text = range 0x40000000 20 ∷ [];
  };
  config = plain;
  flips =
      flips.Mem 1 0x40001000 0
      ∷ flips.Mem 1 0x40001000 1 ∷ [];
}

unfoldable pub stop_at_load_events : List Event
stop_at_load_events = []

unfoldable pub stop_at_load_trace : Trace
stop_at_load_trace = record {
  cores = record {
    end = Stop 0x09 1 0x05;
    n = 2;
    steps = 4;
    out = [];
    regs = known (
        0x00000000 ∷ 0x40001000 ∷ 0x80000000 ∷ 0x00000000 ∷ 0x00000000 ∷ 0x00000000 ∷ 0x00000000 ∷ 0x00000000
        ∷ 0x00000000 ∷ 0x00000000 ∷ 0x00000000 ∷ 0x00000000 ∷ 0x00000000 ∷ 0x00000000 ∷ 0x00000000 ∷ 0x00000000
        ∷ 0x00000000 ∷ 0x00000000 ∷ 0x00000000 ∷ 0x00000000 ∷ 0x00000000 ∷ 0x00000000 ∷ 0x00000000 ∷ 0x00000000
        ∷ 0x00000000 ∷ 0x00000000 ∷ 0x00000000 ∷ 0x00000000 ∷ 0x00000000 ∷ 0x00000000 ∷ 0x00000000 ∷ 0x00000000 ∷ []);
    psr = 0xF3000080;
    wim = 0x00000002;
    tbr = 0x00000000;
    y = 0x00000000;
    pc = 0x40000008;
    npc = 0x4000000C;
    parity = parity 0 0 0 0;
  } ∷ [];
  ahb_addr = 0x40001000;
  ahb_status = 0x00000102;
  transfers =
      transfer 0 0 0 kinds.Fetch whys.Absent 0x40000000 0 8 0x0000000000000000
      ∷ transfer 1 0 3 kinds.Load whys.Absent 0x40001000 0 8 0x0500000000000000 ∷ [];
  order = [];
  fates = fates.Stopped ∷ fates.Stopped ∷ [];
  watch = [];
}

unfoldable pub stop_at_load_lines : List String
stop_at_load_lines =
    "leon3ft report 1"
    ∷ "cores 1"
    ∷ "core 0 stop 09 2 4 1 05"
    ∷ "out 0 -"
    ∷ "g 0 00000000 40001000 80000000 00000000 00000000 00000000 00000000 00000000"
    ∷ "o 0 00000000 00000000 00000000 00000000 00000000 00000000 00000000 00000000"
    ∷ "l 0 00000000 00000000 00000000 00000000 00000000 00000000 00000000 00000000"
    ∷ "i 0 00000000 00000000 00000000 00000000 00000000 00000000 00000000 00000000"
    ∷ "ctl 0 F3000080 00000002 00000000 00000000 40000008 4000000C"
    ∷ "parity 0 0 0 0 0"
    ∷ "ahb 40001000 00000102"
    ∷ "transfers 2"
    ∷ "t 0 0 0 fetch absent 40000000 0 0000000000000000"
    ∷ "t 1 0 3 load absent 40001000 0 0500000000000000"
    ∷ "order 0"
    ∷ "flips 2"
    ∷ "f 0 stopped"
    ∷ "f 1 stopped"
    ∷ "watch 0"
    ∷ "end" ∷ []

unfoldable pub stop_at_load_text : List ℕ
unfolding stop_at_load_lines
stop_at_load_text = text_lines stop_at_load_lines
