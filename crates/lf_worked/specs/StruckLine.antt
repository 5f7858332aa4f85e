-- Four struck bytes of a wanted word drop their line once, and the load fills it again by `data`.
-- Checked: the byte counter of the data cache rises once; the fifth flip is for a byte that is struck already, over its budget
-- of one, and is declined.
use Prim.Native.String.{String}
use Rattle.std.specs.Prelude.{ℕ, ◌∷◌, [], List, false}
use Rattle.lf_worked.specs.Rows.{range, code_at, data_at, plain, known, transfer, load, parity, text_lines}
use Rattle.lf_model.specs.declared.setup.Setup.{Setup}
use Rattle.lf_model.specs.declared.setup.Event.{Event}
use Rattle.lf_model.specs.declared.trace.Trace.{Trace}
use Rattle.lf_model.specs.declared.trace.CoreEnd.TheVariants.{Halt}
use Rattle.lf_model.specs.declared.flip.Flip.TheVariants as flips
use Rattle.lf_model.specs.declared.trace.Fate.TheVariants as fates
use Rattle.lf_model.specs.declared.bus.TurnKind.TheVariants as kinds
use Rattle.lf_model.specs.declared.bus.Why.TheVariants as whys

unfoldable pub struck_line_setup : Setup
struck_line_setup = record {
  image = record {
    entry = 0x40000000;
    segments =
        code_at 0x40000000 (
        0x03100004  -- sethi %hi(0x40001000), %g1
        ∷ 0x05200000  -- sethi %hi(0x80000000), %g2
        ∷ 0xD0006000  -- ld [%g1], %o0
        ∷ 0xD0006000  -- ld [%g1], %o0
        ∷ 0xD020A100  -- st %o0, [%g2 + 0x100]
        ∷ 0x91D02000  -- ta 0x0
        ∷ [])
        ∷ data_at 0x40001000 (0x0000005A ∷ []) ∷ [];
    text = range 0x40000000 24 ∷ [];
  };
  config = plain;
  flips =
      flips.Line 0 5 false 0 0 0 0
      ∷ flips.Line 0 5 false 0 0 1 0
      ∷ flips.Line 0 5 false 0 0 2 0
      ∷ flips.Line 0 5 false 0 0 3 0
      ∷ flips.Line 0 5 false 0 0 1 4 ∷ [];
}

unfoldable pub struck_line_events : List Event
struck_line_events = []

unfoldable pub struck_line_trace : Trace
struck_line_trace = record {
  cores = record {
    end = Halt 0x80;
    n = 6;
    steps = 9;
    out = 0x5A ∷ [];
    regs = known (
        0x00000000 ∷ 0x40001000 ∷ 0x80000000 ∷ 0x00000000 ∷ 0x00000000 ∷ 0x00000000 ∷ 0x00000000 ∷ 0x00000000
        ∷ 0x0000005A ∷ 0x00000000 ∷ 0x00000000 ∷ 0x00000000 ∷ 0x00000000 ∷ 0x00000000 ∷ 0x00000000 ∷ 0x00000000
        ∷ 0x00000000 ∷ 0x00000000 ∷ 0x00000000 ∷ 0x00000000 ∷ 0x00000000 ∷ 0x00000000 ∷ 0x00000000 ∷ 0x00000000
        ∷ 0x00000000 ∷ 0x00000000 ∷ 0x00000000 ∷ 0x00000000 ∷ 0x00000000 ∷ 0x00000000 ∷ 0x00000000 ∷ 0x00000000 ∷ []);
    psr = 0xF3000080;
    wim = 0x00000002;
    tbr = 0x00000000;
    y = 0x00000000;
    pc = 0x40000014;
    npc = 0x40000018;
    parity = parity 0 0 0 1;
  } ∷ [];
  ahb_addr = 0x00000000;
  ahb_status = 0x00000000;
  transfers =
      transfer 0 0 0 kinds.Fetch whys.Absent 0x40000000 0 8 0x0000000000000000
      ∷ transfer 1 0 3 kinds.Load whys.Absent 0x40001000 0 8 0x0000000000000000
      ∷ transfer 2 0 5 kinds.Load whys.Byte 0x40001000 0 8 0x0000000000000000 ∷ [];
  order =
      load 0 0 4 0x40001000 4 0x0000005A 0
      ∷ load 0 1 6 0x40001000 4 0x0000005A 0 ∷ [];
  fates =
      fates.Discarded ∷ fates.Discarded ∷ fates.Discarded ∷ fates.Discarded
      ∷ fates.Declined ∷ [];
  watch = [];
}

unfoldable pub struck_line_lines : List String
struck_line_lines =
    "leon3ft report 1"
    ∷ "cores 1"
    ∷ "core 0 halt 80 6 9"
    ∷ "out 0 5A"
    ∷ "g 0 00000000 40001000 80000000 00000000 00000000 00000000 00000000 00000000"
    ∷ "o 0 0000005A 00000000 00000000 00000000 00000000 00000000 00000000 00000000"
    ∷ "l 0 00000000 00000000 00000000 00000000 00000000 00000000 00000000 00000000"
    ∷ "i 0 00000000 00000000 00000000 00000000 00000000 00000000 00000000 00000000"
    ∷ "ctl 0 F3000080 00000002 00000000 00000000 40000014 40000018"
    ∷ "parity 0 0 0 0 1"
    ∷ "ahb 00000000 00000000"
    ∷ "transfers 3"
    ∷ "t 0 0 0 fetch absent 40000000 0 0000000000000000"
    ∷ "t 1 0 3 load absent 40001000 0 0000000000000000"
    ∷ "t 2 0 5 load data 40001000 0 0000000000000000"
    ∷ "order 2"
    ∷ "L 0 0 4 40001000 0000005A 0"
    ∷ "L 0 1 6 40001000 0000005A 0"
    ∷ "flips 5"
    ∷ "f 0 discarded"
    ∷ "f 1 discarded"
    ∷ "f 2 discarded"
    ∷ "f 3 discarded"
    ∷ "f 4 declined"
    ∷ "watch 0"
    ∷ "end" ∷ []

unfoldable pub struck_line_text : List ℕ
unfolding struck_line_lines
struck_line_text = text_lines struck_line_lines
