-- What becomes of flips of line bytes.
-- Step 2 strikes a byte before the first fill (overwritten). Step 4 strikes byte 1 twice, of the wanted word (discarded, declined),
-- and byte 9, of another (overwritten by the fill). Step 6 strikes byte 30, which no look wants (dormant). Step 9 never comes.
use Prim.Native.String.{String}
use Rattle.std.specs.Prelude.{ℕ, ◌∷◌, [], List, false}
use Rattle.lf_worked.specs.Rows.{range, code_at, data_at, plain, known, transfer, load, parity, text_lines}
use Rattle.lf_model.specs.declared.setup.Setup.{Setup}
use Rattle.lf_model.specs.declared.setup.Event.{Event}
use Rattle.lf_model.specs.declared.trace.Trace.{Trace}
use Rattle.lf_model.specs.declared.trace.CoreEnd.TheVariants.{Halt}
use Rattle.lf_model.specs.declared.flip.Flip.TheVariants as flips
use Rattle.lf_model.specs.declared.trace.Fate.TheVariants as fates
use Rattle.lf_model.specs.declared.bus.TurnKind.TheVariants as kinds
use Rattle.lf_model.specs.declared.bus.Why.TheVariants as whys

unfoldable pub flips_of_lines_setup : Setup
flips_of_lines_setup = record {
  image = record {
    entry = 0x40000000;
    segments =
        code_at 0x40000000 (
        0x03100004  -- sethi %hi(0x40001000), %g1
        ∷ 0xD0004000  -- ld [%g1], %o0
        ∷ 0xD2004000  -- ld [%g1], %o1
        ∷ 0xD4086001  -- ldub [%g1 + 0x1], %o2
        ∷ 0x91D02000  -- ta 0x0
        ∷ [])
        ∷ data_at 0x40001000 (0x0000005A ∷ []) ∷ [];
    text = range 0x40000000 20 ∷ [];
  };
  config = plain;
  flips =
      flips.Line 0 4 false 0 0 1 0
      ∷ flips.Line 0 4 false 0 0 1 5
      ∷ flips.Line 0 4 false 0 0 9 0
      ∷ flips.Line 0 6 false 0 0 30 8
      ∷ flips.Line 0 9 false 0 0 30 8
      ∷ flips.Line 0 2 false 0 0 2 1 ∷ [];
}

unfoldable pub flips_of_lines_events : List Event
flips_of_lines_events = []

unfoldable pub flips_of_lines_trace : Trace
flips_of_lines_trace = record {
  cores = record {
    end = Halt 0x80;
    n = 5;
    steps = 8;
    out = [];
    regs = known (
        0x00000000 ∷ 0x40001000 ∷ 0x00000000 ∷ 0x00000000 ∷ 0x00000000 ∷ 0x00000000 ∷ 0x00000000 ∷ 0x00000000
        ∷ 0x0000005A ∷ 0x0000005A ∷ 0x00000000 ∷ 0x00000000 ∷ 0x00000000 ∷ 0x00000000 ∷ 0x00000000 ∷ 0x00000000
        ∷ 0x00000000 ∷ 0x00000000 ∷ 0x00000000 ∷ 0x00000000 ∷ 0x00000000 ∷ 0x00000000 ∷ 0x00000000 ∷ 0x00000000
        ∷ 0x00000000 ∷ 0x00000000 ∷ 0x00000000 ∷ 0x00000000 ∷ 0x00000000 ∷ 0x00000000 ∷ 0x00000000 ∷ 0x00000000 ∷ []);
    psr = 0xF3000080;
    wim = 0x00000002;
    tbr = 0x00000000;
    y = 0x00000000;
    pc = 0x40000010;
    npc = 0x40000014;
    parity = parity 0 0 0 1;
  } ∷ [];
  ahb_addr = 0x00000000;
  ahb_status = 0x00000000;
  transfers =
      transfer 0 0 0 kinds.Fetch whys.Absent 0x40000000 0 8 0x0000000000000000
      ∷ transfer 1 0 2 kinds.Load whys.Absent 0x40001000 0 8 0x0000000000000000
      ∷ transfer 2 0 4 kinds.Load whys.Byte 0x40001000 0 8 0x0000000000000000 ∷ [];
  order =
      load 0 0 3 0x40001000 4 0x0000005A 0
      ∷ load 0 1 5 0x40001000 4 0x0000005A 0
      ∷ load 0 2 6 0x40001001 1 0x00 0 ∷ [];
  fates =
      fates.Discarded ∷ fates.Declined ∷ fates.Overwritten ∷ fates.Dormant
      ∷ fates.Late ∷ fates.Overwritten ∷ [];
  watch = [];
}

unfoldable pub flips_of_lines_lines : List String
flips_of_lines_lines =
    "leon3ft report 1"
    ∷ "cores 1"
    ∷ "core 0 halt 80 5 8"
    ∷ "out 0 -"
    ∷ "g 0 00000000 40001000 00000000 00000000 00000000 00000000 00000000 00000000"
    ∷ "o 0 0000005A 0000005A 00000000 00000000 00000000 00000000 00000000 00000000"
    ∷ "l 0 00000000 00000000 00000000 00000000 00000000 00000000 00000000 00000000"
    ∷ "i 0 00000000 00000000 00000000 00000000 00000000 00000000 00000000 00000000"
    ∷ "ctl 0 F3000080 00000002 00000000 00000000 40000010 40000014"
    ∷ "parity 0 0 0 0 1"
    ∷ "ahb 00000000 00000000"
    ∷ "transfers 3"
    ∷ "t 0 0 0 fetch absent 40000000 0 0000000000000000"
    ∷ "t 1 0 2 load absent 40001000 0 0000000000000000"
    ∷ "t 2 0 4 load data 40001000 0 0000000000000000"
    ∷ "order 3"
    ∷ "L 0 0 3 40001000 0000005A 0"
    ∷ "L 0 1 5 40001000 0000005A 0"
    ∷ "L 0 2 6 40001001 00 0"
    ∷ "flips 6"
    ∷ "f 0 discarded"
    ∷ "f 1 declined"
    ∷ "f 2 overwritten"
    ∷ "f 3 dormant"
    ∷ "f 4 late"
    ∷ "f 5 overwritten"
    ∷ "watch 0"
    ∷ "end" ∷ []

unfoldable pub flips_of_lines_text : List ℕ
unfolding flips_of_lines_lines
flips_of_lines_text = text_lines flips_of_lines_lines
