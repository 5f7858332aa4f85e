-- Two flips of a register in the step that writes it: nothing is stopped.
-- Step 2 fills, step 3 loads, and step 4, in which two bits of %g2 are struck, writes %g2. Checked: both flips are overwritten, and
-- the read of %g2 in step 6 is clean.
use Prim.Native.String.{String}
use Rattle.std.specs.Prelude.{ℕ, ◌∷◌, [], List}
use Rattle.lf_worked.specs.Rows.{range, code_at, data_at, plain, known, transfer, load, parity, text_lines}
use Rattle.lf_model.specs.declared.setup.Setup.{Setup}
use Rattle.lf_model.specs.declared.setup.Event.{Event}
use Rattle.lf_model.specs.declared.trace.Trace.{Trace}
use Rattle.lf_model.specs.declared.trace.CoreEnd.TheVariants.{Halt}
use Rattle.lf_model.specs.declared.flip.Flip.TheVariants as flips
use Rattle.lf_model.specs.declared.trace.Fate.TheVariants as fates
use Rattle.lf_model.specs.declared.bus.TurnKind.TheVariants as kinds
use Rattle.lf_model.specs.declared.bus.Why.TheVariants as whys

unfoldable pub overwritten_before_it_is_read_setup : Setup
overwritten_before_it_is_read_setup = record {
  image = record {
    entry = 0x40000000;
    segments =
        code_at 0x40000000 (
        0x03100004  -- sethi %hi(0x40001000), %g1
        ∷ 0xD0004000  -- ld [%g1], %o0
        ∷ 0x84102041  -- or %g0, 0x41, %g2
        ∷ 0x01000000  -- nop
        ∷ 0x86108000  -- or %g2, %g0, %g3
        ∷ 0x91D02000  -- ta 0x0
        ∷ [])
        ∷ data_at 0x40001000 (0x00000000 ∷ []) ∷ [];
    text = range 0x40000000 24 ∷ [];
  };
  config = plain;
  flips =
      flips.Reg 0 4 2 0
      ∷ flips.Reg 0 4 2 1 ∷ [];
}

unfoldable pub overwritten_before_it_is_read_events : List Event
overwritten_before_it_is_read_events = []

unfoldable pub overwritten_before_it_is_read_trace : Trace
overwritten_before_it_is_read_trace = record {
  cores = record {
    end = Halt 0x80;
    n = 6;
    steps = 8;
    out = [];
    regs = known (
        0x00000000 ∷ 0x40001000 ∷ 0x00000041 ∷ 0x00000041 ∷ 0x00000000 ∷ 0x00000000 ∷ 0x00000000 ∷ 0x00000000
        ∷ 0x00000000 ∷ 0x00000000 ∷ 0x00000000 ∷ 0x00000000 ∷ 0x00000000 ∷ 0x00000000 ∷ 0x00000000 ∷ 0x00000000
        ∷ 0x00000000 ∷ 0x00000000 ∷ 0x00000000 ∷ 0x00000000 ∷ 0x00000000 ∷ 0x00000000 ∷ 0x00000000 ∷ 0x00000000
        ∷ 0x00000000 ∷ 0x00000000 ∷ 0x00000000 ∷ 0x00000000 ∷ 0x00000000 ∷ 0x00000000 ∷ 0x00000000 ∷ 0x00000000 ∷ []);
    psr = 0xF3000080;
    wim = 0x00000002;
    tbr = 0x00000000;
    y = 0x00000000;
    pc = 0x40000014;
    npc = 0x40000018;
    parity = parity 0 0 0 0;
  } ∷ [];
  ahb_addr = 0x00000000;
  ahb_status = 0x00000000;
  transfers =
      transfer 0 0 0 kinds.Fetch whys.Absent 0x40000000 0 8 0x0000000000000000
      ∷ transfer 1 0 2 kinds.Load whys.Absent 0x40001000 0 8 0x0000000000000000 ∷ [];
  order = load 0 0 3 0x40001000 4 0x00000000 0 ∷ [];
  fates = fates.Overwritten ∷ fates.Overwritten ∷ [];
  watch = [];
}

unfoldable pub overwritten_before_it_is_read_lines : List String
overwritten_before_it_is_read_lines =
    "leon3ft report 1"
    ∷ "cores 1"
    ∷ "core 0 halt 80 6 8"
    ∷ "out 0 -"
    ∷ "g 0 00000000 40001000 00000041 00000041 00000000 00000000 00000000 00000000"
    ∷ "o 0 00000000 00000000 00000000 00000000 00000000 00000000 00000000 00000000"
    ∷ "l 0 00000000 00000000 00000000 00000000 00000000 00000000 00000000 00000000"
    ∷ "i 0 00000000 00000000 00000000 00000000 00000000 00000000 00000000 00000000"
    ∷ "ctl 0 F3000080 00000002 00000000 00000000 40000014 40000018"
    ∷ "parity 0 0 0 0 0"
    ∷ "ahb 00000000 00000000"
    ∷ "transfers 2"
    ∷ "t 0 0 0 fetch absent 40000000 0 0000000000000000"
    ∷ "t 1 0 2 load absent 40001000 0 0000000000000000"
    ∷ "order 1"
    ∷ "L 0 0 3 40001000 00000000 0"
    ∷ "flips 2"
    ∷ "f 0 overwritten"
    ∷ "f 1 overwritten"
    ∷ "watch 0"
    ∷ "end" ∷ []

unfoldable pub overwritten_before_it_is_read_text : List ℕ
unfolding overwritten_before_it_is_read_lines
overwritten_before_it_is_read_text = text_lines overwritten_before_it_is_read_lines
