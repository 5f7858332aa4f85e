-- Each register that an instruction reads is written back if it is corrected.
-- Step 3 strikes %g2, the second operand of ADD; step 4 strikes %g2 and %g3, both of which STD reads. Checked: all three are repaired.
use Prim.Native.String.{String}
use Rattle.std.specs.Prelude.{ℕ, ◌∷◌, [], List}
use Rattle.lf_worked.specs.Rows.{range, code_at, data_at, plain, known, transfer, store, parity, text_lines}
use Rattle.lf_model.specs.declared.setup.Setup.{Setup}
use Rattle.lf_model.specs.declared.setup.Event.{Event}
use Rattle.lf_model.specs.declared.trace.Trace.{Trace}
use Rattle.lf_model.specs.declared.trace.CoreEnd.TheVariants.{Halt}
use Rattle.lf_model.specs.declared.flip.Flip.TheVariants as flips
use Rattle.lf_model.specs.declared.trace.Fate.TheVariants as fates
use Rattle.lf_model.specs.declared.bus.TurnKind.TheVariants as kinds
use Rattle.lf_model.specs.declared.bus.Why.TheVariants as whys

unfoldable pub both_operands_are_read_setup : Setup
both_operands_are_read_setup = record {
  image = record {
    entry = 0x40000000;
    segments =
        code_at 0x40000000 (
        0x03100004  -- sethi %hi(0x40001000), %g1
        ∷ 0x84102001  -- or %g0, 0x1, %g2
        ∷ 0x86004002  -- add %g1, %g2, %g3
        ∷ 0xC4384000  -- std %g2, [%g1]
        ∷ 0x91D02000  -- ta 0x0
        ∷ [])
        ∷ data_at 0x40001000 (0x00000000 ∷ 0x00000000 ∷ []) ∷ [];
    text = range 0x40000000 20 ∷ [];
  };
  config = plain;
  flips =
      flips.Reg 0 3 2 7
      ∷ flips.Reg 0 4 2 8
      ∷ flips.Reg 0 4 3 9 ∷ [];
}

unfoldable pub both_operands_are_read_events : List Event
both_operands_are_read_events = []

unfoldable pub both_operands_are_read_trace : Trace
both_operands_are_read_trace = record {
  cores = record {
    end = Halt 0x80;
    n = 5;
    steps = 7;
    out = [];
    regs = known (
        0x00000000 ∷ 0x40001000 ∷ 0x00000001 ∷ 0x40001001 ∷ 0x00000000 ∷ 0x00000000 ∷ 0x00000000 ∷ 0x00000000
        ∷ 0x00000000 ∷ 0x00000000 ∷ 0x00000000 ∷ 0x00000000 ∷ 0x00000000 ∷ 0x00000000 ∷ 0x00000000 ∷ 0x00000000
        ∷ 0x00000000 ∷ 0x00000000 ∷ 0x00000000 ∷ 0x00000000 ∷ 0x00000000 ∷ 0x00000000 ∷ 0x00000000 ∷ 0x00000000
        ∷ 0x00000000 ∷ 0x00000000 ∷ 0x00000000 ∷ 0x00000000 ∷ 0x00000000 ∷ 0x00000000 ∷ 0x00000000 ∷ 0x00000000 ∷ []);
    psr = 0xF3000080;
    wim = 0x00000002;
    tbr = 0x00000000;
    y = 0x00000000;
    pc = 0x40000010;
    npc = 0x40000014;
    parity = parity 0 0 0 0;
  } ∷ [];
  ahb_addr = 0x00000000;
  ahb_status = 0x00000000;
  transfers =
      transfer 0 0 0 kinds.Fetch whys.Absent 0x40000000 0 8 0x0000000000000000
      ∷ transfer 1 0 5 kinds.Store whys.End 0x40001000 0 0 0 ∷ [];
  order = store 0 0 4 0x40001000 8 0x0000000140001001 ∷ [];
  fates = fates.Repaired ∷ fates.Repaired ∷ fates.Repaired ∷ [];
  watch = [];
}

unfoldable pub both_operands_are_read_lines : List String
both_operands_are_read_lines =
    "leon3ft report 1"
    ∷ "cores 1"
    ∷ "core 0 halt 80 5 7"
    ∷ "out 0 -"
    ∷ "g 0 00000000 40001000 00000001 40001001 00000000 00000000 00000000 00000000"
    ∷ "o 0 00000000 00000000 00000000 00000000 00000000 00000000 00000000 00000000"
    ∷ "l 0 00000000 00000000 00000000 00000000 00000000 00000000 00000000 00000000"
    ∷ "i 0 00000000 00000000 00000000 00000000 00000000 00000000 00000000 00000000"
    ∷ "ctl 0 F3000080 00000002 00000000 00000000 40000010 40000014"
    ∷ "parity 0 0 0 0 0"
    ∷ "ahb 00000000 00000000"
    ∷ "transfers 2"
    ∷ "t 0 0 0 fetch absent 40000000 0 0000000000000000"
    ∷ "t 1 0 5 store end 40001000 - ----"
    ∷ "order 1"
    ∷ "S 0 0 4 40001000 0000000140001001"
    ∷ "flips 3"
    ∷ "f 0 repaired"
    ∷ "f 1 repaired"
    ∷ "f 2 repaired"
    ∷ "watch 0"
    ∷ "end" ∷ []

unfoldable pub both_operands_are_read_text : List ℕ
unfolding both_operands_are_read_lines
both_operands_are_read_text = text_lines both_operands_are_read_lines
