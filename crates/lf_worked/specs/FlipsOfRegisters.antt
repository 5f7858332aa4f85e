-- What becomes of flips of register cells.
-- Checked: %g1 and %g4 are struck in the step that writes them without a read (overwritten); %g2 is read (repaired); one bit of
-- %g5 turns twice and reads clean (dormant), and takes no third flip (declined); cell 0 is never used; step 6 never comes; %o1
-- has two turned bits at the end and is reported without a value.
use Prim.Native.String.{String}
use Rattle.std.specs.Prelude.{ℕ, ◌∷◌, [], List}
use Rattle.lf_worked.specs.Rows.{range, code_at, plain, known_but, transfer, parity, text_lines}
use Rattle.lf_model.specs.declared.setup.Setup.{Setup}
use Rattle.lf_model.specs.declared.setup.Event.{Event}
use Rattle.lf_model.specs.declared.trace.Trace.{Trace}
use Rattle.lf_model.specs.declared.trace.CoreEnd.TheVariants.{Halt}
use Rattle.lf_model.specs.declared.flip.Flip.TheVariants as flips
use Rattle.lf_model.specs.declared.trace.Fate.TheVariants as fates
use Rattle.lf_model.specs.declared.bus.TurnKind.TheVariants as kinds
use Rattle.lf_model.specs.declared.bus.Why.TheVariants as whys

unfoldable pub flips_of_registers_setup : Setup
flips_of_registers_setup = record {
  image = record {
    entry = 0x40000000;
    segments = code_at 0x40000000 (
        0x82102001  -- or %g0, 0x1, %g1
        ∷ 0x8600A000  -- add %g2, 0x0, %g3
        ∷ 0x88102007  -- or %g0, 0x7, %g4
        ∷ 0x8C016000  -- add %g5, 0x0, %g6
        ∷ 0x91D02000  -- ta 0x0
        ∷ []) ∷ [];
    text = range 0x40000000 20 ∷ [];
  };
  config = plain;
  flips =
      flips.Reg 0 1 1 0
      ∷ flips.Reg 0 2 2 0
      ∷ flips.Reg 0 3 4 0
      ∷ flips.Reg 0 4 5 3
      ∷ flips.Reg 0 4 5 3
      ∷ flips.Reg 0 4 5 4
      ∷ flips.Reg 0 4 0 0
      ∷ flips.Reg 0 6 7 0
      ∷ flips.Reg 0 5 9 0
      ∷ flips.Reg 0 5 9 1 ∷ [];
}

unfoldable pub flips_of_registers_events : List Event
flips_of_registers_events = []

unfoldable pub flips_of_registers_trace : Trace
flips_of_registers_trace = record {
  cores = record {
    end = Halt 0x80;
    n = 5;
    steps = 6;
    out = [];
    regs = known_but (9 ∷ []) (
        0x00000000 ∷ 0x00000001 ∷ 0x00000000 ∷ 0x00000000 ∷ 0x00000007 ∷ 0x00000000 ∷ 0x00000000 ∷ 0x00000000
        ∷ 0x00000000 ∷ 0x00000000 ∷ 0x00000000 ∷ 0x00000000 ∷ 0x00000000 ∷ 0x00000000 ∷ 0x00000000 ∷ 0x00000000
        ∷ 0x00000000 ∷ 0x00000000 ∷ 0x00000000 ∷ 0x00000000 ∷ 0x00000000 ∷ 0x00000000 ∷ 0x00000000 ∷ 0x00000000
        ∷ 0x00000000 ∷ 0x00000000 ∷ 0x00000000 ∷ 0x00000000 ∷ 0x00000000 ∷ 0x00000000 ∷ 0x00000000 ∷ 0x00000000 ∷ []);
    psr = 0xF3000080;
    wim = 0x00000002;
    tbr = 0x00000000;
    y = 0x00000000;
    pc = 0x40000010;
    npc = 0x40000014;
    parity = parity 0 0 0 0;
  } ∷ [];
  ahb_addr = 0x00000000;
  ahb_status = 0x00000000;
  transfers = transfer 0 0 0 kinds.Fetch whys.Absent 0x40000000 0 8 0x0000000000000000 ∷ [];
  order = [];
  fates =
      fates.Overwritten ∷ fates.Repaired ∷ fates.Overwritten ∷ fates.Dormant
      ∷ fates.Dormant ∷ fates.Declined ∷ fates.Dormant ∷ fates.Late
      ∷ fates.Dormant ∷ fates.Dormant ∷ [];
  watch = [];
}

unfoldable pub flips_of_registers_lines : List String
flips_of_registers_lines =
    "leon3ft report 1"
    ∷ "cores 1"
    ∷ "core 0 halt 80 5 6"
    ∷ "out 0 -"
    ∷ "g 0 00000000 00000001 00000000 00000000 00000007 00000000 00000000 00000000"
    ∷ "o 0 00000000 -------- 00000000 00000000 00000000 00000000 00000000 00000000"
    ∷ "l 0 00000000 00000000 00000000 00000000 00000000 00000000 00000000 00000000"
    ∷ "i 0 00000000 00000000 00000000 00000000 00000000 00000000 00000000 00000000"
    ∷ "ctl 0 F3000080 00000002 00000000 00000000 40000010 40000014"
    ∷ "parity 0 0 0 0 0"
    ∷ "ahb 00000000 00000000"
    ∷ "transfers 1"
    ∷ "t 0 0 0 fetch absent 40000000 0 0000000000000000"
    ∷ "order 0"
    ∷ "flips 10"
    ∷ "f 0 overwritten"
    ∷ "f 1 repaired"
    ∷ "f 2 overwritten"
    ∷ "f 3 dormant"
    ∷ "f 4 dormant"
    ∷ "f 5 declined"
    ∷ "f 6 dormant"
    ∷ "f 7 late"
    ∷ "f 8 dormant"
    ∷ "f 9 dormant"
    ∷ "watch 0"
    ∷ "end" ∷ []

unfoldable pub flips_of_registers_text : List ℕ
unfolding flips_of_registers_lines
flips_of_registers_text = text_lines flips_of_registers_lines
