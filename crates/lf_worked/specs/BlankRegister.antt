-- A register with two turned bits that is never read is reported without a value.
-- Checked: no stop; both flips are dormant; only %g5 is blank.
use Prim.Native.String.{String}
use Rattle.std.specs.Prelude.{ℕ, ◌∷◌, [], List}
use Rattle.lf_worked.specs.Rows.{range, code_at, plain, known_but, transfer, parity, text_lines}
use Rattle.lf_model.specs.declared.setup.Setup.{Setup}
use Rattle.lf_model.specs.declared.setup.Event.{Event}
use Rattle.lf_model.specs.declared.trace.Trace.{Trace}
use Rattle.lf_model.specs.declared.trace.CoreEnd.TheVariants.{Halt}
use Rattle.lf_model.specs.declared.flip.Flip.TheVariants as flips
use Rattle.lf_model.specs.declared.trace.Fate.TheVariants as fates
use Rattle.lf_model.specs.declared.bus.TurnKind.TheVariants as kinds
use Rattle.lf_model.specs.declared.bus.Why.TheVariants as whys

unfoldable pub blank_register_setup : Setup
blank_register_setup = record {
  image = record {
    entry = 0x40000000;
    segments = code_at 0x40000000 (
        0x03200000  -- sethi %hi(0x80000000), %g1
        ∷ 0x90102041  -- or %g0, 0x41, %o0
        ∷ 0xD0206100  -- st %o0, [%g1 + 0x100]
        ∷ 0x91D02000  -- ta 0x0
        ∷ 0x01000000  -- nop
        ∷ []) ∷ [];
    text = range 0x40000000 20 ∷ [];
  };
  config = plain;
  flips =
      flips.Reg 0 0 5 0
      ∷ flips.Reg 0 0 5 1 ∷ [];
}

unfoldable pub blank_register_events : List Event
blank_register_events = []

unfoldable pub blank_register_trace : Trace
blank_register_trace = record {
  cores = record {
    end = Halt 0x80;
    n = 4;
    steps = 5;
    out = 0x41 ∷ [];
    regs = known_but (5 ∷ []) (
        0x00000000 ∷ 0x80000000 ∷ 0x00000000 ∷ 0x00000000 ∷ 0x00000000 ∷ 0x00000000 ∷ 0x00000000 ∷ 0x00000000
        ∷ 0x00000041 ∷ 0x00000000 ∷ 0x00000000 ∷ 0x00000000 ∷ 0x00000000 ∷ 0x00000000 ∷ 0x00000000 ∷ 0x00000000
        ∷ 0x00000000 ∷ 0x00000000 ∷ 0x00000000 ∷ 0x00000000 ∷ 0x00000000 ∷ 0x00000000 ∷ 0x00000000 ∷ 0x00000000
        ∷ 0x00000000 ∷ 0x00000000 ∷ 0x00000000 ∷ 0x00000000 ∷ 0x00000000 ∷ 0x00000000 ∷ 0x00000000 ∷ 0x00000000 ∷ []);
    psr = 0xF3000080;
    wim = 0x00000002;
    tbr = 0x00000000;
    y = 0x00000000;
    pc = 0x4000000C;
    npc = 0x40000010;
    parity = parity 0 0 0 0;
  } ∷ [];
  ahb_addr = 0x00000000;
  ahb_status = 0x00000000;
  transfers = transfer 0 0 0 kinds.Fetch whys.Absent 0x40000000 0 8 0x0000000000000000 ∷ [];
  order = [];
  fates = fates.Dormant ∷ fates.Dormant ∷ [];
  watch = [];
}

unfoldable pub blank_register_lines : List String
blank_register_lines =
    "leon3ft report 1"
    ∷ "cores 1"
    ∷ "core 0 halt 80 4 5"
    ∷ "out 0 41"
    ∷ "g 0 00000000 80000000 00000000 00000000 00000000 -------- 00000000 00000000"
    ∷ "o 0 00000041 00000000 00000000 00000000 00000000 00000000 00000000 00000000"
    ∷ "l 0 00000000 00000000 00000000 00000000 00000000 00000000 00000000 00000000"
    ∷ "i 0 00000000 00000000 00000000 00000000 00000000 00000000 00000000 00000000"
    ∷ "ctl 0 F3000080 00000002 00000000 00000000 4000000C 40000010"
    ∷ "parity 0 0 0 0 0"
    ∷ "ahb 00000000 00000000"
    ∷ "transfers 1"
    ∷ "t 0 0 0 fetch absent 40000000 0 0000000000000000"
    ∷ "order 0"
    ∷ "flips 2"
    ∷ "f 0 dormant"
    ∷ "f 1 dormant"
    ∷ "watch 0"
    ∷ "end" ∷ []

unfoldable pub blank_register_text : List ℕ
unfolding blank_register_lines
blank_register_text = text_lines blank_register_lines
