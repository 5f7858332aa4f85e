-- A word of which one bit turned twice reads clean.
-- Checked: syndrome 00 and AHBSTAT 0; both flips were applied and nothing wrote the word, so both are dormant.
use Prim.Native.String.{String}
use Rattle.std.specs.Prelude.{ℕ, ◌∷◌, [], List}
use Rattle.lf_worked.specs.Rows.{range, code_at, data_at, plain, known, transfer, load, parity, text_lines}
use Rattle.lf_model.specs.declared.setup.Setup.{Setup}
use Rattle.lf_model.specs.declared.setup.Event.{Event}
use Rattle.lf_model.specs.declared.trace.Trace.{Trace}
use Rattle.lf_model.specs.declared.trace.CoreEnd.TheVariants.{Halt}
use Rattle.lf_model.specs.declared.flip.Flip.TheVariants as flips
use Rattle.lf_model.specs.declared.trace.Fate.TheVariants as fates
use Rattle.lf_model.specs.declared.bus.TurnKind.TheVariants as kinds
use Rattle.lf_model.specs.declared.bus.Why.TheVariants as whys

unfoldable pub same_bit_twice_setup : Setup
same_bit_twice_setup = record {
  image = record {
    entry = 0x40000000;
    segments =
        code_at 0x40000000 (
        0x03100004  -- sethi %hi(0x40001000), %g1
        ∷ 0x05200000  -- sethi %hi(0x80000000), %g2
        ∷ 0xD0006000  -- ld [%g1], %o0
        ∷ 0xD020A100  -- st %o0, [%g2 + 0x100]
        ∷ 0x91D02000  -- ta 0x0
        ∷ [])
        ∷ data_at 0x40001000 (0x0000005A ∷ []) ∷ [];
    text = range 0x40000000 20 ∷ [];
  };
  config = plain;
  flips =
      flips.Mem 1 0x40001000 0
      ∷ flips.Mem 1 0x40001000 0 ∷ [];
}

unfoldable pub same_bit_twice_events : List Event
same_bit_twice_events = []

unfoldable pub same_bit_twice_trace : Trace
same_bit_twice_trace = record {
  cores = record {
    end = Halt 0x80;
    n = 5;
    steps = 7;
    out = 0x5A ∷ [];
    regs = known (
        0x00000000 ∷ 0x40001000 ∷ 0x80000000 ∷ 0x00000000 ∷ 0x00000000 ∷ 0x00000000 ∷ 0x00000000 ∷ 0x00000000
        ∷ 0x0000005A ∷ 0x00000000 ∷ 0x00000000 ∷ 0x00000000 ∷ 0x00000000 ∷ 0x00000000 ∷ 0x00000000 ∷ 0x00000000
        ∷ 0x00000000 ∷ 0x00000000 ∷ 0x00000000 ∷ 0x00000000 ∷ 0x00000000 ∷ 0x00000000 ∷ 0x00000000 ∷ 0x00000000
        ∷ 0x00000000 ∷ 0x00000000 ∷ 0x00000000 ∷ 0x00000000 ∷ 0x00000000 ∷ 0x00000000 ∷ 0x00000000 ∷ 0x00000000 ∷ []);
    psr = 0xF3000080;
    wim = 0x00000002;
    tbr = 0x00000000;
    y = 0x00000000;
    pc = 0x40000010;
    npc = 0x40000014;
    parity = parity 0 0 0 0;
  } ∷ [];
  ahb_addr = 0x00000000;
  ahb_status = 0x00000000;
  transfers =
      transfer 0 0 0 kinds.Fetch whys.Absent 0x40000000 0 8 0x0000000000000000
      ∷ transfer 1 0 3 kinds.Load whys.Absent 0x40001000 0 8 0x0000000000000000 ∷ [];
  order = load 0 0 4 0x40001000 4 0x0000005A 0 ∷ [];
  fates = fates.Dormant ∷ fates.Dormant ∷ [];
  watch = [];
}

unfoldable pub same_bit_twice_lines : List String
same_bit_twice_lines =
    "leon3ft report 1"
    ∷ "cores 1"
    ∷ "core 0 halt 80 5 7"
    ∷ "out 0 5A"
    ∷ "g 0 00000000 40001000 80000000 00000000 00000000 00000000 00000000 00000000"
    ∷ "o 0 0000005A 00000000 00000000 00000000 00000000 00000000 00000000 00000000"
    ∷ "l 0 00000000 00000000 00000000 00000000 00000000 00000000 00000000 00000000"
    ∷ "i 0 00000000 00000000 00000000 00000000 00000000 00000000 00000000 00000000"
    ∷ "ctl 0 F3000080 00000002 00000000 00000000 40000010 40000014"
    ∷ "parity 0 0 0 0 0"
    ∷ "ahb 00000000 00000000"
    ∷ "transfers 2"
    ∷ "t 0 0 0 fetch absent 40000000 0 0000000000000000"
    ∷ "t 1 0 3 load absent 40001000 0 0000000000000000"
    ∷ "order 1"
    ∷ "L 0 0 4 40001000 0000005A 0"
    ∷ "flips 2"
    ∷ "f 0 dormant"
    ∷ "f 1 dormant"
    ∷ "watch 0"
    ∷ "end" ∷ []

unfoldable pub same_bit_twice_text : List ℕ
unfolding same_bit_twice_lines
same_bit_twice_text = text_lines same_bit_twice_lines
