-- LDD from an address that is not a multiple of 8 halts by 07.
-- Checked: the trap comes before any look-up, so there is no fill of the data cache, and no operation.
use Prim.Native.String.{String}
use Rattle.std.specs.Prelude.{ℕ, ◌∷◌, [], List}
use Rattle.lf_worked.specs.Rows.{range, code_at, zeros_at, plain, known, transfer, parity, text_lines}
use Rattle.lf_model.specs.declared.setup.Setup.{Setup}
use Rattle.lf_model.specs.declared.setup.Event.{Event}
use Rattle.lf_model.specs.declared.trace.Trace.{Trace}
use Rattle.lf_model.specs.declared.trace.CoreEnd.TheVariants.{Halt}
use Rattle.lf_model.specs.declared.bus.TurnKind.TheVariants as kinds
use Rattle.lf_model.specs.declared.bus.Why.TheVariants as whys

unfoldable pub misaligned_load_setup : Setup
misaligned_load_setup = record {
  image = record {
    entry = 0x40000000;
    segments =
        code_at 0x40000000 (
        0x03100004  -- sethi %hi(0x40001000), %g1
        ∷ 0xD0186004  -- ldd [%g1 + 0x4], %o0
        ∷ 0x91D02000  -- ta 0x0
        ∷ [])
        ∷ zeros_at 0x40001000 16 ∷ [];
    text = range 0x40000000 12 ∷ [];
  };
  config = plain;
  flips = [];
}

unfoldable pub misaligned_load_events : List Event
misaligned_load_events = []

unfoldable pub misaligned_load_trace : Trace
misaligned_load_trace = record {
  cores = record {
    end = Halt 0x07;
    n = 2;
    steps = 3;
    out = [];
    regs = known (
        0x00000000 ∷ 0x40001000 ∷ 0x00000000 ∷ 0x00000000 ∷ 0x00000000 ∷ 0x00000000 ∷ 0x00000000 ∷ 0x00000000
        ∷ 0x00000000 ∷ 0x00000000 ∷ 0x00000000 ∷ 0x00000000 ∷ 0x00000000 ∷ 0x00000000 ∷ 0x00000000 ∷ 0x00000000
        ∷ 0x00000000 ∷ 0x00000000 ∷ 0x00000000 ∷ 0x00000000 ∷ 0x00000000 ∷ 0x00000000 ∷ 0x00000000 ∷ 0x00000000
        ∷ 0x00000000 ∷ 0x00000000 ∷ 0x00000000 ∷ 0x00000000 ∷ 0x00000000 ∷ 0x00000000 ∷ 0x00000000 ∷ 0x00000000 ∷ []);
    psr = 0xF3000080;
    wim = 0x00000002;
    tbr = 0x00000000;
    y = 0x00000000;
    pc = 0x40000004;
    npc = 0x40000008;
    parity = parity 0 0 0 0;
  } ∷ [];
  ahb_addr = 0x00000000;
  ahb_status = 0x00000000;
  transfers = transfer 0 0 0 kinds.Fetch whys.Absent 0x40000000 0 8 0x0000000000000000 ∷ [];
  order = [];
  fates = [];
  watch = [];
}

unfoldable pub misaligned_load_lines : List String
misaligned_load_lines =
    "leon3ft report 1"
    ∷ "cores 1"
    ∷ "core 0 halt 07 2 3"
    ∷ "out 0 -"
    ∷ "g 0 00000000 40001000 00000000 00000000 00000000 00000000 00000000 00000000"
    ∷ "o 0 00000000 00000000 00000000 00000000 00000000 00000000 00000000 00000000"
    ∷ "l 0 00000000 00000000 00000000 00000000 00000000 00000000 00000000 00000000"
    ∷ "i 0 00000000 00000000 00000000 00000000 00000000 00000000 00000000 00000000"
    ∷ "ctl 0 F3000080 00000002 00000000 00000000 40000004 40000008"
    ∷ "parity 0 0 0 0 0"
    ∷ "ahb 00000000 00000000"
    ∷ "transfers 1"
    ∷ "t 0 0 0 fetch absent 40000000 0 0000000000000000"
    ∷ "order 0"
    ∷ "flips 0"
    ∷ "watch 0"
    ∷ "end" ∷ []

unfoldable pub misaligned_load_text : List ℕ
unfolding misaligned_load_lines
misaligned_load_text = text_lines misaligned_load_lines
