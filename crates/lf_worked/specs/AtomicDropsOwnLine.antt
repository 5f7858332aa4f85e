-- An atomic drops its own line, so the load that follows fills it again.
-- Checked: SWAP reads 5A from memory and writes 0 in one transfer without a cause; the line was resident, and the last load
-- misses by `absent` and reads 0.
use Prim.Native.String.{String}
use Rattle.std.specs.Prelude.{ℕ, ◌∷◌, [], List}
use Rattle.lf_worked.specs.Rows.{range, code_at, data_at, plain, known, transfer, load, atomic, parity, text_lines}
use Rattle.lf_model.specs.declared.setup.Setup.{Setup}
use Rattle.lf_model.specs.declared.setup.Event.{Event}
use Rattle.lf_model.specs.declared.trace.Trace.{Trace}
use Rattle.lf_model.specs.declared.trace.CoreEnd.TheVariants.{Halt}
use Rattle.lf_model.specs.declared.bus.TurnKind.TheVariants as kinds
use Rattle.lf_model.specs.declared.bus.Why.TheVariants as whys

unfoldable pub atomic_drops_own_line_setup : Setup
atomic_drops_own_line_setup = record {
  image = record {
    entry = 0x40000000;
    segments =
        code_at 0x40000000 (
        0x03100004  -- sethi %hi(0x40001000), %g1
        ∷ 0xD0004000  -- ld [%g1], %o0
        ∷ 0xC4784000  -- swap [%g1], %g2
        ∷ 0xD4004000  -- ld [%g1], %o2
        ∷ 0x91D02000  -- ta 0x0
        ∷ [])
        ∷ data_at 0x40001000 (0x0000005A ∷ 0x00000000 ∷ []) ∷ [];
    text = range 0x40000000 20 ∷ [];
  };
  config = plain;
  flips = [];
}

unfoldable pub atomic_drops_own_line_events : List Event
atomic_drops_own_line_events = []

unfoldable pub atomic_drops_own_line_trace : Trace
atomic_drops_own_line_trace = record {
  cores = record {
    end = Halt 0x80;
    n = 5;
    steps = 8;
    out = [];
    regs = known (
        0x00000000 ∷ 0x40001000 ∷ 0x0000005A ∷ 0x00000000 ∷ 0x00000000 ∷ 0x00000000 ∷ 0x00000000 ∷ 0x00000000
        ∷ 0x0000005A ∷ 0x00000000 ∷ 0x00000000 ∷ 0x00000000 ∷ 0x00000000 ∷ 0x00000000 ∷ 0x00000000 ∷ 0x00000000
        ∷ 0x00000000 ∷ 0x00000000 ∷ 0x00000000 ∷ 0x00000000 ∷ 0x00000000 ∷ 0x00000000 ∷ 0x00000000 ∷ 0x00000000
        ∷ 0x00000000 ∷ 0x00000000 ∷ 0x00000000 ∷ 0x00000000 ∷ 0x00000000 ∷ 0x00000000 ∷ 0x00000000 ∷ 0x00000000 ∷ []);
    psr = 0xF3000080;
    wim = 0x00000002;
    tbr = 0x00000000;
    y = 0x00000000;
    pc = 0x40000010;
    npc = 0x40000014;
    parity = parity 0 0 0 0;
  } ∷ [];
  ahb_addr = 0x00000000;
  ahb_status = 0x00000000;
  transfers =
      transfer 0 0 0 kinds.Fetch whys.Absent 0x40000000 0 8 0x0000000000000000
      ∷ transfer 1 0 2 kinds.Load whys.Absent 0x40001000 0 8 0x0000000000000000
      ∷ transfer 2 0 4 kinds.Atomic whys.None 0x40001000 0 1 0x0000000000000000
      ∷ transfer 3 0 5 kinds.Load whys.Absent 0x40001000 0 8 0x0000000000000000 ∷ [];
  order =
      load 0 0 3 0x40001000 4 0x0000005A 0
      ∷ atomic 0 1 4 0x40001000 4 0x0000005A 0x00000000
      ∷ load 0 2 6 0x40001000 4 0x00000000 0 ∷ [];
  fates = [];
  watch = [];
}

unfoldable pub atomic_drops_own_line_lines : List String
atomic_drops_own_line_lines =
    "leon3ft report 1"
    ∷ "cores 1"
    ∷ "core 0 halt 80 5 8"
    ∷ "out 0 -"
    ∷ "g 0 00000000 40001000 0000005A 00000000 00000000 00000000 00000000 00000000"
    ∷ "o 0 0000005A 00000000 00000000 00000000 00000000 00000000 00000000 00000000"
    ∷ "l 0 00000000 00000000 00000000 00000000 00000000 00000000 00000000 00000000"
    ∷ "i 0 00000000 00000000 00000000 00000000 00000000 00000000 00000000 00000000"
    ∷ "ctl 0 F3000080 00000002 00000000 00000000 40000010 40000014"
    ∷ "parity 0 0 0 0 0"
    ∷ "ahb 00000000 00000000"
    ∷ "transfers 4"
    ∷ "t 0 0 0 fetch absent 40000000 0 0000000000000000"
    ∷ "t 1 0 2 load absent 40001000 0 0000000000000000"
    ∷ "t 2 0 4 atomic - 40001000 - 00"
    ∷ "t 3 0 5 load absent 40001000 0 0000000000000000"
    ∷ "order 3"
    ∷ "L 0 0 3 40001000 0000005A 0"
    ∷ "A 0 1 4 40001000 0000005A 00000000"
    ∷ "L 0 2 6 40001000 00000000 0"
    ∷ "flips 0"
    ∷ "watch 0"
    ∷ "end" ∷ []

unfoldable pub atomic_drops_own_line_text : List ℕ
unfolding atomic_drops_own_line_lines
atomic_drops_own_line_text = text_lines atomic_drops_own_line_lines
