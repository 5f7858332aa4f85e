-- A byte store whose word has two turned bits is lost, and stops the core by 2B.
-- `ldub` reads the byte 77 from the data cache, which the store updated, while the store waits. `ta 0` drains it first (cause
-- `end`), and its word is bad by the flips of turn 2. Checked: the store is an X after all others; step 9 drains, so 10
-- steps, and 7 instructions are retired; AHBSTAT is 180: a write of a byte (HSIZE 0), not corrected.
use Prim.Native.String.{String}
use Rattle.std.specs.Prelude.{ℕ, ◌∷◌, [], List}
use Rattle.lf_worked.specs.Rows.{range, code_at, data_at, plain, known, transfer, load, lost, parity, text_lines}
use Rattle.lf_model.specs.declared.setup.Setup.{Setup}
use Rattle.lf_model.specs.declared.setup.Event.{Event}
use Rattle.lf_model.specs.declared.trace.Trace.{Trace}
use Rattle.lf_model.specs.declared.trace.CoreEnd.TheVariants.{Stop}
use Rattle.lf_model.specs.declared.flip.Flip.TheVariants as flips
use Rattle.lf_model.specs.declared.trace.Fate.TheVariants as fates
use Rattle.lf_model.specs.declared.bus.TurnKind.TheVariants as kinds
use Rattle.lf_model.specs.declared.bus.Why.TheVariants as whys

unfoldable pub lost_byte_store_setup : Setup
lost_byte_store_setup = record {
  image = record {
    entry = 0x40000000;
    segments =
        code_at 0x40000000 (
        0x03100004  -- sethi %hi(0x40001000), %g1
        ∷ 0x05200000  -- sethi %hi(0x80000000), %g2
        ∷ 0xD0006000  -- ld [%g1], %o0
        ∷ 0x92102077  -- or %g0, 0x77, %o1
        ∷ 0xD2286000  -- stb %o1, [%g1]
        ∷ 0xD4086000  -- ldub [%g1], %o2
        ∷ 0xD420A100  -- st %o2, [%g2 + 0x100]
        ∷ 0x91D02000  -- ta 0x0
        ∷ [])
        ∷ data_at 0x40001000 (0x0000005A ∷ []) ∷ [];
    text = range 0x40000000 32 ∷ [];
  };
  config = plain;
  flips =
      flips.Mem 2 0x40001000 0
      ∷ flips.Mem 2 0x40001000 1 ∷ [];
}

unfoldable pub lost_byte_store_events : List Event
lost_byte_store_events = []

unfoldable pub lost_byte_store_trace : Trace
lost_byte_store_trace = record {
  cores = record {
    end = Stop 0x2B 2 0x05;
    n = 7;
    steps = 10;
    out = 0x77 ∷ [];
    regs = known (
        0x00000000 ∷ 0x40001000 ∷ 0x80000000 ∷ 0x00000000 ∷ 0x00000000 ∷ 0x00000000 ∷ 0x00000000 ∷ 0x00000000
        ∷ 0x0000005A ∷ 0x00000077 ∷ 0x00000077 ∷ 0x00000000 ∷ 0x00000000 ∷ 0x00000000 ∷ 0x00000000 ∷ 0x00000000
        ∷ 0x00000000 ∷ 0x00000000 ∷ 0x00000000 ∷ 0x00000000 ∷ 0x00000000 ∷ 0x00000000 ∷ 0x00000000 ∷ 0x00000000
        ∷ 0x00000000 ∷ 0x00000000 ∷ 0x00000000 ∷ 0x00000000 ∷ 0x00000000 ∷ 0x00000000 ∷ 0x00000000 ∷ 0x00000000 ∷ []);
    psr = 0xF3000080;
    wim = 0x00000002;
    tbr = 0x00000000;
    y = 0x00000000;
    pc = 0x4000001C;
    npc = 0x40000020;
    parity = parity 0 0 0 0;
  } ∷ [];
  ahb_addr = 0x40001000;
  ahb_status = 0x00000180;
  transfers =
      transfer 0 0 0 kinds.Fetch whys.Absent 0x40000000 0 8 0x0000000000000000
      ∷ transfer 1 0 3 kinds.Load whys.Absent 0x40001000 0 8 0x0000000000000000
      ∷ transfer 2 0 9 kinds.Store whys.End 0x40001000 0 1 0x0500000000000000 ∷ [];
  order =
      load 0 0 4 0x40001000 4 0x0000005A 0
      ∷ load 0 2 7 0x40001000 1 0x77 0
      ∷ lost 0 1 6 0x40001000 1 0x77 ∷ [];
  fates = fates.Stopped ∷ fates.Stopped ∷ [];
  watch = [];
}

unfoldable pub lost_byte_store_lines : List String
lost_byte_store_lines =
    "leon3ft report 1"
    ∷ "cores 1"
    ∷ "core 0 stop 2B 7 10 2 05"
    ∷ "out 0 77"
    ∷ "g 0 00000000 40001000 80000000 00000000 00000000 00000000 00000000 00000000"
    ∷ "o 0 0000005A 00000077 00000077 00000000 00000000 00000000 00000000 00000000"
    ∷ "l 0 00000000 00000000 00000000 00000000 00000000 00000000 00000000 00000000"
    ∷ "i 0 00000000 00000000 00000000 00000000 00000000 00000000 00000000 00000000"
    ∷ "ctl 0 F3000080 00000002 00000000 00000000 4000001C 40000020"
    ∷ "parity 0 0 0 0 0"
    ∷ "ahb 40001000 00000180"
    ∷ "transfers 3"
    ∷ "t 0 0 0 fetch absent 40000000 0 0000000000000000"
    ∷ "t 1 0 3 load absent 40001000 0 0000000000000000"
    ∷ "t 2 0 9 store end 40001000 - 05"
    ∷ "order 3"
    ∷ "L 0 0 4 40001000 0000005A 0"
    ∷ "L 0 2 7 40001000 77 0"
    ∷ "X 0 1 6 40001000 77"
    ∷ "flips 2"
    ∷ "f 0 stopped"
    ∷ "f 1 stopped"
    ∷ "watch 0"
    ∷ "end" ∷ []

unfoldable pub lost_byte_store_text : List ℕ
unfolding lost_byte_store_lines
lost_byte_store_text = text_lines lost_byte_store_lines
