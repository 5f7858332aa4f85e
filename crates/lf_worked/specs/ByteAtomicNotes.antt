-- LDSTUB of a byte in a word with one turned bit.
-- Checked: AHBSTAT is 300, HSIZE 0 for LDSTUB, at the word's address; the load that meets another corrected word notes nothing, since
-- NE is set; the first flip is repaired by the atomic's write.
use Prim.Native.String.{String}
use Rattle.std.specs.Prelude.{ℕ, ◌∷◌, [], List}
use Rattle.lf_worked.specs.Rows.{range, code_at, data_at, plain, known, transfer, load, atomic, parity, text_lines}
use Rattle.lf_model.specs.declared.setup.Setup.{Setup}
use Rattle.lf_model.specs.declared.setup.Event.{Event}
use Rattle.lf_model.specs.declared.trace.Trace.{Trace}
use Rattle.lf_model.specs.declared.trace.CoreEnd.TheVariants.{Halt}
use Rattle.lf_model.specs.declared.flip.Flip.TheVariants as flips
use Rattle.lf_model.specs.declared.trace.Fate.TheVariants as fates
use Rattle.lf_model.specs.declared.bus.TurnKind.TheVariants as kinds
use Rattle.lf_model.specs.declared.bus.Why.TheVariants as whys

unfoldable pub byte_atomic_notes_setup : Setup
byte_atomic_notes_setup = record {
  image = record {
    entry = 0x40000000;
    segments =
        code_at 0x40000000 (
        0x03100004  -- sethi %hi(0x40001000), %g1
        ∷ 0xD0686003  -- ldstub [%g1 + 0x3], %o0
        ∷ 0xD2006004  -- ld [%g1 + 0x4], %o1
        ∷ 0x91D02000  -- ta 0x0
        ∷ [])
        ∷ data_at 0x40001000 (0x0000005A ∷ 0x0000005B ∷ []) ∷ [];
    text = range 0x40000000 16 ∷ [];
  };
  config = plain;
  flips =
      flips.Mem 1 0x40001000 7
      ∷ flips.Mem 2 0x40001004 0 ∷ [];
}

unfoldable pub byte_atomic_notes_events : List Event
byte_atomic_notes_events = []

unfoldable pub byte_atomic_notes_trace : Trace
byte_atomic_notes_trace = record {
  cores = record {
    end = Halt 0x80;
    n = 4;
    steps = 6;
    out = [];
    regs = known (
        0x00000000 ∷ 0x40001000 ∷ 0x00000000 ∷ 0x00000000 ∷ 0x00000000 ∷ 0x00000000 ∷ 0x00000000 ∷ 0x00000000
        ∷ 0x0000005A ∷ 0x0000005B ∷ 0x00000000 ∷ 0x00000000 ∷ 0x00000000 ∷ 0x00000000 ∷ 0x00000000 ∷ 0x00000000
        ∷ 0x00000000 ∷ 0x00000000 ∷ 0x00000000 ∷ 0x00000000 ∷ 0x00000000 ∷ 0x00000000 ∷ 0x00000000 ∷ 0x00000000
        ∷ 0x00000000 ∷ 0x00000000 ∷ 0x00000000 ∷ 0x00000000 ∷ 0x00000000 ∷ 0x00000000 ∷ 0x00000000 ∷ 0x00000000 ∷ []);
    psr = 0xF3000080;
    wim = 0x00000002;
    tbr = 0x00000000;
    y = 0x00000000;
    pc = 0x4000000C;
    npc = 0x40000010;
    parity = parity 0 0 0 0;
  } ∷ [];
  ahb_addr = 0x40001000;
  ahb_status = 0x00000300;
  transfers =
      transfer 0 0 0 kinds.Fetch whys.Absent 0x40000000 0 8 0x0000000000000000
      ∷ transfer 1 0 2 kinds.Atomic whys.None 0x40001003 0 1 0x5D00000000000000
      ∷ transfer 2 0 3 kinds.Load whys.Absent 0x40001000 0 8 0x004F000000000000 ∷ [];
  order =
      atomic 0 0 2 0x40001003 1 0x5A 0xFF
      ∷ load 0 1 4 0x40001004 4 0x0000005B 0 ∷ [];
  fates = fates.Repaired ∷ fates.Dormant ∷ [];
  watch = [];
}

unfoldable pub byte_atomic_notes_lines : List String
byte_atomic_notes_lines =
    "leon3ft report 1"
    ∷ "cores 1"
    ∷ "core 0 halt 80 4 6"
    ∷ "out 0 -"
    ∷ "g 0 00000000 40001000 00000000 00000000 00000000 00000000 00000000 00000000"
    ∷ "o 0 0000005A 0000005B 00000000 00000000 00000000 00000000 00000000 00000000"
    ∷ "l 0 00000000 00000000 00000000 00000000 00000000 00000000 00000000 00000000"
    ∷ "i 0 00000000 00000000 00000000 00000000 00000000 00000000 00000000 00000000"
    ∷ "ctl 0 F3000080 00000002 00000000 00000000 4000000C 40000010"
    ∷ "parity 0 0 0 0 0"
    ∷ "ahb 40001000 00000300"
    ∷ "transfers 3"
    ∷ "t 0 0 0 fetch absent 40000000 0 0000000000000000"
    ∷ "t 1 0 2 atomic - 40001003 - 5D"
    ∷ "t 2 0 3 load absent 40001000 0 004F000000000000"
    ∷ "order 2"
    ∷ "A 0 0 2 40001003 5A FF"
    ∷ "L 0 1 4 40001004 0000005B 0"
    ∷ "flips 2"
    ∷ "f 0 repaired"
    ∷ "f 1 dormant"
    ∷ "watch 0"
    ∷ "end" ∷ []

unfoldable pub byte_atomic_notes_text : List ℕ
unfolding byte_atomic_notes_lines
byte_atomic_notes_text = text_lines byte_atomic_notes_lines
