-- An atomic writes its register in its turn; SWAP reads it before.
-- Checked: LDSTUB does not read %o0, so the flip is overwritten by the write; SWAP reads %o1, so its flip is repaired by the read.
use Prim.Native.String.{String}
use Rattle.std.specs.Prelude.{ℕ, ◌∷◌, [], List}
use Rattle.lf_worked.specs.Rows.{range, code_at, data_at, plain, known, transfer, atomic, parity, text_lines}
use Rattle.lf_model.specs.declared.setup.Setup.{Setup}
use Rattle.lf_model.specs.declared.setup.Event.{Event}
use Rattle.lf_model.specs.declared.trace.Trace.{Trace}
use Rattle.lf_model.specs.declared.trace.CoreEnd.TheVariants.{Halt}
use Rattle.lf_model.specs.declared.flip.Flip.TheVariants as flips
use Rattle.lf_model.specs.declared.trace.Fate.TheVariants as fates
use Rattle.lf_model.specs.declared.bus.TurnKind.TheVariants as kinds
use Rattle.lf_model.specs.declared.bus.Why.TheVariants as whys

unfoldable pub atomic_writes_its_register_setup : Setup
atomic_writes_its_register_setup = record {
  image = record {
    entry = 0x40000000;
    segments =
        code_at 0x40000000 (
        0x03100004  -- sethi %hi(0x40001000), %g1
        ∷ 0xD0684000  -- ldstub [%g1], %o0
        ∷ 0xD2786004  -- swap [%g1 + 0x4], %o1
        ∷ 0x91D02000  -- ta 0x0
        ∷ [])
        ∷ data_at 0x40001000 (0x5A000000 ∷ 0x00000007 ∷ []) ∷ [];
    text = range 0x40000000 16 ∷ [];
  };
  config = plain;
  flips =
      flips.Reg 0 2 8 0
      ∷ flips.Reg 0 3 9 1 ∷ [];
}

unfoldable pub atomic_writes_its_register_events : List Event
atomic_writes_its_register_events = []

unfoldable pub atomic_writes_its_register_trace : Trace
atomic_writes_its_register_trace = record {
  cores = record {
    end = Halt 0x80;
    n = 4;
    steps = 5;
    out = [];
    regs = known (
        0x00000000 ∷ 0x40001000 ∷ 0x00000000 ∷ 0x00000000 ∷ 0x00000000 ∷ 0x00000000 ∷ 0x00000000 ∷ 0x00000000
        ∷ 0x0000005A ∷ 0x00000007 ∷ 0x00000000 ∷ 0x00000000 ∷ 0x00000000 ∷ 0x00000000 ∷ 0x00000000 ∷ 0x00000000
        ∷ 0x00000000 ∷ 0x00000000 ∷ 0x00000000 ∷ 0x00000000 ∷ 0x00000000 ∷ 0x00000000 ∷ 0x00000000 ∷ 0x00000000
        ∷ 0x00000000 ∷ 0x00000000 ∷ 0x00000000 ∷ 0x00000000 ∷ 0x00000000 ∷ 0x00000000 ∷ 0x00000000 ∷ 0x00000000 ∷ []);
    psr = 0xF3000080;
    wim = 0x00000002;
    tbr = 0x00000000;
    y = 0x00000000;
    pc = 0x4000000C;
    npc = 0x40000010;
    parity = parity 0 0 0 0;
  } ∷ [];
  ahb_addr = 0x00000000;
  ahb_status = 0x00000000;
  transfers =
      transfer 0 0 0 kinds.Fetch whys.Absent 0x40000000 0 8 0x0000000000000000
      ∷ transfer 1 0 2 kinds.Atomic whys.None 0x40001000 0 1 0x0000000000000000
      ∷ transfer 2 0 3 kinds.Atomic whys.None 0x40001004 0 1 0x0000000000000000 ∷ [];
  order =
      atomic 0 0 2 0x40001000 1 0x5A 0xFF
      ∷ atomic 0 1 3 0x40001004 4 0x00000007 0x00000000 ∷ [];
  fates = fates.Overwritten ∷ fates.Repaired ∷ [];
  watch = [];
}

unfoldable pub atomic_writes_its_register_lines : List String
atomic_writes_its_register_lines =
    "leon3ft report 1"
    ∷ "cores 1"
    ∷ "core 0 halt 80 4 5"
    ∷ "out 0 -"
    ∷ "g 0 00000000 40001000 00000000 00000000 00000000 00000000 00000000 00000000"
    ∷ "o 0 0000005A 00000007 00000000 00000000 00000000 00000000 00000000 00000000"
    ∷ "l 0 00000000 00000000 00000000 00000000 00000000 00000000 00000000 00000000"
    ∷ "i 0 00000000 00000000 00000000 00000000 00000000 00000000 00000000 00000000"
    ∷ "ctl 0 F3000080 00000002 00000000 00000000 4000000C 40000010"
    ∷ "parity 0 0 0 0 0"
    ∷ "ahb 00000000 00000000"
    ∷ "transfers 3"
    ∷ "t 0 0 0 fetch absent 40000000 0 0000000000000000"
    ∷ "t 1 0 2 atomic - 40001000 - 00"
    ∷ "t 2 0 3 atomic - 40001004 - 00"
    ∷ "order 2"
    ∷ "A 0 0 2 40001000 5A FF"
    ∷ "A 0 1 3 40001004 00000007 00000000"
    ∷ "flips 2"
    ∷ "f 0 overwritten"
    ∷ "f 1 repaired"
    ∷ "watch 0"
    ∷ "end" ∷ []

unfoldable pub atomic_writes_its_register_text : List ℕ
unfolding atomic_writes_its_register_lines
atomic_writes_its_register_text = text_lines atomic_writes_its_register_lines
