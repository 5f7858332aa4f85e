-- An atomic drains the waiting stores first, then makes its own turn.
-- Checked: LDSTUB reads the byte 40 of the word 40001000 that the store put there, and puts FF; the second finds no store.
use Prim.Native.String.{String}
use Rattle.std.specs.Prelude.{ℕ, ◌∷◌, [], List, Some}
use Rattle.lf_worked.specs.Rows.{range, code_at, data_at, plain, known, transfer, store, atomic, word, parity, text_lines}
use Rattle.lf_model.specs.declared.setup.Setup.{Setup}
use Rattle.lf_model.specs.declared.setup.Event.{Event}
use Rattle.lf_model.specs.declared.trace.Trace.{Trace}
use Rattle.lf_model.specs.declared.trace.CoreEnd.TheVariants.{Halt}
use Rattle.lf_model.specs.declared.bus.TurnKind.TheVariants as kinds
use Rattle.lf_model.specs.declared.bus.Why.TheVariants as whys

unfoldable pub atomic_drains_setup : Setup
atomic_drains_setup = record {
  image = record {
    entry = 0x40000000;
    segments =
        code_at 0x40000000 (
        0x03100004  -- sethi %hi(0x40001000), %g1
        ∷ 0xC2204000  -- st %g1, [%g1]
        ∷ 0xD0684000  -- ldstub [%g1], %o0
        ∷ 0xD2686004  -- ldstub [%g1 + 0x4], %o1
        ∷ 0x91D02000  -- ta 0x0
        ∷ [])
        ∷ data_at 0x40001000 (0x00000000 ∷ 0x12345678 ∷ []) ∷ [];
    text = range 0x40000000 20 ∷ [];
  };
  config = record plain { watch = 0x40001000 ∷ 0x40001004 ∷ [] };
  flips = [];
}

unfoldable pub atomic_drains_events : List Event
atomic_drains_events = []

unfoldable pub atomic_drains_trace : Trace
atomic_drains_trace = record {
  cores = record {
    end = Halt 0x80;
    n = 5;
    steps = 7;
    out = [];
    regs = known (
        0x00000000 ∷ 0x40001000 ∷ 0x00000000 ∷ 0x00000000 ∷ 0x00000000 ∷ 0x00000000 ∷ 0x00000000 ∷ 0x00000000
        ∷ 0x00000040 ∷ 0x00000012 ∷ 0x00000000 ∷ 0x00000000 ∷ 0x00000000 ∷ 0x00000000 ∷ 0x00000000 ∷ 0x00000000
        ∷ 0x00000000 ∷ 0x00000000 ∷ 0x00000000 ∷ 0x00000000 ∷ 0x00000000 ∷ 0x00000000 ∷ 0x00000000 ∷ 0x00000000
        ∷ 0x00000000 ∷ 0x00000000 ∷ 0x00000000 ∷ 0x00000000 ∷ 0x00000000 ∷ 0x00000000 ∷ 0x00000000 ∷ 0x00000000 ∷ []);
    psr = 0xF3000080;
    wim = 0x00000002;
    tbr = 0x00000000;
    y = 0x00000000;
    pc = 0x40000010;
    npc = 0x40000014;
    parity = parity 0 0 0 0;
  } ∷ [];
  ahb_addr = 0x00000000;
  ahb_status = 0x00000000;
  transfers =
      transfer 0 0 0 kinds.Fetch whys.Absent 0x40000000 0 8 0x0000000000000000
      ∷ transfer 1 0 3 kinds.Store whys.Atomic 0x40001000 0 0 0
      ∷ transfer 2 0 4 kinds.Atomic whys.None 0x40001000 0 1 0x0000000000000000
      ∷ transfer 3 0 5 kinds.Atomic whys.None 0x40001004 0 1 0x0000000000000000 ∷ [];
  order =
      store 0 0 2 0x40001000 4 0x40001000
      ∷ atomic 0 1 4 0x40001000 1 0x40 0xFF
      ∷ atomic 0 2 5 0x40001004 1 0x12 0xFF ∷ [];
  fates = [];
  watch =
      word 0x40001000 (Some 0xFF001000)
      ∷ word 0x40001004 (Some 0xFF345678) ∷ [];
}

unfoldable pub atomic_drains_lines : List String
atomic_drains_lines =
    "leon3ft report 1"
    ∷ "cores 1"
    ∷ "core 0 halt 80 5 7"
    ∷ "out 0 -"
    ∷ "g 0 00000000 40001000 00000000 00000000 00000000 00000000 00000000 00000000"
    ∷ "o 0 00000040 00000012 00000000 00000000 00000000 00000000 00000000 00000000"
    ∷ "l 0 00000000 00000000 00000000 00000000 00000000 00000000 00000000 00000000"
    ∷ "i 0 00000000 00000000 00000000 00000000 00000000 00000000 00000000 00000000"
    ∷ "ctl 0 F3000080 00000002 00000000 00000000 40000010 40000014"
    ∷ "parity 0 0 0 0 0"
    ∷ "ahb 00000000 00000000"
    ∷ "transfers 4"
    ∷ "t 0 0 0 fetch absent 40000000 0 0000000000000000"
    ∷ "t 1 0 3 store atomic 40001000 - --"
    ∷ "t 2 0 4 atomic - 40001000 - 00"
    ∷ "t 3 0 5 atomic - 40001004 - 00"
    ∷ "order 3"
    ∷ "S 0 0 2 40001000 40001000"
    ∷ "A 0 1 4 40001000 40 FF"
    ∷ "A 0 2 5 40001004 12 FF"
    ∷ "flips 0"
    ∷ "watch 2"
    ∷ "w 40001000 FF001000"
    ∷ "w 40001004 FF345678"
    ∷ "end" ∷ []

unfoldable pub atomic_drains_text : List ℕ
unfolding atomic_drains_lines
atomic_drains_text = text_lines atomic_drains_lines
