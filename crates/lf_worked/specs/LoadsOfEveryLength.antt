-- Loads of a byte, a half, a word and a doubleword, signed and not.
-- The word is 8001FF02. Checked: LDSB and LDSH extend the sign in the register, and the order shows the bytes read alone; LDD
-- reads two words in one load, into %o4 and %o5.
use Prim.Native.String.{String}
use Rattle.std.specs.Prelude.{ℕ, ◌∷◌, [], List}
use Rattle.lf_worked.specs.Rows.{range, code_at, data_at, plain, known, transfer, load, parity, text_lines}
use Rattle.lf_model.specs.declared.setup.Setup.{Setup}
use Rattle.lf_model.specs.declared.setup.Event.{Event}
use Rattle.lf_model.specs.declared.trace.Trace.{Trace}
use Rattle.lf_model.specs.declared.trace.CoreEnd.TheVariants.{Halt}
use Rattle.lf_model.specs.declared.bus.TurnKind.TheVariants as kinds
use Rattle.lf_model.specs.declared.bus.Why.TheVariants as whys

unfoldable pub loads_of_every_length_setup : Setup
loads_of_every_length_setup = record {
  image = record {
    entry = 0x40000000;
    segments =
        code_at 0x40000000 (
        0x03100004  -- sethi %hi(0x40001000), %g1
        ∷ 0xD0484000  -- ldsb [%g1], %o0
        ∷ 0xD2504000  -- ldsh [%g1], %o1
        ∷ 0xD4086002  -- ldub [%g1 + 0x2], %o2
        ∷ 0xD6106002  -- lduh [%g1 + 0x2], %o3
        ∷ 0xD8184000  -- ldd [%g1], %o4
        ∷ 0x91D02000  -- ta 0x0
        ∷ [])
        ∷ data_at 0x40001000 (0x8001FF02 ∷ 0x12345678 ∷ []) ∷ [];
    text = range 0x40000000 28 ∷ [];
  };
  config = plain;
  flips = [];
}

unfoldable pub loads_of_every_length_events : List Event
loads_of_every_length_events = []

unfoldable pub loads_of_every_length_trace : Trace
loads_of_every_length_trace = record {
  cores = record {
    end = Halt 0x80;
    n = 7;
    steps = 9;
    out = [];
    regs = known (
        0x00000000 ∷ 0x40001000 ∷ 0x00000000 ∷ 0x00000000 ∷ 0x00000000 ∷ 0x00000000 ∷ 0x00000000 ∷ 0x00000000
        ∷ 0xFFFFFF80 ∷ 0xFFFF8001 ∷ 0x000000FF ∷ 0x0000FF02 ∷ 0x8001FF02 ∷ 0x12345678 ∷ 0x00000000 ∷ 0x00000000
        ∷ 0x00000000 ∷ 0x00000000 ∷ 0x00000000 ∷ 0x00000000 ∷ 0x00000000 ∷ 0x00000000 ∷ 0x00000000 ∷ 0x00000000
        ∷ 0x00000000 ∷ 0x00000000 ∷ 0x00000000 ∷ 0x00000000 ∷ 0x00000000 ∷ 0x00000000 ∷ 0x00000000 ∷ 0x00000000 ∷ []);
    psr = 0xF3000080;
    wim = 0x00000002;
    tbr = 0x00000000;
    y = 0x00000000;
    pc = 0x40000018;
    npc = 0x4000001C;
    parity = parity 0 0 0 0;
  } ∷ [];
  ahb_addr = 0x00000000;
  ahb_status = 0x00000000;
  transfers =
      transfer 0 0 0 kinds.Fetch whys.Absent 0x40000000 0 8 0x0000000000000000
      ∷ transfer 1 0 2 kinds.Load whys.Absent 0x40001000 0 8 0x0000000000000000 ∷ [];
  order =
      load 0 0 3 0x40001000 1 0x80 0
      ∷ load 0 1 4 0x40001000 2 0x8001 0
      ∷ load 0 2 5 0x40001002 1 0xFF 0
      ∷ load 0 3 6 0x40001002 2 0xFF02 0
      ∷ load 0 4 7 0x40001000 8 0x8001FF0212345678 0 ∷ [];
  fates = [];
  watch = [];
}

unfoldable pub loads_of_every_length_lines : List String
loads_of_every_length_lines =
    "leon3ft report 1"
    ∷ "cores 1"
    ∷ "core 0 halt 80 7 9"
    ∷ "out 0 -"
    ∷ "g 0 00000000 40001000 00000000 00000000 00000000 00000000 00000000 00000000"
    ∷ "o 0 FFFFFF80 FFFF8001 000000FF 0000FF02 8001FF02 12345678 00000000 00000000"
    ∷ "l 0 00000000 00000000 00000000 00000000 00000000 00000000 00000000 00000000"
    ∷ "i 0 00000000 00000000 00000000 00000000 00000000 00000000 00000000 00000000"
    ∷ "ctl 0 F3000080 00000002 00000000 00000000 40000018 4000001C"
    ∷ "parity 0 0 0 0 0"
    ∷ "ahb 00000000 00000000"
    ∷ "transfers 2"
    ∷ "t 0 0 0 fetch absent 40000000 0 0000000000000000"
    ∷ "t 1 0 2 load absent 40001000 0 0000000000000000"
    ∷ "order 5"
    ∷ "L 0 0 3 40001000 80 0"
    ∷ "L 0 1 4 40001000 8001 0"
    ∷ "L 0 2 5 40001002 FF 0"
    ∷ "L 0 3 6 40001002 FF02 0"
    ∷ "L 0 4 7 40001000 8001FF0212345678 0"
    ∷ "flips 0"
    ∷ "watch 0"
    ∷ "end" ∷ []

unfoldable pub loads_of_every_length_text : List ℕ
unfolding loads_of_every_length_lines
loads_of_every_length_text = text_lines loads_of_every_length_lines
