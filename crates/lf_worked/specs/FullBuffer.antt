-- Stores of every length through a buffer of two.
-- Checked: the third and the fourth store each find two waiting, and drain one first, by `full`; `ta 0` drains the others by
-- `end`. The word store shows `--`, the doubleword `----`, the byte and the half one syndrome. Word 40001004 becomes 00111000:
-- its byte 0 is 00 and its last half 1000, the low half of 40001000.
use Prim.Native.String.{String}
use Rattle.std.specs.Prelude.{ℕ, ◌∷◌, [], List, Some}
use Rattle.lf_worked.specs.Rows.{range, code_at, data_at, plain, known, transfer, store, word, parity, text_lines}
use Rattle.lf_model.specs.declared.setup.Setup.{Setup}
use Rattle.lf_model.specs.declared.setup.Event.{Event}
use Rattle.lf_model.specs.declared.trace.Trace.{Trace}
use Rattle.lf_model.specs.declared.trace.CoreEnd.TheVariants.{Halt}
use Rattle.lf_model.specs.declared.bus.TurnKind.TheVariants as kinds
use Rattle.lf_model.specs.declared.bus.Why.TheVariants as whys

unfoldable pub full_buffer_setup : Setup
full_buffer_setup = record {
  image = record {
    entry = 0x40000000;
    segments =
        code_at 0x40000000 (
        0x03100004  -- sethi %hi(0x40001000), %g1
        ∷ 0xC2204000  -- st %g1, [%g1]
        ∷ 0xC2286004  -- stb %g1, [%g1 + 0x4]
        ∷ 0xC2306006  -- sth %g1, [%g1 + 0x6]
        ∷ 0xC0386008  -- std %g0, [%g1 + 0x8]
        ∷ 0x91D02000  -- ta 0x0
        ∷ [])
        ∷ data_at 0x40001000 (0x11111111 ∷ 0x11111111 ∷ 0x11111111 ∷ 0x11111111 ∷ []) ∷ [];
    text = range 0x40000000 24 ∷ [];
  };
  config = record plain { buffer = 2; watch = 0x40001000 ∷ 0x40001004 ∷ 0x40001008 ∷ 0x4000100C ∷ [] };
  flips = [];
}

unfoldable pub full_buffer_events : List Event
full_buffer_events = []

unfoldable pub full_buffer_trace : Trace
full_buffer_trace = record {
  cores = record {
    end = Halt 0x80;
    n = 6;
    steps = 11;
    out = [];
    regs = known (
        0x00000000 ∷ 0x40001000 ∷ 0x00000000 ∷ 0x00000000 ∷ 0x00000000 ∷ 0x00000000 ∷ 0x00000000 ∷ 0x00000000
        ∷ 0x00000000 ∷ 0x00000000 ∷ 0x00000000 ∷ 0x00000000 ∷ 0x00000000 ∷ 0x00000000 ∷ 0x00000000 ∷ 0x00000000
        ∷ 0x00000000 ∷ 0x00000000 ∷ 0x00000000 ∷ 0x00000000 ∷ 0x00000000 ∷ 0x00000000 ∷ 0x00000000 ∷ 0x00000000
        ∷ 0x00000000 ∷ 0x00000000 ∷ 0x00000000 ∷ 0x00000000 ∷ 0x00000000 ∷ 0x00000000 ∷ 0x00000000 ∷ 0x00000000 ∷ []);
    psr = 0xF3000080;
    wim = 0x00000002;
    tbr = 0x00000000;
    y = 0x00000000;
    pc = 0x40000014;
    npc = 0x40000018;
    parity = parity 0 0 0 0;
  } ∷ [];
  ahb_addr = 0x00000000;
  ahb_status = 0x00000000;
  transfers =
      transfer 0 0 0 kinds.Fetch whys.Absent 0x40000000 0 8 0x0000000000000000
      ∷ transfer 1 0 4 kinds.Store whys.Full 0x40001000 0 0 0
      ∷ transfer 2 0 6 kinds.Store whys.Full 0x40001004 0 1 0x0000000000000000
      ∷ transfer 3 0 8 kinds.Store whys.End 0x40001006 0 1 0x0000000000000000
      ∷ transfer 4 0 9 kinds.Store whys.End 0x40001008 0 0 0 ∷ [];
  order =
      store 0 0 2 0x40001000 4 0x40001000
      ∷ store 0 1 3 0x40001004 1 0x00
      ∷ store 0 2 5 0x40001006 2 0x1000
      ∷ store 0 3 7 0x40001008 8 0x0000000040001000 ∷ [];
  fates = [];
  watch =
      word 0x40001000 (Some 0x40001000)
      ∷ word 0x40001004 (Some 0x00111000)
      ∷ word 0x40001008 (Some 0x00000000)
      ∷ word 0x4000100C (Some 0x40001000) ∷ [];
}

unfoldable pub full_buffer_lines : List String
full_buffer_lines =
    "leon3ft report 1"
    ∷ "cores 1"
    ∷ "core 0 halt 80 6 11"
    ∷ "out 0 -"
    ∷ "g 0 00000000 40001000 00000000 00000000 00000000 00000000 00000000 00000000"
    ∷ "o 0 00000000 00000000 00000000 00000000 00000000 00000000 00000000 00000000"
    ∷ "l 0 00000000 00000000 00000000 00000000 00000000 00000000 00000000 00000000"
    ∷ "i 0 00000000 00000000 00000000 00000000 00000000 00000000 00000000 00000000"
    ∷ "ctl 0 F3000080 00000002 00000000 00000000 40000014 40000018"
    ∷ "parity 0 0 0 0 0"
    ∷ "ahb 00000000 00000000"
    ∷ "transfers 5"
    ∷ "t 0 0 0 fetch absent 40000000 0 0000000000000000"
    ∷ "t 1 0 4 store full 40001000 - --"
    ∷ "t 2 0 6 store full 40001004 - 00"
    ∷ "t 3 0 8 store end 40001006 - 00"
    ∷ "t 4 0 9 store end 40001008 - ----"
    ∷ "order 4"
    ∷ "S 0 0 2 40001000 40001000"
    ∷ "S 0 1 3 40001004 00"
    ∷ "S 0 2 5 40001006 1000"
    ∷ "S 0 3 7 40001008 0000000040001000"
    ∷ "flips 0"
    ∷ "watch 4"
    ∷ "w 40001000 40001000"
    ∷ "w 40001004 00111000"
    ∷ "w 40001008 00000000"
    ∷ "w 4000100C 40001000"
    ∷ "end" ∷ []

unfoldable pub full_buffer_text : List ℕ
unfolding full_buffer_lines
full_buffer_text = text_lines full_buffer_lines
