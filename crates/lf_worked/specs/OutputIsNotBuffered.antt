-- A word stored to the output word needs no place in a full buffer.
-- The buffer holds one store. Checked: no drain comes before the output in step 5.
use Prim.Native.String.{String}
use Rattle.std.specs.Prelude.{ℕ, ◌∷◌, [], List}
use Rattle.lf_worked.specs.Rows.{range, code_at, data_at, plain, known, transfer, store, parity, text_lines}
use Rattle.lf_model.specs.declared.setup.Setup.{Setup}
use Rattle.lf_model.specs.declared.setup.Event.{Event}
use Rattle.lf_model.specs.declared.trace.Trace.{Trace}
use Rattle.lf_model.specs.declared.trace.CoreEnd.TheVariants.{Halt}
use Rattle.lf_model.specs.declared.bus.TurnKind.TheVariants as kinds
use Rattle.lf_model.specs.declared.bus.Why.TheVariants as whys

unfoldable pub output_is_not_buffered_setup : Setup
output_is_not_buffered_setup = record {
  image = record {
    entry = 0x40000000;
    segments =
        code_at 0x40000000 (
        0x03100004  -- sethi %hi(0x40001000), %g1
        ∷ 0x05200000  -- sethi %hi(0x80000000), %g2
        ∷ 0xC2204000  -- st %g1, [%g1]
        ∷ 0x90102041  -- or %g0, 0x41, %o0
        ∷ 0xD020A100  -- st %o0, [%g2 + 0x100]
        ∷ 0x91D02000  -- ta 0x0
        ∷ [])
        ∷ data_at 0x40001000 (0x00000000 ∷ []) ∷ [];
    text = range 0x40000000 24 ∷ [];
  };
  config = record plain { buffer = 1 };
  flips = [];
}

unfoldable pub output_is_not_buffered_events : List Event
output_is_not_buffered_events = []

unfoldable pub output_is_not_buffered_trace : Trace
output_is_not_buffered_trace = record {
  cores = record {
    end = Halt 0x80;
    n = 6;
    steps = 8;
    out = 0x41 ∷ [];
    regs = known (
        0x00000000 ∷ 0x40001000 ∷ 0x80000000 ∷ 0x00000000 ∷ 0x00000000 ∷ 0x00000000 ∷ 0x00000000 ∷ 0x00000000
        ∷ 0x00000041 ∷ 0x00000000 ∷ 0x00000000 ∷ 0x00000000 ∷ 0x00000000 ∷ 0x00000000 ∷ 0x00000000 ∷ 0x00000000
        ∷ 0x00000000 ∷ 0x00000000 ∷ 0x00000000 ∷ 0x00000000 ∷ 0x00000000 ∷ 0x00000000 ∷ 0x00000000 ∷ 0x00000000
        ∷ 0x00000000 ∷ 0x00000000 ∷ 0x00000000 ∷ 0x00000000 ∷ 0x00000000 ∷ 0x00000000 ∷ 0x00000000 ∷ 0x00000000 ∷ []);
    psr = 0xF3000080;
    wim = 0x00000002;
    tbr = 0x00000000;
    y = 0x00000000;
    pc = 0x40000014;
    npc = 0x40000018;
    parity = parity 0 0 0 0;
  } ∷ [];
  ahb_addr = 0x00000000;
  ahb_status = 0x00000000;
  transfers =
      transfer 0 0 0 kinds.Fetch whys.Absent 0x40000000 0 8 0x0000000000000000
      ∷ transfer 1 0 6 kinds.Store whys.End 0x40001000 0 0 0 ∷ [];
  order = store 0 0 3 0x40001000 4 0x40001000 ∷ [];
  fates = [];
  watch = [];
}

unfoldable pub output_is_not_buffered_lines : List String
output_is_not_buffered_lines =
    "leon3ft report 1"
    ∷ "cores 1"
    ∷ "core 0 halt 80 6 8"
    ∷ "out 0 41"
    ∷ "g 0 00000000 40001000 80000000 00000000 00000000 00000000 00000000 00000000"
    ∷ "o 0 00000041 00000000 00000000 00000000 00000000 00000000 00000000 00000000"
    ∷ "l 0 00000000 00000000 00000000 00000000 00000000 00000000 00000000 00000000"
    ∷ "i 0 00000000 00000000 00000000 00000000 00000000 00000000 00000000 00000000"
    ∷ "ctl 0 F3000080 00000002 00000000 00000000 40000014 40000018"
    ∷ "parity 0 0 0 0 0"
    ∷ "ahb 00000000 00000000"
    ∷ "transfers 2"
    ∷ "t 0 0 0 fetch absent 40000000 0 0000000000000000"
    ∷ "t 1 0 6 store end 40001000 - --"
    ∷ "order 1"
    ∷ "S 0 0 3 40001000 40001000"
    ∷ "flips 0"
    ∷ "watch 0"
    ∷ "end" ∷ []

unfoldable pub output_is_not_buffered_text : List ℕ
unfolding output_is_not_buffered_lines
output_is_not_buffered_text = text_lines output_is_not_buffered_lines
