-- Three lines of code in one set of two ways of the fetch cache.
-- The program branches from 40000000 to 40000100, back to 40000008, to 40000200 and to 40000108. Checked: 40000000 was used
-- after 40000100, so 40000200 replaces way 1; then 40000108 misses, and 40000000 in way 0 is the least recently used.
use Prim.Native.String.{String}
use Rattle.std.specs.Prelude.{ℕ, ◌∷◌, [], List}
use Rattle.lf_worked.specs.Rows.{range, code_at, plain, shape, known, transfer, parity, text_lines}
use Rattle.lf_model.specs.declared.setup.Setup.{Setup}
use Rattle.lf_model.specs.declared.setup.Event.{Event}
use Rattle.lf_model.specs.declared.trace.Trace.{Trace}
use Rattle.lf_model.specs.declared.trace.CoreEnd.TheVariants.{Halt}
use Rattle.lf_model.specs.declared.bus.TurnKind.TheVariants as kinds
use Rattle.lf_model.specs.declared.bus.Why.TheVariants as whys

unfoldable pub code_in_two_ways_setup : Setup
code_in_two_ways_setup = record {
  image = record {
    entry = 0x40000000;
    segments =
        code_at 0x40000000 (
        0x10800040  -- ba 0x40000100
        ∷ 0x01000000  -- nop
        ∷ 0x1080007E  -- ba 0x40000200
        ∷ 0x01000000  -- nop
        ∷ [])
        ∷ code_at 0x40000100 (
        0x10BFFFC2  -- ba 0x40000008
        ∷ 0x01000000  -- nop
        ∷ 0x91D02000  -- ta 0x0
        ∷ [])
        ∷ code_at 0x40000200 (
        0x10BFFFC2  -- ba 0x40000108
        ∷ 0x01000000  -- nop
        ∷ []) ∷ [];
    text =
        range 0x40000000 16
        ∷ range 0x40000100 12
        ∷ range 0x40000200 8 ∷ [];
  };
  config = record plain { fetch_cache = shape 2 8 };
  flips = [];
}

unfoldable pub code_in_two_ways_events : List Event
code_in_two_ways_events = []

unfoldable pub code_in_two_ways_trace : Trace
code_in_two_ways_trace = record {
  cores = record {
    end = Halt 0x80;
    n = 9;
    steps = 13;
    out = [];
    regs = known (
        0x00000000 ∷ 0x00000000 ∷ 0x00000000 ∷ 0x00000000 ∷ 0x00000000 ∷ 0x00000000 ∷ 0x00000000 ∷ 0x00000000
        ∷ 0x00000000 ∷ 0x00000000 ∷ 0x00000000 ∷ 0x00000000 ∷ 0x00000000 ∷ 0x00000000 ∷ 0x00000000 ∷ 0x00000000
        ∷ 0x00000000 ∷ 0x00000000 ∷ 0x00000000 ∷ 0x00000000 ∷ 0x00000000 ∷ 0x00000000 ∷ 0x00000000 ∷ 0x00000000
        ∷ 0x00000000 ∷ 0x00000000 ∷ 0x00000000 ∷ 0x00000000 ∷ 0x00000000 ∷ 0x00000000 ∷ 0x00000000 ∷ 0x00000000 ∷ []);
    psr = 0xF3000080;
    wim = 0x00000002;
    tbr = 0x00000000;
    y = 0x00000000;
    pc = 0x40000108;
    npc = 0x4000010C;
    parity = parity 0 0 0 0;
  } ∷ [];
  ahb_addr = 0x00000000;
  ahb_status = 0x00000000;
  transfers =
      transfer 0 0 0 kinds.Fetch whys.Absent 0x40000000 0 8 0x0000000000000000
      ∷ transfer 1 0 3 kinds.Fetch whys.Absent 0x40000100 1 8 0x0000000000000000
      ∷ transfer 2 0 8 kinds.Fetch whys.Absent 0x40000200 1 8 0x0000000000000000
      ∷ transfer 3 0 11 kinds.Fetch whys.Absent 0x40000100 0 8 0x0000000000000000 ∷ [];
  order = [];
  fates = [];
  watch = [];
}

unfoldable pub code_in_two_ways_lines : List String
code_in_two_ways_lines =
    "leon3ft report 1"
    ∷ "cores 1"
    ∷ "core 0 halt 80 9 13"
    ∷ "out 0 -"
    ∷ "g 0 00000000 00000000 00000000 00000000 00000000 00000000 00000000 00000000"
    ∷ "o 0 00000000 00000000 00000000 00000000 00000000 00000000 00000000 00000000"
    ∷ "l 0 00000000 00000000 00000000 00000000 00000000 00000000 00000000 00000000"
    ∷ "i 0 00000000 00000000 00000000 00000000 00000000 00000000 00000000 00000000"
    ∷ "ctl 0 F3000080 00000002 00000000 00000000 40000108 4000010C"
    ∷ "parity 0 0 0 0 0"
    ∷ "ahb 00000000 00000000"
    ∷ "transfers 4"
    ∷ "t 0 0 0 fetch absent 40000000 0 0000000000000000"
    ∷ "t 1 0 3 fetch absent 40000100 1 0000000000000000"
    ∷ "t 2 0 8 fetch absent 40000200 1 0000000000000000"
    ∷ "t 3 0 11 fetch absent 40000100 0 0000000000000000"
    ∷ "order 0"
    ∷ "flips 0"
    ∷ "watch 0"
    ∷ "end" ∷ []

unfoldable pub code_in_two_ways_text : List ℕ
unfolding code_in_two_ways_lines
code_in_two_ways_text = text_lines code_in_two_ways_lines
