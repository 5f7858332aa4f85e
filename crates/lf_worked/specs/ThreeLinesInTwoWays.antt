-- Three lines of one set of two ways, used out of order.
-- With 8 sets the addresses 40001000, 40001100 and 40001200 are of one set. Checked: the first two take the ways 0 and 1, the
-- third load hits way 0, so 40001200 replaces way 1, the one least recently used; then 40001000 still hits way 0, and
-- 40001100 misses and replaces way 1 again.
use Prim.Native.String.{String}
use Rattle.std.specs.Prelude.{ℕ, ◌∷◌, [], List}
use Rattle.lf_worked.specs.Rows.{range, code_at, data_at, plain, shape, known, transfer, load, parity, text_lines}
use Rattle.lf_model.specs.declared.setup.Setup.{Setup}
use Rattle.lf_model.specs.declared.setup.Event.{Event}
use Rattle.lf_model.specs.declared.trace.Trace.{Trace}
use Rattle.lf_model.specs.declared.trace.CoreEnd.TheVariants.{Halt}
use Rattle.lf_model.specs.declared.bus.TurnKind.TheVariants as kinds
use Rattle.lf_model.specs.declared.bus.Why.TheVariants as whys

unfoldable pub three_lines_in_two_ways_setup : Setup
three_lines_in_two_ways_setup = record {
  image = record {
    entry = 0x40000000;
    segments =
        code_at 0x40000000 (
        0x03100004  -- sethi %hi(0x40001000), %g1
        ∷ 0xD0004000  -- ld [%g1], %o0
        ∷ 0xD2006100  -- ld [%g1 + 0x100], %o1
        ∷ 0xD4004000  -- ld [%g1], %o2
        ∷ 0xD6006200  -- ld [%g1 + 0x200], %o3
        ∷ 0xD8004000  -- ld [%g1], %o4
        ∷ 0xDA006100  -- ld [%g1 + 0x100], %o5
        ∷ 0x91D02000  -- ta 0x0
        ∷ [])
        ∷ data_at 0x40001000 (0x00000001 ∷ [])
        ∷ data_at 0x40001100 (0x00000002 ∷ [])
        ∷ data_at 0x40001200 (0x00000003 ∷ []) ∷ [];
    text = range 0x40000000 32 ∷ [];
  };
  config = record plain { load_cache = shape 2 8 };
  flips = [];
}

unfoldable pub three_lines_in_two_ways_events : List Event
three_lines_in_two_ways_events = []

unfoldable pub three_lines_in_two_ways_trace : Trace
three_lines_in_two_ways_trace = record {
  cores = record {
    end = Halt 0x80;
    n = 8;
    steps = 13;
    out = [];
    regs = known (
        0x00000000 ∷ 0x40001000 ∷ 0x00000000 ∷ 0x00000000 ∷ 0x00000000 ∷ 0x00000000 ∷ 0x00000000 ∷ 0x00000000
        ∷ 0x00000001 ∷ 0x00000002 ∷ 0x00000001 ∷ 0x00000003 ∷ 0x00000001 ∷ 0x00000002 ∷ 0x00000000 ∷ 0x00000000
        ∷ 0x00000000 ∷ 0x00000000 ∷ 0x00000000 ∷ 0x00000000 ∷ 0x00000000 ∷ 0x00000000 ∷ 0x00000000 ∷ 0x00000000
        ∷ 0x00000000 ∷ 0x00000000 ∷ 0x00000000 ∷ 0x00000000 ∷ 0x00000000 ∷ 0x00000000 ∷ 0x00000000 ∷ 0x00000000 ∷ []);
    psr = 0xF3000080;
    wim = 0x00000002;
    tbr = 0x00000000;
    y = 0x00000000;
    pc = 0x4000001C;
    npc = 0x40000020;
    parity = parity 0 0 0 0;
  } ∷ [];
  ahb_addr = 0x00000000;
  ahb_status = 0x00000000;
  transfers =
      transfer 0 0 0 kinds.Fetch whys.Absent 0x40000000 0 8 0x0000000000000000
      ∷ transfer 1 0 2 kinds.Load whys.Absent 0x40001000 0 8 0x0000000000000000
      ∷ transfer 2 0 4 kinds.Load whys.Absent 0x40001100 1 8 0x0000000000000000
      ∷ transfer 3 0 7 kinds.Load whys.Absent 0x40001200 1 8 0x0000000000000000
      ∷ transfer 4 0 10 kinds.Load whys.Absent 0x40001100 1 8 0x0000000000000000 ∷ [];
  order =
      load 0 0 3 0x40001000 4 0x00000001 0
      ∷ load 0 1 5 0x40001100 4 0x00000002 1
      ∷ load 0 2 6 0x40001000 4 0x00000001 0
      ∷ load 0 3 8 0x40001200 4 0x00000003 1
      ∷ load 0 4 9 0x40001000 4 0x00000001 0
      ∷ load 0 5 11 0x40001100 4 0x00000002 1 ∷ [];
  fates = [];
  watch = [];
}

unfoldable pub three_lines_in_two_ways_lines : List String
three_lines_in_two_ways_lines =
    "leon3ft report 1"
    ∷ "cores 1"
    ∷ "core 0 halt 80 8 13"
    ∷ "out 0 -"
    ∷ "g 0 00000000 40001000 00000000 00000000 00000000 00000000 00000000 00000000"
    ∷ "o 0 00000001 00000002 00000001 00000003 00000001 00000002 00000000 00000000"
    ∷ "l 0 00000000 00000000 00000000 00000000 00000000 00000000 00000000 00000000"
    ∷ "i 0 00000000 00000000 00000000 00000000 00000000 00000000 00000000 00000000"
    ∷ "ctl 0 F3000080 00000002 00000000 00000000 4000001C 40000020"
    ∷ "parity 0 0 0 0 0"
    ∷ "ahb 00000000 00000000"
    ∷ "transfers 5"
    ∷ "t 0 0 0 fetch absent 40000000 0 0000000000000000"
    ∷ "t 1 0 2 load absent 40001000 0 0000000000000000"
    ∷ "t 2 0 4 load absent 40001100 1 0000000000000000"
    ∷ "t 3 0 7 load absent 40001200 1 0000000000000000"
    ∷ "t 4 0 10 load absent 40001100 1 0000000000000000"
    ∷ "order 6"
    ∷ "L 0 0 3 40001000 00000001 0"
    ∷ "L 0 1 5 40001100 00000002 1"
    ∷ "L 0 2 6 40001000 00000001 0"
    ∷ "L 0 3 8 40001200 00000003 1"
    ∷ "L 0 4 9 40001000 00000001 0"
    ∷ "L 0 5 11 40001100 00000002 1"
    ∷ "flips 0"
    ∷ "watch 0"
    ∷ "end" ∷ []

unfoldable pub three_lines_in_two_ways_text : List ℕ
unfolding three_lines_in_two_ways_lines
three_lines_in_two_ways_text = text_lines three_lines_in_two_ways_lines
