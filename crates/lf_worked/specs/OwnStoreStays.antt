-- A core does not snoop its own stores.
-- A line is loaded, stored to and drained; then another turn is made (LDSTUB of another line). Checked: the last load hits, as
-- the line is still resident: no transfer in step 8.
use Prim.Native.String.{String}
use Rattle.std.specs.Prelude.{ℕ, ◌∷◌, [], List}
use Rattle.lf_worked.specs.Rows.{range, code_at, data_at, plain, known, transfer, load, store, atomic, parity, text_lines}
use Rattle.lf_model.specs.declared.setup.Setup.{Setup}
use Rattle.lf_model.specs.declared.setup.Event.{Event}
use Rattle.lf_model.specs.declared.trace.Trace.{Trace}
use Rattle.lf_model.specs.declared.trace.CoreEnd.TheVariants.{Halt}
use Rattle.lf_model.specs.declared.bus.TurnKind.TheVariants as kinds
use Rattle.lf_model.specs.declared.bus.Why.TheVariants as whys

unfoldable pub own_store_stays_setup : Setup
own_store_stays_setup = record {
  image = record {
    entry = 0x40000000;
    segments =
        code_at 0x40000000 (
        0x03100004  -- sethi %hi(0x40001000), %g1
        ∷ 0xD0004000  -- ld [%g1], %o0
        ∷ 0xC2204000  -- st %g1, [%g1]
        ∷ 0x8143C000  -- stbar
        ∷ 0xD2686020  -- ldstub [%g1 + 0x20], %o1
        ∷ 0xD4004000  -- ld [%g1], %o2
        ∷ 0x91D02000  -- ta 0x0
        ∷ [])
        ∷ data_at 0x40001000 (
        0x0000005A ∷ 0x00000000 ∷ 0x00000000 ∷ 0x00000000 ∷ 0x00000000 ∷ 0x00000000 ∷ 0x00000000 ∷ 0x00000000
        ∷ 0x00000000 ∷ []) ∷ [];
    text = range 0x40000000 28 ∷ [];
  };
  config = plain;
  flips = [];
}

unfoldable pub own_store_stays_events : List Event
own_store_stays_events = []

unfoldable pub own_store_stays_trace : Trace
own_store_stays_trace = record {
  cores = record {
    end = Halt 0x80;
    n = 7;
    steps = 10;
    out = [];
    regs = known (
        0x00000000 ∷ 0x40001000 ∷ 0x00000000 ∷ 0x00000000 ∷ 0x00000000 ∷ 0x00000000 ∷ 0x00000000 ∷ 0x00000000
        ∷ 0x0000005A ∷ 0x00000000 ∷ 0x40001000 ∷ 0x00000000 ∷ 0x00000000 ∷ 0x00000000 ∷ 0x00000000 ∷ 0x00000000
        ∷ 0x00000000 ∷ 0x00000000 ∷ 0x00000000 ∷ 0x00000000 ∷ 0x00000000 ∷ 0x00000000 ∷ 0x00000000 ∷ 0x00000000
        ∷ 0x00000000 ∷ 0x00000000 ∷ 0x00000000 ∷ 0x00000000 ∷ 0x00000000 ∷ 0x00000000 ∷ 0x00000000 ∷ 0x00000000 ∷ []);
    psr = 0xF3000080;
    wim = 0x00000002;
    tbr = 0x00000000;
    y = 0x00000000;
    pc = 0x40000018;
    npc = 0x4000001C;
    parity = parity 0 0 0 0;
  } ∷ [];
  ahb_addr = 0x00000000;
  ahb_status = 0x00000000;
  transfers =
      transfer 0 0 0 kinds.Fetch whys.Absent 0x40000000 0 8 0x0000000000000000
      ∷ transfer 1 0 2 kinds.Load whys.Absent 0x40001000 0 8 0x0000000000000000
      ∷ transfer 2 0 5 kinds.Store whys.Stbar 0x40001000 0 0 0
      ∷ transfer 3 0 7 kinds.Atomic whys.None 0x40001020 0 1 0x0000000000000000 ∷ [];
  order =
      load 0 0 3 0x40001000 4 0x0000005A 0
      ∷ store 0 1 4 0x40001000 4 0x40001000
      ∷ atomic 0 2 7 0x40001020 1 0x00 0xFF
      ∷ load 0 3 8 0x40001000 4 0x40001000 0 ∷ [];
  fates = [];
  watch = [];
}

unfoldable pub own_store_stays_lines : List String
own_store_stays_lines =
    "leon3ft report 1"
    ∷ "cores 1"
    ∷ "core 0 halt 80 7 10"
    ∷ "out 0 -"
    ∷ "g 0 00000000 40001000 00000000 00000000 00000000 00000000 00000000 00000000"
    ∷ "o 0 0000005A 00000000 40001000 00000000 00000000 00000000 00000000 00000000"
    ∷ "l 0 00000000 00000000 00000000 00000000 00000000 00000000 00000000 00000000"
    ∷ "i 0 00000000 00000000 00000000 00000000 00000000 00000000 00000000 00000000"
    ∷ "ctl 0 F3000080 00000002 00000000 00000000 40000018 4000001C"
    ∷ "parity 0 0 0 0 0"
    ∷ "ahb 00000000 00000000"
    ∷ "transfers 4"
    ∷ "t 0 0 0 fetch absent 40000000 0 0000000000000000"
    ∷ "t 1 0 2 load absent 40001000 0 0000000000000000"
    ∷ "t 2 0 5 store stbar 40001000 - --"
    ∷ "t 3 0 7 atomic - 40001020 - 00"
    ∷ "order 4"
    ∷ "L 0 0 3 40001000 0000005A 0"
    ∷ "S 0 1 4 40001000 40001000"
    ∷ "A 0 2 7 40001020 00 FF"
    ∷ "L 0 3 8 40001000 40001000 0"
    ∷ "flips 0"
    ∷ "watch 0"
    ∷ "end" ∷ []

unfoldable pub own_store_stays_text : List ℕ
unfolding own_store_stays_lines
own_store_stays_text = text_lines own_store_stays_lines
