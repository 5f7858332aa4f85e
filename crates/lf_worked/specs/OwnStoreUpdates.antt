-- A byte store updates the resident line while it waits.
-- Checked: the load in step 6 hits and reads 11773344 before the store's transfer in step 7, and comes before it in the
-- order; the transfer of a byte reads one word, with syndrome 00.
use Prim.Native.String.{String}
use Rattle.std.specs.Prelude.{ℕ, ◌∷◌, [], List}
use Rattle.lf_worked.specs.Rows.{range, code_at, data_at, plain, known, transfer, load, store, parity, text_lines}
use Rattle.lf_model.specs.declared.setup.Setup.{Setup}
use Rattle.lf_model.specs.declared.setup.Event.{Event}
use Rattle.lf_model.specs.declared.trace.Trace.{Trace}
use Rattle.lf_model.specs.declared.trace.CoreEnd.TheVariants.{Halt}
use Rattle.lf_model.specs.declared.bus.TurnKind.TheVariants as kinds
use Rattle.lf_model.specs.declared.bus.Why.TheVariants as whys

unfoldable pub own_store_updates_setup : Setup
own_store_updates_setup = record {
  image = record {
    entry = 0x40000000;
    segments =
        code_at 0x40000000 (
        0x03100004  -- sethi %hi(0x40001000), %g1
        ∷ 0x92102077  -- or %g0, 0x77, %o1
        ∷ 0xD0004000  -- ld [%g1], %o0
        ∷ 0xD2286001  -- stb %o1, [%g1 + 0x1]
        ∷ 0xD4004000  -- ld [%g1], %o2
        ∷ 0x91D02000  -- ta 0x0
        ∷ [])
        ∷ data_at 0x40001000 (0x11223344 ∷ []) ∷ [];
    text = range 0x40000000 24 ∷ [];
  };
  config = plain;
  flips = [];
}

unfoldable pub own_store_updates_events : List Event
own_store_updates_events = []

unfoldable pub own_store_updates_trace : Trace
own_store_updates_trace = record {
  cores = record {
    end = Halt 0x80;
    n = 6;
    steps = 9;
    out = [];
    regs = known (
        0x00000000 ∷ 0x40001000 ∷ 0x00000000 ∷ 0x00000000 ∷ 0x00000000 ∷ 0x00000000 ∷ 0x00000000 ∷ 0x00000000
        ∷ 0x11223344 ∷ 0x00000077 ∷ 0x11773344 ∷ 0x00000000 ∷ 0x00000000 ∷ 0x00000000 ∷ 0x00000000 ∷ 0x00000000
        ∷ 0x00000000 ∷ 0x00000000 ∷ 0x00000000 ∷ 0x00000000 ∷ 0x00000000 ∷ 0x00000000 ∷ 0x00000000 ∷ 0x00000000
        ∷ 0x00000000 ∷ 0x00000000 ∷ 0x00000000 ∷ 0x00000000 ∷ 0x00000000 ∷ 0x00000000 ∷ 0x00000000 ∷ 0x00000000 ∷ []);
    psr = 0xF3000080;
    wim = 0x00000002;
    tbr = 0x00000000;
    y = 0x00000000;
    pc = 0x40000014;
    npc = 0x40000018;
    parity = parity 0 0 0 0;
  } ∷ [];
  ahb_addr = 0x00000000;
  ahb_status = 0x00000000;
  transfers =
      transfer 0 0 0 kinds.Fetch whys.Absent 0x40000000 0 8 0x0000000000000000
      ∷ transfer 1 0 3 kinds.Load whys.Absent 0x40001000 0 8 0x0000000000000000
      ∷ transfer 2 0 7 kinds.Store whys.End 0x40001001 0 1 0x0000000000000000 ∷ [];
  order =
      load 0 0 4 0x40001000 4 0x11223344 0
      ∷ load 0 2 6 0x40001000 4 0x11773344 0
      ∷ store 0 1 5 0x40001001 1 0x77 ∷ [];
  fates = [];
  watch = [];
}

unfoldable pub own_store_updates_lines : List String
own_store_updates_lines =
    "leon3ft report 1"
    ∷ "cores 1"
    ∷ "core 0 halt 80 6 9"
    ∷ "out 0 -"
    ∷ "g 0 00000000 40001000 00000000 00000000 00000000 00000000 00000000 00000000"
    ∷ "o 0 11223344 00000077 11773344 00000000 00000000 00000000 00000000 00000000"
    ∷ "l 0 00000000 00000000 00000000 00000000 00000000 00000000 00000000 00000000"
    ∷ "i 0 00000000 00000000 00000000 00000000 00000000 00000000 00000000 00000000"
    ∷ "ctl 0 F3000080 00000002 00000000 00000000 40000014 40000018"
    ∷ "parity 0 0 0 0 0"
    ∷ "ahb 00000000 00000000"
    ∷ "transfers 3"
    ∷ "t 0 0 0 fetch absent 40000000 0 0000000000000000"
    ∷ "t 1 0 3 load absent 40001000 0 0000000000000000"
    ∷ "t 2 0 7 store end 40001001 - 00"
    ∷ "order 3"
    ∷ "L 0 0 4 40001000 11223344 0"
    ∷ "L 0 2 6 40001000 11773344 0"
    ∷ "S 0 1 5 40001001 77"
    ∷ "flips 0"
    ∷ "watch 0"
    ∷ "end" ∷ []

unfoldable pub own_store_updates_text : List ℕ
unfolding own_store_updates_lines
own_store_updates_text = text_lines own_store_updates_lines
