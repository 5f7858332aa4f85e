-- FLUSH drains, then empties both caches without a check.
-- Two tag bytes are struck: the second of the data cache's line in step 6, in which FLUSH retires, and one in a set of the
-- fetch cache that is never used. Checked: neither is discarded, both are overwritten; no counter rises; the next fetch and
-- the next load miss by `absent`.
use Prim.Native.String.{String}
use Rattle.std.specs.Prelude.{ℕ, ◌∷◌, [], List, true, false}
use Rattle.lf_worked.specs.Rows.{range, code_at, data_at, plain, known, transfer, load, store, parity, text_lines}
use Rattle.lf_model.specs.declared.setup.Setup.{Setup}
use Rattle.lf_model.specs.declared.setup.Event.{Event}
use Rattle.lf_model.specs.declared.trace.Trace.{Trace}
use Rattle.lf_model.specs.declared.trace.CoreEnd.TheVariants.{Halt}
use Rattle.lf_model.specs.declared.flip.Flip.TheVariants as flips
use Rattle.lf_model.specs.declared.trace.Fate.TheVariants as fates
use Rattle.lf_model.specs.declared.bus.TurnKind.TheVariants as kinds
use Rattle.lf_model.specs.declared.bus.Why.TheVariants as whys

unfoldable pub flush_empties_setup : Setup
flush_empties_setup = record {
  image = record {
    entry = 0x40000000;
    segments =
        code_at 0x40000000 (
        0x03100004  -- sethi %hi(0x40001000), %g1
        ∷ 0xD0004000  -- ld [%g1], %o0
        ∷ 0xC2204000  -- st %g1, [%g1]
        ∷ 0x81D80000  -- flush %g0
        ∷ 0xD2004000  -- ld [%g1], %o1
        ∷ 0x91D02000  -- ta 0x0
        ∷ [])
        ∷ data_at 0x40001000 (0x0000005A ∷ []) ∷ [];
    text = range 0x40000000 24 ∷ [];
  };
  config = plain;
  flips =
      flips.Tag 0 6 false 0 0 1 2
      ∷ flips.Tag 0 6 true 0 1 2 0 ∷ [];
}

unfoldable pub flush_empties_events : List Event
flush_empties_events = []

unfoldable pub flush_empties_trace : Trace
flush_empties_trace = record {
  cores = record {
    end = Halt 0x80;
    n = 6;
    steps = 11;
    out = [];
    regs = known (
        0x00000000 ∷ 0x40001000 ∷ 0x00000000 ∷ 0x00000000 ∷ 0x00000000 ∷ 0x00000000 ∷ 0x00000000 ∷ 0x00000000
        ∷ 0x0000005A ∷ 0x40001000 ∷ 0x00000000 ∷ 0x00000000 ∷ 0x00000000 ∷ 0x00000000 ∷ 0x00000000 ∷ 0x00000000
        ∷ 0x00000000 ∷ 0x00000000 ∷ 0x00000000 ∷ 0x00000000 ∷ 0x00000000 ∷ 0x00000000 ∷ 0x00000000 ∷ 0x00000000
        ∷ 0x00000000 ∷ 0x00000000 ∷ 0x00000000 ∷ 0x00000000 ∷ 0x00000000 ∷ 0x00000000 ∷ 0x00000000 ∷ 0x00000000 ∷ []);
    psr = 0xF3000080;
    wim = 0x00000002;
    tbr = 0x00000000;
    y = 0x00000000;
    pc = 0x40000014;
    npc = 0x40000018;
    parity = parity 0 0 0 0;
  } ∷ [];
  ahb_addr = 0x00000000;
  ahb_status = 0x00000000;
  transfers =
      transfer 0 0 0 kinds.Fetch whys.Absent 0x40000000 0 8 0x0000000000000000
      ∷ transfer 1 0 2 kinds.Load whys.Absent 0x40001000 0 8 0x0000000000000000
      ∷ transfer 2 0 5 kinds.Store whys.Flush 0x40001000 0 0 0
      ∷ transfer 3 0 7 kinds.Fetch whys.Absent 0x40000000 0 8 0x0000000000000000
      ∷ transfer 4 0 8 kinds.Load whys.Absent 0x40001000 0 8 0x0000000000000000 ∷ [];
  order =
      load 0 0 3 0x40001000 4 0x0000005A 0
      ∷ store 0 1 4 0x40001000 4 0x40001000
      ∷ load 0 2 9 0x40001000 4 0x40001000 0 ∷ [];
  fates = fates.Overwritten ∷ fates.Overwritten ∷ [];
  watch = [];
}

unfoldable pub flush_empties_lines : List String
flush_empties_lines =
    "leon3ft report 1"
    ∷ "cores 1"
    ∷ "core 0 halt 80 6 11"
    ∷ "out 0 -"
    ∷ "g 0 00000000 40001000 00000000 00000000 00000000 00000000 00000000 00000000"
    ∷ "o 0 0000005A 40001000 00000000 00000000 00000000 00000000 00000000 00000000"
    ∷ "l 0 00000000 00000000 00000000 00000000 00000000 00000000 00000000 00000000"
    ∷ "i 0 00000000 00000000 00000000 00000000 00000000 00000000 00000000 00000000"
    ∷ "ctl 0 F3000080 00000002 00000000 00000000 40000014 40000018"
    ∷ "parity 0 0 0 0 0"
    ∷ "ahb 00000000 00000000"
    ∷ "transfers 5"
    ∷ "t 0 0 0 fetch absent 40000000 0 0000000000000000"
    ∷ "t 1 0 2 load absent 40001000 0 0000000000000000"
    ∷ "t 2 0 5 store flush 40001000 - --"
    ∷ "t 3 0 7 fetch absent 40000000 0 0000000000000000"
    ∷ "t 4 0 8 load absent 40001000 0 0000000000000000"
    ∷ "order 3"
    ∷ "L 0 0 3 40001000 0000005A 0"
    ∷ "S 0 1 4 40001000 40001000"
    ∷ "L 0 2 9 40001000 40001000 0"
    ∷ "flips 2"
    ∷ "f 0 overwritten"
    ∷ "f 1 overwritten"
    ∷ "watch 0"
    ∷ "end" ∷ []

unfoldable pub flush_empties_text : List ℕ
unfolding flush_empties_lines
flush_empties_text = text_lines flush_empties_lines
