-- A fill of a line that is present, with a word that is not valid, takes its own way.
-- The line of 40001100 is in way 1, with a bad word. A store corrects that in memory, and the load of the word misses by `word`.
-- Checked: the fill takes way 1, where the line is, and not way 0, which was used longer ago.
use Prim.Native.String.{String}
use Rattle.std.specs.Prelude.{ℕ, ◌∷◌, [], List}
use Rattle.lf_worked.specs.Rows.{range, code_at, data_at, plain, shape, known, transfer, load, store, parity, text_lines}
use Rattle.lf_model.specs.declared.setup.Setup.{Setup}
use Rattle.lf_model.specs.declared.setup.Event.{Event}
use Rattle.lf_model.specs.declared.trace.Trace.{Trace}
use Rattle.lf_model.specs.declared.trace.CoreEnd.TheVariants.{Halt}
use Rattle.lf_model.specs.declared.flip.Flip.TheVariants as flips
use Rattle.lf_model.specs.declared.trace.Fate.TheVariants as fates
use Rattle.lf_model.specs.declared.bus.TurnKind.TheVariants as kinds
use Rattle.lf_model.specs.declared.bus.Why.TheVariants as whys

unfoldable pub fill_of_a_present_line_setup : Setup
fill_of_a_present_line_setup = record {
  image = record {
    entry = 0x40000000;
    segments =
        code_at 0x40000000 (
        0x03100004  -- sethi %hi(0x40001000), %g1
        ∷ 0xD0004000  -- ld [%g1], %o0
        ∷ 0xD2006104  -- ld [%g1 + 0x104], %o1
        ∷ 0xC2206100  -- st %g1, [%g1 + 0x100]
        ∷ 0xD4006100  -- ld [%g1 + 0x100], %o2
        ∷ 0x91D02000  -- ta 0x0
        ∷ [])
        ∷ data_at 0x40001000 (0x00000001 ∷ [])
        ∷ data_at 0x40001100 (0x00000002 ∷ 0x00000003 ∷ []) ∷ [];
    text = range 0x40000000 24 ∷ [];
  };
  config = record plain { load_cache = shape 2 8 };
  flips =
      flips.Mem 2 0x40001100 0
      ∷ flips.Mem 2 0x40001100 1 ∷ [];
}

unfoldable pub fill_of_a_present_line_events : List Event
fill_of_a_present_line_events = []

unfoldable pub fill_of_a_present_line_trace : Trace
fill_of_a_present_line_trace = record {
  cores = record {
    end = Halt 0x80;
    n = 6;
    steps = 11;
    out = [];
    regs = known (
        0x00000000 ∷ 0x40001000 ∷ 0x00000000 ∷ 0x00000000 ∷ 0x00000000 ∷ 0x00000000 ∷ 0x00000000 ∷ 0x00000000
        ∷ 0x00000001 ∷ 0x00000003 ∷ 0x40001000 ∷ 0x00000000 ∷ 0x00000000 ∷ 0x00000000 ∷ 0x00000000 ∷ 0x00000000
        ∷ 0x00000000 ∷ 0x00000000 ∷ 0x00000000 ∷ 0x00000000 ∷ 0x00000000 ∷ 0x00000000 ∷ 0x00000000 ∷ 0x00000000
        ∷ 0x00000000 ∷ 0x00000000 ∷ 0x00000000 ∷ 0x00000000 ∷ 0x00000000 ∷ 0x00000000 ∷ 0x00000000 ∷ 0x00000000 ∷ []);
    psr = 0xF3000080;
    wim = 0x00000002;
    tbr = 0x00000000;
    y = 0x00000000;
    pc = 0x40000014;
    npc = 0x40000018;
    parity = parity 0 0 0 0;
  } ∷ [];
  ahb_addr = 0x40001100;
  ahb_status = 0x00000102;
  transfers =
      transfer 0 0 0 kinds.Fetch whys.Absent 0x40000000 0 8 0x0000000000000000
      ∷ transfer 1 0 2 kinds.Load whys.Absent 0x40001000 0 8 0x0000000000000000
      ∷ transfer 2 0 4 kinds.Load whys.Absent 0x40001100 1 8 0x0500000000000000
      ∷ transfer 3 0 7 kinds.Store whys.Miss 0x40001100 0 0 0
      ∷ transfer 4 0 8 kinds.Load whys.Word 0x40001100 1 8 0x0000000000000000 ∷ [];
  order =
      load 0 0 3 0x40001000 4 0x00000001 0
      ∷ load 0 1 5 0x40001104 4 0x00000003 1
      ∷ store 0 2 6 0x40001100 4 0x40001000
      ∷ load 0 3 9 0x40001100 4 0x40001000 1 ∷ [];
  fates = fates.Overwritten ∷ fates.Overwritten ∷ [];
  watch = [];
}

unfoldable pub fill_of_a_present_line_lines : List String
fill_of_a_present_line_lines =
    "leon3ft report 1"
    ∷ "cores 1"
    ∷ "core 0 halt 80 6 11"
    ∷ "out 0 -"
    ∷ "g 0 00000000 40001000 00000000 00000000 00000000 00000000 00000000 00000000"
    ∷ "o 0 00000001 00000003 40001000 00000000 00000000 00000000 00000000 00000000"
    ∷ "l 0 00000000 00000000 00000000 00000000 00000000 00000000 00000000 00000000"
    ∷ "i 0 00000000 00000000 00000000 00000000 00000000 00000000 00000000 00000000"
    ∷ "ctl 0 F3000080 00000002 00000000 00000000 40000014 40000018"
    ∷ "parity 0 0 0 0 0"
    ∷ "ahb 40001100 00000102"
    ∷ "transfers 5"
    ∷ "t 0 0 0 fetch absent 40000000 0 0000000000000000"
    ∷ "t 1 0 2 load absent 40001000 0 0000000000000000"
    ∷ "t 2 0 4 load absent 40001100 1 0500000000000000"
    ∷ "t 3 0 7 store miss 40001100 - --"
    ∷ "t 4 0 8 load word 40001100 1 0000000000000000"
    ∷ "order 4"
    ∷ "L 0 0 3 40001000 00000001 0"
    ∷ "L 0 1 5 40001104 00000003 1"
    ∷ "S 0 2 6 40001100 40001000"
    ∷ "L 0 3 9 40001100 40001000 1"
    ∷ "flips 2"
    ∷ "f 0 overwritten"
    ∷ "f 1 overwritten"
    ∷ "watch 0"
    ∷ "end" ∷ []

unfoldable pub fill_of_a_present_line_text : List ℕ
unfolding fill_of_a_present_line_lines
fill_of_a_present_line_text = text_lines fill_of_a_present_line_lines
