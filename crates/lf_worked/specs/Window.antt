-- After two local steps a core needs a turn: a drain if a store waits, else a snoop.
-- Step 3 drains (`window`). It makes no fetch look, so the tag byte that step 3 strikes is found by the look of step 4. Checked:
-- the fill of step 4 is by `tag`; a fill is a turn, so the next window ends at step 7, with a snoop.
use Prim.Native.String.{String}
use Rattle.std.specs.Prelude.{ℕ, ◌∷◌, [], List, true}
use Rattle.lf_worked.specs.Rows.{range, code_at, data_at, plain, known, transfer, store, parity, text_lines}
use Rattle.lf_model.specs.declared.setup.Setup.{Setup}
use Rattle.lf_model.specs.declared.setup.Event.{Event}
use Rattle.lf_model.specs.declared.trace.Trace.{Trace}
use Rattle.lf_model.specs.declared.trace.CoreEnd.TheVariants.{Halt}
use Rattle.lf_model.specs.declared.flip.Flip.TheVariants as flips
use Rattle.lf_model.specs.declared.trace.Fate.TheVariants as fates
use Rattle.lf_model.specs.declared.bus.TurnKind.TheVariants as kinds
use Rattle.lf_model.specs.declared.bus.Why.TheVariants as whys

unfoldable pub window_setup : Setup
window_setup = record {
  image = record {
    entry = 0x40000000;
    segments =
        code_at 0x40000000 (
        0x03100004  -- sethi %hi(0x40001000), %g1
        ∷ 0xC2204000  -- st %g1, [%g1]
        ∷ 0x01000000  -- nop
        ∷ 0x01000000  -- nop
        ∷ 0x01000000  -- nop
        ∷ 0x91D02000  -- ta 0x0
        ∷ [])
        ∷ data_at 0x40001000 (0x00000000 ∷ []) ∷ [];
    text = range 0x40000000 24 ∷ [];
  };
  config = record plain { window = 2 };
  flips = flips.Tag 0 3 true 0 0 3 0 ∷ [];
}

unfoldable pub window_events : List Event
window_events = []

unfoldable pub window_trace : Trace
window_trace = record {
  cores = record {
    end = Halt 0x80;
    n = 6;
    steps = 10;
    out = [];
    regs = known (
        0x00000000 ∷ 0x40001000 ∷ 0x00000000 ∷ 0x00000000 ∷ 0x00000000 ∷ 0x00000000 ∷ 0x00000000 ∷ 0x00000000
        ∷ 0x00000000 ∷ 0x00000000 ∷ 0x00000000 ∷ 0x00000000 ∷ 0x00000000 ∷ 0x00000000 ∷ 0x00000000 ∷ 0x00000000
        ∷ 0x00000000 ∷ 0x00000000 ∷ 0x00000000 ∷ 0x00000000 ∷ 0x00000000 ∷ 0x00000000 ∷ 0x00000000 ∷ 0x00000000
        ∷ 0x00000000 ∷ 0x00000000 ∷ 0x00000000 ∷ 0x00000000 ∷ 0x00000000 ∷ 0x00000000 ∷ 0x00000000 ∷ 0x00000000 ∷ []);
    psr = 0xF3000080;
    wim = 0x00000002;
    tbr = 0x00000000;
    y = 0x00000000;
    pc = 0x40000014;
    npc = 0x40000018;
    parity = parity 1 0 0 0;
  } ∷ [];
  ahb_addr = 0x00000000;
  ahb_status = 0x00000000;
  transfers =
      transfer 0 0 0 kinds.Fetch whys.Absent 0x40000000 0 8 0x0000000000000000
      ∷ transfer 1 0 3 kinds.Store whys.Window 0x40001000 0 0 0
      ∷ transfer 2 0 4 kinds.Fetch whys.Tag 0x40000000 0 8 0x0000000000000000
      ∷ transfer 3 0 7 kinds.Snoop whys.Window 0x00000000 0 0 0 ∷ [];
  order = store 0 0 2 0x40001000 4 0x40001000 ∷ [];
  fates = fates.Discarded ∷ [];
  watch = [];
}

unfoldable pub window_lines : List String
window_lines =
    "leon3ft report 1"
    ∷ "cores 1"
    ∷ "core 0 halt 80 6 10"
    ∷ "out 0 -"
    ∷ "g 0 00000000 40001000 00000000 00000000 00000000 00000000 00000000 00000000"
    ∷ "o 0 00000000 00000000 00000000 00000000 00000000 00000000 00000000 00000000"
    ∷ "l 0 00000000 00000000 00000000 00000000 00000000 00000000 00000000 00000000"
    ∷ "i 0 00000000 00000000 00000000 00000000 00000000 00000000 00000000 00000000"
    ∷ "ctl 0 F3000080 00000002 00000000 00000000 40000014 40000018"
    ∷ "parity 0 1 0 0 0"
    ∷ "ahb 00000000 00000000"
    ∷ "transfers 4"
    ∷ "t 0 0 0 fetch absent 40000000 0 0000000000000000"
    ∷ "t 1 0 3 store window 40001000 - --"
    ∷ "t 2 0 4 fetch tag 40000000 0 0000000000000000"
    ∷ "t 3 0 7 snoop window 00000000 - -"
    ∷ "order 1"
    ∷ "S 0 0 2 40001000 40001000"
    ∷ "flips 1"
    ∷ "f 0 discarded"
    ∷ "watch 0"
    ∷ "end" ∷ []

unfoldable pub window_text : List ℕ
unfolding window_lines
window_text = text_lines window_lines
