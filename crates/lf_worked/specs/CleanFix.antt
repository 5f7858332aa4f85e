-- A fix that meets its word clean writes nothing, and the walk goes on.
-- The word was stored whole, by a scheduled drain, between look and fix. Checked: the flip is overwritten by the store; the clean
-- fix at the latched address sets AHBSTAT to 0.
use Prim.Native.String.{String}
use Rattle.std.specs.Prelude.{ℕ, ◌∷◌, [], List}
use Rattle.lf_worked.specs.Rows.{range, code_at, data_at, plain, steps_of, drains_of, scrubs, known, transfer, store, parity, text_lines}
use Rattle.lf_model.specs.declared.setup.Setup.{Setup}
use Rattle.lf_model.specs.declared.setup.Event.{Event}
use Rattle.lf_model.specs.declared.trace.Trace.{Trace}
use Rattle.lf_model.specs.declared.trace.CoreEnd.TheVariants.{Halt}
use Rattle.lf_model.specs.declared.flip.Flip.TheVariants as flips
use Rattle.lf_model.specs.declared.trace.Fate.TheVariants as fates
use Rattle.lf_model.specs.declared.bus.TurnKind.TheVariants as kinds
use Rattle.lf_model.specs.declared.bus.Why.TheVariants as whys

unfoldable pub clean_fix_setup : Setup
clean_fix_setup = record {
  image = record {
    entry = 0x40000000;
    segments =
        code_at 0x40000000 (
        0x03100004  -- sethi %hi(0x40001000), %g1
        ∷ 0xC2204000  -- st %g1, [%g1]
        ∷ 0x91D02000  -- ta 0x0
        ∷ [])
        ∷ data_at 0x40001000 (0x0000005A ∷ []) ∷ [];
    text = range 0x40000000 12 ∷ [];
  };
  config = record plain { scrub = range 0x40001000 32; scrub_turns = 3 };
  flips = flips.Mem 0 0x40001000 0 ∷ [];
}

unfoldable pub clean_fix_events : List Event
clean_fix_events = scrubs 1 ∷ steps_of 0 3 ∷ drains_of 0 1 ∷ []

unfoldable pub clean_fix_trace : Trace
clean_fix_trace = record {
  cores = record {
    end = Halt 0x80;
    n = 3;
    steps = 5;
    out = [];
    regs = known (
        0x00000000 ∷ 0x40001000 ∷ 0x00000000 ∷ 0x00000000 ∷ 0x00000000 ∷ 0x00000000 ∷ 0x00000000 ∷ 0x00000000
        ∷ 0x00000000 ∷ 0x00000000 ∷ 0x00000000 ∷ 0x00000000 ∷ 0x00000000 ∷ 0x00000000 ∷ 0x00000000 ∷ 0x00000000
        ∷ 0x00000000 ∷ 0x00000000 ∷ 0x00000000 ∷ 0x00000000 ∷ 0x00000000 ∷ 0x00000000 ∷ 0x00000000 ∷ 0x00000000
        ∷ 0x00000000 ∷ 0x00000000 ∷ 0x00000000 ∷ 0x00000000 ∷ 0x00000000 ∷ 0x00000000 ∷ 0x00000000 ∷ 0x00000000 ∷ []);
    psr = 0xF3000080;
    wim = 0x00000002;
    tbr = 0x00000000;
    y = 0x00000000;
    pc = 0x40000008;
    npc = 0x4000000C;
    parity = parity 0 0 0 0;
  } ∷ [];
  ahb_addr = 0x00000000;
  ahb_status = 0x00000000;
  transfers =
      transfer 0 8 0 kinds.Look whys.None 0x40001000 0 8 0x4F00000000000000
      ∷ transfer 1 0 0 kinds.Fetch whys.Absent 0x40000000 0 8 0x0000000000000000
      ∷ transfer 2 0 3 kinds.Store whys.Sched 0x40001000 0 0 0
      ∷ transfer 3 8 1 kinds.Fix whys.None 0x40001000 0 1 0x0000000000000000
      ∷ transfer 4 8 2 kinds.Look whys.None 0x40001000 0 8 0x0000000000000000 ∷ [];
  order = store 0 0 2 0x40001000 4 0x40001000 ∷ [];
  fates = fates.Overwritten ∷ [];
  watch = [];
}

unfoldable pub clean_fix_lines : List String
clean_fix_lines =
    "leon3ft report 1"
    ∷ "cores 1"
    ∷ "core 0 halt 80 3 5"
    ∷ "out 0 -"
    ∷ "g 0 00000000 40001000 00000000 00000000 00000000 00000000 00000000 00000000"
    ∷ "o 0 00000000 00000000 00000000 00000000 00000000 00000000 00000000 00000000"
    ∷ "l 0 00000000 00000000 00000000 00000000 00000000 00000000 00000000 00000000"
    ∷ "i 0 00000000 00000000 00000000 00000000 00000000 00000000 00000000 00000000"
    ∷ "ctl 0 F3000080 00000002 00000000 00000000 40000008 4000000C"
    ∷ "parity 0 0 0 0 0"
    ∷ "ahb 00000000 00000000"
    ∷ "transfers 5"
    ∷ "t 0 8 0 look - 40001000 - 4F00000000000000"
    ∷ "t 1 0 0 fetch absent 40000000 0 0000000000000000"
    ∷ "t 2 0 3 store sched 40001000 - --"
    ∷ "t 3 8 1 fix - 40001000 - 00"
    ∷ "t 4 8 2 look - 40001000 - 0000000000000000"
    ∷ "order 1"
    ∷ "S 0 0 2 40001000 40001000"
    ∷ "flips 1"
    ∷ "f 0 overwritten"
    ∷ "watch 0"
    ∷ "end" ∷ []

unfoldable pub clean_fix_text : List ℕ
unfolding clean_fix_lines
clean_fix_text = text_lines clean_fix_lines
