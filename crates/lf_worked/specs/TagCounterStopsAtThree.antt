-- Four dropped lines count three.
-- Steps 1, 3, 5 and 7 each strike the valid byte of the line of code. Checked: four fills by `tag`, a counter of 3.
use Prim.Native.String.{String}
use Rattle.std.specs.Prelude.{ℕ, ◌∷◌, [], List, true}
use Rattle.lf_worked.specs.Rows.{range, code_at, plain, known, transfer, parity, text_lines}
use Rattle.lf_model.specs.declared.setup.Setup.{Setup}
use Rattle.lf_model.specs.declared.setup.Event.{Event}
use Rattle.lf_model.specs.declared.trace.Trace.{Trace}
use Rattle.lf_model.specs.declared.trace.CoreEnd.TheVariants.{Halt}
use Rattle.lf_model.specs.declared.flip.Flip.TheVariants as flips
use Rattle.lf_model.specs.declared.trace.Fate.TheVariants as fates
use Rattle.lf_model.specs.declared.bus.TurnKind.TheVariants as kinds
use Rattle.lf_model.specs.declared.bus.Why.TheVariants as whys

unfoldable pub tag_counter_stops_at_three_setup : Setup
tag_counter_stops_at_three_setup = record {
  image = record {
    entry = 0x40000000;
    segments = code_at 0x40000000 (
        0x01000000  -- nop
        ∷ 0x01000000  -- nop
        ∷ 0x01000000  -- nop
        ∷ 0x01000000  -- nop
        ∷ 0x91D02000  -- ta 0x0
        ∷ []) ∷ [];
    text = range 0x40000000 20 ∷ [];
  };
  config = plain;
  flips =
      flips.Tag 0 1 true 0 0 3 0
      ∷ flips.Tag 0 3 true 0 0 3 0
      ∷ flips.Tag 0 5 true 0 0 3 0
      ∷ flips.Tag 0 7 true 0 0 3 0 ∷ [];
}

unfoldable pub tag_counter_stops_at_three_events : List Event
tag_counter_stops_at_three_events = []

unfoldable pub tag_counter_stops_at_three_trace : Trace
tag_counter_stops_at_three_trace = record {
  cores = record {
    end = Halt 0x80;
    n = 5;
    steps = 10;
    out = [];
    regs = known (
        0x00000000 ∷ 0x00000000 ∷ 0x00000000 ∷ 0x00000000 ∷ 0x00000000 ∷ 0x00000000 ∷ 0x00000000 ∷ 0x00000000
        ∷ 0x00000000 ∷ 0x00000000 ∷ 0x00000000 ∷ 0x00000000 ∷ 0x00000000 ∷ 0x00000000 ∷ 0x00000000 ∷ 0x00000000
        ∷ 0x00000000 ∷ 0x00000000 ∷ 0x00000000 ∷ 0x00000000 ∷ 0x00000000 ∷ 0x00000000 ∷ 0x00000000 ∷ 0x00000000
        ∷ 0x00000000 ∷ 0x00000000 ∷ 0x00000000 ∷ 0x00000000 ∷ 0x00000000 ∷ 0x00000000 ∷ 0x00000000 ∷ 0x00000000 ∷ []);
    psr = 0xF3000080;
    wim = 0x00000002;
    tbr = 0x00000000;
    y = 0x00000000;
    pc = 0x40000010;
    npc = 0x40000014;
    parity = parity 3 0 0 0;
  } ∷ [];
  ahb_addr = 0x00000000;
  ahb_status = 0x00000000;
  transfers =
      transfer 0 0 0 kinds.Fetch whys.Absent 0x40000000 0 8 0x0000000000000000
      ∷ transfer 1 0 1 kinds.Fetch whys.Tag 0x40000000 0 8 0x0000000000000000
      ∷ transfer 2 0 3 kinds.Fetch whys.Tag 0x40000000 0 8 0x0000000000000000
      ∷ transfer 3 0 5 kinds.Fetch whys.Tag 0x40000000 0 8 0x0000000000000000
      ∷ transfer 4 0 7 kinds.Fetch whys.Tag 0x40000000 0 8 0x0000000000000000 ∷ [];
  order = [];
  fates = fates.Discarded ∷ fates.Discarded ∷ fates.Discarded ∷ fates.Discarded ∷ [];
  watch = [];
}

unfoldable pub tag_counter_stops_at_three_lines : List String
tag_counter_stops_at_three_lines =
    "leon3ft report 1"
    ∷ "cores 1"
    ∷ "core 0 halt 80 5 10"
    ∷ "out 0 -"
    ∷ "g 0 00000000 00000000 00000000 00000000 00000000 00000000 00000000 00000000"
    ∷ "o 0 00000000 00000000 00000000 00000000 00000000 00000000 00000000 00000000"
    ∷ "l 0 00000000 00000000 00000000 00000000 00000000 00000000 00000000 00000000"
    ∷ "i 0 00000000 00000000 00000000 00000000 00000000 00000000 00000000 00000000"
    ∷ "ctl 0 F3000080 00000002 00000000 00000000 40000010 40000014"
    ∷ "parity 0 3 0 0 0"
    ∷ "ahb 00000000 00000000"
    ∷ "transfers 5"
    ∷ "t 0 0 0 fetch absent 40000000 0 0000000000000000"
    ∷ "t 1 0 1 fetch tag 40000000 0 0000000000000000"
    ∷ "t 2 0 3 fetch tag 40000000 0 0000000000000000"
    ∷ "t 3 0 5 fetch tag 40000000 0 0000000000000000"
    ∷ "t 4 0 7 fetch tag 40000000 0 0000000000000000"
    ∷ "order 0"
    ∷ "flips 4"
    ∷ "f 0 discarded"
    ∷ "f 1 discarded"
    ∷ "f 2 discarded"
    ∷ "f 3 discarded"
    ∷ "watch 0"
    ∷ "end" ∷ []

unfoldable pub tag_counter_stops_at_three_text : List ℕ
unfolding tag_counter_stops_at_three_lines
tag_counter_stops_at_three_text = text_lines tag_counter_stops_at_three_lines
