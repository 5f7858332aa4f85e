-- Two struck tag bytes of one way drop it once; the third flip is declined.
-- Checked: the way counts once (1), and both bytes are checked, so both flips are discarded; the third strikes the byte of
-- the first in the same step, over the budget of one.
use Prim.Native.String.{String}
use Rattle.std.specs.Prelude.{ℕ, ◌∷◌, [], List, true}
use Rattle.lf_worked.specs.Rows.{range, code_at, plain, known, transfer, parity, text_lines}
use Rattle.lf_model.specs.declared.setup.Setup.{Setup}
use Rattle.lf_model.specs.declared.setup.Event.{Event}
use Rattle.lf_model.specs.declared.trace.Trace.{Trace}
use Rattle.lf_model.specs.declared.trace.CoreEnd.TheVariants.{Halt}
use Rattle.lf_model.specs.declared.flip.Flip.TheVariants as flips
use Rattle.lf_model.specs.declared.trace.Fate.TheVariants as fates
use Rattle.lf_model.specs.declared.bus.TurnKind.TheVariants as kinds
use Rattle.lf_model.specs.declared.bus.Why.TheVariants as whys

unfoldable pub fetch_after_struck_tag_setup : Setup
fetch_after_struck_tag_setup = record {
  image = record {
    entry = 0x40000000;
    segments = code_at 0x40000000 (
        0x90102001  -- or %g0, 0x1, %o0
        ∷ 0x92102002  -- or %g0, 0x2, %o1
        ∷ 0x91D02000  -- ta 0x0
        ∷ []) ∷ [];
    text = range 0x40000000 12 ∷ [];
  };
  config = plain;
  flips =
      flips.Tag 0 2 true 0 0 0 8
      ∷ flips.Tag 0 2 true 0 0 2 3
      ∷ flips.Tag 0 2 true 0 0 0 7 ∷ [];
}

unfoldable pub fetch_after_struck_tag_events : List Event
fetch_after_struck_tag_events = []

unfoldable pub fetch_after_struck_tag_trace : Trace
fetch_after_struck_tag_trace = record {
  cores = record {
    end = Halt 0x80;
    n = 3;
    steps = 5;
    out = [];
    regs = known (
        0x00000000 ∷ 0x00000000 ∷ 0x00000000 ∷ 0x00000000 ∷ 0x00000000 ∷ 0x00000000 ∷ 0x00000000 ∷ 0x00000000
        ∷ 0x00000001 ∷ 0x00000002 ∷ 0x00000000 ∷ 0x00000000 ∷ 0x00000000 ∷ 0x00000000 ∷ 0x00000000 ∷ 0x00000000
        ∷ 0x00000000 ∷ 0x00000000 ∷ 0x00000000 ∷ 0x00000000 ∷ 0x00000000 ∷ 0x00000000 ∷ 0x00000000 ∷ 0x00000000
        ∷ 0x00000000 ∷ 0x00000000 ∷ 0x00000000 ∷ 0x00000000 ∷ 0x00000000 ∷ 0x00000000 ∷ 0x00000000 ∷ 0x00000000 ∷ []);
    psr = 0xF3000080;
    wim = 0x00000002;
    tbr = 0x00000000;
    y = 0x00000000;
    pc = 0x40000008;
    npc = 0x4000000C;
    parity = parity 1 0 0 0;
  } ∷ [];
  ahb_addr = 0x00000000;
  ahb_status = 0x00000000;
  transfers =
      transfer 0 0 0 kinds.Fetch whys.Absent 0x40000000 0 8 0x0000000000000000
      ∷ transfer 1 0 2 kinds.Fetch whys.Tag 0x40000000 0 8 0x0000000000000000 ∷ [];
  order = [];
  fates = fates.Discarded ∷ fates.Discarded ∷ fates.Declined ∷ [];
  watch = [];
}

unfoldable pub fetch_after_struck_tag_lines : List String
fetch_after_struck_tag_lines =
    "leon3ft report 1"
    ∷ "cores 1"
    ∷ "core 0 halt 80 3 5"
    ∷ "out 0 -"
    ∷ "g 0 00000000 00000000 00000000 00000000 00000000 00000000 00000000 00000000"
    ∷ "o 0 00000001 00000002 00000000 00000000 00000000 00000000 00000000 00000000"
    ∷ "l 0 00000000 00000000 00000000 00000000 00000000 00000000 00000000 00000000"
    ∷ "i 0 00000000 00000000 00000000 00000000 00000000 00000000 00000000 00000000"
    ∷ "ctl 0 F3000080 00000002 00000000 00000000 40000008 4000000C"
    ∷ "parity 0 1 0 0 0"
    ∷ "ahb 00000000 00000000"
    ∷ "transfers 2"
    ∷ "t 0 0 0 fetch absent 40000000 0 0000000000000000"
    ∷ "t 1 0 2 fetch tag 40000000 0 0000000000000000"
    ∷ "order 0"
    ∷ "flips 3"
    ∷ "f 0 discarded"
    ∷ "f 1 discarded"
    ∷ "f 2 declined"
    ∷ "watch 0"
    ∷ "end" ∷ []

unfoldable pub fetch_after_struck_tag_text : List ℕ
unfolding fetch_after_struck_tag_lines
fetch_after_struck_tag_text = text_lines fetch_after_struck_tag_lines
