-- A register of window 7 is read in its own cell.
-- SAVE enters window 7, whose %l0 is cell 128. Checked: its flip is repaired by the read; that of cell 16, which is %l0 of window 0, is
-- dormant.
use Prim.Native.String.{String}
use Rattle.std.specs.Prelude.{ℕ, ◌∷◌, [], List}
use Rattle.lf_worked.specs.Rows.{range, code_at, plain, known, transfer, parity, text_lines}
use Rattle.lf_model.specs.declared.setup.Setup.{Setup}
use Rattle.lf_model.specs.declared.setup.Event.{Event}
use Rattle.lf_model.specs.declared.trace.Trace.{Trace}
use Rattle.lf_model.specs.declared.trace.CoreEnd.TheVariants.{Halt}
use Rattle.lf_model.specs.declared.flip.Flip.TheVariants as flips
use Rattle.lf_model.specs.declared.trace.Fate.TheVariants as fates
use Rattle.lf_model.specs.declared.bus.TurnKind.TheVariants as kinds
use Rattle.lf_model.specs.declared.bus.Why.TheVariants as whys

unfoldable pub flip_in_another_window_setup : Setup
flip_in_another_window_setup = record {
  image = record {
    entry = 0x40000000;
    segments = code_at 0x40000000 (
        0x81E00000  -- save %g0, %g0, %g0
        ∷ 0xA0102005  -- or %g0, 0x5, %l0
        ∷ 0xA2042001  -- add %l0, 0x1, %l1
        ∷ 0x91D02000  -- ta 0x0
        ∷ []) ∷ [];
    text = range 0x40000000 16 ∷ [];
  };
  config = plain;
  flips =
      flips.Reg 0 3 128 0
      ∷ flips.Reg 0 3 16 0 ∷ [];
}

unfoldable pub flip_in_another_window_events : List Event
flip_in_another_window_events = []

unfoldable pub flip_in_another_window_trace : Trace
flip_in_another_window_trace = record {
  cores = record {
    end = Halt 0x80;
    n = 4;
    steps = 5;
    out = [];
    regs = known (
        0x00000000 ∷ 0x00000000 ∷ 0x00000000 ∷ 0x00000000 ∷ 0x00000000 ∷ 0x00000000 ∷ 0x00000000 ∷ 0x00000000
        ∷ 0x00000000 ∷ 0x00000000 ∷ 0x00000000 ∷ 0x00000000 ∷ 0x00000000 ∷ 0x00000000 ∷ 0x00000000 ∷ 0x00000000
        ∷ 0x00000005 ∷ 0x00000006 ∷ 0x00000000 ∷ 0x00000000 ∷ 0x00000000 ∷ 0x00000000 ∷ 0x00000000 ∷ 0x00000000
        ∷ 0x00000000 ∷ 0x00000000 ∷ 0x00000000 ∷ 0x00000000 ∷ 0x00000000 ∷ 0x00000000 ∷ 0x00000000 ∷ 0x00000000 ∷ []);
    psr = 0xF3000087;
    wim = 0x00000002;
    tbr = 0x00000000;
    y = 0x00000000;
    pc = 0x4000000C;
    npc = 0x40000010;
    parity = parity 0 0 0 0;
  } ∷ [];
  ahb_addr = 0x00000000;
  ahb_status = 0x00000000;
  transfers = transfer 0 0 0 kinds.Fetch whys.Absent 0x40000000 0 8 0x0000000000000000 ∷ [];
  order = [];
  fates = fates.Repaired ∷ fates.Dormant ∷ [];
  watch = [];
}

unfoldable pub flip_in_another_window_lines : List String
flip_in_another_window_lines =
    "leon3ft report 1"
    ∷ "cores 1"
    ∷ "core 0 halt 80 4 5"
    ∷ "out 0 -"
    ∷ "g 0 00000000 00000000 00000000 00000000 00000000 00000000 00000000 00000000"
    ∷ "o 0 00000000 00000000 00000000 00000000 00000000 00000000 00000000 00000000"
    ∷ "l 0 00000005 00000006 00000000 00000000 00000000 00000000 00000000 00000000"
    ∷ "i 0 00000000 00000000 00000000 00000000 00000000 00000000 00000000 00000000"
    ∷ "ctl 0 F3000087 00000002 00000000 00000000 4000000C 40000010"
    ∷ "parity 0 0 0 0 0"
    ∷ "ahb 00000000 00000000"
    ∷ "transfers 1"
    ∷ "t 0 0 0 fetch absent 40000000 0 0000000000000000"
    ∷ "order 0"
    ∷ "flips 2"
    ∷ "f 0 repaired"
    ∷ "f 1 dormant"
    ∷ "watch 0"
    ∷ "end" ∷ []

unfoldable pub flip_in_another_window_text : List ℕ
unfolding flip_in_another_window_lines
flip_in_another_window_text = text_lines flip_in_another_window_lines
