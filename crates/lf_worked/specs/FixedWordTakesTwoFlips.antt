-- A word that a fix wrote takes two flips again.
-- Turn 1 strikes one bit, the look notes it and the fix of turn 2 writes the word. Turn 3 strikes two bits, and its look reads
-- the word bad: 4A xor 52 is 18. Checked: the first flip is repaired, the others are applied and dormant; the note of turn 3 is not
-- cleared by the fix of turn 4.
use Prim.Native.String.{String}
use Rattle.std.specs.Prelude.{ℕ, ◌∷◌, [], List}
use Rattle.lf_worked.specs.Rows.{range, code_at, data_at, plain, steps_of, scrubs, known, transfer, parity, text_lines}
use Rattle.lf_model.specs.declared.setup.Setup.{Setup}
use Rattle.lf_model.specs.declared.setup.Event.{Event}
use Rattle.lf_model.specs.declared.trace.Trace.{Trace}
use Rattle.lf_model.specs.declared.trace.CoreEnd.TheVariants.{Halt}
use Rattle.lf_model.specs.declared.flip.Flip.TheVariants as flips
use Rattle.lf_model.specs.declared.trace.Fate.TheVariants as fates
use Rattle.lf_model.specs.declared.bus.TurnKind.TheVariants as kinds
use Rattle.lf_model.specs.declared.bus.Why.TheVariants as whys

unfoldable pub fixed_word_takes_two_flips_setup : Setup
fixed_word_takes_two_flips_setup = record {
  image = record {
    entry = 0x40000000;
    segments =
        code_at 0x40000000 (
        0x90102001  -- or %g0, 0x1, %o0
        ∷ 0x91D02000  -- ta 0x0
        ∷ [])
        ∷ data_at 0x40001000 (0x00000001 ∷ []) ∷ [];
    text = range 0x40000000 8 ∷ [];
  };
  config = record plain { scrub = range 0x40001000 32; scrub_turns = 4 };
  flips =
      flips.Mem 1 0x40001000 0
      ∷ flips.Mem 3 0x40001000 1
      ∷ flips.Mem 3 0x40001000 2 ∷ [];
}

unfoldable pub fixed_word_takes_two_flips_events : List Event
fixed_word_takes_two_flips_events = steps_of 0 1 ∷ scrubs 4 ∷ []

unfoldable pub fixed_word_takes_two_flips_trace : Trace
fixed_word_takes_two_flips_trace = record {
  cores = record {
    end = Halt 0x80;
    n = 2;
    steps = 3;
    out = [];
    regs = known (
        0x00000000 ∷ 0x00000000 ∷ 0x00000000 ∷ 0x00000000 ∷ 0x00000000 ∷ 0x00000000 ∷ 0x00000000 ∷ 0x00000000
        ∷ 0x00000001 ∷ 0x00000000 ∷ 0x00000000 ∷ 0x00000000 ∷ 0x00000000 ∷ 0x00000000 ∷ 0x00000000 ∷ 0x00000000
        ∷ 0x00000000 ∷ 0x00000000 ∷ 0x00000000 ∷ 0x00000000 ∷ 0x00000000 ∷ 0x00000000 ∷ 0x00000000 ∷ 0x00000000
        ∷ 0x00000000 ∷ 0x00000000 ∷ 0x00000000 ∷ 0x00000000 ∷ 0x00000000 ∷ 0x00000000 ∷ 0x00000000 ∷ 0x00000000 ∷ []);
    psr = 0xF3000080;
    wim = 0x00000002;
    tbr = 0x00000000;
    y = 0x00000000;
    pc = 0x40000004;
    npc = 0x40000008;
    parity = parity 0 0 0 0;
  } ∷ [];
  ahb_addr = 0x40001000;
  ahb_status = 0x00000142;
  transfers =
      transfer 0 0 0 kinds.Fetch whys.Absent 0x40000000 0 8 0x0000000000000000
      ∷ transfer 1 8 0 kinds.Look whys.None 0x40001000 0 8 0x4F00000000000000
      ∷ transfer 2 8 1 kinds.Fix whys.None 0x40001000 0 1 0x4F00000000000000
      ∷ transfer 3 8 2 kinds.Look whys.None 0x40001000 0 8 0x1800000000000000
      ∷ transfer 4 8 3 kinds.Fix whys.None 0x40001000 0 1 0x1800000000000000 ∷ [];
  order = [];
  fates = fates.Repaired ∷ fates.Dormant ∷ fates.Dormant ∷ [];
  watch = [];
}

unfoldable pub fixed_word_takes_two_flips_lines : List String
fixed_word_takes_two_flips_lines =
    "leon3ft report 1"
    ∷ "cores 1"
    ∷ "core 0 halt 80 2 3"
    ∷ "out 0 -"
    ∷ "g 0 00000000 00000000 00000000 00000000 00000000 00000000 00000000 00000000"
    ∷ "o 0 00000001 00000000 00000000 00000000 00000000 00000000 00000000 00000000"
    ∷ "l 0 00000000 00000000 00000000 00000000 00000000 00000000 00000000 00000000"
    ∷ "i 0 00000000 00000000 00000000 00000000 00000000 00000000 00000000 00000000"
    ∷ "ctl 0 F3000080 00000002 00000000 00000000 40000004 40000008"
    ∷ "parity 0 0 0 0 0"
    ∷ "ahb 40001000 00000142"
    ∷ "transfers 5"
    ∷ "t 0 0 0 fetch absent 40000000 0 0000000000000000"
    ∷ "t 1 8 0 look - 40001000 - 4F00000000000000"
    ∷ "t 2 8 1 fix - 40001000 - 4F"
    ∷ "t 3 8 2 look - 40001000 - 1800000000000000"
    ∷ "t 4 8 3 fix - 40001000 - 18"
    ∷ "order 0"
    ∷ "flips 3"
    ∷ "f 0 repaired"
    ∷ "f 1 dormant"
    ∷ "f 2 dormant"
    ∷ "watch 0"
    ∷ "end" ∷ []

unfoldable pub fixed_word_takes_two_flips_text : List ℕ
unfolding fixed_word_takes_two_flips_lines
fixed_word_takes_two_flips_text = text_lines fixed_word_takes_two_flips_lines
