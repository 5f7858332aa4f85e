-- The scrubber walks two lines and begins again.
-- Each look is followed by one fix for each word that it read not clean, in address order. Checked: the fix of 40001004 clears the
-- note of turn 1; that of 4000101C makes a note and clears it; the bad word at 40001020 is noted (142: master 8) and stays, as its
-- fix does not correct it and the fix of 40001000 is at another address; seven turns in all.
use Prim.Native.String.{String}
use Rattle.std.specs.Prelude.{ℕ, ◌∷◌, [], List}
use Rattle.lf_worked.specs.Rows.{range, code_at, data_at, plain, steps_of, scrubs, known, transfer, parity, text_lines}
use Rattle.lf_model.specs.declared.setup.Setup.{Setup}
use Rattle.lf_model.specs.declared.setup.Event.{Event}
use Rattle.lf_model.specs.declared.trace.Trace.{Trace}
use Rattle.lf_model.specs.declared.trace.CoreEnd.TheVariants.{Halt}
use Rattle.lf_model.specs.declared.flip.Flip.TheVariants as flips
use Rattle.lf_model.specs.declared.trace.Fate.TheVariants as fates
use Rattle.lf_model.specs.declared.bus.TurnKind.TheVariants as kinds
use Rattle.lf_model.specs.declared.bus.Why.TheVariants as whys

unfoldable pub scrubber_walks_round_setup : Setup
scrubber_walks_round_setup = record {
  image = record {
    entry = 0x40000000;
    segments =
        code_at 0x40000000 (
        0x03100004  -- sethi %hi(0x40001000), %g1
        ∷ 0x01000000  -- nop
        ∷ 0x91D02000  -- ta 0x0
        ∷ [])
        ∷ data_at 0x40001000 (
        0x00000001 ∷ 0x00000001 ∷ 0x00000001 ∷ 0x00000001 ∷ 0x00000001 ∷ 0x00000001 ∷ 0x00000001 ∷ 0x00000001
        ∷ 0x00000001 ∷ 0x00000001 ∷ 0x00000001 ∷ 0x00000001 ∷ 0x00000001 ∷ 0x00000001 ∷ 0x00000001 ∷ 0x00000001 ∷ []) ∷ [];
    text = range 0x40000000 12 ∷ [];
  };
  config = record plain { scrub = range 0x40001000 64; scrub_turns = 7 };
  flips =
      flips.Mem 1 0x40001004 0
      ∷ flips.Mem 1 0x40001020 0
      ∷ flips.Mem 1 0x40001020 1
      ∷ flips.Mem 1 0x4000101C 33
      ∷ flips.Mem 4 0x40001000 5 ∷ [];
}

unfoldable pub scrubber_walks_round_events : List Event
scrubber_walks_round_events = steps_of 0 1 ∷ scrubs 7 ∷ []

unfoldable pub scrubber_walks_round_trace : Trace
scrubber_walks_round_trace = record {
  cores = record {
    end = Halt 0x80;
    n = 3;
    steps = 4;
    out = [];
    regs = known (
        0x00000000 ∷ 0x40001000 ∷ 0x00000000 ∷ 0x00000000 ∷ 0x00000000 ∷ 0x00000000 ∷ 0x00000000 ∷ 0x00000000
        ∷ 0x00000000 ∷ 0x00000000 ∷ 0x00000000 ∷ 0x00000000 ∷ 0x00000000 ∷ 0x00000000 ∷ 0x00000000 ∷ 0x00000000
        ∷ 0x00000000 ∷ 0x00000000 ∷ 0x00000000 ∷ 0x00000000 ∷ 0x00000000 ∷ 0x00000000 ∷ 0x00000000 ∷ 0x00000000
        ∷ 0x00000000 ∷ 0x00000000 ∷ 0x00000000 ∷ 0x00000000 ∷ 0x00000000 ∷ 0x00000000 ∷ 0x00000000 ∷ 0x00000000 ∷ []);
    psr = 0xF3000080;
    wim = 0x00000002;
    tbr = 0x00000000;
    y = 0x00000000;
    pc = 0x40000008;
    npc = 0x4000000C;
    parity = parity 0 0 0 0;
  } ∷ [];
  ahb_addr = 0x40001020;
  ahb_status = 0x00000142;
  transfers =
      transfer 0 0 0 kinds.Fetch whys.Absent 0x40000000 0 8 0x0000000000000000
      ∷ transfer 1 8 0 kinds.Look whys.None 0x40001000 0 8 0x004F000000000002
      ∷ transfer 2 8 1 kinds.Fix whys.None 0x40001004 0 1 0x4F00000000000000
      ∷ transfer 3 8 2 kinds.Fix whys.None 0x4000101C 0 1 0x0200000000000000
      ∷ transfer 4 8 3 kinds.Look whys.None 0x40001020 0 8 0x0500000000000000
      ∷ transfer 5 8 4 kinds.Fix whys.None 0x40001020 0 1 0x0500000000000000
      ∷ transfer 6 8 5 kinds.Look whys.None 0x40001000 0 8 0x5800000000000000
      ∷ transfer 7 8 6 kinds.Fix whys.None 0x40001000 0 1 0x5800000000000000 ∷ [];
  order = [];
  fates =
      fates.Repaired ∷ fates.Dormant ∷ fates.Dormant ∷ fates.Repaired
      ∷ fates.Repaired ∷ [];
  watch = [];
}

unfoldable pub scrubber_walks_round_lines : List String
scrubber_walks_round_lines =
    "leon3ft report 1"
    ∷ "cores 1"
    ∷ "core 0 halt 80 3 4"
    ∷ "out 0 -"
    ∷ "g 0 00000000 40001000 00000000 00000000 00000000 00000000 00000000 00000000"
    ∷ "o 0 00000000 00000000 00000000 00000000 00000000 00000000 00000000 00000000"
    ∷ "l 0 00000000 00000000 00000000 00000000 00000000 00000000 00000000 00000000"
    ∷ "i 0 00000000 00000000 00000000 00000000 00000000 00000000 00000000 00000000"
    ∷ "ctl 0 F3000080 00000002 00000000 00000000 40000008 4000000C"
    ∷ "parity 0 0 0 0 0"
    ∷ "ahb 40001020 00000142"
    ∷ "transfers 8"
    ∷ "t 0 0 0 fetch absent 40000000 0 0000000000000000"
    ∷ "t 1 8 0 look - 40001000 - 004F000000000002"
    ∷ "t 2 8 1 fix - 40001004 - 4F"
    ∷ "t 3 8 2 fix - 4000101C - 02"
    ∷ "t 4 8 3 look - 40001020 - 0500000000000000"
    ∷ "t 5 8 4 fix - 40001020 - 05"
    ∷ "t 6 8 5 look - 40001000 - 5800000000000000"
    ∷ "t 7 8 6 fix - 40001000 - 58"
    ∷ "order 0"
    ∷ "flips 5"
    ∷ "f 0 repaired"
    ∷ "f 1 dormant"
    ∷ "f 2 dormant"
    ∷ "f 3 repaired"
    ∷ "f 4 repaired"
    ∷ "watch 0"
    ∷ "end" ∷ []

unfoldable pub scrubber_walks_round_text : List ℕ
unfolding scrubber_walks_round_lines
scrubber_walks_round_text = text_lines scrubber_walks_round_lines
