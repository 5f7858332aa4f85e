-- Three cores swap with one word.
-- The schedule lets core 2 swap first, then core 1, then core 0. Checked: each reads what the one before put, the first the word of
-- the image; the word at the end is that of core 0.
use Prim.Native.String.{String}
use Rattle.std.specs.Prelude.{ℕ, ◌∷◌, [], List, Some}
use Rattle.lf_worked.specs.Rows.{range, code_at, data_at, plain, steps_of, known, transfer, atomic, word, parity, text_lines}
use Rattle.lf_model.specs.declared.setup.Setup.{Setup}
use Rattle.lf_model.specs.declared.setup.Event.{Event}
use Rattle.lf_model.specs.declared.trace.Trace.{Trace}
use Rattle.lf_model.specs.declared.trace.CoreEnd.TheVariants.{Halt}
use Rattle.lf_model.specs.declared.bus.TurnKind.TheVariants as kinds
use Rattle.lf_model.specs.declared.bus.Why.TheVariants as whys

unfoldable pub three_cores_swap_setup : Setup
three_cores_swap_setup = record {
  image = record {
    entry = 0x40000000;
    segments =
        code_at 0x40000000 (
        0x03100004  -- sethi %hi(0x40001000), %g1
        ∷ 0x92022001  -- add %o0, 0x1, %o1
        ∷ 0xD2784000  -- swap [%g1], %o1
        ∷ 0x91D02000  -- ta 0x0
        ∷ [])
        ∷ data_at 0x40001000 (0x0000005A ∷ []) ∷ [];
    text = range 0x40000000 16 ∷ [];
  };
  config = record plain { cores = 3; watch = 0x40001000 ∷ [] };
  flips = [];
}

unfoldable pub three_cores_swap_events : List Event
three_cores_swap_events = steps_of 2 4 ∷ steps_of 0 2 ∷ steps_of 1 4 ∷ []

unfoldable pub three_cores_swap_trace : Trace
three_cores_swap_trace = record {
  cores =
      record {
        end = Halt 0x80;
        n = 4;
        steps = 5;
        out = [];
        regs = known (
            0x00000000 ∷ 0x40001000 ∷ 0x00000000 ∷ 0x00000000 ∷ 0x00000000 ∷ 0x00000000 ∷ 0x00000000 ∷ 0x00000000
            ∷ 0x00000000 ∷ 0x00000002 ∷ 0x00000000 ∷ 0x00000000 ∷ 0x00000000 ∷ 0x00000000 ∷ 0x00000000 ∷ 0x00000000
            ∷ 0x00000000 ∷ 0x00000000 ∷ 0x00000000 ∷ 0x00000000 ∷ 0x00000000 ∷ 0x00000000 ∷ 0x00000000 ∷ 0x00000000
            ∷ 0x00000000 ∷ 0x00000000 ∷ 0x00000000 ∷ 0x00000000 ∷ 0x00000000 ∷ 0x00000000 ∷ 0x00000000 ∷ 0x00000000 ∷ []);
        psr = 0xF3000080;
        wim = 0x00000002;
        tbr = 0x00000000;
        y = 0x00000000;
        pc = 0x4000000C;
        npc = 0x40000010;
        parity = parity 0 0 0 0;
      }
      ∷ record {
        end = Halt 0x80;
        n = 4;
        steps = 5;
        out = [];
        regs = known (
            0x00000000 ∷ 0x40001000 ∷ 0x00000000 ∷ 0x00000000 ∷ 0x00000000 ∷ 0x00000000 ∷ 0x00000000 ∷ 0x00000000
            ∷ 0x00000001 ∷ 0x00000003 ∷ 0x00000000 ∷ 0x00000000 ∷ 0x00000000 ∷ 0x00000000 ∷ 0x00000000 ∷ 0x00000000
            ∷ 0x00000000 ∷ 0x00000000 ∷ 0x00000000 ∷ 0x00000000 ∷ 0x00000000 ∷ 0x00000000 ∷ 0x00000000 ∷ 0x00000000
            ∷ 0x00000000 ∷ 0x00000000 ∷ 0x00000000 ∷ 0x00000000 ∷ 0x00000000 ∷ 0x00000000 ∷ 0x00000000 ∷ 0x00000000 ∷ []);
        psr = 0xF3000080;
        wim = 0x00000002;
        tbr = 0x00000000;
        y = 0x00000000;
        pc = 0x4000000C;
        npc = 0x40000010;
        parity = parity 0 0 0 0;
      }
      ∷ record {
        end = Halt 0x80;
        n = 4;
        steps = 5;
        out = [];
        regs = known (
            0x00000000 ∷ 0x40001000 ∷ 0x00000000 ∷ 0x00000000 ∷ 0x00000000 ∷ 0x00000000 ∷ 0x00000000 ∷ 0x00000000
            ∷ 0x00000002 ∷ 0x0000005A ∷ 0x00000000 ∷ 0x00000000 ∷ 0x00000000 ∷ 0x00000000 ∷ 0x00000000 ∷ 0x00000000
            ∷ 0x00000000 ∷ 0x00000000 ∷ 0x00000000 ∷ 0x00000000 ∷ 0x00000000 ∷ 0x00000000 ∷ 0x00000000 ∷ 0x00000000
            ∷ 0x00000000 ∷ 0x00000000 ∷ 0x00000000 ∷ 0x00000000 ∷ 0x00000000 ∷ 0x00000000 ∷ 0x00000000 ∷ 0x00000000 ∷ []);
        psr = 0xF3000080;
        wim = 0x00000002;
        tbr = 0x00000000;
        y = 0x00000000;
        pc = 0x4000000C;
        npc = 0x40000010;
        parity = parity 0 0 0 0;
      } ∷ [];
  ahb_addr = 0x00000000;
  ahb_status = 0x00000000;
  transfers =
      transfer 0 2 0 kinds.Fetch whys.Absent 0x40000000 0 8 0x0000000000000000
      ∷ transfer 1 2 3 kinds.Atomic whys.None 0x40001000 0 1 0x0000000000000000
      ∷ transfer 2 0 0 kinds.Fetch whys.Absent 0x40000000 0 8 0x0000000000000000
      ∷ transfer 3 1 0 kinds.Fetch whys.Absent 0x40000000 0 8 0x0000000000000000
      ∷ transfer 4 1 3 kinds.Atomic whys.None 0x40001000 0 1 0x0000000000000000
      ∷ transfer 5 0 3 kinds.Atomic whys.None 0x40001000 0 1 0x0000000000000000 ∷ [];
  order =
      atomic 2 0 3 0x40001000 4 0x0000005A 0x00000003
      ∷ atomic 1 0 3 0x40001000 4 0x00000003 0x00000002
      ∷ atomic 0 0 3 0x40001000 4 0x00000002 0x00000001 ∷ [];
  fates = [];
  watch = word 0x40001000 (Some 0x00000001) ∷ [];
}

unfoldable pub three_cores_swap_lines : List String
three_cores_swap_lines =
    "leon3ft report 1"
    ∷ "cores 3"
    ∷ "core 0 halt 80 4 5"
    ∷ "out 0 -"
    ∷ "g 0 00000000 40001000 00000000 00000000 00000000 00000000 00000000 00000000"
    ∷ "o 0 00000000 00000002 00000000 00000000 00000000 00000000 00000000 00000000"
    ∷ "l 0 00000000 00000000 00000000 00000000 00000000 00000000 00000000 00000000"
    ∷ "i 0 00000000 00000000 00000000 00000000 00000000 00000000 00000000 00000000"
    ∷ "ctl 0 F3000080 00000002 00000000 00000000 4000000C 40000010"
    ∷ "parity 0 0 0 0 0"
    ∷ "core 1 halt 80 4 5"
    ∷ "out 1 -"
    ∷ "g 1 00000000 40001000 00000000 00000000 00000000 00000000 00000000 00000000"
    ∷ "o 1 00000001 00000003 00000000 00000000 00000000 00000000 00000000 00000000"
    ∷ "l 1 00000000 00000000 00000000 00000000 00000000 00000000 00000000 00000000"
    ∷ "i 1 00000000 00000000 00000000 00000000 00000000 00000000 00000000 00000000"
    ∷ "ctl 1 F3000080 00000002 00000000 00000000 4000000C 40000010"
    ∷ "parity 1 0 0 0 0"
    ∷ "core 2 halt 80 4 5"
    ∷ "out 2 -"
    ∷ "g 2 00000000 40001000 00000000 00000000 00000000 00000000 00000000 00000000"
    ∷ "o 2 00000002 0000005A 00000000 00000000 00000000 00000000 00000000 00000000"
    ∷ "l 2 00000000 00000000 00000000 00000000 00000000 00000000 00000000 00000000"
    ∷ "i 2 00000000 00000000 00000000 00000000 00000000 00000000 00000000 00000000"
    ∷ "ctl 2 F3000080 00000002 00000000 00000000 4000000C 40000010"
    ∷ "parity 2 0 0 0 0"
    ∷ "ahb 00000000 00000000"
    ∷ "transfers 6"
    ∷ "t 0 2 0 fetch absent 40000000 0 0000000000000000"
    ∷ "t 1 2 3 atomic - 40001000 - 00"
    ∷ "t 2 0 0 fetch absent 40000000 0 0000000000000000"
    ∷ "t 3 1 0 fetch absent 40000000 0 0000000000000000"
    ∷ "t 4 1 3 atomic - 40001000 - 00"
    ∷ "t 5 0 3 atomic - 40001000 - 00"
    ∷ "order 3"
    ∷ "A 2 0 3 40001000 0000005A 00000003"
    ∷ "A 1 0 3 40001000 00000003 00000002"
    ∷ "A 0 0 3 40001000 00000002 00000001"
    ∷ "flips 0"
    ∷ "watch 1"
    ∷ "w 40001000 00000001"
    ∷ "end" ∷ []

unfoldable pub three_cores_swap_text : List ℕ
unfolding three_cores_swap_lines
three_cores_swap_text = text_lines three_cores_swap_lines
