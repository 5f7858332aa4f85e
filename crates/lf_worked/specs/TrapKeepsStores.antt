-- A trap with traps enabled drains nothing.
-- TBR is 40000000, so UNIMP (trap 02) goes to 40000020. Checked: the trap is counted and drains nothing; the drain comes in step 7,
-- by `miss`, before the fetch of the handler's line; the trap enters window 7, where WIM is not looked at, and saves PC and nPC
-- in %l1 and %l2; `ta 0` then halts there.
use Prim.Native.String.{String}
use Rattle.std.specs.Prelude.{ℕ, ◌∷◌, [], List}
use Rattle.lf_worked.specs.Rows.{range, code_at, data_at, plain, known, transfer, store, parity, text_lines}
use Rattle.lf_model.specs.declared.setup.Setup.{Setup}
use Rattle.lf_model.specs.declared.setup.Event.{Event}
use Rattle.lf_model.specs.declared.trace.Trace.{Trace}
use Rattle.lf_model.specs.declared.trace.CoreEnd.TheVariants.{Halt}
use Rattle.lf_model.specs.declared.bus.TurnKind.TheVariants as kinds
use Rattle.lf_model.specs.declared.bus.Why.TheVariants as whys

unfoldable pub trap_keeps_stores_setup : Setup
trap_keeps_stores_setup = record {
  image = record {
    entry = 0x40000000;
    segments =
        code_at 0x40000000 (
        0x03100004  -- sethi %hi(0x40001000), %g1
        ∷ 0x05100000  -- sethi %hi(0x40000000), %g2
        ∷ 0x8198A000  -- wr %g2, 0x0, %tbr
        ∷ 0x818820A0  -- wr %g0, 0xA0, %psr
        ∷ 0xC2204000  -- st %g1, [%g1]
        ∷ 0x00000000  -- unimp 0
        ∷ 0x01000000  -- nop
        ∷ 0x01000000  -- nop
        ∷ 0x91D02000  -- ta 0x0
        ∷ [])
        ∷ data_at 0x40001000 (0x00000000 ∷ []) ∷ [];
    text = range 0x40000000 36 ∷ [];
  };
  config = plain;
  flips = [];
}

unfoldable pub trap_keeps_stores_events : List Event
trap_keeps_stores_events = []

unfoldable pub trap_keeps_stores_trace : Trace
trap_keeps_stores_trace = record {
  cores = record {
    end = Halt 0x80;
    n = 7;
    steps = 10;
    out = [];
    regs = known (
        0x00000000 ∷ 0x40001000 ∷ 0x40000000 ∷ 0x00000000 ∷ 0x00000000 ∷ 0x00000000 ∷ 0x00000000 ∷ 0x00000000
        ∷ 0x00000000 ∷ 0x00000000 ∷ 0x00000000 ∷ 0x00000000 ∷ 0x00000000 ∷ 0x00000000 ∷ 0x00000000 ∷ 0x00000000
        ∷ 0x00000000 ∷ 0x40000014 ∷ 0x40000018 ∷ 0x00000000 ∷ 0x00000000 ∷ 0x00000000 ∷ 0x00000000 ∷ 0x00000000
        ∷ 0x00000000 ∷ 0x00000000 ∷ 0x00000000 ∷ 0x00000000 ∷ 0x00000000 ∷ 0x00000000 ∷ 0x00000000 ∷ 0x00000000 ∷ []);
    psr = 0xF30000C7;
    wim = 0x00000002;
    tbr = 0x40000020;
    y = 0x00000000;
    pc = 0x40000020;
    npc = 0x40000024;
    parity = parity 0 0 0 0;
  } ∷ [];
  ahb_addr = 0x00000000;
  ahb_status = 0x00000000;
  transfers =
      transfer 0 0 0 kinds.Fetch whys.Absent 0x40000000 0 8 0x0000000000000000
      ∷ transfer 1 0 7 kinds.Store whys.Miss 0x40001000 0 0 0
      ∷ transfer 2 0 8 kinds.Fetch whys.Absent 0x40000020 0 8 0x0000000000000000 ∷ [];
  order = store 0 0 5 0x40001000 4 0x40001000 ∷ [];
  fates = [];
  watch = [];
}

unfoldable pub trap_keeps_stores_lines : List String
trap_keeps_stores_lines =
    "leon3ft report 1"
    ∷ "cores 1"
    ∷ "core 0 halt 80 7 10"
    ∷ "out 0 -"
    ∷ "g 0 00000000 40001000 40000000 00000000 00000000 00000000 00000000 00000000"
    ∷ "o 0 00000000 00000000 00000000 00000000 00000000 00000000 00000000 00000000"
    ∷ "l 0 00000000 40000014 40000018 00000000 00000000 00000000 00000000 00000000"
    ∷ "i 0 00000000 00000000 00000000 00000000 00000000 00000000 00000000 00000000"
    ∷ "ctl 0 F30000C7 00000002 40000020 00000000 40000020 40000024"
    ∷ "parity 0 0 0 0 0"
    ∷ "ahb 00000000 00000000"
    ∷ "transfers 3"
    ∷ "t 0 0 0 fetch absent 40000000 0 0000000000000000"
    ∷ "t 1 0 7 store miss 40001000 - --"
    ∷ "t 2 0 8 fetch absent 40000020 0 0000000000000000"
    ∷ "order 1"
    ∷ "S 0 0 5 40001000 40001000"
    ∷ "flips 0"
    ∷ "watch 0"
    ∷ "end" ∷ []

unfoldable pub trap_keeps_stores_text : List ℕ
unfolding trap_keeps_stores_lines
trap_keeps_stores_text = text_lines trap_keeps_stores_lines
