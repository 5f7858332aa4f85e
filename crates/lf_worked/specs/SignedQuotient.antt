-- SDIVcc of FFFFFFFF 80000000 hex, which is -2^31, by -1 gives 7FFFFFFF with V.
-- Checked: the quotient 2^31 is above 7FFFFFFF, so V; icc is 2; Y stays.
use Prim.Native.String.{String}
use Rattle.std.specs.Prelude.{ℕ, ◌∷◌, [], List}
use Rattle.lf_worked.specs.Rows.{range, code_at, plain, known, transfer, parity, text_lines}
use Rattle.lf_model.specs.declared.setup.Setup.{Setup}
use Rattle.lf_model.specs.declared.setup.Event.{Event}
use Rattle.lf_model.specs.declared.trace.Trace.{Trace}
use Rattle.lf_model.specs.declared.trace.CoreEnd.TheVariants.{Halt}
use Rattle.lf_model.specs.declared.bus.TurnKind.TheVariants as kinds
use Rattle.lf_model.specs.declared.bus.Why.TheVariants as whys

unfoldable pub signed_quotient_setup : Setup
signed_quotient_setup = record {
  image = record {
    entry = 0x40000000;
    segments = code_at 0x40000000 (
        0x81803FFF  -- wr %g0, -0x1, %y
        ∷ 0x03200000  -- sethi %hi(0x80000000), %g1
        ∷ 0x90F87FFF  -- sdivcc %g1, -0x1, %o0
        ∷ 0x91D02000  -- ta 0x0
        ∷ []) ∷ [];
    text = range 0x40000000 16 ∷ [];
  };
  config = plain;
  flips = [];
}

unfoldable pub signed_quotient_events : List Event
signed_quotient_events = []

unfoldable pub signed_quotient_trace : Trace
signed_quotient_trace = record {
  cores = record {
    end = Halt 0x80;
    n = 4;
    steps = 5;
    out = [];
    regs = known (
        0x00000000 ∷ 0x80000000 ∷ 0x00000000 ∷ 0x00000000 ∷ 0x00000000 ∷ 0x00000000 ∷ 0x00000000 ∷ 0x00000000
        ∷ 0x7FFFFFFF ∷ 0x00000000 ∷ 0x00000000 ∷ 0x00000000 ∷ 0x00000000 ∷ 0x00000000 ∷ 0x00000000 ∷ 0x00000000
        ∷ 0x00000000 ∷ 0x00000000 ∷ 0x00000000 ∷ 0x00000000 ∷ 0x00000000 ∷ 0x00000000 ∷ 0x00000000 ∷ 0x00000000
        ∷ 0x00000000 ∷ 0x00000000 ∷ 0x00000000 ∷ 0x00000000 ∷ 0x00000000 ∷ 0x00000000 ∷ 0x00000000 ∷ 0x00000000 ∷ []);
    psr = 0xF3200080;
    wim = 0x00000002;
    tbr = 0x00000000;
    y = 0xFFFFFFFF;
    pc = 0x4000000C;
    npc = 0x40000010;
    parity = parity 0 0 0 0;
  } ∷ [];
  ahb_addr = 0x00000000;
  ahb_status = 0x00000000;
  transfers = transfer 0 0 0 kinds.Fetch whys.Absent 0x40000000 0 8 0x0000000000000000 ∷ [];
  order = [];
  fates = [];
  watch = [];
}

unfoldable pub signed_quotient_lines : List String
signed_quotient_lines =
    "leon3ft report 1"
    ∷ "cores 1"
    ∷ "core 0 halt 80 4 5"
    ∷ "out 0 -"
    ∷ "g 0 00000000 80000000 00000000 00000000 00000000 00000000 00000000 00000000"
    ∷ "o 0 7FFFFFFF 00000000 00000000 00000000 00000000 00000000 00000000 00000000"
    ∷ "l 0 00000000 00000000 00000000 00000000 00000000 00000000 00000000 00000000"
    ∷ "i 0 00000000 00000000 00000000 00000000 00000000 00000000 00000000 00000000"
    ∷ "ctl 0 F3200080 00000002 00000000 FFFFFFFF 4000000C 40000010"
    ∷ "parity 0 0 0 0 0"
    ∷ "ahb 00000000 00000000"
    ∷ "transfers 1"
    ∷ "t 0 0 0 fetch absent 40000000 0 0000000000000000"
    ∷ "order 0"
    ∷ "flips 0"
    ∷ "watch 0"
    ∷ "end" ∷ []

unfoldable pub signed_quotient_text : List ℕ
unfolding signed_quotient_lines
signed_quotient_text = text_lines signed_quotient_lines
