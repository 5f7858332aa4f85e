-- Struck bytes of a line of code: of the wanted word, and of another.
-- Step 2 strikes byte 4, of the word at PC, and byte 31, which no look wants; step 3 the parity bit of byte 7, of the same word.
-- Checked: bytes 4 and 7 are discarded, with two fills by `data`, and byte 31 is overwritten by the first of them.
use Prim.Native.String.{String}
use Rattle.std.specs.Prelude.{ℕ, ◌∷◌, [], List, true}
use Rattle.lf_worked.specs.Rows.{range, code_at, plain, known, transfer, parity, text_lines}
use Rattle.lf_model.specs.declared.setup.Setup.{Setup}
use Rattle.lf_model.specs.declared.setup.Event.{Event}
use Rattle.lf_model.specs.declared.trace.Trace.{Trace}
use Rattle.lf_model.specs.declared.trace.CoreEnd.TheVariants.{Halt}
use Rattle.lf_model.specs.declared.flip.Flip.TheVariants as flips
use Rattle.lf_model.specs.declared.trace.Fate.TheVariants as fates
use Rattle.lf_model.specs.declared.bus.TurnKind.TheVariants as kinds
use Rattle.lf_model.specs.declared.bus.Why.TheVariants as whys

unfoldable pub fetch_after_struck_byte_setup : Setup
fetch_after_struck_byte_setup = record {
  image = record {
    entry = 0x40000000;
    segments = code_at 0x40000000 (
        0x90102001  -- or %g0, 0x1, %o0
        ∷ 0x92102002  -- or %g0, 0x2, %o1
        ∷ 0x91D02000  -- ta 0x0
        ∷ []) ∷ [];
    text = range 0x40000000 12 ∷ [];
  };
  config = plain;
  flips =
      flips.Line 0 2 true 0 0 4 0
      ∷ flips.Line 0 2 true 0 0 31 0
      ∷ flips.Line 0 3 true 0 0 7 8 ∷ [];
}

unfoldable pub fetch_after_struck_byte_events : List Event
fetch_after_struck_byte_events = []

unfoldable pub fetch_after_struck_byte_trace : Trace
fetch_after_struck_byte_trace = record {
  cores = record {
    end = Halt 0x80;
    n = 3;
    steps = 6;
    out = [];
    regs = known (
        0x00000000 ∷ 0x00000000 ∷ 0x00000000 ∷ 0x00000000 ∷ 0x00000000 ∷ 0x00000000 ∷ 0x00000000 ∷ 0x00000000
        ∷ 0x00000001 ∷ 0x00000002 ∷ 0x00000000 ∷ 0x00000000 ∷ 0x00000000 ∷ 0x00000000 ∷ 0x00000000 ∷ 0x00000000
        ∷ 0x00000000 ∷ 0x00000000 ∷ 0x00000000 ∷ 0x00000000 ∷ 0x00000000 ∷ 0x00000000 ∷ 0x00000000 ∷ 0x00000000
        ∷ 0x00000000 ∷ 0x00000000 ∷ 0x00000000 ∷ 0x00000000 ∷ 0x00000000 ∷ 0x00000000 ∷ 0x00000000 ∷ 0x00000000 ∷ []);
    psr = 0xF3000080;
    wim = 0x00000002;
    tbr = 0x00000000;
    y = 0x00000000;
    pc = 0x40000008;
    npc = 0x4000000C;
    parity = parity 0 2 0 0;
  } ∷ [];
  ahb_addr = 0x00000000;
  ahb_status = 0x00000000;
  transfers =
      transfer 0 0 0 kinds.Fetch whys.Absent 0x40000000 0 8 0x0000000000000000
      ∷ transfer 1 0 2 kinds.Fetch whys.Byte 0x40000000 0 8 0x0000000000000000
      ∷ transfer 2 0 3 kinds.Fetch whys.Byte 0x40000000 0 8 0x0000000000000000 ∷ [];
  order = [];
  fates = fates.Discarded ∷ fates.Overwritten ∷ fates.Discarded ∷ [];
  watch = [];
}

unfoldable pub fetch_after_struck_byte_lines : List String
fetch_after_struck_byte_lines =
    "leon3ft report 1"
    ∷ "cores 1"
    ∷ "core 0 halt 80 3 6"
    ∷ "out 0 -"
    ∷ "g 0 00000000 00000000 00000000 00000000 00000000 00000000 00000000 00000000"
    ∷ "o 0 00000001 00000002 00000000 00000000 00000000 00000000 00000000 00000000"
    ∷ "l 0 00000000 00000000 00000000 00000000 00000000 00000000 00000000 00000000"
    ∷ "i 0 00000000 00000000 00000000 00000000 00000000 00000000 00000000 00000000"
    ∷ "ctl 0 F3000080 00000002 00000000 00000000 40000008 4000000C"
    ∷ "parity 0 0 2 0 0"
    ∷ "ahb 00000000 00000000"
    ∷ "transfers 3"
    ∷ "t 0 0 0 fetch absent 40000000 0 0000000000000000"
    ∷ "t 1 0 2 fetch data 40000000 0 0000000000000000"
    ∷ "t 2 0 3 fetch data 40000000 0 0000000000000000"
    ∷ "order 0"
    ∷ "flips 3"
    ∷ "f 0 discarded"
    ∷ "f 1 overwritten"
    ∷ "f 2 discarded"
    ∷ "watch 0"
    ∷ "end" ∷ []

unfoldable pub fetch_after_struck_byte_text : List ℕ
unfolding fetch_after_struck_byte_lines
fetch_after_struck_byte_text = text_lines fetch_after_struck_byte_lines
