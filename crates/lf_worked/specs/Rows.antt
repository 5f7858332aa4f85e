-- Words in which worked reports are written: a program and the machine that it runs on, its schedule, and the lines of its
-- report in their order. What no line shows is 0.
use Rattle.std.specs.Prelude.{ℕ, ◌*◌, ◌/◌, ◌%◌, ◌^◌, ◌==◌, ◌∷◌, ◌++◌, [], List, length, true, false, Option, Some, None, codes, slice_index, map, if◌then◌else◌}
use Prim.Native.String.{String}
use Rattle.std.specs.List.{flat_map, range_with_len, list_any}
use Rattle.lf_model.specs.declared.image.Range.{Range}
use Rattle.lf_model.specs.declared.image.Segment.{Segment}
use Rattle.lf_model.specs.declared.config.Shape.{Shape}
use Rattle.lf_model.specs.declared.config.Config.{Config}
use Rattle.lf_model.specs.declared.setup.Event.{Event}
use Rattle.lf_model.specs.declared.setup.Actor.TheVariants as actors
use Rattle.lf_model.specs.declared.bus.OpKind.TheVariants as ops
use Rattle.lf_model.specs.declared.bus.TurnKind.{TurnKind}
use Rattle.lf_model.specs.declared.bus.Why.{Why}
use Rattle.lf_model.specs.declared.bus.Transfer.{Transfer}
use Rattle.lf_model.specs.declared.trace.Four.{Four}
use Rattle.lf_model.specs.declared.trace.Op.{Op}
use Rattle.lf_model.specs.declared.trace.Word2.{Word2}

-- ---- programs

-- so many addresses from the first on
abbrev pub range : (first length : ℕ) → Range
range first length = record { first = first; length = length }

-- the four bytes of a word
abbrev pub word_bytes : ℕ → List ℕ
word_bytes w = w / 2 ^ 24 % 256 ∷ w / 2 ^ 16 % 256 ∷ w / 2 ^ 8 % 256 ∷ w % 256 ∷ []

-- a segment of code: read and execute
abbrev pub code_at : ℕ → List ℕ → Segment
code_at addr words = record { addr = addr; bytes = flat_map word_bytes words; size = 4 * length words; write = false; exec = true }

-- a segment of data: read and write
abbrev pub data_at : ℕ → List ℕ → Segment
data_at addr words = record { addr = addr; bytes = flat_map word_bytes words; size = 4 * length words; write = true; exec = false }

-- a segment of data that begins with 0
abbrev pub zeros_at : (addr size : ℕ) → Segment
zeros_at addr size = record { addr = addr; bytes = []; size = size; write = true; exec = false }

-- ---- the machine

abbrev pub shape : (ways sets : ℕ) → Shape
shape ways sets = record { ways = ways; sets = sets }

-- the machine where the configuration says nothing else
abbrev pub plain : Config
plain = record {
  cores = 1;
  ram = 1048576;
  steps = 100000;
  window = 64;
  buffer = 4;
  fetch_cache = shape 1 64;
  load_cache = shape 1 64;
  scrub = range 0x40000000 32;
  scrub_turns = 0;
  watch = [];
}

-- ---- schedules

abbrev pub steps_of : (core count : ℕ) → Event
steps_of core count = record { actor = actors.Core; core = core; count = count }

abbrev pub drains_of : (core count : ℕ) → Event
drains_of core count = record { actor = actors.Drain; core = core; count = count }

abbrev pub scrubs : (count : ℕ) → Event
scrubs count = record { actor = actors.Scrub; core = 0; count = count }

-- ---- reports

-- registers that are all reported
abbrev pub known : List ℕ → List (Option ℕ)
known values = map Some values

-- registers of which these are reported without a value
abbrev pub known_but : (blank : List ℕ) → List ℕ → List (Option ℕ)
known_but blank values = map (λ n. if list_any (λ m. m == n) blank then None else Some (slice_index values n)) (range_with_len 0 (length values))

-- the counters of parity errors
abbrev pub parity : (fetch_tag fetch_byte data_tag data_byte : ℕ) → Four
parity fetch_tag fetch_byte data_tag data_byte =
    record { fetch_tag = fetch_tag; fetch_byte = fetch_byte; data_tag = data_tag; data_byte = data_byte }

-- a transfer, with the number of its syndromes and with them
abbrev pub transfer : (turn master step : ℕ) → TurnKind → Why → (addr way words syn : ℕ) → Transfer
transfer turn master step kind why addr way words syn = record {
  syn = syn;
  turn = turn;
  master = master;
  step = step;
  addr = addr;
  kind = kind;
  why = why;
  way = way;
  words = words;
  len = 0;
}

-- memory operations
abbrev pub load : (core k step addr len got way : ℕ) → Op
load core k step addr len got way =
    record { got = got; put = 0; core = core; k = k; step = step; addr = addr; kind = ops.Load; len = len; way = way }

abbrev pub store : (core k step addr len put : ℕ) → Op
store core k step addr len put =
    record { got = 0; put = put; core = core; k = k; step = step; addr = addr; kind = ops.Store; len = len; way = 0 }

abbrev pub atomic : (core k step addr len got put : ℕ) → Op
atomic core k step addr len got put =
    record { got = got; put = put; core = core; k = k; step = step; addr = addr; kind = ops.Atomic; len = len; way = 0 }

abbrev pub lost : (core k step addr len put : ℕ) → Op
lost core k step addr len put =
    record { got = 0; put = put; core = core; k = k; step = step; addr = addr; kind = ops.Lost; len = len; way = 0 }

-- a watched word
abbrev pub word : ℕ → Option ℕ → Word2
word addr value = record { addr = addr; value = value }

-- the bytes of lines
abbrev pub text_lines : List String → List ℕ
text_lines lines = flat_map (λ line. codes line ++ 10 ∷ []) lines
