-- The setup of a drill: the machine, and a script of pseudo-random flips, of which the memory flips strike words that differ.
use Rattle.std.specs.Prelude.{ℕ, ◌≢◌, ◌+◌, ◌-◌, ◌*◌, ◌/◌, ◌%◌, ◌^◌, ◌==◌, true, false, Bool, if◌then◌else◌, List, [], map, ⊤, All, AllPairs}
use Rattle.std.specs.List.{enumerate_from}
use Rattle.lf_model.specs.Start.{ram_first}
use Rattle.lf_model.specs.declared.config.Config.{Config}
use Rattle.lf_model.specs.declared.config.Shape.{Shape}
use Rattle.lf_model.specs.declared.flip.Flip.{Flip}
use Rattle.lf_model.specs.declared.flip.Flip.TheVariants.{Mem, Reg, Tag, Line}
use Rattle.lf_model.specs.declared.setup.Setup.{Setup}
use Rattle.work_gen.specs.Draws.{draws}
use Rattle.work_gen.specs.Layout.{data_end, generated_image}

-- ---- the fields of a draw: core, step, and the byte and bit of a slot of a cache

abbrev pub core_of : ℕ → ℕ
core_of draw = draw % 4

abbrev pub step_of : ℕ → ℕ → ℕ
step_of size draw = draw / 4 % size

abbrev pub way_of : ℕ → ℕ
way_of draw = draw / 1024 % 2

abbrev pub set_of : ℕ → ℕ
set_of draw = draw / 2048 % 16

abbrev pub byte_of : ℕ → ℕ
byte_of draw = draw / 32768 % 32

abbrev pub bit_of : ℕ → ℕ
bit_of draw = draw / 2 ^ 20 % 9

-- ---- the flips

-- of the memory word with this number in RAM
abbrev pub memory_flip : ℕ → ℕ → Flip
memory_flip i draw = Mem (draw % 2000) (ram_first + 4 * i) (draw / 2048 % 39)

-- of a line byte of the fetch or the load cache
abbrev pub line_flip : Bool → ℕ → ℕ → Flip
line_flip fetch size draw = Line (core_of draw) (step_of size draw) fetch (way_of draw) (set_of draw) (byte_of draw) (bit_of draw)

-- of a tag byte of the load cache
abbrev pub tag_flip : ℕ → ℕ → Flip
tag_flip size draw = Tag (core_of draw) (step_of size draw) false (way_of draw) (set_of draw) (byte_of draw % 4) (bit_of draw)

-- the flip with this number: of memory, the fetch cache, the load cache and its tags in turn
abbrev pub flip_of : ℕ → ℕ → ℕ → Flip
flip_of size i draw =
    if i % 4 == 0 then memory_flip i draw
    else (if i % 4 == 1 then line_flip true size draw
    else (if i % 4 == 2 then line_flip false size draw
    else tag_flip size draw))

-- so many flips from a number and a state on, each with a draw
abbrev pub flips_from : ℕ → ℕ → ℕ → ℕ → List Flip
flips_from size i count state = map (λ (draw : ℕ × ℕ). flip_of size draw.0 draw.1) (enumerate_from i (draws count state))

-- the script; its draws begin one behind the start of the program
abbrev pub drill_flips : ℕ → ℕ → ℕ → List Flip
drill_flips start size count = flips_from size 0 count ((start + 1) % 2 ^ 64)

-- ---- the machine

-- both caches
abbrev pub drill_shape : Shape
drill_shape = record { ways = 2; sets = 16 }

-- four cores, with steps for the whole program; the scrubber walks over code and data
abbrev pub drill_config : ℕ → Config
drill_config size = record {
  cores = 4;
  ram = 1048576;
  steps = 8 * size + 1000;
  window = 64;
  buffer = 4;
  fetch_cache = drill_shape;
  load_cache = drill_shape;
  scrub = record { first = ram_first; length = data_end size - ram_first };
  scrub_turns = 1000;
  watch = [];
}

abbrev pub generated_setup : ℕ → ℕ → ℕ → Setup
generated_setup start size count = record {
  image = generated_image start size;
  config = drill_config size;
  flips = drill_flips start size count;
}

-- ---- scripts of which each flip is corrected

-- a flip strikes no register cell
abbrev pub StrikesNoCell : Flip → Type 0
StrikesNoCell (Reg core step cell bit) = ⊥
StrikesNoCell _ = ⊤

-- two flips do not strike the same memory word
abbrev pub StrikeOtherWords : Flip → Flip → Type 0
StrikeOtherWords (Mem turn addr bit) (Mem other_turn other other_bit) = addr ≢ other
StrikeOtherWords _ _ = ⊤

-- no two flips of a script strike the same memory word, and none strikes a register cell: so no word and no cell ever has two flipped bits
pub record IsCorrectable (script : List Flip) : Type 0 where
  pub cells : All StrikesNoCell script
  pub words : AllPairs StrikeOtherWords script
