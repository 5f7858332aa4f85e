-- A line of a script of bit flips, as the list of its fields: the faults that it may have, and the flip that it spells.
use Rattle.std.specs.Prelude.{ℕ, ◌^◌, ◌<◌, Bool, true, false, nat_le, if◌then◌else◌, List, [], ◌∷◌, find, Option, Some, None, is_none, option_map, option_and_then, codes}
use Rattle.std.specs.Option.{option_map_or}
use Rattle.std.specs.Str.{bytes_eq}
use Rattle.lf_model.specs.declared.config.Config.{Config}
use Rattle.lf_model.specs.declared.config.Shape.{Shape}
use Rattle.lf_model.specs.declared.flip.Flip.{Flip}
use Rattle.lf_model.specs.declared.flip.Flip.TheVariants.{Mem, Reg, Tag, Line}
use Rattle.run_texts.specs.declared.error.TextWhy.{TextWhy}
use Rattle.run_texts.specs.declared.error.TextWhy.TheVariants.{Word, Many}
use Rattle.run_texts.specs.declared.flip_line.FlipKind.{FlipKind}
use Rattle.run_texts.specs.declared.flip_line.FlipKind.TheVariants.{MemoryWord, RegisterCell, InstructionTag, DataTag, InstructionLine, DataLine}
use Rattle.run_texts.specs.Keys.{IsWordOfRam}
use Rattle.run_texts.specs.Text.{is_comment}
use Rattle.run_texts.specs.Columns.{Column, below, word_of_ram, field_faults, first_fault, values}

-- the kinds of flips, each behind the first field that names it
abbrev pub kinds : List (List ℕ × FlipKind)
kinds =
    (codes "mem", MemoryWord)
    ∷ (codes "reg", RegisterCell)
    ∷ (codes "itag", InstructionTag)
    ∷ (codes "dtag", DataTag)
    ∷ (codes "idat", InstructionLine)
    ∷ (codes "ddat", DataLine)
    ∷ []

-- the kind of flip that a first field names, None where the field is unknown
unfoldable pub kind_of : List ℕ → Option FlipKind
kind_of first = option_map (λ row. row.1) (find (λ row. bytes_eq first row.0) kinds)

-- The columns of a bit of a cache of this shape, in a slot of so many bytes: the core, the step of that core, way, set, the number
-- of the byte in its slot, and the bit, which is the parity where it is 8.
abbrev pub cache_columns : Config → Shape → ℕ → List Column
cache_columns config shape bytes =
    below config.cores ∷ below config.steps ∷ below shape.ways ∷ below shape.sets ∷ below bytes ∷ below 9 ∷ []

-- The columns behind the first field. A memory word is struck at a turn of the bus, by its address, in a bit of its cell;
-- a register cell of a core at a step of that core, by the cell's number, in a bit of it. A slot of a cache has 4 tag bytes
-- and 32 line bytes.
abbrev pub columns : Config → FlipKind → List Column
columns config MemoryWord = below (2 ^ 32) ∷ word_of_ram config.ram ∷ below 39 ∷ []
columns config RegisterCell = below config.cores ∷ below config.steps ∷ below 136 ∷ below 39 ∷ []
columns config InstructionTag = cache_columns config config.fetch_cache 4
columns config DataTag = cache_columns config config.load_cache 4
columns config InstructionLine = cache_columns config config.fetch_cache 32
columns config DataLine = cache_columns config config.load_cache 32

-- the flip of a kind with the values of its columns, None where they are too few or too many
abbrev pub flip_with : FlipKind → List ℕ → Option Flip
flip_with MemoryWord (turn ∷ addr ∷ bit ∷ []) = Some (Mem turn addr bit)
flip_with RegisterCell (core ∷ step ∷ cell ∷ bit ∷ []) = Some (Reg core step cell bit)
flip_with InstructionTag (core ∷ step ∷ way ∷ set ∷ byte ∷ bit ∷ []) = Some (Tag core step true way set byte bit)
flip_with DataTag (core ∷ step ∷ way ∷ set ∷ byte ∷ bit ∷ []) = Some (Tag core step false way set byte bit)
flip_with InstructionLine (core ∷ step ∷ way ∷ set ∷ byte ∷ bit ∷ []) = Some (Line core step true way set byte bit)
flip_with DataLine (core ∷ step ∷ way ∷ set ∷ byte ∷ bit ∷ []) = Some (Line core step false way set byte bit)
flip_with _ _ = None

-- the most flips that a script may have
abbrev pub most_flips : ℕ
most_flips = 65536

-- The faults of a line with this first field and these others, behind so many flips. They stand in the order in which
-- they are told, each with whether the line has it.
abbrev pub faults : Config → ℕ → List ℕ → List (List ℕ) → List (Bool × TextWhy)
faults config earlier first others =
    (is_none (kind_of first), Word)
    ∷ (nat_le most_flips earlier, Many)
    ∷ field_faults (option_map_or (columns config) (kind_of first) []) others

-- the fault that is told of a line behind so many flips; an empty line and a comment have none
unfoldable pub fault_of : Config → ℕ → List (List ℕ) → Option TextWhy
fault_of config earlier [] = None
fault_of config earlier (first ∷ others) =
    if is_comment first then None else first_fault (faults config earlier first others)

-- the flip that a line without a fault spells; an empty line and a comment spell none
unfoldable pub flip_of : Config → List (List ℕ) → Option Flip
flip_of config [] = None
flip_of config (first ∷ others) =
    if is_comment first then None
    else option_and_then (λ kind. flip_with kind (values (columns config kind) others)) (kind_of first)

-- a step that a core of the machine may make
abbrev pub IsStepOf : Config → ℕ → ℕ → Type 0
IsStepOf config core step = (core < config.cores) × (step < config.steps)

-- a bit of a cache of this shape, in a slot of so many bytes
abbrev pub IsBitOf : Shape → ℕ → ℕ → ℕ → ℕ → ℕ → Type 0
IsBitOf shape bytes way set byte bit = (way < shape.ways) × (set < shape.sets) × (byte < bytes) × (bit < 9)

-- the shape of the instruction cache, or else of the data cache
abbrev pub shape_of : Config → Bool → Shape
shape_of config fetch = if fetch then config.fetch_cache else config.load_cache

-- a flip is of a bit that the machine of this configuration has, and of a step that its core may make
abbrev pub IsOfMachine : Config → Flip → Type 0
IsOfMachine config (Mem turn addr bit) = (turn < 2 ^ 32) × IsWordOfRam config.ram addr × (bit < 39)
IsOfMachine config (Reg core step cell bit) = IsStepOf config core step × (cell < 136) × (bit < 39)
IsOfMachine config (Tag core step fetch way set byte bit) =
    IsStepOf config core step × IsBitOf (shape_of config fetch) 4 way set byte bit
IsOfMachine config (Line core step fetch way set byte bit) =
    IsStepOf config core step × IsBitOf (shape_of config fetch) 32 way set byte bit
