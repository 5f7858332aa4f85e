-- Which flips of the script struck words of the array.
use Rattle.std.specs.Prelude.{◌≡◌, ℕ, ◌%◌, ◌<◌, ◌≤◌, ◌++◌, true, List, length, fold, Option, Some, None, All, slice_get}
use Rattle.std.specs.List.{list_any}
use Rattle.coded_words.specs.Words.{Words, IsToCome}
use Rattle.flip_ledger.specs.Follows.{has_struck}
use Rattle.flip_ledger.specs.declared.plan.Strike.{Strike}
use Rattle.flip_ledger.specs.declared.plan.Target.{Target}
use Rattle.flip_ledger.specs.declared.plan.Target.TheVariants.{Word, Register, Tag, Line}
use Rattle.lf_model.specs.Bus.Words.{is_at, Word as WordStruck}
use Rattle.lf_model.specs.Caches.Slot.{history_at, befalls}
use Rattle.lf_model.specs.Course.Arrays.{struck_by}
use Rattle.lf_model.specs.Flips.{Moment, word_bits}
use Rattle.lf_model.specs.Start.{ram_first}
use Rattle.lf_model.specs.declared.flip.Flip.{Flip}
use Rattle.lf_model.specs.declared.flip.Flip.TheVariants as flips
use Rattle.ram_words.specs.Ram.{place_of}

-- ---- the flips of a turn strike

-- the array after a strike: one of memory befalls its word
abbrev pub struck_in : ℕ → ℕ → List (List Moment) → Target → List (List Moment)
struck_in number bit histories (Word addr) = befalls (struck_by number bit) (place_of addr) histories
struck_in number bit histories (Register cell) = histories
struck_in number bit histories (Tag fetch way set byte) = histories
struck_in number bit histories (Line fetch way set byte) = histories

abbrev pub with_strike : List (List Moment) → Strike → List (List Moment)
with_strike histories strike = struck_in strike.number strike.bit histories strike.target

-- a strike at the array is for a bit of a word of RAM
abbrev pub AimsInArray : ℕ → Target → Type 0
AimsInArray count (Word addr) = (addr % 4 ≡ 0) × (ram_first ≤ addr) × (place_of addr < count)
AimsInArray count (Register cell) = Unit {0}
AimsInArray count (Tag fetch way set byte) = Unit {0}
AimsInArray count (Line fetch way set byte) = Unit {0}

-- it may strike: it did not yet
pub record MayStrike (memory : Words) (strike : Strike) : Type 0 where
  pub aims : AimsInArray (length memory.histories) strike.target
  pub bit : strike.bit < word_bits
  pub number : strike.number < memory.flips
  pub once : IsToCome strike.number memory.histories

-- how far the strikes of a turn have come: those of the run were made, and the rest of the plan is still to come
pub record IsAlong (turn : ℕ) (first : Words) (plan : List Strike) (memory : Words) (rest : List Strike) : Type 0 where
  pub run : List Strike
  pub split : plan ≡ run ++ rest
  pub early : All (λ strike. strike.at ≤ turn) run
  pub memory_is : memory ≡ record first { histories = fold with_strike first.histories run }

-- ---- which flips came

-- a flip that struck the word of this number is one of memory for it, of a turn before this one
abbrev pub FlipCame : ℕ → ℕ → Flip → Type 0
FlipCame turn place (flips.Mem t addr bit) = (t < turn) × (place_of addr ≡ place)
FlipCame turn place (flips.Reg core step cell bit) = ⊥
FlipCame turn place (flips.Tag core step fetch way set byte bit) = ⊥
FlipCame turn place (flips.Line core step fetch way set byte bit) = ⊥

abbrev pub CameBefore : ℕ → ℕ → Option Flip → Type 0
CameBefore turn place None = ⊥
CameBefore turn place (Some flip) = FlipCame turn place flip

-- only flips of the script struck, each of a turn before this one, and its own word
abbrev pub Came : List Flip → ℕ → List (List Moment) → Type 0
Came script turn histories = (i place : ℕ) → place < length histories → has_struck i (history_at place histories) ≡ true → CameBefore turn place (slice_get script i)

-- ---- the script

-- a flip of memory is for a bit of a word of RAM
abbrev pub AimsAt : ℕ → Flip → Type 0
AimsAt count (flips.Mem turn addr bit) = (addr % 4 ≡ 0) × (ram_first ≤ addr) × (place_of addr < count) × (bit < word_bits)
AimsAt count (flips.Reg core step cell bit) = Unit {0}
AimsAt count (flips.Tag core step fetch way set byte bit) = Unit {0}
AimsAt count (flips.Line core step fetch way set byte bit) = Unit {0}

-- the words have that of each flip of memory
abbrev pub IsCovered : List WordStruck → Flip → Type 0
IsCovered words (flips.Mem turn addr bit) = list_any (is_at addr) words ≡ true
IsCovered words (flips.Reg core step cell bit) = Unit {0}
IsCovered words (flips.Tag core step fetch way set byte bit) = Unit {0}
IsCovered words (flips.Line core step fetch way set byte bit) = Unit {0}
