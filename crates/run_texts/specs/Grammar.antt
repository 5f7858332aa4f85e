-- Texts that are read line by line, as scripts and schedules are: which texts are read, what they spell, and which line of
-- another text is told.
use Rattle.std.specs.Prelude.{ℕ, ◌≡◌, ◌<◌, List, [], length, take, Option, Some, None, is_some, IfSome, slice_index_or, Result, Ok, Err}
use Rattle.std.specs.List.{filter_map}
use Rattle.run_texts.specs.declared.error.TextErr.{TextErr}
use Rattle.run_texts.specs.declared.error.TextErr.TheVariants.{At, Memory}
use Rattle.run_texts.specs.declared.error.TextWhy.{TextWhy}
use Rattle.run_texts.specs.Text.{rows, is_statement}
use Rattle.run_texts.specs.Faults.{IsFirst}

-- What is said of a line, which is given as its fields: its fault, where it stands behind so many lines that spell something,
-- and what it spells, where it has no fault.
pub record Grammar (X : Type 0) : Type 0 where
  pub fault : ℕ → List (List ℕ) → Option TextWhy
  pub spelled : List (List ℕ) → Option X

-- what lines spell, in order
abbrev pub all_spelled : {X : Type 0} → Grammar X → List (List (List ℕ)) → List X
all_spelled grammar lines = filter_map grammar.spelled lines

-- the fault of the line at this place of a text, counted from 0: it stands behind what the lines before it spell
unfoldable pub fault_at : {X : Type 0} → Grammar X → List ℕ → ℕ → Option TextWhy
fault_at grammar text place =
    grammar.fault (length (all_spelled grammar (take place (rows text)))) (slice_index_or (rows text) place [])

-- the text is read as these: no line is faulty, and they are what the lines spell
pub record IsReadAs {X : Type 0} (grammar : Grammar X) (text : List ℕ) (items : List X) : Type 0 where
  pub faultless : (place : ℕ) → place < length (rows text) → fault_at grammar text place ≡ None
  pub spelled : items ≡ all_spelled grammar (rows text)

-- the line of this number, counted from 1, is the first faulty one, and this is its fault
abbrev pub IsFirstFault : {X : Type 0} → Grammar X → List ℕ → ℕ → TextWhy → Type 0
IsFirstFault grammar text line why = IsFirst (fault_at grammar text) line why

-- why a text is not read: its first faulty line, or want of memory
abbrev pub IsCause : {X : Type 0} → Grammar X → List ℕ → TextErr → Type 0
IsCause grammar text (At line why) = IsFirstFault grammar text line why
IsCause grammar text Memory = Unit {0}

-- the answer to a line behind so many that spell something: what it spells, if it is a statement, or else its first fault; what
-- it spells fits its place among the others
abbrev pub IsLineAnswer : {X : Type 0} → Grammar X → (ℕ → X → Type 0) → ℕ → List (List ℕ) → Result (Option X) TextWhy → Type 0
IsLineAnswer grammar Fits earlier line (Ok item) =
    (grammar.fault earlier line ≡ None) × (item ≡ grammar.spelled line)
    × (is_some item ≡ is_statement line) × IfSome item (Fits earlier)
IsLineAnswer grammar Fits earlier line (Err why) = grammar.fault earlier line ≡ Some why
