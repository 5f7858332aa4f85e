-- The words that error traps of all cores name, one after another.
use Rattle.std.specs.Prelude.{◌≡◌, ℕ, ◌<◌, ◌++◌, false, List, [], ◌∷◌, Some}
use Rattle.std.specs.List.{flat_map}
use Rattle.lf_model.specs.Records.BusMemory.{names_word}
use Rattle.lf_model.specs.declared.trace.Word2.{Word2}
use Rattle.bus_memory.specs.Followed.{IsWordAt}

-- those of all cores, in the order of the cores
abbrev pub names_of : List (List Word2) → List Word2
names_of named = flat_map (λ (names : List Word2). names) named

-- a name is of this word, of so many words, and of this turn, of so many turns; no name before it was
pub record IsNewName (words turns : ℕ) (before : List Word2) (name : Word2) (addr turn : ℕ) : Type 0 where
  pub name_is : name ≡ record { addr = addr; value = Some turn }
  pub made : turn < turns
  pub word : IsWordAt words addr
  pub new : names_word before turn addr ≡ false

-- with the name more, no further word is named at any turn
pub record NamesNothing (words turns : ℕ) (before : List Word2) (name : Word2) : Type 0 where
  pub same : (turn addr : ℕ) → turn < turns → IsWordAt words addr → names_word (before ++ name ∷ []) turn addr ≡ names_word before turn addr
