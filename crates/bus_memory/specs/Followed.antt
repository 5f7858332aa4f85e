-- The words that the script strikes, as they stand in the array of all words of RAM.
use Rattle.std.specs.Prelude.{◌≡◌, ℕ, ◌+◌, ◌*◌, ◌%◌, ◌<◌, ◌≤◌, false, List, length}
use Rattle.std.specs.List.{AllByRecursion, list_any}
use Rattle.flip_ledger.specs.Follows.{has_struck}
use Rattle.lf_model.specs.Bus.Words.{Word, is_at}
use Rattle.lf_model.specs.Caches.Slot.{history_at}
use Rattle.lf_model.specs.Flips.{Moment}
use Rattle.lf_model.specs.Start.{ram_first}
use Rattle.ram_words.specs.Ram.{place_of}

-- the address of a word of RAM, by its number
abbrev pub address_of : ℕ → ℕ
address_of place = ram_first + 4 * place

-- no flip of the script ever struck the word
abbrev pub IsUnstruck : List Moment → Type 0
IsUnstruck h = (i : ℕ) → has_struck i h ≡ false

-- the address of a word of an array of so many
pub record IsWordAt (count addr : ℕ) : Type 0 where
  pub aligned : addr % 4 ≡ 0
  pub above : ram_first ≤ addr
  pub within : place_of addr < count

-- the array has this word, with its history
pub record IsShown (histories : List (List Moment)) (word : Word) : Type 0 where
  pub aligned : word.addr % 4 ≡ 0
  pub above : ram_first ≤ word.addr
  pub within : place_of word.addr < length histories
  pub history : history_at (place_of word.addr) histories ≡ word.history

-- it has all these words, and no flip struck another
pub record Follows (words : List Word) (histories : List (List Moment)) : Type 0 where
  pub shown : AllByRecursion (IsShown histories) words
  pub others : (place : ℕ) → place < length histories → list_any (is_at (address_of place)) words ≡ false → IsUnstruck (history_at place histories)
