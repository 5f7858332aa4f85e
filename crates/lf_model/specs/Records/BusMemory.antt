-- The memory words over the transfers that the bus records: what each transfer read by its kind, its address and its length, and
-- the words at the end.
use Rattle.std.specs.Prelude.{ℕ, ◌+◌, ◌==◌, ◌&&◌, ◌++◌, Bool, false, List, [], ◌∷◌, length, map, fold, Option, Some, None, if◌then◌else◌}
use Rattle.std.specs.List.{list_any}
use Rattle.lf_model.specs.Bus.Words.{Word, word_history, words_struck, words_begun, words_by_kind, words_after}
use Rattle.lf_model.specs.Course.Syndromes.{packed}
use Rattle.lf_model.specs.Flips.{syndrome}
use Rattle.lf_model.specs.Flips.Moment.{Named}
use Rattle.lf_model.specs.declared.bus.Transfer.{Transfer}
use Rattle.lf_model.specs.declared.flip.Flip.{Flip}
use Rattle.lf_model.specs.declared.trace.Word2.{Word2}

-- after some turns: the words, how many turns, and the transfers with what memory answered
pub record Memory : Type 0 where
  pub words : List Word
  pub turns : ℕ
  pub answers : List Transfer

abbrev pub memory_start : List Flip → Memory
memory_start script = record { words = words_struck script; turns = 0; answers = [] }

-- ---- what memory answers

abbrev pub words_asked : Transfer → List ℕ
words_asked t = words_by_kind t.addr t.len t.kind

abbrev pub with_answer : List Word → Transfer → Transfer
with_answer words t = record t {
  words = length (words_asked t);
  syn = packed (map (λ addr. syndrome (word_history words addr)) (words_asked t));
}

-- ---- words that error traps name, with the numbers of their transfers

abbrev pub is_turn : ℕ → Option ℕ → Bool
is_turn turn None = false
is_turn turn (Some n) = n == turn

-- an error trap names the word at this address at this turn
abbrev pub names_word : List Word2 → ℕ → ℕ → Bool
names_word named turn addr = list_any (λ (w : Word2). w.addr == addr && is_turn turn w.value) named

abbrev pub with_names : List Word2 → ℕ → Word → Word
with_names named turn word = if names_word named turn word.addr then record word { history = Named ∷ word.history } else word

-- ---- memory over the transfers

abbrev pub memory_by : List Word2 → Memory → List Word → Transfer → Memory
memory_by named m words t = record {
  words = map (with_names named m.turns) (words_after t None words);
  turns = m.turns + 1;
  answers = m.answers ++ with_answer words t ∷ [];
}

abbrev pub memory_turn : List Flip → List Word2 → Memory → Transfer → Memory
memory_turn script named m t = memory_by named m (words_begun script m.turns m.words) t

-- memory after these transfers, at which error traps name these words
abbrev pub memory_after : List Flip → List Word2 → List Transfer → Memory
memory_after script named transfers = fold (memory_turn script named) (memory_start script) transfers
