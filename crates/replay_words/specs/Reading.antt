-- Which words a transfer reads.
use Rattle.std.specs.Prelude.{ℕ, List, [], ◌∷◌}
use Rattle.lf_model.specs.Bus.Words.{words_of_line}
use Rattle.replay_words.specs.declared.read.Read.{Read}
use Rattle.replay_words.specs.declared.read.Read.TheVariants.{Nothing, Word, Line}

abbrev pub read_words : Read → List ℕ
read_words Nothing = []
read_words (Word addr) = addr ∷ []
read_words (Line addr) = words_of_line addr
