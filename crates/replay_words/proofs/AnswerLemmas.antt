-- What memory answers to a transfer: how many words it read, and their syndromes.
use Rattle.std.proofs.Common.{◌≡◌, ℕ, ◌*◌, ◌+◌, ◌^◌, List, [], ◌∷◌, length, map, sym, ap, ◌∙◌, arith}
use Rattle.std.specs.Prelude.{fold}
use Rattle.lf_model.specs.Bus.Words.{Word, words_of_line, word_history, words_read, answered}
use Rattle.lf_model.specs.Course.Syndromes.{packed}
use Rattle.lf_model.specs.Flips.{syndrome}
use Rattle.lf_model.specs.declared.bus.Transfer.{Transfer}

abbrev answered_with : Transfer → List Word → List ℕ → Transfer
answered_with t words read = record t { words = length read; syn = packed (map (λ addr. syndrome (word_history words addr)) read) }

abbrev joined : List ℕ → ℕ
joined syns = fold (λ number syndrome. number * 2 ^ 8 + syndrome) 0 syns

times_one : (n : ℕ) → n * 1 ≡ n
times_one n = omega arith

one_packed : (syn : ℕ) → packed (syn ∷ []) ≡ syn * 2 ^ 56
one_packed syn = omega arith

pub word_answered : (t : Transfer) (words : List Word) (addr syn : ℕ) → addr ∷ [] ≡ words_read t → syn ≡ syndrome (word_history words addr)
    → record t { syn = syn * 2 ^ 56; words = 1 } ≡ answered words t
word_answered t words addr syn read is =
    ap (λ (s : ℕ). record t { syn = s * 2 ^ 56; words = 1 }) is
    ∙ ap (λ (n : ℕ). record t { syn = n; words = 1 }) (sym (one_packed (syndrome (word_history words addr))))
    ∙ ap (answered_with t words) read

pub line_answered : (t : Transfer) (words : List Word) (line : ℕ) (syns : List ℕ) → words_of_line line ≡ words_read t
    → syns ≡ map (λ addr. syndrome (word_history words addr)) (words_of_line line)
    → record t { syn = joined syns; words = 8 } ≡ answered words t
line_answered t words line syns read are =
    ap (λ (ss : List ℕ). record t { syn = joined ss; words = 8 }) are
    ∙ ap (λ (n : ℕ). record t { syn = n; words = 8 }) (sym (times_one (joined (map (λ addr. syndrome (word_history words addr)) (words_of_line line)))))
    ∙ ap (answered_with t words) read
