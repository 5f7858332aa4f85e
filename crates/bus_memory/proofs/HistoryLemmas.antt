-- The definitions' memory with one more transfer.
use Rattle.std.proofs.Common.{◌≡◌, ℕ, suc, ◌+◌, true, false, List, [], ◌∷◌, ◌++◌, length, map, None, refl, sym, ap, ◌∙◌, add-zero, arith}
use Rattle.std.specs.Prelude.{fold}
use Rattle.std.proofs.lemmas.List.Sums.{fold_push}
use Rattle.lf_model.specs.Bus.Words.{Word, words_begun, words_after}
use Rattle.lf_model.specs.Records.BusMemory.{Memory, memory_start, with_answer, with_names, memory_by, memory_turn, memory_after}
use Rattle.lf_model.specs.declared.bus.Transfer.{Transfer}
use Rattle.lf_model.specs.declared.flip.Flip.{Flip}
use Rattle.lf_model.specs.declared.trace.Word2.{Word2}
use Rattle.bus_memory.specs.MemoryState.{words_between, words_at}

turns_on : (script : List Flip) (named : List Word2) (m : Memory) (ts : List Transfer) → (fold (memory_turn script named) m ts).turns ≡ m.turns + length ts
turns_on script named m [] = sym (add-zero m.turns)
turns_on script named m (t ∷ ts) = turns_on script named (memory_turn script named m t) ts ∙ (let e : m.turns + 1 + length ts ≡ m.turns + suc (length ts) = omega arith in e)

-- as many turns as transfers
pub turns_are : (script : List Flip) (named : List Word2) (ts : List Transfer) → (memory_after script named ts).turns ≡ length ts
turns_are script named ts = turns_on script named (memory_start script) ts ∙ (let e : 0 + length ts ≡ length ts = omega arith in e)

-- with no name, no word is named
unnamed : (turn : ℕ) (words : List Word) → map (with_names [] turn) words ≡ words
unnamed turn [] = refl
unnamed turn (w ∷ ws) = ap (λ (rest : List Word). w ∷ rest) (unnamed turn ws)

-- one more transfer
pub after_push : (script : List Flip) (named : List Word2) (ts : List Transfer) (t : Transfer)
    → memory_after script named (ts ++ t ∷ [])
    ≡ memory_by named (memory_after script named ts) (words_begun script (length ts) (memory_after script named ts).words) t
after_push script named ts t =
    fold_push (memory_turn script named) (memory_start script) ts t
    ∙ ap (λ (turn : ℕ). memory_by named (memory_after script named ts) (words_begun script turn (memory_after script named ts).words) t) (turns_are script named ts)

pub words_push : (script : List Flip) (ts : List Transfer) (t : Transfer)
    → words_between script (ts ++ t ∷ []) ≡ words_after t None (words_begun script (length ts) (words_between script ts))
words_push script ts t =
    ap (λ (m : Memory). m.words) (after_push script [] ts t)
    ∙ unnamed (memory_after script [] ts).turns (words_after t None (words_begun script (length ts) (words_between script ts)))

pub answers_push : (script : List Flip) (named : List Word2) (ts : List Transfer) (t : Transfer)
    → (memory_after script named (ts ++ t ∷ [])).answers
    ≡ (memory_after script named ts).answers ++ with_answer (words_begun script (length ts) (memory_after script named ts).words) t ∷ []
answers_push script named ts t = ap (λ (m : Memory). m.answers) (after_push script named ts t)

-- the words between turns, and while a turn is begun
pub words_between_turns : (script : List Flip) (ts : List Transfer) → words_at script ts false ≡ words_between script ts
unfolding words_at
words_between_turns script ts = refl

pub words_in_turn : (script : List Flip) (ts : List Transfer) → words_at script ts true ≡ words_begun script (length ts) (words_between script ts)
unfolding words_at
words_in_turn script ts = refl
