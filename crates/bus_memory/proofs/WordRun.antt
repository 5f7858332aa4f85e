-- The words that the script strikes, each by itself: what the transfers make of one word does not depend on the others.
use Rattle.std.proofs.Common.{◌≡◌, ℕ, ◌+◌, Bool, true, false, cond, nat_eq, List, [], ◌∷◌, map, None, refl, sym, ap, ◌∙◌}
use Rattle.std.specs.Prelude.{fold}
use Rattle.std.proofs.lemmas.Simd.{map-map}
use Rattle.lf_model.specs.Bus.Words.{Word, words_struck, struck_word, strike_word, words_begun, words_after}
use Rattle.lf_model.specs.Records.BusMemory.{Memory, memory_start, with_names, memory_turn, memory_after}
use Rattle.lf_model.specs.NumberedFlips.{numbered_flips}
use Rattle.lf_model.specs.declared.bus.Transfer.{Transfer}
use Rattle.lf_model.specs.declared.flip.Flip.{Flip}
use Rattle.lf_model.specs.declared.flip.Flip.TheVariants.{Mem, Reg, Tag, Line}
use Rattle.lf_model.specs.declared.trace.Word2.{Word2}
use Rattle.bus_memory.proofs.BeginLemmas.{strike_flip}
use Rattle.bus_memory.proofs.WriteLemmas.{word_after}

map_same : (words : List Word) → map (λ w. w) words ≡ words
map_same [] = refl
map_same (w ∷ words) = ap (λ (rest : List Word). w ∷ rest) (map_same words)

-- ---- a turn begins

abbrev pub strike_one : ℕ → ℕ → Flip → Word → Word
strike_one turn number (Mem t addr bit) w = cond (nat_eq t turn) (struck_word number addr bit w) w
strike_one turn number (Reg core step cell bit) w = w
strike_one turn number (Tag core step fetch way set byte bit) w = w
strike_one turn number (Line core step fetch way set byte bit) w = w

strike_map : (turn number : ℕ) (flip : Flip) (words : List Word) → strike_word turn number words flip ≡ map (strike_one turn number flip) words
strike_map turn number (Mem t addr bit) words = by (nat_eq t turn)
  where
    by : (b : Bool) → cond b (map (struck_word number addr bit) words) words ≡ map (λ w. cond b (struck_word number addr bit w) w) words
    by true = refl
    by false = sym (map_same words)
strike_map turn number (Reg core step cell bit) words = sym (map_same words)
strike_map turn number (Tag core step fetch way set byte bit) words = sym (map_same words)
strike_map turn number (Line core step fetch way set byte bit) words = sym (map_same words)

abbrev pub strikes_one : ℕ → List (ℕ × Flip) → Word → Word
strikes_one turn [] w = w
strikes_one turn (flip ∷ flips) w = strikes_one turn flips (strike_one turn flip.0 flip.1 w)

pub strikes_map : (turn : ℕ) (flips : List (ℕ × Flip)) (words : List Word) → fold (strike_flip turn) words flips ≡ map (strikes_one turn flips) words
strikes_map turn [] words = sym (map_same words)
strikes_map turn (flip ∷ flips) words =
    strikes_map turn flips (strike_word turn flip.0 words flip.1)
    ∙ ap (map (strikes_one turn flips)) (strike_map turn flip.0 flip.1 words)
    ∙ map-map (strikes_one turn flips) (strike_one turn flip.0 flip.1) words

-- ---- all turns

module _ (script : List Flip) where
  -- a word over one turn, and over the transfers from a turn on
  abbrev pub turn_one : List Word2 → ℕ → Transfer → Word → Word
  turn_one named turn t w = with_names named turn (word_after t (strikes_one turn (numbered_flips script) w))

  abbrev pub run_one : List Word2 → ℕ → List Transfer → Word → Word
  run_one named turn [] w = w
  run_one named turn (t ∷ ts) w = run_one named (turn + 1) ts (turn_one named turn t w)

  pub turn_map : (named : List Word2) (turn : ℕ) (t : Transfer) (words : List Word)
      → map (with_names named turn) (words_after t None (words_begun script turn words)) ≡ map (turn_one named turn t) words
  turn_map named turn t words =
      ap (λ (ws : List Word). map (with_names named turn) (map (word_after t) ws)) (strikes_map turn (numbered_flips script) words)
      ∙ ap (map (with_names named turn)) (map-map (word_after t) (strikes_one turn (numbered_flips script)) words)
      ∙ map-map (with_names named turn) (λ w. word_after t (strikes_one turn (numbered_flips script) w)) words

  run_map : (named : List Word2) (m : Memory) (ts : List Transfer) → (fold (memory_turn script named) m ts).words ≡ map (run_one named m.turns ts) m.words
  run_map named m [] = sym (map_same m.words)
  run_map named m (t ∷ ts) =
      run_map named (memory_turn script named m t) ts
      ∙ ap (map (run_one named (m.turns + 1) ts)) (turn_map named m.turns t m.words)
      ∙ map-map (run_one named (m.turns + 1) ts) (turn_one named m.turns t) m.words

  pub words_run : (named : List Word2) (ts : List Transfer) → (memory_after script named ts).words ≡ map (run_one named 0 ts) (words_struck script)
  words_run named ts = run_map named (memory_start script) ts
