-- What memory answers is the same whichever words error traps name.
use Rattle.std.proofs.Common.{◌≡◌, ℕ, ◌+◌, Bool, true, false, ◌&&◌, cond, nat_eq, List, [], ◌∷◌, ◌++◌, length, map, Option, Some, None, refl, sym, ap, ap₂, ◌∙◌}
use Rattle.std.specs.Prelude.{find, fold}
use Rattle.std.specs.Option.{option_map_or}
use Rattle.std.proofs.lemmas.Simd.{map-map}
use Rattle.lf_num.specs.Columns.{columns_sum}
use Rattle.lf_model.specs.Bus.Words.{Word, is_at, history_of, word_history, words_begun, words_after, touches_word, with_write, write_by}
use Rattle.lf_model.specs.Course.Syndromes.{has_address, packed}
use Rattle.lf_model.specs.Flips.{How, Moment, Standing, standing, struck, turned, word_bits, word_budget, syndrome}
use Rattle.lf_model.specs.Flips.Moment.{Struck, Written, Found, Named}
use Rattle.lf_model.specs.Records.BusMemory.{Memory, words_asked, with_answer, names_word, with_names, memory_start, memory_turn, memory_after}
use Rattle.lf_model.specs.NumberedFlips.{numbered_flips}
use Rattle.lf_model.specs.declared.bus.Transfer.{Transfer}
use Rattle.lf_model.specs.declared.flip.Flip.{Flip}
use Rattle.lf_model.specs.declared.flip.Flip.TheVariants.{Mem, Reg, Tag, Line}
use Rattle.lf_model.specs.declared.trace.Word2.{Word2}
use Rattle.bus_memory.proofs.NamedWord.{same_write}
use Rattle.bus_memory.proofs.WordRun.{strike_one, strikes_one, strikes_map, turn_one, turn_map}
use Rattle.bus_memory.proofs.WriteLemmas.{word_after}

-- a history, and a word, without its namings
abbrev unnamed : List Moment → List Moment
unnamed [] = []
unnamed (Struck number bit ∷ h) = Struck number bit ∷ unnamed h
unnamed (Written how ∷ h) = Written how ∷ unnamed h
unnamed (Found ∷ h) = Found ∷ unnamed h
unnamed (Named ∷ h) = unnamed h

abbrev unnamed_word : Word → Word
unnamed_word w = record w { history = unnamed w.history }

-- the same flips stand
stands_unnamed : (budget : ℕ) (h : List Moment) → standing budget (unnamed h) ≡ standing budget h
stands_unnamed budget [] = refl
stands_unnamed budget (Struck number bit ∷ h) = ap (struck budget number bit) (stands_unnamed budget h)
stands_unnamed budget (Written how ∷ h) = refl
stands_unnamed budget (Found ∷ h) = stands_unnamed budget h
stands_unnamed budget (Named ∷ h) = stands_unnamed budget h

-- ---- a turn

strike_unnamed : (turn number : ℕ) (flip : Flip) (w : Word) → unnamed_word (strike_one turn number flip w) ≡ strike_one turn number flip (unnamed_word w)
strike_unnamed turn number (Mem t addr bit) w = by (nat_eq t turn) (nat_eq w.addr addr)
  where
    by : (b c : Bool) → unnamed_word (cond b (cond c (record w { history = Struck number bit ∷ w.history }) w) w)
        ≡ cond b (cond c (record w { history = Struck number bit ∷ unnamed w.history }) (unnamed_word w)) (unnamed_word w)
    by true true = refl
    by true false = refl
    by false c = refl
strike_unnamed turn number (Reg core step cell bit) w = refl
strike_unnamed turn number (Tag core step fetch way set byte bit) w = refl
strike_unnamed turn number (Line core step fetch way set byte bit) w = refl

strikes_unnamed : (turn : ℕ) (flips : List (ℕ × Flip)) (w : Word) → unnamed_word (strikes_one turn flips w) ≡ strikes_one turn flips (unnamed_word w)
strikes_unnamed turn [] w = refl
strikes_unnamed turn (flip ∷ flips) w =
    strikes_unnamed turn flips (strike_one turn flip.0 flip.1 w) ∙ ap (strikes_one turn flips) (strike_unnamed turn flip.0 flip.1 w)

written_unnamed : (how : Option How) (h : List Moment) → unnamed (with_write how h) ≡ with_write how (unnamed h)
written_unnamed None h = refl
written_unnamed (Some how) h = refl

after_unnamed : (t : Transfer) (w : Word) → unnamed_word (word_after t w) ≡ word_after t (unnamed_word w)
after_unnamed t w =
    ap (λ (h : List Moment). record w { history = h })
    (written_unnamed (write_by t w) w.history
    ∙ ap (λ (how : Option How). with_write how (unnamed w.history))
    (ap (λ (how : Option How). cond (has_address t && touches_word t.addr t.len w.addr t.kind) how None)
    (sym (same_write w.history (unnamed w.history) (stands_unnamed word_budget w.history) t.len t.kind))))

names_unnamed : (named : List Word2) (turn : ℕ) (w : Word) → unnamed_word (with_names named turn w) ≡ unnamed_word w
names_unnamed named turn w = by (names_word named turn w.addr)
  where
    by : (b : Bool) → unnamed_word (cond b (record w { history = Named ∷ w.history }) w) ≡ unnamed_word w
    by true = refl
    by false = refl

module _ (script : List Flip) where
  turn_unnamed : (named : List Word2) (turn : ℕ) (t : Transfer) (w : Word) → unnamed_word (turn_one script named turn t w) ≡ turn_one script [] turn t (unnamed_word w)
  turn_unnamed named turn t w =
      names_unnamed named turn (word_after t (strikes_one turn (numbered_flips script) w))
      ∙ after_unnamed t (strikes_one turn (numbered_flips script) w)
      ∙ ap (word_after t) (strikes_unnamed turn (numbered_flips script) w)

  -- ---- words that differ by namings alone

  map_same_all : (f g : Word → Word) → ((w : Word) → f w ≡ g w) → (ws : List Word) → map f ws ≡ map g ws
  map_same_all f g same [] = refl
  map_same_all f g same (w ∷ ws) = ap₂ (λ (v : Word) (vs : List Word). v ∷ vs) (same w) (map_same_all f g same ws)

  -- what is done with each word commutes with leaving its namings out
  through : (f g : Word → Word) → ((w : Word) → unnamed_word (f w) ≡ g (unnamed_word w)) → (ws : List Word) → map unnamed_word (map f ws) ≡ map g (map unnamed_word ws)
  through f g same ws =
      map-map unnamed_word f ws ∙ map_same_all (λ w. unnamed_word (f w)) (λ w. g (unnamed_word w)) same ws ∙ sym (map-map g unnamed_word ws)

  history_unnamed : (addr : ℕ) (ws : List Word) → word_history (map unnamed_word ws) addr ≡ unnamed (word_history ws addr)
  history_unnamed addr [] = refl
  history_unnamed addr (w ∷ ws) = by (nat_eq w.addr addr) (history_unnamed addr ws)
    where
      by : (b : Bool) → word_history (map unnamed_word ws) addr ≡ unnamed (word_history ws addr)
          → option_map_or history_of (cond b (Some (unnamed_word w)) (find (is_at addr) (map unnamed_word ws))) [] ≡ unnamed (option_map_or history_of (cond b (Some w) (find (is_at addr) ws)) [])
      by true rest = refl
      by false rest = rest

  syndrome_unnamed : (ws : List Word) (addr : ℕ) → syndrome (word_history (map unnamed_word ws) addr) ≡ syndrome (word_history ws addr)
  syndrome_unnamed ws addr =
      ap syndrome (history_unnamed addr ws) ∙ ap (λ (flips : List Standing). columns_sum (turned word_bits flips)) (stands_unnamed word_budget (word_history ws addr))

  answer_unnamed : (ws : List Word) (t : Transfer) → with_answer (map unnamed_word ws) t ≡ with_answer ws t
  answer_unnamed ws t = ap (λ (syns : List ℕ). record t { words = length (words_asked t); syn = packed syns }) (each (words_asked t))
    where
      each : (addrs : List ℕ) → map (λ addr. syndrome (word_history (map unnamed_word ws) addr)) addrs ≡ map (λ addr. syndrome (word_history ws addr)) addrs
      each [] = refl
      each (addr ∷ addrs) = ap₂ (λ (a : ℕ) (as_ : List ℕ). a ∷ as_) (syndrome_unnamed ws addr) (each addrs)

  pub answer_same : (ws vs : List Word) (t : Transfer) → map unnamed_word ws ≡ map unnamed_word vs → with_answer ws t ≡ with_answer vs t
  answer_same ws vs t same = sym (answer_unnamed ws t) ∙ ap (λ (us : List Word). with_answer us t) same ∙ answer_unnamed vs t

  begun_unnamed : (turn : ℕ) (ws : List Word) → map unnamed_word (words_begun script turn ws) ≡ map (strikes_one turn (numbered_flips script)) (map unnamed_word ws)
  begun_unnamed turn ws =
      ap (map unnamed_word) (strikes_map turn (numbered_flips script) ws)
      ∙ through (strikes_one turn (numbered_flips script)) (strikes_one turn (numbered_flips script)) (strikes_unnamed turn (numbered_flips script)) ws

  begun_same : (turn : ℕ) (ws vs : List Word) → map unnamed_word ws ≡ map unnamed_word vs → map unnamed_word (words_begun script turn ws) ≡ map unnamed_word (words_begun script turn vs)
  begun_same turn ws vs same = begun_unnamed turn ws ∙ ap (map (strikes_one turn (numbered_flips script))) same ∙ sym (begun_unnamed turn vs)

  turn_words : (named : List Word2) (turn : ℕ) (t : Transfer) (ws : List Word)
      → map unnamed_word (map (with_names named turn) (words_after t None (words_begun script turn ws))) ≡ map (turn_one script [] turn t) (map unnamed_word ws)
  turn_words named turn t ws =
      ap (map unnamed_word) (turn_map script named turn t ws) ∙ through (turn_one script named turn t) (turn_one script [] turn t) (turn_unnamed named turn t) ws

  -- ---- all turns

  pub record Same (m n : Memory) : Type 0 where
    pub words : map unnamed_word m.words ≡ map unnamed_word n.words
    pub turns : m.turns ≡ n.turns
    pub answers : m.answers ≡ n.answers

  same_turn : (named : List Word2) (m n : Memory) (t : Transfer) → Same m n → Same (memory_turn script named m t) (memory_turn script [] n t)
  same_turn named m n t same = record {
    words =
        turn_words named m.turns t m.words
        ∙ ap₂ (λ (turn : ℕ) (ws : List Word). map (turn_one script [] turn t) ws) same.turns same.words
        ∙ sym (turn_words [] n.turns t n.words);
    turns = ap (λ (turn : ℕ). turn + 1) same.turns;
    answers =
        ap₂ (λ (answers : List Transfer) (answer : Transfer). answers ++ answer ∷ []) same.answers
        (answer_same (words_begun script m.turns m.words) (words_begun script m.turns n.words) t (begun_same m.turns m.words n.words same.words)
        ∙ ap (λ (turn : ℕ). with_answer (words_begun script turn n.words) t) same.turns);
  }

  pub same_turns : (named : List Word2) (m n : Memory) (ts : List Transfer) → Same m n → Same (fold (memory_turn script named) m ts) (fold (memory_turn script []) n ts)
  same_turns named m n [] same = same
  same_turns named m n (t ∷ ts) same = same_turns named (memory_turn script named m t) (memory_turn script [] n t) ts (same_turn named m n t same)

  pub answers_named : (named : List Word2) (ts : List Transfer) → (memory_after script named ts).answers ≡ (memory_after script [] ts).answers
  answers_named named ts = (same_turns named (memory_start script) (memory_start script) ts (record { words = refl; turns = refl; answers = refl })).answers
