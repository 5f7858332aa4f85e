-- The records of cores and bus together: where each transfer is right as its master's record and the bus's say, the run of all
-- masters makes just these transfers, with these words in memory and this walk of the scrubber.
use Rattle.std.proofs.Common.{◌≡◌, ◌∙◌, ◌+◌, ◌==◌, ◌++◌, ℕ, Bool, true, false, List, [], ◌∷◌, Option, Some, None, ◌<◌, nat_lt, length, fold, map, refl, ap, sym, subst, arith}
use Rattle.std.proofs.lemmas.Bool.{eq-eqb, lt-ltb}
use Rattle.std.proofs.lemmas.List.{append_assoc, append-nil, length-append, map-append}
use Rattle.std.proofs.lemmas.List.Sums.{fold-append}
use Rattle.std.proofs.lemmas.Option.{slice_get-map}
use Rattle.std.proofs.lemmas.Simd.{map-map}
use Rattle.std.specs.List.{slice_get}
use Rattle.std.specs.Option.{option_map}
use Rattle.lf_model.proofs.ReplayLemmas.{made_in, made_from, core_over, core_after_all, cores_after}
use Rattle.lf_model.specs.Bus.Replay.{Core, Made, Replay, core_start, name_of, replay_start, made_by_core, made_by_walk, made_turn, replay_turn, core_finished, replay_finished}
use Rattle.lf_model.specs.Bus.Walk.{Walk, scrubber, next_transfer, walk_start, walk_by, walk_after}
use Rattle.lf_model.specs.Bus.Words.{Word, words_begun, answered, with_name, write_by, with_write, words_after}
use Rattle.lf_model.specs.Course.Core.{Ground}
use Rattle.lf_model.specs.Course.Course.{up_to, course, finished}
use Rattle.lf_model.specs.Course.Outcome.{Need}
use Rattle.lf_model.specs.Course.Outcome.Need.{Turn}
use Rattle.lf_model.specs.Course.Progress.{Progress}
use Rattle.lf_model.specs.Course.Turn.{addressed}
use Rattle.lf_model.specs.Course.Turned.{bad_wanted}
use Rattle.lf_model.specs.Ledger.Account.{TurnAccount, without_length, turn_made, need_reported, turn_reported, core_account}
use Rattle.lf_model.specs.Ledger.CoreAccount.{core_by_course}
use Rattle.lf_model.specs.Records.BusMemory.{Memory, names_word, with_names, memory_start, memory_turn, memory_after}
use Rattle.lf_model.specs.Records.OwnTurns.{IsRightTurn, next_effect}
use Rattle.lf_model.specs.declared.bus.Transfer.{Transfer}
use Rattle.lf_model.specs.declared.setup.Setup.{Setup}
use Rattle.lf_model.specs.declared.trace.Word2.{Word2}

two : {A B D : Type 0} (f : A → B → D) {a a' : A} {b b' : B} → a ≡ a' → b ≡ b' → f a b ≡ f a' b'
two f p q = rw (p, q) refl

three : {A B C D : Type 0} (f : A → B → C → D) {a a' : A} {b b' : B} {c c' : C} → a ≡ a' → b ≡ b' → c ≡ c' → f a b c ≡ f a' b' c'
three f p q r = rw (p, q, r) refl

-- the word at this address is the one named, if one is
abbrev pub is_name : Option ℕ → ℕ → Bool
is_name None addr = false
is_name (Some a) addr = addr == a

module _ (setup : Setup) (grounds : List Ground) (named : List Word2) where
  -- all masters, memory and the walk after these transfers
  abbrev pub after : List Transfer → Replay
  after ts = fold (replay_turn setup) (replay_start setup grounds) ts

  abbrev pub words_at : List Transfer → List Word
  words_at ts = words_begun setup.flips (length ts) (memory_after setup.flips named ts).words

  -- the transfer after these names this word, or none
  abbrev pub IsNamed : List Transfer → Option ℕ → Type 0
  IsNamed pre name = (addr : ℕ) → names_word named (length pre) addr ≡ is_name name addr

  -- a transfer after these is right, as its master's record says: of the scrubber the next of its walk, which has turns left, at
  -- which no error trap names a word, and of a core its next turn
  pub data IsRight (pre : List Transfer) (t : Transfer) : Type 0 where
    ByScrubber : t.master ≡ scrubber → IsNamed pre None → (walk_after setup.config.scrub pre).turns < setup.config.scrub_turns
        → record (next_transfer (length pre) (walk_after setup.config.scrub pre) (walk_after setup.config.scrub pre).noted) { words = t.words; syn = t.syn } ≡ t
        → IsRight pre t
    ByCore : (g : Ground) → (t.master == scrubber) ≡ false → slice_get grounds t.master ≡ Some g → IsRightTurn g t (up_to g t (course g pre))
        → IsNamed pre (name_of g t (bad_wanted (up_to g t (course g pre)).run.state.ctl.pc (next_effect g (up_to g t (course g pre))) t))
        → IsRight pre t

  -- memory answers it so, at its turn
  pub record IsAnswered (pre : List Transfer) (t : Transfer) : Type 0 where
    pub turn : t.turn ≡ length pre
    pub answer : answered (words_at pre) t ≡ t

  -- what holds of the run after these transfers
  pub record Along (pre : List Transfer) : Type 0 where
    pub made : made_from setup (replay_start setup grounds) pre ≡ pre
    pub turns : (after pre).turns ≡ length pre
    pub words : (after pre).words ≡ (memory_after setup.flips named pre).words
    pub walk : (after pre).walk ≡ walk_after setup.config.scrub pre

  -- the cores are their courses
  pub along_cores : (pre : List Transfer) → Along pre → (after pre).cores ≡ map (core_after_all setup pre) grounds
  along_cores pre h =
      cores_after setup (replay_start setup grounds) pre
      ∙ (ap (λ us. map (core_over setup us) (map core_start grounds)) h.made
      ∙ map-map (core_over setup pre) core_start grounds)

  core_along : (pre : List Transfer) → Along pre → (n : ℕ) (g : Ground) → slice_get grounds n ≡ Some g → slice_get (after pre).cores n ≡ Some (core_after_all setup pre g)
  core_along pre h n g found = ap (λ cores. slice_get cores n) (along_cores pre h) ∙ (slice_get-map (core_after_all setup pre) grounds n ∙ ap (option_map (core_after_all setup pre)) found)

  by_scrubber : (r : Replay) (words : List Word) (t : Transfer) → (t.master == scrubber) ≡ true → nat_lt r.walk.turns setup.config.scrub_turns ≡ true
      → made_turn setup r words t ≡ made_by_walk words (next_transfer r.turns r.walk r.walk.noted)
  unfolding made_turn
  by_scrubber r words t e left = rw (e, left) refl

  turns_left : (pre : List Transfer) → Along pre → (walk_after setup.config.scrub pre).turns < setup.config.scrub_turns
      → nat_lt (after pre).walk.turns setup.config.scrub_turns ≡ true
  turns_left pre h left = rw h.walk (lt-ltb _ _ left)

  by_core : (r : Replay) (words : List Word) (t : Transfer) (c : Core) → (t.master == scrubber) ≡ false → slice_get r.cores t.master ≡ Some c
      → made_turn setup r words t ≡ made_by_core words (record t { turn = r.turns }) c
  unfolding made_turn
  by_core r words t c e found = rw (e, found) refl

  -- the core as the step of a transfer after these begins
  abbrev at_turn : Ground → List Transfer → Transfer → Progress
  at_turn g pre t = up_to g t (course g pre)

  abbrev answer_in : Ground → List Transfer → Transfer → ℕ → List Word → Transfer
  answer_in g pre t turns words =
      answered (words_begun setup.flips turns words) (addressed g (next_effect g (at_turn g pre t)) (at_turn g pre t) (record t { turn = turns }))

  core_transfer : (g : Ground) (pre : List Transfer) (t : Transfer) → Along pre → IsRightTurn g t (at_turn g pre t) → IsAnswered pre t
      → answer_in g pre t (after pre).turns (after pre).words ≡ t
  core_transfer g pre t h right ok =
      two (answer_in g pre t) h.turns h.words
      ∙ (ap (λ turn. answered (words_at pre) (addressed g (next_effect g (at_turn g pre t)) (at_turn g pre t) (record t { turn = turn }))) (sym ok.turn)
      ∙ (ap (answered (words_at pre)) right.placed ∙ ok.answer))

  -- the run makes the transfer
  pub transfer_made_right : (pre : List Transfer) (t : Transfer) → Along pre → IsRight pre t → IsAnswered pre t → made_in setup (after pre) t ≡ t
  transfer_made_right pre t h (ByScrubber master unnamed left placed) ok =
      ap (λ (m : Made). m.transfer) (by_scrubber (after pre) _ t (eq-eqb t.master scrubber master) (turns_left pre h left))
      ∙ (three (λ turns words walk. answered (words_begun setup.flips turns words) (next_transfer turns walk walk.noted)) h.turns h.words h.walk
      ∙ (ap (answered (words_at pre)) placed ∙ ok.answer))
  transfer_made_right pre t h (ByCore g other found right name) ok =
      ap (λ (m : Made). m.transfer) (by_core (after pre) _ t (core_after_all setup pre g) other (core_along pre h t.master g found))
      ∙ core_transfer g pre t h right ok

  -- and names the word that the records name
  pub name_made_right : (pre : List Transfer) (t : Transfer) → Along pre → IsRight pre t → IsAnswered pre t
      → IsNamed pre (made_turn setup (after pre) (words_begun setup.flips (after pre).turns (after pre).words) t).named
  name_made_right pre t h (ByScrubber master unnamed left placed) ok =
      subst (IsNamed pre) (sym (ap (λ (m : Made). m.named) (by_scrubber (after pre) _ t (eq-eqb t.master scrubber master) (turns_left pre h left)))) unnamed
  name_made_right pre t h (ByCore g other found right name) ok = subst (IsNamed pre) (sym (
      ap (λ (m : Made). m.named) (by_core (after pre) _ t (core_after_all setup pre g) other (core_along pre h t.master g found))
      ∙ ap (λ u. name_of g u (bad_wanted (at_turn g pre t).run.state.ctl.pc (next_effect g (at_turn g pre t)) u)) (core_transfer g pre t h right ok))) name

  -- ---- one transfer more

  memory_turns : (m : Memory) (ts : List Transfer) → (fold (memory_turn setup.flips named) m ts).turns ≡ m.turns + length ts
  memory_turns m [] = omega arith
  memory_turns m (t ∷ ts) = omega (arith, memory_turns (memory_turn setup.flips named m t) ts)

  made_from_more : (r : Replay) (ts us : List Transfer) → made_from setup r (ts ++ us) ≡ made_from setup r ts ++ made_from setup (fold (replay_turn setup) r ts) us
  made_from_more r [] us = refl
  made_from_more r (t ∷ ts) us = ap (λ vs. made_in setup r t ∷ vs) (made_from_more (replay_turn setup r t) ts us)

  after_one : (pre : List Transfer) (t : Transfer) → after (pre ++ t ∷ []) ≡ replay_turn setup (after pre) t
  after_one pre t = fold-append (replay_turn setup) (replay_start setup grounds) pre (t ∷ [])

  turn_turns : (r : Replay) (t : Transfer) → (replay_turn setup r t).turns ≡ r.turns + 1
  unfolding replay_turn
  turn_turns r t = refl

  turn_words : (r : Replay) (t : Transfer) → (replay_turn setup r t).words
      ≡ words_after (made_in setup r t) (made_turn setup r (words_begun setup.flips r.turns r.words) t).named (words_begun setup.flips r.turns r.words)
  unfolding replay_turn
  turn_words r t = refl

  turn_walk : (r : Replay) (t : Transfer) → (replay_turn setup r t).walk ≡ walk_by setup.config.scrub r.walk (made_in setup r t)
  unfolding replay_turn
  turn_walk r t = refl

  turns_after : (pre : List Transfer) → (memory_after setup.flips named pre).turns ≡ length pre
  turns_after pre = omega (arith, memory_turns (memory_start setup.flips) pre)

  memory_one : (pre : List Transfer) (t : Transfer) → (memory_after setup.flips named (pre ++ t ∷ [])).words ≡ map (with_names named (length pre)) (words_after t None (words_at pre))
  memory_one pre t =
      ap (λ (m : Memory). m.words) (fold-append (memory_turn setup.flips named) (memory_start setup.flips) pre (t ∷ []))
      ∙ ap (λ turns. map (with_names named turns) (words_after t None (words_begun setup.flips turns (memory_after setup.flips named pre).words))) (turns_after pre)

  name_given : (pre : List Transfer) (name : Option ℕ) → IsNamed pre name → (word : Word) → with_names named (length pre) word ≡ with_name name word
  name_given pre None is word = rw (is word.addr) refl
  name_given pre (Some a) is word = rw (is word.addr) refl

  abbrev written_by : Transfer → Word → Word
  written_by t word = record word { history = with_write (write_by t word) word.history }

  -- the words that the records name are those that the run names
  names_given : (pre : List Transfer) (name : Option ℕ) → IsNamed pre name → (t : Transfer) (words : List Word)
      → words_after t name words ≡ map (with_names named (length pre)) (words_after t None words)
  names_given pre name is t [] = refl
  names_given pre name is t (word ∷ words) = two (λ w ws. w ∷ ws) (sym (name_given pre name is (written_by t word))) (names_given pre name is t words)

  pub along_more : (pre : List Transfer) (t : Transfer) → Along pre → IsRight pre t → IsAnswered pre t → Along (pre ++ t ∷ [])
  along_more pre t h right ok = record {
    made = made_from_more (replay_start setup grounds) pre (t ∷ []) ∙ two (λ us u. us ++ u ∷ []) h.made (transfer_made_right pre t h right ok);
    turns = ap (λ (r : Replay). r.turns) (after_one pre t) ∙ (turn_turns (after pre) t ∙ (ap (λ n. n + 1) h.turns ∙ sym (length-append pre (t ∷ []))));
    words = ap (λ (r : Replay). r.words) (after_one pre t)
        ∙ (turn_words (after pre) t
        ∙ (names_given pre _ (name_made_right pre t h right ok) (made_in setup (after pre) t) _
        ∙ (two (λ u words. map (with_names named (length pre)) (words_after u None words)) (transfer_made_right pre t h right ok) (two (words_begun setup.flips) h.turns h.words)
        ∙ sym (memory_one pre t))));
    walk = ap (λ (r : Replay). r.walk) (after_one pre t)
        ∙ (turn_walk (after pre) t
        ∙ (two (walk_by setup.config.scrub) h.walk (transfer_made_right pre t h right ok)
        ∙ sym (fold-append (walk_by setup.config.scrub) (walk_start setup.config.scrub) pre (t ∷ []))));
  }

  pub along_start : Along []
  along_start = record { made = refl; turns = refl; words = refl; walk = refl }

  -- where each transfer is right, the run of all masters makes just these
  pub along_all : (pre ts : List Transfer) → Along pre → ((us vs : List Transfer) (t : Transfer) → ts ≡ us ++ t ∷ vs → IsRight (pre ++ us) t × IsAnswered (pre ++ us) t) → Along (pre ++ ts)
  along_all pre [] h each = subst (λ us. Along us) (sym (append-nil pre)) h
  along_all pre (t ∷ ts) h each =
      let here = each [] ts t refl in
      let first = subst (λ us. IsRight us t × IsAnswered us t) (append-nil pre) here in
      subst (λ us. Along us) (append_assoc pre (t ∷ []) ts)
      (along_all (pre ++ t ∷ []) ts (along_more pre t h first.0 first.1)
      (λ us vs u split. subst (λ ws. IsRight ws u × IsAnswered ws u) (sym (append_assoc pre (t ∷ []) us)) (each (t ∷ us) vs u (ap (λ ws. t ∷ ws) split))))

  -- ---- what the accounts of the run are

  abbrev needed_by : Transfer → Need
  needed_by t = Turn t.kind t.why

  -- what the step of each transfer, or the walk, needs is what it reports
  pub need_made_right : (pre : List Transfer) (t : Transfer) → Along pre → IsRight pre t
      → (made_turn setup (after pre) (words_begun setup.flips (after pre).turns (after pre).words) t).need ≡ need_reported t
  need_made_right pre t h (ByScrubber master unnamed left placed) =
      ap (λ (m : Made). m.need) (by_scrubber (after pre) _ t (eq-eqb t.master scrubber master) (turns_left pre h left))
      ∙ (two (λ turns (walk : Walk). needed_by (next_transfer turns walk walk.noted)) h.turns h.walk ∙ ap needed_by placed)
  need_made_right pre t h (ByCore g other found right name) =
      ap (λ (m : Made). m.need) (by_core (after pre) _ t (core_after_all setup pre g) other (core_along pre h t.master g found))
      ∙ right.needed

  turn_made_list : (r : Replay) (t : Transfer) → map turn_made (replay_turn setup r t).made
      ≡ map turn_made r.made ++ turn_made (made_turn setup r (words_begun setup.flips r.turns r.words) t) ∷ []
  unfolding replay_turn
  turn_made_list r t = map-append turn_made r.made _

  -- the account of a transfer as a trace reports it
  abbrev pub account_reported : Transfer → TurnAccount
  account_reported t = turn_reported (without_length t)

  account_of : Transfer → Need → TurnAccount
  account_of t need = record { transfer = without_length t; need = need }

  pub turns_right : (pre : List Transfer) (t : Transfer) → Along pre → IsRight pre t → IsAnswered pre t
      → map turn_made (after pre).made ≡ map account_reported pre → map turn_made (after (pre ++ t ∷ [])).made ≡ map account_reported (pre ++ t ∷ [])
  unfolding account_of
  turns_right pre t h right ok earlier =
      ap (λ (r : Replay). map turn_made r.made) (after_one pre t)
      ∙ (turn_made_list (after pre) t
      ∙ (two (λ us u. us ++ u ∷ []) earlier (two account_of (transfer_made_right pre t h right ok) (need_made_right pre t h right))
      ∙ sym (map-append account_reported pre (t ∷ []))))

  -- the account of each core is by its course over these transfers
  pub cores_accounted : (ts : List Transfer) → Along ts → map core_account (replay_finished (after ts)).cores ≡ map (λ g. core_by_course g (finished g (course g ts))) grounds
  cores_accounted ts h =
      map-map core_account core_finished (after ts).cores
      ∙ (ap (map (λ c. core_account (core_finished c))) (along_cores ts h) ∙ map-map (λ c. core_account (core_finished c)) (core_after_all setup ts) grounds)
