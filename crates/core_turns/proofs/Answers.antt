-- What a turn answers is by the transfer that it made: the lowest bad word of those that it wants, if there is one.
use Rattle.std.proofs.Common.{◌≡◌, ◌∙◌, ◌+◌, ◌*◌, ◌≤◌, ◌&&◌, ◌||◌, ℕ, true, false, Bool, not, nat_lt, IsTrue, Result, Ok, Err, List, [], ◌∷◌, Option, Some, None, length, find, refl, ap, sym, arith, if◌then◌else◌}
use Rattle.std.proofs.lemmas.List.{length-map}
use Rattle.std.specs.List.{list_any}
use Rattle.std.specs.Prelude.{slice_index, is_ok}
use Rattle.ahb_bus.proofs.AnsweredLemmas.{syndrome_in, syndromes_read}
use Rattle.ahb_bus.proofs.ShownLemmas.{line_syndromes, line_bad, store_shown, store_bad, atomic_shown, atomic_bad}
use Rattle.ahb_bus.specs.BusOk.{BusOk}
use Rattle.ahb_bus.specs.BusState.{BusState, memory_of, asked_by, answered}
use Rattle.ahb_bus.specs.declared.record.Who.{Who}
use Rattle.bus_memory.specs.MemoryState.{words_met, line_shown, reads_line, store_answer, read_answer}
use Rattle.core_parts.specs.Fills.{is_bad_in, lowest_bad, IsAnswered}
use Rattle.core_parts.specs.Fills.{bad_word as word_in}
use Rattle.core_parts.specs.Needs.{kind_of, IsLoadOf, IsTurnOf}
use Rattle.lf_model.specs.Bus.Words.{word_of}
use Rattle.lf_model.specs.Caches.Slot.{line_of, wanted_words}
use Rattle.lf_model.specs.Course.Syndromes.{is_bad_syndrome, syndromes_of, met_bad, has_address, enters_log}
use Rattle.lf_model.specs.Course.Turned.{valid_by, load_wants, turn_wants, bad_wanted}
use Rattle.lf_model.specs.Effect.{Access, Effect}
use Rattle.lf_model.specs.Records.BusMemory.{words_asked}
use Rattle.lf_model.specs.TransferLines.{makes_entry}
use Rattle.lf_model.specs.Start.{is_text_word, is_in_ram}
use Rattle.lf_model.specs.declared.bus.Bad.{Bad}
use Rattle.lf_model.specs.declared.bus.Line.{Line}
use Rattle.lf_model.specs.declared.bus.Pending.{Pending}
use Rattle.lf_model.specs.declared.bus.Transfer.{Transfer}
use Rattle.lf_model.specs.declared.bus.TurnKind.TheVariants as kinds
use Rattle.lf_model.specs.declared.bus.Why.{Why}
use Rattle.lf_model.specs.declared.bus.Why.TheVariants as whys
use Rattle.lf_model.specs.declared.image.Image.{Image}
use Rattle.lf_model.specs.declared.step.Did.{Did}
use Rattle.lf_model.specs.declared.step.Turn.{Turn}
use Rattle.lf_model.specs.declared.step.Turn.TheVariants.{Fetch, Load, Atomic, Drain, Snoop}
use Rattle.core_turns.specs.AfterTurn.{text_valid, data_valid}
use Rattle.core_turns.specs.AskedTurn.{wants, made_good, bad_word, comes_to, turn_answer}

-- ---- the words that a turn wants are those of the definitions

load_words : (addr len : ℕ) (access : Option Access) → IsLoadOf addr len access → load_wants access ≡ wanted_words addr len
load_words addr len None is = absurd is
load_words addr len (Some x) is = rw (is.1.0, is.1.1) refl

words_wanted : (pc : ℕ) (e : Effect) (turn : Turn) → IsTurnOf pc e turn → turn_wants pc e (kind_of turn) ≡ wants pc turn
words_wanted pc e (Fetch line why) is = refl
words_wanted pc e (Load addr len why) is = load_words addr len e.access is
words_wanted pc e (Atomic addr len new rd) is = refl
words_wanted pc e (Drain why) is = refl
words_wanted pc e Snoop is = refl

pub wanted : (pc : ℕ) (e : Effect) (turn : Turn) (t : Transfer) → IsTurnOf pc e turn → t.kind ≡ kind_of turn → bad_wanted pc e t ≡ find (met_bad t) (wants pc turn)
wanted pc e turn t is kind = ap (find (met_bad t)) (ap (turn_wants pc e) kind ∙ words_wanted pc e turn is)

-- ---- the answer

abbrev bad_or : Bad → Result Did Bad → Bad
bad_or other (Ok did) = other
bad_or other (Err bad) = bad

good_by : (turn : Turn) (t : Transfer) (found : Option ℕ) (did : Did) → comes_to turn t found ≡ Ok did → found ≡ None
good_by turn t None did is = refl
good_by turn t (Some j) did is = absurd cc

-- a turn that goes well met no bad word that it wants
pub good : (pc : ℕ) (turn : Turn) (t : Transfer) (did : Did) → turn_answer pc turn t ≡ Ok did → find (met_bad t) (wants pc turn) ≡ None
good pc turn t did is = good_by turn t (find (met_bad t) (wants pc turn)) did is

bad_by : (turn : Turn) (t : Transfer) (found : Option ℕ) (bad : Bad) → comes_to turn t found ≡ Err bad → (j : ℕ) × ((found ≡ Some j) × (bad_word t j ≡ bad))
bad_by turn t None bad is = absurd cc
bad_by turn t (Some j) bad is = (j, (refl, ap (bad_or bad) is))

-- another met one, and names the lowest
pub met : (pc : ℕ) (turn : Turn) (t : Transfer) (bad : Bad) → turn_answer pc turn t ≡ Err bad
    → (j : ℕ) × ((find (met_bad t) (wants pc turn) ≡ Some j) × (bad_word t j ≡ bad))
met pc turn t bad is = bad_by turn t (find (met_bad t) (wants pc turn)) bad is

same_bad : (bad : Bad) (addr syn : ℕ) → bad.addr ≡ addr → bad.syn ≡ syn → bad ≡ record { addr = addr; syn = syn }
same_bad bad addr syn at is = rw (sym at, sym is) refl

-- ---- a fill

find_same : (f h : ℕ → Bool) → ((j : ℕ) → f j ≡ h j) → (js : List ℕ) → find f js ≡ find h js
find_same f h same [] = refl
find_same f h same (j ∷ js) = rw (same j, find_same f h same js) refl

pub valid_same : (f h : ℕ → Bool) → ((j : ℕ) → f j ≡ h j) → valid_by f ≡ valid_by h
valid_same f h same = rw (same 0, same 1, same 2, same 3, same 4, same 5, same 6, same 7) refl

module _ (line : Line) (addr : ℕ) where
  none_bad : {U : Type 0} (found : Option ℕ) (u : U) → IsAnswered line addr found (Ok u) → found ≡ None
  none_bad None u is = refl
  none_bad (Some j) u is = absurd is

  one_bad : (U : Type 0) (found : Option ℕ) (bad : Bad) → IsAnswered {U = U} line addr found (Err bad) → (j : ℕ) × ((found ≡ Some j) × (bad ≡ word_in line addr j))
  one_bad U None bad is = absurd is
  one_bad U (Some j) bad is = (j, (refl, is))

module _ (bus : BusState) (ok : BusOk bus) (asked : Transfer) (reads : reads_line asked.kind ≡ true) (line : Line) (shown : line ≡ line_shown (memory_of bus) asked.addr) where
  abbrev t : Transfer
  t = answered bus asked

  pub bad_in_line : (j : ℕ) → is_bad_in line j ≡ met_bad t j
  bad_in_line j = ap (λ l. is_bad_in l j) shown ∙ sym (line_bad bus ok asked reads j)

  pub syndrome_in_line : (j : ℕ) → slice_index line.syn j ≡ slice_index (syndromes_of t) j
  syndrome_in_line j = ap (λ (l : Line). slice_index l.syn j) shown ∙ ap (λ xs. slice_index xs j) (sym (line_syndromes bus ok asked reads))

  -- the first bad one of some words of the line
  pub found_in_line : (js : List ℕ) → find (is_bad_in line) js ≡ find (met_bad t) js
  found_in_line js = find_same (is_bad_in line) (met_bad t) bad_in_line js

  pub data_bits : valid_by (λ j. not (is_bad_in line j)) ≡ data_valid t
  unfolding data_valid
  data_bits = valid_same (λ j. not (is_bad_in line j)) (λ j. not (met_bad t j)) (λ j. ap not (bad_in_line j))

  pub text_bits : (image : Image) → valid_by (λ j. not (is_bad_in line j) && is_text_word image.text (asked.addr + 4 * j)) ≡ text_valid image t
  unfolding text_valid
  text_bits image =
      valid_same (λ j. not (is_bad_in line j) && is_text_word image.text (asked.addr + 4 * j)) (λ j. not (met_bad t j) && is_text_word image.text (asked.addr + 4 * j))
      (λ j. ap (λ b. not b && is_text_word image.text (asked.addr + 4 * j)) (bad_in_line j))

  -- a fill whose turn wants the words of an access in this line
  module _ (turn : Turn) (pc addr len : ℕ) (wanted_ : wants pc turn ≡ wanted_words addr len) where
    same_found : lowest_bad line addr len ≡ find (met_bad t) (wants pc turn)
    same_found = found_in_line (wanted_words addr len) ∙ ap (find (met_bad t)) (sym wanted_)

    pub fill_good : {U : Type 0} (u : U) → IsAnswered line addr (lowest_bad line addr len) (Ok u) → Ok (made_good turn) ≡ turn_answer pc turn t
    fill_good u is = ap (comes_to turn t) (sym (none_bad line addr (lowest_bad line addr len) u is) ∙ same_found)

    pub fill_met : (U : Type 0) (bad : Bad) → asked.addr ≡ line_of addr → IsAnswered {U = U} line addr (lowest_bad line addr len) (Err bad) → Err bad ≡ turn_answer pc turn t
    fill_met U bad at is =
        let word = one_bad line addr U (lowest_bad line addr len) bad is in
        ap (λ b. Err b) (word.1.1 ∙ same_word word.0) ∙ ap (comes_to turn t) (sym word.1.0 ∙ same_found)
      where
        same_word : (j : ℕ) → word_in line addr j ≡ bad_word t j
        same_word j = same_bad (word_in line addr j) (word_of t.addr + 4 * j) (slice_index (syndromes_of t) j) (omega (arith, at)) (syndrome_in_line j)

-- ---- a store, or an atomic

first_bad : (xs : List ℕ) → length xs ≤ 1 → is_bad_syndrome (slice_index xs 0) ≡ list_any is_bad_syndrome xs
first_bad [] few = refl
first_bad (x ∷ []) few = or_none (is_bad_syndrome x)
  where
    or_none : (b : Bool) → b ≡ (b || false)
    or_none true = refl
    or_none false = refl
first_bad (x ∷ y ∷ xs) few = absurd (omega (arith, few))

kept_if : (any : Bool) → any ≡ not (true && (true && not any))
kept_if true = refl
kept_if false = refl

-- it is bad exactly where it doesn't enter the log
one_word : (t : Transfer) → makes_entry t.kind ≡ true → has_address t ≡ true → length (syndromes_of t) ≤ 1 → met_bad t 0 ≡ not (enters_log t)
one_word t makes placed few = first_bad (syndromes_of t) few ∙ (kept_if (list_any is_bad_syndrome (syndromes_of t)) ∙ rw (makes, placed) refl)

alone : (turn : Turn) (t : Transfer) (enters : Bool) → met_bad t 0 ≡ not enters → comes_to turn t (find (met_bad t) (0 ∷ [])) ≡ (if enters then Ok (made_good turn) else Err (bad_word t 0))
alone turn t true is = rw is refl
alone turn t false is = rw is refl

few_words : (short : Bool) (addr : ℕ) → length (if short then word_of addr ∷ [] else []) ≤ 1
few_words true addr = omega arith
few_words false addr = omega arith

-- ---- a store

-- what a store answers, and an atomic, is what the turn does
abbrev pub did_by : {T : Type 0} → Turn → Result T Bad → Result Did Bad
did_by turn (Ok got) = Ok (made_good turn)
did_by turn (Err bad) = Err bad

by_entry : {T : Type 0} (turn : Turn) (t : Transfer) (r : Result T Bad) → is_ok r ≡ enters_log t → ((bad : Bad) → r ≡ Err bad → bad ≡ bad_word t 0)
    → did_by turn r ≡ (if enters_log t then Ok (made_good turn) else Err (bad_word t 0))
by_entry turn t (Ok got) is names = rw (sym is) refl
by_entry turn t (Err bad) is names = rw (sym is) (ap (λ b. Err b) (names bad refl))

named : (u : Transfer) (bad : Bad) → bad.addr ≡ word_of u.addr → bad.syn ≡ slice_index (syndromes_of u) 0 → bad ≡ bad_word u 0
named u bad at syn = same_bad bad (word_of u.addr + 4 * 0) (slice_index (syndromes_of u) 0) (at ∙ omega arith) syn

module _ (bus : BusState) (w : Who) where
  few_read : (asked : Transfer) → length (words_asked asked) ≤ 1 → length (syndromes_of (answered bus asked)) ≤ 1
  few_read asked few = omega (arith, few, ap length (syndromes_read (words_met (memory_of bus)) asked), length-map (words_asked asked) (syndrome_in (words_met (memory_of bus))))

  module _ (why : Why) (p : Pending) (some : 1 ≤ p.len) (inside : IsTrue (is_in_ram bus.setup.config.ram p.addr p.len)) (ok : BusOk bus) where
    abbrev drain : Transfer
    drain = answered bus (asked_by bus w kinds.Store why p.addr 0 p.len)

    pub drain_answer : (pc : ℕ) → has_address drain ≡ true → did_by (Drain why) (store_answer (memory_of bus) p.addr p.len) ≡ turn_answer pc (Drain why) drain
    drain_answer pc placed =
        by_entry (Drain why) drain (store_answer (memory_of bus) p.addr p.len) (store_shown bus ok w why p some inside)
        (λ bad is. let n = store_bad bus ok w why p some inside bad is in named drain bad n.0 n.1)
        ∙ sym (alone (Drain why) drain (enters_log drain) (one_word drain refl placed few))
      where
        few : length (syndromes_of drain) ≤ 1
        few = few_read (asked_by bus w kinds.Store why p.addr 0 p.len) (few_words (nat_lt p.len 4) p.addr)

  module _ (p : Pending) (some : 1 ≤ p.len) (inside : IsTrue (is_in_ram bus.setup.config.ram p.addr p.len)) (ok : BusOk bus) where
    abbrev exchange : Transfer
    exchange = answered bus (asked_by bus w kinds.Atomic whys.None p.addr 0 p.len)

    pub atomic_answer : (pc new rd : ℕ) → has_address exchange ≡ true
        → did_by (Atomic p.addr p.len new rd) (read_answer (memory_of bus) (word_of p.addr)) ≡ turn_answer pc (Atomic p.addr p.len new rd) exchange
    atomic_answer pc new rd placed =
        by_entry (Atomic p.addr p.len new rd) exchange (read_answer (memory_of bus) (word_of p.addr)) (atomic_shown bus ok w p some inside)
        (λ bad is. let n = atomic_bad bus ok w p some inside bad is in named exchange bad n.0 n.1)
        ∙ sym (alone (Atomic p.addr p.len new rd) exchange (enters_log exchange) (one_word exchange refl placed few))
      where
        few : length (syndromes_of exchange) ≤ 1
        few = few_read (asked_by bus w kinds.Atomic whys.None p.addr 0 p.len) (omega arith)
