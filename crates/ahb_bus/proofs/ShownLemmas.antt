-- What a turn of the bus answers, by the transfer that it makes: which words were bad, their syndromes, and the numbers that the log
-- leaves in the others.
use Rattle.std.proofs.Common.{◌≡◌, ℕ, zero, suc, ◌+◌, ◌*◌, ◌%◌, ◌<◌, ◌≤◌, ◌&&◌, Bool, true, false, not, nat_le, nat_lt, cond, IsTrue, Result, Ok, Err, List, [], ◌∷◌, ◌++◌, length, map, slice_index, slice_index_or, refl, sym, ap, ◌∙◌, arith}
use Rattle.std.specs.Prelude.{is_ok}
use Rattle.std.specs.List.{range_with_len}
use Rattle.std.proofs.lemmas.Bool.{and_parts, leb-true}
use Rattle.std.proofs.lemmas.Bool.Decides.{nat_tests}
use Rattle.std.proofs.lemmas.List.FromFn.{get_or-map-range_with_len}
use Rattle.bus_memory.specs.MemoryState.{words_met, is_bad_at, syndrome_at, value_at, word_shown, line_shown, store_answer, read_answer, reads_line}
use Rattle.lf_model.proofs.BusLemmas.{successful-enters}
use Rattle.lf_model.specs.Bus.Words.{word_of, words_of_line}
use Rattle.lf_model.specs.Course.Syndromes.{is_bad_syndrome, syndromes_of, met_bad, enters_log}
use Rattle.lf_model.specs.Records.AllRecords.{number_left}
use Rattle.lf_model.specs.Start.{ram_first, is_in_ram}
use Rattle.lf_model.specs.declared.bus.Bad.{Bad}
use Rattle.lf_model.specs.declared.bus.Entry.{Entry}
use Rattle.lf_model.specs.declared.bus.Pending.{Pending}
use Rattle.lf_model.specs.declared.bus.Transfer.{Transfer}
use Rattle.lf_model.specs.declared.bus.TurnKind.TheVariants.{Store, Atomic}
use Rattle.lf_model.specs.declared.bus.Why.{Why}
use Rattle.lf_model.specs.declared.bus.Why.TheVariants as whys
use Rattle.ram_words.specs.Ram.{place_of}
use Rattle.ram_words.specs.declared.answer.Got.{Got}
use Rattle.ahb_bus.specs.BusOk.{BusOk}
use Rattle.ahb_bus.specs.BusState.{BusState, memory_of, asked_by, answered, is_lost, meets_bad, store_entry, atomic_entry, stored_by, exchanged_by}
use Rattle.ahb_bus.specs.declared.record.Who.{Who}
use Rattle.ahb_bus.proofs.AnsweredLemmas.{syndromes_read, store_successful, atomic_successful}
use Rattle.ahb_bus.proofs.NotingLemmas.{bad_at, line_asked}
use Rattle.ahb_bus.proofs.TakenLemmas.{first_in}

-- element j of a list that a function makes
nth_map : {X : Type 0} (f : ℕ → X) (xs : List ℕ) (j : ℕ) (d : X) → j < length xs → slice_index_or (map f xs) j d ≡ f (slice_index xs j)
nth_map f [] j d within = absurd (omega arith)
nth_map f (x ∷ xs) zero d within = refl
nth_map f (x ∷ xs) (suc j) d within = nth_map f xs j d (omega (arith, within))

-- a word of a line in RAM
word_inside : (ram line j : ℕ) → j < 8 → IsTrue (is_in_ram ram line 32) → IsTrue (is_in_ram ram (line + 4 * j) 4)
word_inside ram line j within inside = grind (arith, nat_tests)

ok_unless : (lost : Bool) {T : Type 0} (bad : Bad) (got : T) → is_ok {T = T} {E = Bad} (cond lost (Err bad) (Ok got)) ≡ not lost
ok_unless true bad got = refl
ok_unless false bad got = refl

entry_unless : (lost : Bool) (e : Entry) → cond lost [] (e ∷ []) ≡ cond (not lost) (e ∷ []) []
entry_unless true e = refl
entry_unless false e = refl

-- what an answer has
abbrev error_addr : {T : Type 0} → Result T Bad → ℕ
error_addr (Ok got) = 0
error_addr (Err bad) = bad.addr

abbrev error_syndrome : {T : Type 0} → Result T Bad → ℕ
error_syndrome (Ok got) = 0
error_syndrome (Err bad) = bad.syn

abbrev got_value : Result Got Bad → ℕ
got_value (Ok got) = got.value
got_value (Err bad) = 0

-- ---- a word of memory

module _ (bus : BusState) (ok : BusOk bus) where
  -- it holds the number that the log leaves
  pub value_left : (addr : ℕ) → addr % 4 ≡ 0 → IsTrue (is_in_ram bus.setup.config.ram addr 4) → value_at (memory_of bus) addr ≡ number_left bus.setup.image bus.log addr
  value_left addr aligned inside =
      let tests = and_parts (nat_le ram_first addr) (nat_le (addr + 4) (ram_first + bus.setup.config.ram)) inside in
      let low = leb-true ram_first addr tests.0 in
      let high = leb-true (addr + 4) (ram_first + bus.setup.config.ram) tests.1 in
      let size = ok.size in
      ok.memory_is (place_of addr) (omega (arith, low, high, size, aligned))
      ∙ ap (number_left bus.setup.image bus.log) (let e : ram_first + 4 * place_of addr ≡ addr = omega (arith, low, aligned) in e)

  -- ---- a line: of a fill, or a look

  module _ (asked : Transfer) (reads : reads_line asked.kind ≡ true) where
    pub line_syndromes : syndromes_of (answered bus asked) ≡ (line_shown (memory_of bus) asked.addr).syn
    line_syndromes =
        syndromes_read (words_met (memory_of bus)) asked ∙ ap (map (syndrome_at (memory_of bus))) (line_asked asked.addr asked.len asked.kind reads)

    pub line_bad : (j : ℕ) → met_bad (answered bus asked) j ≡ slice_index_or (line_shown (memory_of bus) asked.addr).bad j false
    line_bad j =
        ap (λ (syndromes : List ℕ). is_bad_syndrome (slice_index syndromes j)) line_syndromes
        ∙ bad_at (memory_of bus) (words_of_line asked.addr) j

    at_word : (j : ℕ) → j < 8 → slice_index (map (λ i. asked.addr + 4 * i) (range_with_len 0 8)) j ≡ asked.addr + 4 * j
    at_word j within = get_or-map-range_with_len (λ i. asked.addr + 4 * i) 0 8 j j 0 within (omega arith)

    pub line_word : (j : ℕ) → j < 8 → asked.addr % 32 ≡ 0 → IsTrue (is_in_ram bus.setup.config.ram asked.addr 32) → met_bad (answered bus asked) j ≡ false
        → slice_index (line_shown (memory_of bus) asked.addr).words j ≡ number_left bus.setup.image bus.log (asked.addr + 4 * j)
    line_word j within aligned inside good =
        let here = at_word j within in
        let fine : is_bad_at (memory_of bus) (asked.addr + 4 * j) ≡ false =
        ap (is_bad_at (memory_of bus)) (sym here) ∙ sym (nth_map (is_bad_at (memory_of bus)) (words_of_line asked.addr) j false within) ∙ sym (line_bad j) ∙ good in
        nth_map (word_shown (memory_of bus)) (words_of_line asked.addr) j 0 within
        ∙ ap (word_shown (memory_of bus)) here
        ∙ ap (λ (b : Bool). cond b 0 (value_at (memory_of bus) (asked.addr + 4 * j))) fine
        ∙ value_left (asked.addr + 4 * j) (omega (arith, aligned)) (word_inside bus.setup.config.ram asked.addr j within inside)

  -- ---- a store

  module _ (w : Who) (why : Why) (p : Pending) (some : 1 ≤ p.len) (inside : IsTrue (is_in_ram bus.setup.config.ram p.addr p.len)) where
    store_enters : not (is_lost bus p.addr p.len) ≡ enters_log (answered bus (asked_by bus w Store why p.addr 0 p.len))
    store_enters =
        sym (store_successful (words_met (memory_of bus)) (asked_by bus w Store why p.addr 0 p.len) refl)
        ∙ successful-enters bus.setup.config.ram (answered bus (asked_by bus w Store why p.addr 0 p.len)) (first_in bus.setup.config.ram p.addr p.len some inside)

    -- it is answered Ok exactly where its transfer enters the log
    pub store_shown : is_ok (store_answer (memory_of bus) p.addr p.len) ≡ enters_log (answered bus (asked_by bus w Store why p.addr 0 p.len))
    unfolding store_answer
    store_shown = ok_unless (is_lost bus p.addr p.len) _ _ ∙ store_enters

    -- and has its entry there
    pub store_log : (stored_by w why p bus).log ≡ bus.log ++ cond (enters_log (answered bus (asked_by bus w Store why p.addr 0 p.len))) (store_entry w p ∷ []) []
    store_log = ap (λ (es : List Entry). bus.log ++ es) (entry_unless (is_lost bus p.addr p.len) (store_entry w p) ∙ ap (λ (b : Bool). cond b (store_entry w p ∷ []) []) store_enters)

    -- else the answer names its word, and the syndrome
    pub store_bad : (bad : Bad) → store_answer (memory_of bus) p.addr p.len ≡ Err bad
        → (bad.addr ≡ word_of p.addr) × (bad.syn ≡ slice_index (syndromes_of (answered bus (asked_by bus w Store why p.addr 0 p.len))) 0)
    unfolding store_answer
    store_bad bad is = by (nat_lt p.len 4) (meets_bad bus p.addr) refl is
      where
        read : nat_lt p.len 4 ≡ true → slice_index (syndromes_of (answered bus (asked_by bus w Store why p.addr 0 p.len))) 0 ≡ syndrome_at (memory_of bus) (word_of p.addr)
        read short = ap (λ (xs : List ℕ). slice_index xs 0)
            (syndromes_read (words_met (memory_of bus)) (asked_by bus w Store why p.addr 0 p.len)
            ∙ ap (λ (b : Bool). map (syndrome_at (memory_of bus)) (cond b (word_of p.addr ∷ []) [])) short)

        by : (short lost : Bool) → nat_lt p.len 4 ≡ short
            → cond (short && lost) (Err (record { addr = word_of p.addr; syn = syndrome_at (memory_of bus) (word_of p.addr) })) (Ok (cond short (syndrome_at (memory_of bus) (word_of p.addr)) 0)) ≡ Err bad
            → (bad.addr ≡ word_of p.addr) × (bad.syn ≡ slice_index (syndromes_of (answered bus (asked_by bus w Store why p.addr 0 p.len))) 0)
        by true true short is = (sym (ap error_addr is), sym (ap error_syndrome is) ∙ sym (read short))
        by true false short is = absurd cc
        by false lost short is = absurd cc

  -- ---- an atomic

  module _ (w : Who) (p : Pending) (some : 1 ≤ p.len) (inside : IsTrue (is_in_ram bus.setup.config.ram p.addr p.len)) where
    atomic_enters : not (meets_bad bus p.addr) ≡ enters_log (answered bus (asked_by bus w Atomic whys.None p.addr 0 p.len))
    atomic_enters =
        sym (atomic_successful (words_met (memory_of bus)) (asked_by bus w Atomic whys.None p.addr 0 p.len) refl)
        ∙ successful-enters bus.setup.config.ram (answered bus (asked_by bus w Atomic whys.None p.addr 0 p.len)) (first_in bus.setup.config.ram p.addr p.len some inside)

    pub atomic_shown : is_ok (read_answer (memory_of bus) (word_of p.addr)) ≡ enters_log (answered bus (asked_by bus w Atomic whys.None p.addr 0 p.len))
    unfolding read_answer
    atomic_shown = ok_unless (meets_bad bus p.addr) _ _ ∙ atomic_enters

    pub atomic_log : (exchanged_by w p bus).log
        ≡ bus.log ++ cond (enters_log (answered bus (asked_by bus w Atomic whys.None p.addr 0 p.len))) (atomic_entry w p (value_at (memory_of bus) (word_of p.addr)) ∷ []) []
    atomic_log =
        ap (λ (es : List Entry). bus.log ++ es)
        (entry_unless (meets_bad bus p.addr) (atomic_entry w p (value_at (memory_of bus) (word_of p.addr)))
        ∙ ap (λ (b : Bool). cond b (atomic_entry w p (value_at (memory_of bus) (word_of p.addr)) ∷ []) []) atomic_enters)

    pub atomic_bad : (bad : Bad) → read_answer (memory_of bus) (word_of p.addr) ≡ Err bad
        → (bad.addr ≡ word_of p.addr) × (bad.syn ≡ slice_index (syndromes_of (answered bus (asked_by bus w Atomic whys.None p.addr 0 p.len))) 0)
    unfolding read_answer
    atomic_bad bad is = by (meets_bad bus p.addr) is
      where
        read : slice_index (syndromes_of (answered bus (asked_by bus w Atomic whys.None p.addr 0 p.len))) 0 ≡ syndrome_at (memory_of bus) (word_of p.addr)
        read = ap (λ (xs : List ℕ). slice_index xs 0) (syndromes_read (words_met (memory_of bus)) (asked_by bus w Atomic whys.None p.addr 0 p.len))

        by : (lost : Bool)
            → cond {A = Result Got Bad} lost (Err (record { addr = word_of p.addr; syn = syndrome_at (memory_of bus) (word_of p.addr) })) (Ok (record { value = value_at (memory_of bus) (word_of p.addr); syn = syndrome_at (memory_of bus) (word_of p.addr) })) ≡ Err bad
            → (bad.addr ≡ word_of p.addr) × (bad.syn ≡ slice_index (syndromes_of (answered bus (asked_by bus w Atomic whys.None p.addr 0 p.len))) 0)
        by true is = (sym (ap error_addr is), sym (ap error_syndrome is) ∙ sym read)
        by false is = absurd cc

    -- the word that it read
    pub atomic_word : (got : Got) → IsTrue (is_in_ram bus.setup.config.ram (word_of p.addr) 4) → read_answer (memory_of bus) (word_of p.addr) ≡ Ok got
        → got.value ≡ number_left bus.setup.image bus.log (word_of p.addr)
    unfolding read_answer
    atomic_word got within is = by (meets_bad bus p.addr) is ∙ value_left (word_of p.addr) (omega arith) within
      where
        by : (lost : Bool)
            → cond {A = Result Got Bad} lost (Err (record { addr = word_of p.addr; syn = syndrome_at (memory_of bus) (word_of p.addr) })) (Ok (record { value = value_at (memory_of bus) (word_of p.addr); syn = syndrome_at (memory_of bus) (word_of p.addr) })) ≡ Ok got
            → got.value ≡ value_at (memory_of bus) (word_of p.addr)
        by true is = absurd cc
        by false is = sym (ap got_value is)
