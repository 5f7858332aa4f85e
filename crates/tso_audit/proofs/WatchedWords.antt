-- What is left in RAM after all stores and atomics that reached memory is memory at the end.
use Rattle.std.proofs.Common.{◌≡◌, ◌∙◌, ◌<◌, ◌≤◌, ◌+◌, ◌-◌, ◌*◌, ◌^◌, ℕ, zero, suc, List, length, map, filter, take, get_or, refl, ap, ap₂, sym, subst, arith, Option, Some, None, IfSome, slice_get}
use Rattle.std.specs.Prelude.{IsTrue, nat_le}
use Rattle.std.proofs.Math.Seq.{take-length}
use Rattle.std.proofs.lemmas.Bool.{and_parts, leb-true}
use Rattle.lf_model.specs.Operation.{enters, made}
use Rattle.lf_model.specs.Places.{FailsNowhere}
use Rattle.lf_model.specs.Results.{final_byte, ShowsWord, ResultAtFinal}
use Rattle.lf_model.specs.Start.{ram_first, initial_byte, number_at}
use Rattle.lf_model.specs.Value.{stored}
use Rattle.lf_model.specs.declared.setup.Setup.{Setup}
use Rattle.lf_model.specs.declared.trace.Op.{Op}
use Rattle.lf_model.specs.declared.trace.Trace.{Trace}
use Rattle.lf_model.specs.declared.trace.Word2.{Word2}
use Rattle.tso_audit.proofs.LastPlace.{last_byte}
use Rattle.tso_audit.proofs.Places.{at_place, from_place}
use Rattle.tso_audit.specs.FirstPlaces.{WatchRam}
use Rattle.tso_audit.specs.LastPlaces.{last_place, at_address, byte_before, later_place, HasLaterPlaces, start_in, byte_left, ShowsLeft}

-- the same bytes make the same number
number_same : (f g : ℕ → ℕ) (a n : ℕ) → ((j : ℕ) → j < n → f (a + j) ≡ g (a + j)) → number_at f a n ≡ number_at g a n
unfolding number_at
number_same f g a zero same = refl
number_same f g a (suc n) same = ap₂ (λ (x y : ℕ). x * 2 ^ 8 + y) (number_same f g a n (λ j low. same j (omega (arith, low)))) (same n (omega arith))

-- the last byte in memory is that before the last place
stored_all : (order : List Op) (a b : ℕ) → stored a (map made (filter enters order)) b ≡ byte_before order a b (later_place order 0 (length order) 0 a)
stored_all order a b =
    last_byte order a b enters 0 order 0 (omega arith) (λ j low. let e : 0 + j ≡ j = omega arith in rw e refl)
    ∙ ap (byte_before order a b) (let e : last_place (at_address a enters) 0 (take (length order) order) ≡ last_place (at_address a enters) 0 order = ap (last_place (at_address a enters) 0) (take-length order) in omega (arith, e))

module _ (setup : Setup) (trace : Trace) (order : List Op) (bytes items places : List ℕ) (watch : List Word2) (order_is : order ≡ trace.order) (bytes_are : bytes ≡ items) (watch_is : watch ≡ trace.watch)
    (start : (k : ℕ) → k < setup.config.ram → get_or items k 0 ≡ initial_byte setup.image (ram_first + k)) (size : length places ≡ setup.config.ram)
    (noted : HasLaterPlaces order 0 (length order) 0 places) (inside : WatchRam setup.config.ram trace.watch) where
  byte_is : (a : ℕ) → ram_first ≤ a → a < ram_first + setup.config.ram → byte_left order bytes places a ≡ final_byte setup trace a
  byte_is a low high =
      let back : ram_first + (a - ram_first) ≡ a = omega (arith, low) in
      let table : get_or places (a - ram_first) 0 ≡ later_place order 0 (length order) 0 a
      = noted (a - ram_first) (omega (arith, low, high, size)) ∙ ap (later_place order 0 (length order) 0) back in
      let first : start_in bytes a ≡ initial_byte setup.image a
      = ap (λ (xs : List ℕ). get_or xs (a - ram_first) 0) bytes_are ∙ (start (a - ram_first) (omega (arith, low, high)) ∙ ap (initial_byte setup.image) back) in
      ap₂ (λ (b n : ℕ). byte_before order a b n) first table
      ∙ (sym (stored_all order a (initial_byte setup.image a)) ∙ ap (λ (os : List Op). stored a (map made (filter enters os)) (initial_byte setup.image a)) order_is)

  word_is : (word : Word2) → IsTrue (nat_le ram_first word.addr) → IsTrue (nat_le (word.addr + 4) (ram_first + setup.config.ram))
      → number_at (byte_left order bytes places) word.addr 4 ≡ number_at (final_byte setup trace) word.addr 4
  word_is word low high =
      let first = leb-true ram_first word.addr low in
      let last = leb-true (word.addr + 4) (ram_first + setup.config.ram) high in
      number_same (byte_left order bytes places) (final_byte setup trace) word.addr 4 (λ j small. byte_is (word.addr + j) (omega (arith, first)) (omega (arith, last, small)))

  to_final : (word : Word2) → number_at (byte_left order bytes places) word.addr 4 ≡ number_at (final_byte setup trace) word.addr 4 → ShowsLeft order bytes places word → ShowsWord setup trace word
  to_final word same = by word.value
    where
      by : (shown : Option ℕ) → IfSome shown (λ value. value ≡ number_at (byte_left order bytes places) word.addr 4) → IfSome shown (λ value. value ≡ number_at (final_byte setup trace) word.addr 4)
      by None h = h
      by (Some value) h = h ∙ same

  to_left : (word : Word2) → number_at (byte_left order bytes places) word.addr 4 ≡ number_at (final_byte setup trace) word.addr 4 → ShowsWord setup trace word → ShowsLeft order bytes places word
  to_left word same = by word.value
    where
      by : (shown : Option ℕ) → IfSome shown (λ value. value ≡ number_at (final_byte setup trace) word.addr 4) → IfSome shown (λ value. value ≡ number_at (byte_left order bytes places) word.addr 4)
      by None h = h
      by (Some value) h = h ∙ sym same

  abbrev NoWord : Word2
  NoWord = record { addr = 0; value = None }

  same_at : (i : ℕ) → i < length trace.watch
      → number_at (byte_left order bytes places) (get_or trace.watch i NoWord).addr 4 ≡ number_at (final_byte setup trace) (get_or trace.watch i NoWord).addr 4
  same_at i low =
      let word = get_or trace.watch i NoWord in
      let both = and_parts (nat_le ram_first word.addr) (nat_le (word.addr + 4) (ram_first + setup.config.ram)) (inside i NoWord low) in
      word_is word both.0 both.1

  pub words_final : ((i : ℕ) → i < length watch → IfSome (slice_get watch i) (ShowsLeft order bytes places)) → FailsNowhere (length trace.watch) (ResultAtFinal setup trace)
  words_final all i low =
      let shown = subst (λ (ws : List Word2). (i : ℕ) → i < length ws → IfSome (slice_get ws i) (ShowsLeft order bytes places)) watch_is all in
      at_place (ShowsWord setup trace) trace.watch i NoWord low
      (to_final (get_or trace.watch i NoWord) (same_at i low) (from_place (ShowsLeft order bytes places) trace.watch i NoWord low (shown i low)))

  pub final_words : FailsNowhere (length trace.watch) (ResultAtFinal setup trace) → (i : ℕ) → i < length watch → IfSome (slice_get watch i) (ShowsLeft order bytes places)
  final_words all =
      let shown : (i : ℕ) → i < length trace.watch → IfSome (slice_get trace.watch i) (ShowsLeft order bytes places)
      = λ i low. at_place (ShowsLeft order bytes places) trace.watch i NoWord low
      (to_left (get_or trace.watch i NoWord) (same_at i low) (from_place (ShowsWord setup trace) trace.watch i NoWord low (all i low))) in
      subst (λ (ws : List Word2). (i : ℕ) → i < length ws → IfSome (slice_get ws i) (ShowsLeft order bytes places)) (sym watch_is) shown
