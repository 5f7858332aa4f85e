-- The number that an atomic reads of its word is that of the bytes that the log left at its address.
use Rattle.std.proofs.Common.{◌≡◌, ◌∙◌, ◌+◌, ◌-◌, ◌*◌, ◌/◌, ◌%◌, ◌^◌, ◌<◌, ◌≤◌, ◌==◌, ◌||◌, ℕ, zero, suc, true, nat_le, IsTrue, List, ◌⊎◌, inl, inr, refl, ap, sym, subst, arith}
use Rattle.std.proofs.lemmas.Bool.{and_parts, and_from, cases_Bool, eqb-true, leb-true, le-leb}
use Rattle.std.proofs.lemmas.Bool.Decides.{nat_tests}
use Rattle.ahb_bus.proofs.NumberBytes.{byte_of_number, number_small}
use Rattle.ahb_bus.proofs.ShownLemmas.{value_left}
use Rattle.ahb_bus.specs.BusOk.{BusOk}
use Rattle.ahb_bus.specs.BusState.{BusState, memory_of, part_of}
use Rattle.bus_memory.specs.MemoryState.{value_at}
use Rattle.core_turns.proofs.TextLine.{stored_small}
use Rattle.lf_model.specs.Bus.Words.{word_of}
use Rattle.lf_model.specs.Operation.{byte_of}
use Rattle.lf_model.specs.Promise.Regular.{is_length}
use Rattle.lf_model.specs.Records.AllRecords.{number_left}
use Rattle.lf_model.specs.Start.{ram_first, is_in_ram, number_at}
use Rattle.lf_model.specs.Value.{Reads, stored}
use Rattle.lf_model.specs.declared.bus.Entry.{Entry}
use Rattle.parity_cache.proofs.Bytes.{touched_from}

-- a byte, or a word
pub byte_or_word : (len : ℕ) → IsTrue (len == 1 || len == 4) → (len ≡ 1) ⊎ (len ≡ 4)
byte_or_word len is = elim (cases_Bool (len == 1)) [
  | inl one ↦ inl (eqb-true len 1 one)
  | inr other ↦ inr (eqb-true len 4 (rw other at is))
]

pub some_bytes : (len : ℕ) → IsTrue (len == 1 || len == 4) → 1 ≤ len
some_bytes len is = grind (arith, nat_tests)

pub is_a_length : (len : ℕ) → IsTrue (len == 1 || len == 4) → is_length len ≡ true
is_a_length len is = grind (arith, nat_tests)

-- ---- a part of a word

byte_part : (word r : ℕ) → r < 4 → word / 2 ^ (8 * (4 - r - 1)) % 2 ^ (8 * 1) ≡ byte_of word 4 r
byte_part word zero below = refl
byte_part word (suc zero) below = refl
byte_part word (suc (suc zero)) below = refl
byte_part word (suc (suc (suc zero))) below = refl
byte_part word (suc (suc (suc (suc r)))) below = absurd (omega (arith, below))

whole_part : (word r : ℕ) → r ≡ 0 → word < 2 ^ 32 → word / 2 ^ (8 * (4 - r - 4)) % 2 ^ (8 * 4) ≡ word
whole_part word r none small = rw none (omega (arith, small))

module _ (byte : ℕ → ℕ) (small : (a : ℕ) → byte a < 256) (addr : ℕ) where
  abbrev word : ℕ
  word = number_at byte (word_of addr) 4

  one_byte : part_of word addr 1 ≡ number_at byte addr 1
  unfolding number_at
  one_byte =
      let at : word_of addr + addr % 4 ≡ addr = omega arith in
      let place : addr + 0 ≡ addr = omega arith in
      byte_part word (addr % 4) (omega arith)
      ∙ (byte_of_number byte (word_of addr) 4 (λ j below. small (word_of addr + j)) (addr % 4) (omega arith)
      ∙ (ap byte at ∙ (ap byte (sym place) ∙ omega arith)))

  one_word : addr % 4 ≡ 0 → part_of word addr 4 ≡ number_at byte addr 4
  one_word aligned =
      let at : word_of addr ≡ addr = omega (arith, aligned) in
      whole_part word (addr % 4) aligned (number_small byte (word_of addr) 4 (λ j below. small (word_of addr + j))) ∙ ap (λ a. number_at byte a 4) at

  pub part_is : (len : ℕ) → (len ≡ 1) ⊎ (len ≡ 4) → addr % len ≡ 0 → part_of word addr len ≡ number_at byte addr len
  part_is len (inl one) aligned = subst (λ n. part_of word addr n ≡ number_at byte addr n) (sym one) one_byte
  part_is len (inr four) aligned = subst (λ n. part_of word addr n ≡ number_at byte addr n) (sym four) (one_word (subst (λ n. addr % n ≡ 0) four aligned))

-- ---- its word lies in RAM

word_inside : (ram addr len : ℕ) → ram % 4 ≡ 0 → 1 ≤ len → is_in_ram ram addr len ≡ true → is_in_ram ram (word_of addr) 4 ≡ true
word_inside ram addr len whole some inside =
    let parts = and_parts (nat_le ram_first addr) (nat_le (addr + len) (ram_first + ram)) inside in
    let low = leb-true ram_first addr parts.0 in
    let high = leb-true (addr + len) (ram_first + ram) parts.1 in
    and_from (nat_le ram_first (word_of addr)) (nat_le (word_of addr + 4) (ram_first + ram))
    (le-leb ram_first (word_of addr) (omega (arith, low)))
    (le-leb (word_of addr + 4) (ram_first + ram) (omega (arith, low, high, whole, some)))

module _ (bus : BusState) (ok : BusOk bus) (addr len : ℕ) (inside : IsTrue (is_in_ram bus.setup.config.ram addr len)) (some : 1 ≤ len) where
  pub word_read : value_at (memory_of bus) (word_of addr) ≡ number_left bus.setup.image bus.log (word_of addr)
  word_read = value_left bus ok (word_of addr) (omega arith)
      (word_inside bus.setup.config.ram addr len (omega (arith, ok.size)) some inside)

-- ---- its bytes

-- an operation reads the number that these entries left at its address
pub reads_number : (initial : ℕ → ℕ) → ((a : ℕ) → initial a < 256) → (entries : List Entry) (r : Entry) → r.got ≡ number_at (λ a. stored a entries (initial a)) r.addr r.len → Reads initial r entries
reads_number initial small entries r got a touched_ =
    let within = touched_from a r touched_ in
    let at : r.addr + (a - r.addr) ≡ a = omega (arith, within.0) in
    ap (λ n. byte_of n r.len (a - r.addr)) got
    ∙ (byte_of_number (λ b. stored b entries (initial b)) r.addr r.len (λ j below. stored_small (r.addr + j) (initial (r.addr + j)) entries (small (r.addr + j))) (a - r.addr) (omega (arith, within.0, within.1))
    ∙ ap (λ b. stored b entries (initial b)) at)
