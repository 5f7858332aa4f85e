-- What an access reads, by the words of its line.
use Rattle.std.proofs.Common.{◌≡◌, ℕ, zero, suc, ◌+◌, ◌*◌, ◌-◌, ◌/◌, ◌%◌, ◌^◌, ◌<◌, ◌≤◌, false, List, length, take, drop, slice_index, sym, ap, ap₂, ◌∙◌, subst, inl, inr, arith}
use Rattle.lf_model.specs.Caches.Slot.{history_at, has_struck_byte}
use Rattle.lf_model.specs.Flips.{is_struck_byte}
use Rattle.lf_model.specs.Operation.{byte_of}
use Rattle.parity_slots.specs.Inside.{IsSlotOf}
use Rattle.parity_slots.specs.ParityWords.{word_at}
use Rattle.parity_slots.specs.SlotState.{SlotState, IsAccess, number_of, value_at}
use Rattle.parity_slots.specs.declared.parity_word.ParityWord.{ParityWord}
use Rattle.parity_slots.proofs.AccessLemmas.{Lies, lies, len_cases}
use Rattle.parity_slots.proofs.RangeLemmas.{any_none, number_more}
use Rattle.parity_slots.proofs.SlotLemmas.{line_reads}

-- ---- the number of some bytes

module _ (bytes : List ℕ) (at : ℕ) where
  number_1 : at + 1 ≤ length bytes → number_of (take 1 (drop at bytes)) ≡ slice_index bytes (at + 0)
  number_1 fits = number_more bytes at 0 (omega (arith, fits)) ∙ omega arith

  number_2 : at + 2 ≤ length bytes → number_of (take 2 (drop at bytes)) ≡ slice_index bytes (at + 0) * 256 + slice_index bytes (at + 1)
  number_2 fits = number_more bytes at 1 (omega (arith, fits)) ∙ ap (λ (n : ℕ). n * 256 + slice_index bytes (at + 1)) (number_1 (omega (arith, fits)))

  number_4 : at + 4 ≤ length bytes → number_of (take 4 (drop at bytes))
      ≡ ((slice_index bytes (at + 0) * 256 + slice_index bytes (at + 1)) * 256 + slice_index bytes (at + 2)) * 256 + slice_index bytes (at + 3)
  number_4 fits =
      number_more bytes at 3 (omega (arith, fits))
      ∙ ap (λ (n : ℕ). n * 256 + slice_index bytes (at + 3))
      (number_more bytes at 2 (omega (arith, fits)) ∙ ap (λ (n : ℕ). n * 256 + slice_index bytes (at + 2)) (number_2 (omega (arith, fits))))

  number_8 : at + 8 ≤ length bytes → number_of (take 8 (drop at bytes))
      ≡ (((number_of (take 4 (drop at bytes)) * 256 + slice_index bytes (at + 4)) * 256 + slice_index bytes (at + 5)) * 256 + slice_index bytes (at + 6)) * 256 + slice_index bytes (at + 7)
  number_8 fits =
      number_more bytes at 7 (omega (arith, fits))
      ∙ ap (λ (n : ℕ). n * 256 + slice_index bytes (at + 7))
      (number_more bytes at 6 (omega (arith, fits))
      ∙ ap (λ (n : ℕ). n * 256 + slice_index bytes (at + 6))
      (number_more bytes at 5 (omega (arith, fits))
      ∙ ap (λ (n : ℕ). n * 256 + slice_index bytes (at + 5)) (number_more bytes at 4 (omega (arith, fits)))))

-- ---- bytes of a word

-- one, two and four of them
part_1 : (w j : ℕ) → j < 4 → w / 2 ^ (24 - 8 * j) % 2 ^ 8 ≡ byte_of w 4 j
part_1 w zero lt = omega arith
part_1 w (suc zero) lt = omega arith
part_1 w (suc (suc zero)) lt = omega arith
part_1 w (suc (suc (suc zero))) lt = omega arith
part_1 w (suc (suc (suc (suc j)))) lt = absurd (omega arith)

part_2 : (w j k : ℕ) → j < 4 → j % 2 ≡ 0 → k ≡ j + 1 → w < 2 ^ 32 → w / 2 ^ (16 - 8 * j) % 2 ^ 16 ≡ byte_of w 4 j * 256 + byte_of w 4 k
part_2 w zero k lt even is fits = subst (λ (k : ℕ). w / 2 ^ 16 % 2 ^ 16 ≡ byte_of w 4 0 * 256 + byte_of w 4 k) (sym is) (omega (arith, fits))
part_2 w (suc zero) k lt even is fits = absurd (omega (arith, even))
part_2 w (suc (suc zero)) k lt even is fits = subst (λ (k : ℕ). w / 2 ^ 0 % 2 ^ 16 ≡ byte_of w 4 2 * 256 + byte_of w 4 k) (sym is) (omega (arith, fits))
part_2 w (suc (suc (suc zero))) k lt even is fits = absurd (omega (arith, even))
part_2 w (suc (suc (suc (suc j)))) k lt even is fits = absurd (omega arith)

part_4 : (w a b c d : ℕ) → w < 2 ^ 32 → a ≡ byte_of w 4 0 → b ≡ byte_of w 4 1 → c ≡ byte_of w 4 2 → d ≡ byte_of w 4 3 → ((a * 256 + b) * 256 + c) * 256 + d ≡ w
part_4 w a b c d fits ae be ce de = omega (arith, fits, ae, be, ce, de)

part_8 : (n v w a b c d : ℕ) → n ≡ v → w < 2 ^ 32 → a ≡ byte_of w 4 0 → b ≡ byte_of w 4 1 → c ≡ byte_of w 4 2 → d ≡ byte_of w 4 3 → (((n * 256 + a) * 256 + b) * 256 + c) * 256 + d ≡ v * 2 ^ 32 + w
part_8 n v w a b c d ne fits ae be ce de = omega (arith, ne, fits, ae, be, ce, de)

-- ---- accesses

module _ (s : SlotState) (tag : ParityWord) (line : List ParityWord) (used : ℕ) (is : IsSlotOf s tag line used) (addr len : ℕ) (access : IsAccess addr len)
    (unstruck : has_struck_byte addr len s.slot ≡ false) where
  at : Lies addr len
  at = lies addr len access

  -- its byte k is byte j of word w
  byte_here : (k w j : ℕ) → k < len → (addr % 32 + k) / 4 ≡ w → (addr % 32 + k) % 4 ≡ j → slice_index s.bytes (addr % 32 + k) ≡ byte_of (word_at line w).bits 4 j
  byte_here k w j lt we je =
      let first : ℕ = 4 * (addr / 4 % 8) in
      let here : addr % 32 + k < 32 = omega (arith, at.ends, at.bytes_fit, lt) in
      let offset : addr % 32 + k - 4 * (addr / 4 % 8) < 4 * ((len + 3) / 4) = omega (arith, at.begins, at.ends, lt) in
      let there : 4 * (addr / 4 % 8) + (addr % 32 + k - 4 * (addr / 4 % 8)) ≡ addr % 32 + k = omega (arith, at.begins) in
      let good : is_struck_byte (history_at (addr % 32 + k) s.slot.line_histories) ≡ false =
      subst (λ (i : ℕ). is_struck_byte (history_at i s.slot.line_histories) ≡ false) there
      (any_none (λ i. is_struck_byte (history_at i s.slot.line_histories)) (4 * (addr / 4 % 8)) (4 * ((len + 3) / 4)) (addr % 32 + k - 4 * (addr / 4 % 8)) offset unstruck) in
      sym (line_reads s tag line used is (addr % 32 + k) here good) ∙ ap₂ (λ (v i : ℕ). byte_of (word_at line v).bits 4 i) we je

  fits : addr % 32 + len ≤ length s.bytes
  fits = omega (arith, at.ends, at.bytes_fit, is.line_bytes.all_values)

  aligned : (n : ℕ) → len ≡ n → addr % n ≡ 0
  aligned n e = subst (λ (m : ℕ). addr % m ≡ 0) e access.aligned

  value_is : (n : ℕ) → len ≡ n → value_at addr len s.bytes ≡ number_of (take n (drop (addr % 32) s.bytes))
  value_is n e = ap (λ (m : ℕ). number_of (take m (drop (addr % 32) s.bytes))) e

  module _ (w : ℕ) (here : w ≡ addr / 4 % 8) (small : (word_at line w).bits < 2 ^ 32) where
    pub reads_1 : len ≡ 1 → (word_at line w).bits / 2 ^ (24 - 8 * (addr % 4)) % 2 ^ 8 ≡ value_at addr len s.bytes
    reads_1 one =
        part_1 (word_at line w).bits (addr % 4) (omega arith)
        ∙ sym (value_is 1 one ∙ number_1 s.bytes (addr % 32) (omega (arith, fits, one)) ∙ byte_here 0 w (addr % 4) (omega (arith, one)) (omega (arith, here)) (omega arith))

    pub reads_2 : len ≡ 2 → (word_at line w).bits / 2 ^ (16 - 8 * (addr % 4)) % 2 ^ 16 ≡ value_at addr len s.bytes
    reads_2 two =
        let even : addr % 2 ≡ 0 = aligned 2 two in
        part_2 (word_at line w).bits (addr % 4) (addr % 4 + 1) (omega arith) (omega (arith, even)) (omega arith) small
        ∙ sym (value_is 2 two
        ∙ number_2 s.bytes (addr % 32) (omega (arith, fits, two))
        ∙ ap₂ (λ (a b : ℕ). a * 256 + b) (byte_here 0 w (addr % 4) (omega (arith, two)) (omega (arith, here)) (omega arith))
        (byte_here 1 w (addr % 4 + 1) (omega (arith, two)) (omega (arith, here, even)) (omega (arith, even))))

    four : 4 ≤ len → addr % 4 ≡ 0 → number_of (take 4 (drop (addr % 32) s.bytes)) ≡ (word_at line w).bits
    four some whole =
        number_4 s.bytes (addr % 32) (omega (arith, fits, some))
        ∙ part_4 (word_at line w).bits (slice_index s.bytes (addr % 32 + 0)) (slice_index s.bytes (addr % 32 + 1)) (slice_index s.bytes (addr % 32 + 2)) (slice_index s.bytes (addr % 32 + 3)) small
        (byte_here 0 w 0 (omega (arith, some)) (omega (arith, here)) (omega (arith, whole)))
        (byte_here 1 w 1 (omega (arith, some)) (omega (arith, here, whole)) (omega (arith, whole)))
        (byte_here 2 w 2 (omega (arith, some)) (omega (arith, here, whole)) (omega (arith, whole)))
        (byte_here 3 w 3 (omega (arith, some)) (omega (arith, here, whole)) (omega (arith, whole)))

    pub reads_4 : len ≡ 4 → (word_at line w).bits ≡ value_at addr len s.bytes
    reads_4 is_four = sym (value_is 4 is_four ∙ four (omega (arith, is_four)) (aligned 4 is_four))

    pub reads_8 : len ≡ 8 → (word_at line (w + 1)).bits < 2 ^ 32 → (word_at line w).bits * 2 ^ 32 + (word_at line (w + 1)).bits ≡ value_at addr len s.bytes
    reads_8 eight next =
        let whole : addr % 8 ≡ 0 = aligned 8 eight in
        sym (value_is 8 eight
        ∙ number_8 s.bytes (addr % 32) (omega (arith, fits, eight))
        ∙ part_8 (number_of (take 4 (drop (addr % 32) s.bytes))) (word_at line w).bits (word_at line (w + 1)).bits
        (slice_index s.bytes (addr % 32 + 4)) (slice_index s.bytes (addr % 32 + 5)) (slice_index s.bytes (addr % 32 + 6)) (slice_index s.bytes (addr % 32 + 7))
        (four (omega (arith, eight)) (omega (arith, whole))) next
        (byte_here 4 (w + 1) 0 (omega (arith, eight)) (omega (arith, here, whole)) (omega (arith, whole)))
        (byte_here 5 (w + 1) 1 (omega (arith, eight)) (omega (arith, here, whole)) (omega (arith, whole)))
        (byte_here 6 (w + 1) 2 (omega (arith, eight)) (omega (arith, here, whole)) (omega (arith, whole)))
        (byte_here 7 (w + 1) 3 (omega (arith, eight)) (omega (arith, here, whole)) (omega (arith, whole))))

-- an access that is not of two, four or eight bytes is of one
pub is_one : (addr len : ℕ) → IsAccess addr len → (len ≡ 2 → ⊥) → (len ≡ 4 → ⊥) → (len ≡ 8 → ⊥) → len ≡ 1
is_one addr len access two four eight = elim (len_cases len access.size) [
  | inl one ↦ one
  | inr more ↦ elim more [
    | inl e ↦ absurd (two e)
    | inr most ↦ elim most [ inl e ↦ absurd (four e) | inr e ↦ absurd (eight e) ]
  ]
]
