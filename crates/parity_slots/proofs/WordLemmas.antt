-- The bytes of words, and a ledger that notes an event of each.
use Rattle.std.proofs.Common.{◌≡◌, ◌≢◌, ℕ, zero, suc, ◌+◌, ◌*◌, ◌/◌, ◌%◌, ◌^◌, ◌<◌, ◌≤◌, ◌==◌, Bool, true, false, cond, List, [], ◌∷◌, length, refl, sym, ap, ap₂, ◌∙◌, subst, add-one, inl, inr, arith}
use Rattle.std.specs.Int.{bit_at}
use Rattle.std.proofs.Math.Path.{fun_ext}
use Rattle.std.proofs.lemmas.Bool.{cases_lt}
use Rattle.std.specs.Prelude.{bit_xor}
use Rattle.std.proofs.Math.Pow.{pow-lt}
use Rattle.std.proofs.lemmas.Nat.{xor_lt}
use Rattle.std.proofs.lemmas.Nat.Bits.{bit_at-lt, bit_at-zero}
use Rattle.std.proofs.lemmas.List.FromFn.{get_or-map-range_with_len}
use Rattle.flip_ledger.specs.Follows.{Follows}
use Rattle.flip_ledger.specs.Ledger.{Ledger}
use Rattle.lf_model.specs.Flips.{Moment, byte_budget, is_struck_byte}
use Rattle.lf_model.specs.Operation.{byte_of}
use Rattle.parity_code.specs.Parity.{code, parity}
use Rattle.parity_units.specs.Bytes.{byte_bits, fresh_byte, flipped_byte}
use Rattle.parity_units.specs.Events.{befallen, over, no_byte, byte_at}
use Rattle.parity_units.specs.declared.byte.ParityByte.{ParityByte}
use Rattle.parity_units.specs.declared.events.Event.{Event}
use Rattle.parity_units.proofs.EventLemmas.{over_below, over_within, over_above, over_none, follows_past}
use Rattle.parity_slots.specs.ParityWords.{byte_in, word_at, byte_among, bytes_in, AreWordUnits}
use Rattle.parity_slots.specs.declared.parity_word.ParityWord.{ParityWord}

-- ---- one word

-- it is written
pub fresh_bytes : (v p q r s : ℕ) → p ≡ parity (byte_of v 4 0) → q ≡ parity (byte_of v 4 1) → r ≡ parity (byte_of v 4 2) → s ≡ parity (byte_of v 4 3)
    → (k : ℕ) → k < 4 → byte_in (record { bits = v; parity = p + 2 * q + 4 * r + 8 * s; struck = 0 }) k ≡ fresh_byte (byte_of v 4 k)
unfolding code
fresh_bytes v p q r s pe qe re se zero lt = ap (λ (n : ℕ). record { bits = n * 2 ^ 8 + byte_of v 4 0; struck = false }) (omega (arith, pe, qe, re, se))
fresh_bytes v p q r s pe qe re se (suc zero) lt = ap (λ (n : ℕ). record { bits = n * 2 ^ 8 + byte_of v 4 1; struck = false }) (omega (arith, pe, qe, re, se))
fresh_bytes v p q r s pe qe re se (suc (suc zero)) lt = ap (λ (n : ℕ). record { bits = n * 2 ^ 8 + byte_of v 4 2; struck = false }) (omega (arith, pe, qe, re, se))
fresh_bytes v p q r s pe qe re se (suc (suc (suc zero))) lt = ap (λ (n : ℕ). record { bits = n * 2 ^ 8 + byte_of v 4 3; struck = false }) (omega (arith, pe, qe, re, se))
fresh_bytes v p q r s pe qe re se (suc (suc (suc (suc k)))) lt = absurd (omega arith)

-- no flip stands in it
pub unmarked : (word : ParityWord) (k : ℕ) → word.struck ≡ 0 → (byte_in word k).struck ≡ false
unmarked word k none = ap (λ (n : ℕ). bit_at n k == 1) none ∙ ap (λ (n : ℕ). n == 1) (bit_at-zero k)

-- nine bits fit
pub byte_fits : (word : ParityWord) (k : ℕ) → (byte_in word k).bits < 2 ^ 9
byte_fits word k = omega (arith, bit_at-lt word.parity k)

pub flipped_fits : (bit : ℕ) (byte : ParityByte) → byte.bits < 2 ^ 9 → bit < byte_bits → (flipped_byte bit byte).bits < 2 ^ 9
flipped_fits bit byte fits lt = cases byte.struck
  where
    cases : (b : Bool) → (cond b byte (record { bits = bit_xor byte.bits (2 ^ bit); struck = true })).bits < 2 ^ 9
    cases true = fits
    cases false = xor_lt 9 byte.bits (2 ^ bit) fits (pow-lt lt)

-- a byte of it is replaced
module _ (w b : ℕ) (fits : w < 2 ^ 32) (small : b < 256) where
  pub kept_0 : (j : ℕ) → j < 4 → j ≢ 0 → byte_of (b * 16777216 % 4294967296 + w % 16777216) 4 j ≡ byte_of w 4 j
  kept_0 zero lt other = absurd (other refl)
  kept_0 (suc zero) lt other = omega arith
  kept_0 (suc (suc zero)) lt other = omega arith
  kept_0 (suc (suc (suc zero))) lt other = omega arith
  kept_0 (suc (suc (suc (suc k)))) lt other = absurd (omega arith)

  pub kept_1 : (j : ℕ) → j < 4 → j ≢ 1 → byte_of (w / 16777216 * 16777216 + b * 65536 % 4294967296 + w % 65536) 4 j ≡ byte_of w 4 j
  kept_1 zero lt other = omega arith
  kept_1 (suc zero) lt other = absurd (other refl)
  kept_1 (suc (suc zero)) lt other = omega arith
  kept_1 (suc (suc (suc zero))) lt other = omega arith
  kept_1 (suc (suc (suc (suc k)))) lt other = absurd (omega arith)

  pub kept_2 : (j : ℕ) → j < 4 → j ≢ 2 → byte_of (w / 65536 * 65536 + b * 256 % 4294967296 + w % 256) 4 j ≡ byte_of w 4 j
  kept_2 zero lt other = omega arith
  kept_2 (suc zero) lt other = omega arith
  kept_2 (suc (suc zero)) lt other = absurd (other refl)
  kept_2 (suc (suc (suc zero))) lt other = omega arith
  kept_2 (suc (suc (suc (suc k)))) lt other = absurd (omega arith)

  pub kept_3 : (j : ℕ) → j < 4 → j ≢ 3 → byte_of (w / 256 * 256 + b) 4 j ≡ byte_of w 4 j
  kept_3 zero lt other = omega arith
  kept_3 (suc zero) lt other = omega arith
  kept_3 (suc (suc zero)) lt other = omega arith
  kept_3 (suc (suc (suc zero))) lt other = absurd (other refl)
  kept_3 (suc (suc (suc (suc k)))) lt other = absurd (omega arith)

-- ---- the bytes of words

pub byte_of_words : (count : ℕ) (words : List ParityWord) (i : ℕ) → i < count → byte_at (bytes_in count words) i ≡ byte_among words i
byte_of_words count words i lt = get_or-map-range_with_len (byte_among words) 0 count i i no_byte lt (omega arith)

-- those of one word
pub byte_of_word : (word : ParityWord) (i : ℕ) → i < 4 → byte_among (word ∷ []) i ≡ byte_in word i
byte_of_word word zero lt = refl
byte_of_word word (suc zero) lt = refl
byte_of_word word (suc (suc zero)) lt = refl
byte_of_word word (suc (suc (suc zero))) lt = refl
byte_of_word word (suc (suc (suc (suc i)))) lt = absurd (omega arith)

-- byte i of word w
pub byte_at_word : (words : List ParityWord) (w i : ℕ) → i < 4 → byte_among words (4 * w + i) ≡ byte_in (word_at words w) i
byte_at_word words w i lt =
    let place : (4 * w + i) / 4 ≡ w = omega arith in
    let rest : (4 * w + i) % 4 ≡ i = omega arith in
    ap₂ (λ (a b : ℕ). byte_in (word_at words a) b) place rest

-- ---- events

-- units in which no flip stands need no note
pub follows_unmarked : (first n : ℕ) (event : Event) (h : ℕ → List Moment) (l : Ledger) → ((i : ℕ) → i < n → is_struck_byte (h (first + i)) ≡ false)
    → first + n ≤ length l.standing → Follows byte_budget h l → Follows byte_budget (over first n (befallen event) h) l
follows_unmarked first zero event h l none within follows = subst (λ (g : ℕ → List Moment). Follows byte_budget g l) (sym (over_none first (befallen event) h)) follows
follows_unmarked first (suc n) event h l none within follows =
    let before : Follows byte_budget (over first n (befallen event) h) l = follows_unmarked first n event h l (λ i lt. none i (omega (arith, lt))) (omega (arith, within)) follows in
    subst (λ (m : ℕ). Follows byte_budget (over first m (befallen event) h) l) (add-one n)
    (follows_past first n h l (omega (arith, within)) event (none n (omega arith)) before)

-- an event of some units, and then of those that come after them
pub over_more : (first a b : ℕ) (f : List Moment → List Moment) (h : ℕ → List Moment) → over (first + a) b f (over first a f h) ≡ over first (a + b) f h
over_more first a b f h = fun_ext (λ u. elim (cases_lt u first) [
  | inl lt ↦ over_below (first + a) b f (over first a f h) u (omega (arith, lt)) ∙ over_below first a f h u lt ∙ sym (over_below first (a + b) f h u lt)
  | inr le ↦ elim (cases_lt u (first + a)) [
    | inl within ↦ over_below (first + a) b f (over first a f h) u within ∙ over_within first a f h u le within ∙ sym (over_within first (a + b) f h u le (omega (arith, within)))
    | inr from ↦ elim (cases_lt u (first + a + b)) [
      | inl inside ↦
          over_within (first + a) b f (over first a f h) u from inside
          ∙ ap f (over_above first a f h u from)
          ∙ sym (over_within first (a + b) f h u le (omega (arith, inside)))
      | inr past ↦
          over_above (first + a) b f (over first a f h) u past
          ∙ over_above first a f h u from
          ∙ sym (over_above first (a + b) f h u (omega (arith, past)))
    ]
  ]
])

-- the units of one word among several, where those before it have been noted
pub word_units : (first w : ℕ) (words : List ParityWord) (f : List Moment → List Moment) (h : ℕ → List Moment) → w < length words → AreWordUnits first words h
    → AreWordUnits (first + 4 * w) (word_at words w ∷ []) (over first (4 * w) f h)
word_units first w words f h within are i lt =
    let few : i < 4 = omega (arith, lt) in
    let place : first + (4 * w + i) ≡ first + 4 * w + i = omega arith in
    ap (λ (b : ParityByte). b.struck) (byte_of_word (word_at words w) i few ∙ sym (byte_at_word words w i few))
    ∙ are (4 * w + i) (omega (arith, within, few))
    ∙ ap (λ (u : ℕ). is_struck_byte (h u)) place
    ∙ ap is_struck_byte (sym (over_above first (4 * w) f h (first + 4 * w + i) (omega arith)))
