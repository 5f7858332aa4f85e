-- Units, as something happens to one of them.
use Rattle.std.proofs.Common.{◌≡◌, ℕ, zero, suc, ◌<◌, Bool, true, false, cond, nat_lt, List, [], ◌∷◌, length, map, slice_index_or, slice_set, refl, sym, ap, ◌∙◌, subst, inl, inr, arith}
use Rattle.std.specs.Prelude.{replicate}
use Rattle.std.specs.List.{AllByRecursion}
use Rattle.std.proofs.lemmas.Bool.{cases_eq}
use Rattle.std.proofs.lemmas.List.{get_or-set_same, get_or-set_other, get_or_default, length-set, length-map}
use Rattle.flip_ledger.specs.Follows.{IsWrite, Gains, Follows, number_of}
use Rattle.flip_ledger.specs.Ledger.{Ledger, standing_in}
use Rattle.lf_model.specs.Caches.Slot.{history_at, befalls}
use Rattle.lf_model.specs.Flips.{Moment, Standing, struck, standing}
use Rattle.replay_units.specs.Bits.{bits_of, bit_of, IsPlace}
use Rattle.replay_units.specs.Kept.{unit_histories, bits_at, AreBits}
use Rattle.replay_units.specs.Ways.{how_of, write_of}
use Rattle.replay_units.specs.declared.bits.Bits.{Bits}
use Rattle.replay_units.specs.declared.bits.Bits.TheVariants.{Empty}
use Rattle.replay_units.specs.declared.history.How.{How}
use Rattle.replay_units.specs.declared.history.How.TheVariants as ways

-- ---- at the start

pub nothing_at : (n unit : ℕ) → history_at unit (replicate n []) ≡ []
nothing_at zero unit = refl
nothing_at (suc n) zero = refl
nothing_at (suc n) (suc unit) = nothing_at n unit

pub length_fresh : (n : ℕ) → length (replicate {A = List Moment} n []) ≡ n
length_fresh zero = refl
length_fresh (suc n) = ap suc (length_fresh n)

empty_at : (n unit : ℕ) → slice_index_or (replicate n Empty) unit Empty ≡ Empty
empty_at zero unit = refl
empty_at (suc n) zero = refl
empty_at (suc n) (suc unit) = empty_at n unit

length_empty : (n : ℕ) → length (replicate n Empty) ≡ n
length_empty zero = refl
length_empty (suc n) = ap suc (length_empty n)

pub fresh_bits : (budget n : ℕ) → AreBits budget (replicate n []) (replicate n Empty)
fresh_bits budget n = record {
  long = length_empty n ∙ sym (length_fresh n);
  each = λ unit lt. rw (nothing_at n unit, empty_at n unit) refl;
  places = λ unit lt. rw (empty_at n unit) tt;
}

-- ---- one unit

module _ (budget : ℕ) (hs : List (List Moment)) (bits : List Bits) (unit : ℕ) (are : AreBits budget hs bits) (within : unit < length hs) where
  -- its bits become others, as something happens to it
  pub bits_set : (f : List Moment → List Moment) (new : Bits) → map bit_of (standing budget (f (history_at unit hs))) ≡ bits_of new → AllByRecursion IsPlace (bits_of new)
      → AreBits budget (befalls f unit hs) (slice_set bits unit new)
  bits_set f new is places = record {
    long = length-set bits unit new ∙ are.long ∙ sym (length-set hs unit (f (history_at unit hs)));
    each = λ u lt. elim (cases_eq u unit) [
      | inl same ↦
          rw (same, get_or-set_same hs unit (f (history_at unit hs)) [] within, get_or-set_same bits unit new Empty (omega (arith, within, are.long))) is
      | inr other ↦
          rw (get_or-set_other hs unit u (f (history_at unit hs)) [] other, get_or-set_other bits unit u new Empty other)
          (are.each u (omega (arith, lt, length-set hs unit (f (history_at unit hs)))))
    ];
    places = λ u lt. elim (cases_eq u unit) [
      | inl same ↦ rw (same, get_or-set_same bits unit new Empty (omega (arith, within, are.long))) places
      | inr other ↦
          rw (get_or-set_other bits unit u new Empty other) (are.places u (omega (arith, lt, length-set hs unit (f (history_at unit hs)))))
    ];
  }

  -- its bits stay
  pub bits_stay : (f : List Moment → List Moment) → standing budget (f (history_at unit hs)) ≡ standing budget (history_at unit hs) → AreBits budget (befalls f unit hs) bits
  bits_stay f same_flips = record {
    long = are.long ∙ sym (length-set hs unit (f (history_at unit hs)));
    each = λ u lt. elim (cases_eq u unit) [
      | inl same ↦
          rw (same, get_or-set_same hs unit (f (history_at unit hs)) [] within, same_flips) (are.each unit within)
      | inr other ↦
          rw (get_or-set_other hs unit u (f (history_at unit hs)) [] other) (are.each u (omega (arith, lt, length-set hs unit (f (history_at unit hs)))))
    ];
    places = λ u lt. are.places u (omega (arith, lt, length-set hs unit (f (history_at unit hs))));
  }

  -- as many flips stand in it by its bits as by the ledger
  pub count_is : (l : Ledger) → length l.standing ≡ length hs → Follows budget (unit_histories hs) l → length (bits_at bits unit) ≡ length (standing_in l unit)
  count_is l units follows =
      ap length (sym (are.each unit within))
      ∙ length-map (standing budget (history_at unit hs)) bit_of
      ∙ sym (length-map (standing budget (history_at unit hs)) number_of)
      ∙ ap length (sym (follows.standing_is unit (omega (arith, within, units))))

  pub count_flips : length (standing budget (history_at unit hs)) ≡ length (bits_at bits unit)
  count_flips = sym (length-map (standing budget (history_at unit hs)) bit_of) ∙ ap length (are.each unit within)

-- the bits with one more strike
struck_when : (number bit : ℕ) (flips : List Standing) (bits : List ℕ) (b : Bool) → map bit_of flips ≡ bits
    → map bit_of (cond b (record { number = number; bit = bit } ∷ flips) flips) ≡ cond b (bit ∷ bits) bits
struck_when number bit flips bits true is = ap (λ (xs : List ℕ). bit ∷ xs) is
struck_when number bit flips bits false is = is

pub struck_bits : (budget number bit : ℕ) (flips : List Standing) (bits : List ℕ) → map bit_of flips ≡ bits
    → map bit_of (struck budget number bit flips) ≡ cond (nat_lt (length bits) budget) (bit ∷ bits) bits
struck_bits budget number bit flips bits is =
    struck_when number bit flips bits (nat_lt (length flips) budget) is
    ∙ ap (λ (n : ℕ). cond (nat_lt n budget) (bit ∷ bits) bits) (sym (length-map flips bit_of) ∙ ap length is)

pub struck_places : (bit : ℕ) (bits : List ℕ) (b : Bool) → IsPlace bit → AllByRecursion IsPlace bits → AllByRecursion IsPlace (cond b (bit ∷ bits) bits)
struck_places bit bits true place all = (place, all)
struck_places bit bits false place all = all

pub gains : (hs : List (List Moment)) (unit : ℕ) (m : Moment) → unit < length hs → Gains unit m (unit_histories hs) (unit_histories (befalls (λ h. m ∷ h) unit hs))
gains hs unit m within = record {
  here = get_or-set_same hs unit (m ∷ history_at unit hs) [] within;
  others = λ u other. get_or-set_other hs unit u (m ∷ history_at unit hs) [] other;
}

-- the two words for a way to write agree
pub is_write : (how : How) → IsWrite (write_of how) (how_of how)
is_write ways.Whole = refl
is_write ways.ByPartStore = refl
is_write ways.ByAtomic = refl
is_write ways.ByFix = refl
is_write ways.ByReadBack = refl

-- ---- the bits that are read

module _ (budget : ℕ) (hs : List (List Moment)) (bits : List Bits) (unit : ℕ) (are : AreBits budget hs bits) (within : unit < length hs) {here : Bits} (read : here ≡ slice_index_or bits unit here) where
  read_is : bits_at bits unit ≡ bits_of here
  read_is = ap bits_of (get_or_default bits unit Empty here (omega (arith, within, are.long)) ∙ sym read)

  pub flips_here : map bit_of (standing budget (history_at unit hs)) ≡ bits_of here
  flips_here = are.each unit within ∙ read_is

  pub places_here : AllByRecursion IsPlace (bits_of here)
  places_here = subst (AllByRecursion IsPlace) read_is (are.places unit within)

pub bits_here : (hs : List (List Moment)) (bits : List Bits) (unit : ℕ) (are : AreBits 2 hs bits) (within : unit < length hs) {here : Bits} (read : here ≡ slice_index_or bits unit here)
    → map bit_of (standing 2 (history_at unit hs)) ≡ bits_of here
bits_here hs bits unit are within read = flips_here 2 hs bits unit are within read
