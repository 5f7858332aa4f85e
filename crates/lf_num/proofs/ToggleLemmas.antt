-- A number some of whose bits were turned, and the places at which it differs from what it was.
use Rattle.std.proofs.Common.{◌≡◌, ℕ, zero, suc, ◌+◌, ◌*◌, ◌%◌, ◌^◌, ◌<◌, ◌≤◌, ◌≢◌, List, [], ◌∷◌, length, All, cond, nat_eq, true, false, Bool, refl, sym, ap, ap₂, ◌∙◌, arith, inl, inr}
use Rattle.std.specs.Int.{bit_at}
use Rattle.std.specs.Int.Bits.{bit_xor, xor_assoc, xor_self, xor_zero_l, xor_zero_r}
use Rattle.std.proofs.Math.Nat.{mod-one, mod-eq_of_lt}
use Rattle.std.proofs.lemmas.Nat.{mod-pow-add, mod_below, pow_pos, xor_comm, xor_lt, xor_block}
use Rattle.std.proofs.lemmas.Nat.Bits.{bit_at_xor, bit_at-lt, bit_at-pow_same, bit_at-pow_other}
use Rattle.std.proofs.lemmas.Bool.{cases_eq}
use Rattle.lf_num.specs.Bits.{sum_below, ones_below}
use Rattle.lf_num.specs.Toggles.{struck, IsPlaceSet, places, differing_places}
use Rattle.lf_num.proofs.Sums.{sum_below-same}

-- ---- one turned bit

pub bit_at-turned : (n place : ℕ) → bit_at (bit_xor n (2 ^ place)) place ≡ (bit_at n place + 1) % 2
bit_at-turned n place = bit_at_xor n (2 ^ place) place ∙ ap (λ (x : ℕ). (bit_at n place + x) % 2) (bit_at-pow_same place)

pub bit_at-kept : (n place i : ℕ) → i ≢ place → bit_at (bit_xor n (2 ^ place)) i ≡ bit_at n i
bit_at-kept n place i other =
    let digit : bit_at n i < 2 = bit_at-lt n i in
    bit_at_xor n (2 ^ place) i ∙ ap (λ (x : ℕ). (bit_at n i + x) % 2) (bit_at-pow_other place i other) ∙ omega arith

-- a bit that is turned twice is as it was
pub turned_back : (n place : ℕ) → bit_xor (bit_xor n (2 ^ place)) (2 ^ place) ≡ n
turned_back n place = xor_assoc n (2 ^ place) (2 ^ place) ∙ ap (bit_xor n) (xor_self (2 ^ place)) ∙ xor_zero_r n

-- a turned bit adds at most one to the count of ones
pub ones_below-turned : (width n place : ℕ) → ones_below width (bit_xor n (2 ^ place)) ≤ ones_below width n + 1
unfolding sum_below
ones_below-turned zero n place = omega arith
ones_below-turned (suc width) n place =
    elim (cases_eq width place) [
      | inl same ↦
          let kept = sum_below-same width (λ i. bit_at (bit_xor n (2 ^ place)) i) (λ i. bit_at n i) (λ i lt. bit_at-kept n place i (λ e. absurd (omega arith))) in
          let digit : bit_at (bit_xor n (2 ^ place)) width < 2 = bit_at-lt (bit_xor n (2 ^ place)) width in
          omega (arith, kept)
      | inr other ↦
          let kept : bit_at (bit_xor n (2 ^ place)) width ≡ bit_at n width = bit_at-kept n place width other in
          omega (arith, ones_below-turned width n place)
    ]

-- ---- the places of the ones of a number

-- a set below a width is one below each greater width
pub IsPlaceSet-wider : (width more : ℕ) (set : List ℕ) → width ≤ more → IsPlaceSet width set → IsPlaceSet more set
IsPlaceSet-wider width more [] le is = is
IsPlaceSet-wider width more (place ∷ rest) le is = (omega (arith, is.0), is.1, IsPlaceSet-wider width more rest le is.2)

-- each place of a set is below its width
pub IsPlaceSet-below : (width : ℕ) (set : List ℕ) → IsPlaceSet width set → All (λ place. place < width) set
IsPlaceSet-below width [] is k d lt = absurd (omega arith)
IsPlaceSet-below width (place ∷ rest) is zero d lt = is.0
IsPlaceSet-below width (place ∷ rest) is (suc k) d lt = IsPlaceSet-below width rest is.2 k d (omega arith)

pub IsPlaceSet-places : (width n : ℕ) → IsPlaceSet width (places width n)
unfolding places
IsPlaceSet-places zero n = tt
IsPlaceSet-places (suc width) n = one (nat_eq (bit_at n width) 1) width (places width n) (IsPlaceSet-places width n)
  where
    one : (b : Bool) (width : ℕ) (rest : List ℕ) → IsPlaceSet width rest → IsPlaceSet (suc width) (cond b (width ∷ rest) rest)
    one true width rest is =
        (omega arith, (λ k d lt same. absurd (omega (arith, IsPlaceSet-below width rest is k d lt, same))), IsPlaceSet-wider width (suc width) rest (omega arith) is)
    one false width rest is = IsPlaceSet-wider width (suc width) rest (omega arith) is

-- as many places as ones
pub length-places : (width n : ℕ) → length (places width n) ≡ ones_below width n
unfolding places sum_below
length-places zero n = refl
length-places (suc width) n =
    one (bit_at n width) width (places width n) (bit_at-lt n width) ∙ ap (λ (x : ℕ). x + bit_at n width) (length-places width n)
  where
    one : (d width : ℕ) (rest : List ℕ) → d < 2 → length (cond (nat_eq d 1) (width ∷ rest) rest) ≡ length rest + d
    one zero width rest small = omega arith
    one (suc zero) width rest small = omega arith
    one (suc (suc d)) width rest small = absurd (omega arith)

-- a power of 2 above a number is added to it modulo 2 as it is added
joined : (low width : ℕ) → low < 2 ^ width → bit_xor low (2 ^ width) ≡ 1 * 2 ^ width + low
joined low width fits =
    let block : bit_xor (0 * 2 ^ width + low) (1 * 2 ^ width + 0) ≡ bit_xor 0 1 * 2 ^ width + bit_xor low 0 = xor_block width 0 1 low 0 fits (pow_pos width) in
    ap₂ bit_xor (let e : low ≡ 0 * 2 ^ width + low = omega arith in e) (let e : 2 ^ width ≡ 1 * 2 ^ width + 0 = omega arith in e)
    ∙ block ∙ ap (λ (x : ℕ). 1 * 2 ^ width + x) (xor_zero_r low)

-- to turn the bits at the ones of n is to add n modulo 2
pub struck-places : (width c n : ℕ) → struck c (places width n) ≡ bit_xor c (n % 2 ^ width)
unfolding places
struck-places zero c n = sym (ap (bit_xor c) (mod-one n) ∙ xor_zero_r c)
struck-places (suc width) c n =
    let split : n % 2 ^ (1 + width) ≡ bit_at n width * 2 ^ width + n % 2 ^ width = mod-pow-add n 1 width in
    let whole : n % 2 ^ suc width ≡ bit_at n width * 2 ^ width + n % 2 ^ width = ap (λ (x : ℕ). n % 2 ^ x) (let e : suc width ≡ 1 + width = omega arith in e) ∙ split in
    one (bit_at n width) width c (places width n) (n % 2 ^ width) (bit_at-lt n width) (mod_below n (2 ^ width) (pow_pos width)) (struck-places width c n)
    ∙ ap (bit_xor c) (sym whole)
  where
    one : (d width c : ℕ) (rest : List ℕ) (low : ℕ) → d < 2 → low < 2 ^ width → struck c rest ≡ bit_xor c low → struck c (cond (nat_eq d 1) (width ∷ rest) rest) ≡ bit_xor c (d * 2 ^ width + low)
    one zero width c rest low small fits before = before ∙ ap (bit_xor c) (omega arith)
    one (suc zero) width c rest low small fits before =
        ap (λ (x : ℕ). bit_xor x (2 ^ width)) before ∙ xor_assoc c low (2 ^ width) ∙ ap (bit_xor c) (joined low width fits)
    one (suc (suc d)) width c rest low small fits before = absurd (omega arith)

-- a number is the other with the bits turned at which they differ
pub struck-differing : (width m n : ℕ) → m < 2 ^ width → n < 2 ^ width → struck n (differing_places width m n) ≡ m
struck-differing width m n m_lt n_lt =
    struck-places width n (bit_xor m n)
    ∙ ap (bit_xor n) (mod-eq_of_lt (xor_lt width m n m_lt n_lt) ∙ xor_comm m n)
    ∙ sym (xor_assoc n n m) ∙ ap (λ (x : ℕ). bit_xor x m) (xor_self n) ∙ xor_zero_l m
