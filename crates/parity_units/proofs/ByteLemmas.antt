-- A byte under parity follows its history.
use Rattle.std.proofs.Common.{◌≡◌, ℕ, zero, suc, ◌^◌, ◌%◌, ◌<◌, Bool, true, false, ◌&&◌, not, nat_eq, ◌≢◌, ◌/◌, Some, None, cond, nat_lt, List, [], ◌∷◌, length, refl, sym, ap, ◌∙◌, arith}
use Rattle.std.specs.Prelude.{bit_xor}
use Rattle.std.proofs.Math.Pow.{pow-lt}
use Rattle.std.proofs.lemmas.Bool.{ne_eqb}
use Rattle.std.proofs.lemmas.Bool.Decides.{nat_tests}
use Rattle.std.proofs.lemmas.List.{nil_from_length}
use Rattle.std.proofs.lemmas.List.Elements.{All-nil}
use Rattle.std.proofs.lemmas.Nat.{xor_lt}
use Rattle.lf_model.specs.Caches.Slot.{checked_byte}
use Rattle.lf_model.specs.Flips.{How, Moment, Standing, struck, standing, turned, byte_budget, is_struck_byte}
use Rattle.lf_model.specs.Flips.Moment.{Struck, Written, Found}
use Rattle.lf_num.specs.Toggles as toggles
use Rattle.parity_code.specs.Parity.{code, parity}
use Rattle.parity_code.proofs.ParityLemmas.{code-lt, byte_of-code, reads_even}
use Rattle.parity_units.specs.Bytes.{byte_bits, fresh_byte, flipped_byte, is_bad, IsByteOf}
use Rattle.parity_units.specs.declared.byte.ParityByte.{ParityByte}

unstruck : false ≡ true → ⊥
unstruck is = cc

-- a byte that nothing befell, and one that is written
pub byte_new : (value : ℕ) → value < 2 ^ 8 → IsByteOf value [] (fresh_byte value)
byte_new value fits = record { value_fits = fits; fits = code-lt value fits; bits = refl; struck = refl; shown = λ is. absurd (unstruck is) }

pub byte_written : (how : How) (value : ℕ) (h : List Moment) → value < 2 ^ 8 → IsByteOf value (Written how ∷ h) (fresh_byte value)
byte_written how value h fits = record { value_fits = fits; fits = code-lt value fits; bits = refl; struck = refl; shown = λ is. absurd (unstruck is) }

-- it is checked
pub byte_checked : (value : ℕ) (h : List Moment) (byte : ParityByte) → IsByteOf value h byte → IsByteOf value (checked_byte h) byte
byte_checked value h byte is = cases (is_struck_byte h) refl
  where
    cases : (b : Bool) → is_struck_byte h ≡ b → IsByteOf value (cond b (Found ∷ h) h) byte
    cases true e = record { value_fits = is.value_fits; fits = is.fits; bits = is.bits; struck = is.struck; shown = is.shown }
    cases false e = is

-- no flip stands in one that is not struck
pub none_standing : (h : List Moment) → is_struck_byte h ≡ false → standing byte_budget h ≡ []
none_standing h unstruck = nothing (standing byte_budget h) unstruck
  where
    nothing : (flips : List Standing) → nat_lt 0 (length flips) ≡ false → flips ≡ []
    nothing flips none = nil_from_length flips (grind (arith, nat_tests))

-- such a byte reads as what was last written
pub byte_reads : (value : ℕ) (h : List Moment) (byte : ParityByte) → IsByteOf value h byte → is_struck_byte h ≡ false → byte.bits % 2 ^ 8 ≡ value
byte_reads value h byte is unstruck =
    ap (λ (n : ℕ). n % 2 ^ 8) (is.bits ∙ ap (λ (flips : List Standing). toggles.struck (code value) (turned byte_bits flips)) (none_standing h unstruck))
    ∙ byte_of-code value is.value_fits

-- ---- a flip

-- a single flip stands at its bit
single : (number bit : ℕ) → bit < byte_bits → turned byte_bits (record { number = number; bit = bit } ∷ []) ≡ bit ∷ []
single number zero lt = refl
single number (suc zero) lt = refl
single number (suc (suc zero)) lt = refl
single number (suc (suc (suc zero))) lt = refl
single number (suc (suc (suc (suc zero)))) lt = refl
single number (suc (suc (suc (suc (suc zero))))) lt = refl
single number (suc (suc (suc (suc (suc (suc zero)))))) lt = refl
single number (suc (suc (suc (suc (suc (suc (suc zero))))))) lt = refl
single number (suc (suc (suc (suc (suc (suc (suc (suc zero)))))))) lt = refl
single number (suc (suc (suc (suc (suc (suc (suc (suc (suc more))))))))) lt = absurd (omega arith)

no_some : (b : ℕ) → Some b ≡ None → ⊥
no_some b e = cc

-- one flipped bit of nine makes the parity wrong
odd : (value bit bits : ℕ) → bit < byte_bits → value < 2 ^ 8 → bits ≡ code value → bit_xor bits (2 ^ bit) / 2 ^ 8 ≢ parity (bit_xor bits (2 ^ bit) % 2 ^ 8)
odd value bit bits lt fits clean even =
    let small : bits < 2 ^ 9 = rw clean (code-lt value fits) in
    no_some (bit_xor bits (2 ^ bit) % 2 ^ 8)
    (reads_even (bit_xor bits (2 ^ bit)) value (bit ∷ []) (xor_lt 9 bits (2 ^ bit) small (pow-lt lt)) even fits (lt, All-nil (λ other. other ≢ bit), tt) (omega arith) (ap (λ (n : ℕ). bit_xor n (2 ^ bit)) clean))

pub byte_struck : (value number bit : ℕ) (h : List Moment) (byte : ParityByte) → bit < byte_bits → IsByteOf value h byte → IsByteOf value (Struck number bit ∷ h) (flipped_byte bit byte)
byte_struck value number bit h byte lt is = cases (is_struck_byte h) refl
  where
    cases : (b : Bool) → is_struck_byte h ≡ b → IsByteOf value (Struck number bit ∷ h) (flipped_byte bit byte)
    cases true e =
        let full : nat_lt (length (standing byte_budget h)) 1 ≡ false = grind (arith, nat_tests) in
        let same : standing byte_budget (Struck number bit ∷ h) ≡ standing byte_budget h = ap (λ (b : Bool). cond b (record { number = number; bit = bit } ∷ standing byte_budget h) (standing byte_budget h)) full in
        let stays : flipped_byte bit byte ≡ byte = ap (λ (b : Bool). cond b byte (record { bits = bit_xor byte.bits (2 ^ bit); struck = true })) (is.struck ∙ e) in
        rw stays (record {
          value_fits = is.value_fits;
          fits = is.fits;
          bits = is.bits ∙ ap (λ (flips : List Standing). toggles.struck (code value) (turned byte_bits flips)) (sym same);
          struck = is.struck ∙ ap (λ (flips : List Standing). nat_lt 0 (length flips)) (sym same);
          shown = is.shown;
        })
    cases false e =
        let none : standing byte_budget h ≡ [] = none_standing h e in
        let one : standing byte_budget (Struck number bit ∷ h) ≡ record { number = number; bit = bit } ∷ [] = ap (struck byte_budget number bit) none in
        let flips : flipped_byte bit byte ≡ record { bits = bit_xor byte.bits (2 ^ bit); struck = true } = ap (λ (b : Bool). cond b byte (record { bits = bit_xor byte.bits (2 ^ bit); struck = true })) (is.struck ∙ e) in
        let clean : byte.bits ≡ code value = is.bits ∙ ap (λ (flips : List Standing). toggles.struck (code value) (turned byte_bits flips)) none in
        rw flips (record {
          value_fits = is.value_fits;
          fits = xor_lt 9 byte.bits (2 ^ bit) is.fits (pow-lt lt);
          bits = ap (λ (n : ℕ). bit_xor n (2 ^ bit)) clean ∙ sym (ap (λ (flips : List Standing). toggles.struck (code value) (turned byte_bits flips)) one ∙ ap (toggles.struck (code value)) (single number bit lt));
          struck = sym (ap (λ (flips : List Standing). nat_lt 0 (length flips)) one);
          shown = λ yes. odd value bit byte.bits lt is.value_fits clean;
        })

-- ---- the check of its parity

-- it is bad exactly where it is struck
pub bad_struck : (value : ℕ) (h : List Moment) (byte : ParityByte) → IsByteOf value h byte → is_bad byte ≡ is_struck_byte h
bad_struck value h byte is = cases byte.struck refl ∙ is.struck
  where
    wrong : byte.bits / 2 ^ 8 ≢ parity (byte.bits % 2 ^ 8) → not (nat_eq (byte.bits / 2 ^ 8) (parity (byte.bits % 2 ^ 8))) ≡ true
    wrong differs = ap not (ne_eqb (byte.bits / 2 ^ 8) (parity (byte.bits % 2 ^ 8)) differs)

    cases : (b : Bool) → byte.struck ≡ b → (b && not (nat_eq (byte.bits / 2 ^ 8) (parity (byte.bits % 2 ^ 8)))) ≡ b
    cases true e = wrong (is.shown e)
    cases false e = refl
