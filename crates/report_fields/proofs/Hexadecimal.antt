-- A number in hexadecimal digits is read again, and what is read as one was spelled so.
use Rattle.std.proofs.Common.{◌≡◌, ℕ, zero, suc, ◌+◌, ◌*◌, ◌/◌, ◌%◌, ◌^◌, ◌<◌, ◌≤◌, List, [], ◌∷◌, ◌++◌, refl, sym, ap, ◌∙◌, append_assoc, mul_comm, arith}
use Rattle.std.specs.Prelude.{Some, None}
use Rattle.std.proofs.Math.Nat.{pow-succ', div-div-eq-div-mul, div-eq_of_lt, div-one, one-le-pow, lt-div-mul-add}
use Rattle.std.proofs.lemmas.Bool.{ne_eqb}
use Rattle.std.proofs.lemmas.Bool.Decides.{nat_tests}
use Rattle.std.proofs.lemmas.Option.{none-some, some_pair_parts}
use Rattle.lf_model.specs.Texts.{glyph, hex, hex_field}
use Rattle.report_fields.specs.Reading.{without, before}
use Rattle.report_fields.specs.Digits.{digit_of, hex_more, hex_at}
use Rattle.report_fields.proofs.Laws.{Reads, bind_some, literal_passes, before_reads}

pub digit_glyph : (b d : ℕ) → digit_of b ≡ Some d → (b ≡ glyph d) × (d < 16)
digit_glyph b d e = grind (arith, nat_tests)

pub glyph_digit : (d : ℕ) → d < 16 → digit_of (glyph d) ≡ Some d
glyph_digit d small = grind (arith, nat_tests)

pub glyph_above : (d : ℕ) → 48 ≤ glyph d
glyph_above d = grind (arith, nat_tests)

div_pow : (m k : ℕ) → m / 16 ^ suc k ≡ m / 16 ^ k / 16
div_pow m k = ap (λ (p : ℕ). m / p) (pow-succ' 16 k ∙ mul_comm 16 (16 ^ k)) ∙ sym (div-div-eq-div-mul m (16 ^ k) 16)

hex_take : (k n : ℕ) (bytes : List ℕ) (m : ℕ) (rest : List ℕ) → hex_more k n bytes ≡ Some (m, rest) → (bytes ≡ hex k m ++ rest) × (m / 16 ^ k ≡ n)
unfolding hex
hex_take zero n bytes m rest e =
    let p = some_pair_parts n m bytes rest e in
    (p.1, rw (div-one m) (sym p.0))
hex_take (suc k) n [] m rest e = absurd (none-some (m, rest) e)
hex_take (suc k) n (b ∷ bs) m rest e =
    let a = bind_some (digit_of b) (λ d. hex_more k (16 * n + d) bs) (m, rest) e in
    let d : ℕ = a.0 in
    let g = digit_glyph b d a.1 in
    let ih = hex_take k (16 * n + d) bs m rest a.2 in
    let digit : m / 16 ^ k % 16 ≡ d = rw ih.1 (omega (arith, g.1)) in
    let above : m / 16 ^ suc k ≡ n = div_pow m k ∙ rw ih.1 (omega (arith, g.1)) in
    (ap (λ (x : ℕ). x ∷ bs) (g.0 ∙ ap glyph (sym digit)) ∙ ap (λ (r : List ℕ). glyph (m / 16 ^ k % 16) ∷ r) ih.0, above)

hex_again : (k m : ℕ) (rest : List ℕ) → hex_more k (m / 16 ^ k) (hex k m ++ rest) ≡ Some (m, rest)
unfolding hex
hex_again zero m rest = rw (div-one m) refl
hex_again (suc k) m rest =
    let v : 16 * (m / 16 ^ suc k) + m / 16 ^ k % 16 ≡ m / 16 ^ k = rw (div_pow m k) (omega arith) in
    rw (glyph_digit (m / 16 ^ k % 16) (omega arith)) (ap (λ (n : ℕ). hex_more k n (hex k m ++ rest)) v ∙ hex_again k m rest)

below_power : (k m : ℕ) → m / 16 ^ k ≡ 0 → m < 16 ^ k
below_power k m none =
    let whole : m < m / 16 ^ k * 16 ^ k + 16 ^ k = lt-div-mul-add {a = m} (omega (arith, one-le-pow k 16 (omega arith))) in
    omega (arith, rw none at whole)

pub digits_reads : (k : ℕ) → Reads (λ m. m < 16 ^ k) (hex k) (hex_more k 0)
digits_reads k = record {
  takes = λ bytes m rest e. let t = hex_take k 0 bytes m rest e in (t.0, below_power k m t.1);
  again = λ m rest small. ap (λ (n : ℕ). hex_more k n (hex k m ++ rest)) (sym (div-eq_of_lt small)) ∙ hex_again k m rest;
}

pub hex_reads : (stop k : ℕ) → Reads (λ m. m < 16 ^ k) (hex_field stop k) (hex_at stop k)
unfolding hex_at
hex_reads stop k = before_reads (digits_reads k) (literal_passes (stop ∷ []))

-- a longer number is no number of so many digits
hex_part : (k n j m : ℕ) (whole : ℕ) (rest : List ℕ) → whole ≡ k + suc j → (v : ℕ) × (hex_more k n (hex whole m ++ rest) ≡ Some (v, hex (suc j) m ++ rest))
unfolding hex
hex_part zero n j m whole rest is =
    let same : whole ≡ suc j = omega (arith, is) in
    (n, ap (λ (w : ℕ). Some (n, hex w m ++ rest)) same)
hex_part (suc k) n j m zero rest is = absurd (omega arith)
hex_part (suc k) n j m (suc whole) rest is =
    let d : ℕ = m / 16 ^ whole % 16 in
    let ih = hex_part k (16 * n + d) j m whole rest (omega arith) in
    (ih.0, rw (glyph_digit d (omega arith)) ih.1)

pub hex_refuses : (stop k j m : ℕ) (whole : ℕ) (rest : List ℕ) → stop < 48 → whole ≡ k + suc j → hex_at stop k (hex_field stop whole m ++ rest) ≡ None
unfolding hex_at hex
hex_refuses stop k j m whole rest below is =
    let p = hex_part k 0 j m whole (stop ∷ rest) is in
    let other : stop ≡ glyph (m / 16 ^ j % 16) → ⊥ = λ same. omega (arith, same, glyph_above (m / 16 ^ j % 16)) in
    ap (before (hex_more k 0) (without (stop ∷ []))) (append_assoc (hex whole m) (stop ∷ []) rest) ∙ rw (p.1, ne_eqb stop (glyph (m / 16 ^ j % 16)) other) refl

-- digits do not begin with a dash
pub no_dash : (stop k m : ℕ) (text rest : List ℕ) → without (45 ∷ text) (hex_field stop (suc k) m ++ rest) ≡ None
unfolding hex
no_dash stop k m text rest = rw (ne_eqb 45 (glyph (m / 16 ^ k % 16)) (λ same. omega (arith, same, glyph_above (m / 16 ^ k % 16)))) refl
