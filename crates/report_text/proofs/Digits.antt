-- Hexadecimal digits: a shift finds one of them, and they are written from the first one on.
use Rattle.std.proofs.Common.{◌≡◌, ℕ, zero, suc, ◌+◌, ◌*◌, ◌/◌, ◌%◌, ◌^◌, ◌<◌, ◌≤◌, List, [], ◌∷◌, ◌++◌, refl, sym, ap, ◌∙◌, append_assoc, add-one, arith}
use Rattle.std.proofs.Math.Nat.{pow-succ', pow-le-pow_right, div-eq_of_lt}
use Rattle.std.proofs.lemmas.List.{append-nil}
use Rattle.lf_model.specs.Texts.{hex, glyph}

next_power : (m k : ℕ) → m ≡ k + 1 → 2 ^ m ≡ 2 * 2 ^ k
next_power m k is = ap (λ (e : ℕ). 2 ^ e) (is ∙ add-one k) ∙ pow-succ' 2 k

four_more : (e : ℕ) → 2 ^ (e + 4) ≡ 16 * 2 ^ e
four_more e =
    let fourth : 2 ^ (e + 4) ≡ 2 * 2 ^ (e + 3) = next_power (e + 4) (e + 3) (omega arith) in
    let third : 2 ^ (e + 3) ≡ 2 * 2 ^ (e + 2) = next_power (e + 3) (e + 2) (omega arith) in
    let second : 2 ^ (e + 2) ≡ 2 * 2 ^ (e + 1) = next_power (e + 2) (e + 1) (omega arith) in
    let first : 2 ^ (e + 1) ≡ 2 * 2 ^ e = next_power (e + 1) e refl in
    omega arith

pub power_of_16 : (k : ℕ) → 2 ^ (4 * k) ≡ 16 ^ k
power_of_16 zero = refl
power_of_16 (suc k) =
    let next : 4 * suc k ≡ 4 * k + 4 = omega arith in
    ap (λ (e : ℕ). 2 ^ e) next ∙ four_more (4 * k) ∙ ap (λ (p : ℕ). 16 * p) (power_of_16 k) ∙ sym (pow-succ' 16 k)

pub past_16 : (n k : ℕ) → n < 2 ^ 64 → 16 ≤ k → 0 ≡ n / 16 ^ k % 16
past_16 n k fits far =
    let large : 16 ^ 16 ≤ 16 ^ k = pow-le-pow_right (omega arith) far in
    let below : n < 16 ^ k = omega arith in
    rw (div-eq_of_lt below) refl

hex_on : (k n : ℕ) → hex (k + 1) n ≡ glyph (n / 16 ^ k % 16) ∷ hex k n
unfolding hex
hex_on k n = rw add-one refl

pub hex_step : (before after whole : List ℕ) (left later n byte digit : ℕ) → left ≡ later + 1 → before ++ hex left n ≡ whole
    → after ≡ before ++ byte ∷ [] → byte ≡ glyph digit → digit ≡ n / 16 ^ later % 16 → after ++ hex later n ≡ whole
hex_step before after whole left later n byte digit one e put shown found =
    let here : byte ∷ hex later n ≡ hex left n =
    ap (λ (b : ℕ). b ∷ hex later n) (shown ∙ ap glyph found) ∙ sym (hex_on later n) ∙ ap (λ (k : ℕ). hex k n) (sym one) in
    rw put (append_assoc before (byte ∷ []) (hex later n) ∙ ap (λ (ds : List ℕ). before ++ ds) here ∙ e)

pub hex_done : (text whole : List ℕ) (left n : ℕ) → left ≡ 0 → text ++ hex left n ≡ whole → text ≡ whole
unfolding hex
hex_done text whole left n none e = sym (append-nil text) ∙ ap (λ (k : ℕ). text ++ hex k n) (sym none) ∙ e
