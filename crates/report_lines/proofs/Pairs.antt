-- Bytes of two digits, read one after another: those read already stand before those that are left.
use Rattle.std.proofs.Common.{◌≡◌, ℕ, ◌+◌, ◌*◌, List, [], ◌∷◌, ◌++◌, refl, sym, ap, ◌∙◌, append_assoc, arith}
use Rattle.std.proofs.lemmas.Bool.{ne_eqb}
use Rattle.std.proofs.lemmas.Option.{none-some, some_pair_parts}
use Rattle.std.specs.Prelude.{Option, Some, None}
use Rattle.report_fields.specs.Reading.{Read, ◌>>=◌}
use Rattle.report_fields.specs.Digits.{digit_of}
use Rattle.report_lines.specs.CoreLines.{pair_at, pairs_at}

abbrev pub ahead : List ℕ → Read (List ℕ) → Read (List ℕ)
ahead xs None = None
ahead xs (Some y) = Some (xs ++ y.0, y.1)

-- with one byte before
abbrev consed : ℕ → Read (List ℕ) → Read (List ℕ)
consed x read = read >>= λ y. Some (x ∷ y.0, y.1)

moved : (xs : List ℕ) (x : ℕ) (read : Read (List ℕ)) → ahead (xs ++ x ∷ []) read ≡ ahead xs (consed x read)
moved xs x None = refl
moved xs x (Some y) = rw append_assoc refl

-- what two digits read, and what they read with those after them
abbrev pair_of : Option ℕ → Option ℕ → List ℕ → Read ℕ
pair_of high low after = high >>= λ h. low >>= λ l. Some (16 * h + l, after)

abbrev pairs_of : Option ℕ → Option ℕ → Read (List ℕ) → Read (List ℕ)
pairs_of high low read = high >>= λ h. low >>= λ l. read >>= λ y. Some ((16 * h + l) ∷ y.0, y.1)

read_more : (high low : Option ℕ) (after : List ℕ) (x : ℕ) (later : List ℕ) → pair_of high low after ≡ Some (x, later)
    → pairs_of high low (pairs_at after) ≡ pairs_of (Some 0) (Some x) (pairs_at later)
read_more None low after x later e = absurd (none-some (x, later) e)
read_more (Some h) None after x later e = absurd (none-some (x, later) e)
read_more (Some h) (Some l) after x later e =
    let both = some_pair_parts (16 * h + l) x after later e in
    let value : 16 * h + l ≡ 16 * 0 + x = omega (arith, both.0) in
    ap (λ (n : ℕ). consed n (pairs_at after)) value ∙ ap (λ (r : List ℕ). consed (16 * 0 + x) (pairs_at r)) both.1

refused : (high low : Option ℕ) (after : List ℕ) (read : Read (List ℕ)) → ◌≡◌ {A = Read ℕ} (pair_of high low after) None → ◌≡◌ {A = Read (List ℕ)} (pairs_of high low read) None
refused None low after read e = refl
refused (Some h) None after read e = refl
refused (Some h) (Some l) after read e = absurd (none-some (16 * h + l, after) (sym e))

pub pairs_more : (b x : ℕ) (after later : List ℕ) → (b ≡ 10 → ⊥) → pair_at b after ≡ Some (x, later) → pairs_at (b ∷ after) ≡ consed x (pairs_at later)
pairs_more b x [] later other e = absurd (none-some (x, later) e)
pairs_more b x (c ∷ after) later other e =
    let value : 16 * 0 + x ≡ x = omega arith in
    rw (ne_eqb b 10 other) (read_more (digit_of b) (digit_of c) after x later e ∙ ap (λ (n : ℕ). consed n (pairs_at later)) value)

pub pairs_refused : (b : ℕ) (after : List ℕ) → (b ≡ 10 → ⊥) → ◌≡◌ {A = Read ℕ} (pair_at b after) None → ◌≡◌ {A = Read (List ℕ)} (pairs_at (b ∷ after)) None
pairs_refused b [] other e = rw (ne_eqb b 10 other) refl
pairs_refused b (c ∷ after) other e = rw (ne_eqb b 10 other) (refused (digit_of b) (digit_of c) after (pairs_at after) e)

pub pairs_end : (after : List ℕ) → pairs_at (10 ∷ after) ≡ Some ([], after)
pairs_end [] = refl
pairs_end (c ∷ after) = refl

-- one byte more stands before those that are left
pub pushed_on : (xs ys : List ℕ) (b x : ℕ) (rest after later : List ℕ) (read : Read (List ℕ)) → (b ≡ 10 → ⊥) → rest ≡ b ∷ after → pair_at b after ≡ Some (x, later)
    → ys ≡ xs ++ x ∷ [] → ahead xs (pairs_at rest) ≡ read → ahead ys (pairs_at later) ≡ read
pushed_on xs ys b x rest after later read other here pair push e =
    let opened : ahead xs (pairs_at rest) ≡ ahead xs (consed x (pairs_at later)) = rw here (ap (ahead xs) (pairs_more b x after later other pair)) in
    rw push (moved xs x (pairs_at later) ∙ sym opened ∙ e)
