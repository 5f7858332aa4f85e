-- The first field of a line.
use Rattle.std.proofs.Common.{ℕ, suc, ◌≡◌, ◌+◌, ◌<◌, true, false, not, nat_lt, List, [], ◌∷◌, length, take, drop, get_or, refl, sym, ap, ap₂, ◌∙◌, inl, inr, arith, add-one}
use Rattle.std.specs.List.{slice_split, position_or_len, prefix_len, All, filter}
use Rattle.std.proofs.Math.Seq.{drop-cons}
use Rattle.std.proofs.lemmas.List.Splits.{slice_split_first, slice_split_none, slice_split-cons_yes}
use Rattle.std.proofs.lemmas.List.Sums.{fails_before_first, passes_at_first, prefix_len-le-length}
use Rattle.std.proofs.lemmas.List.Elements.{All-from_get_or}
use Rattle.std.proofs.lemmas.List.{take_all, drop_all, length-take-le}
use Rattle.std.proofs.lemmas.Bool.{cases_Bool, cases_lt, lt-ltb}
use Rattle.run_texts.specs.Text.{is_blank, fields}

-- a blank in front is no part of a field
blank_cons : (byte : ℕ) (line : List ℕ) → is_blank byte ≡ true → fields (byte ∷ line) ≡ fields line
unfolding fields
blank_cons byte line blank = rw (slice_split-cons_yes is_blank byte line blank) refl

-- the blanks in front, one by one
skip : (byte : ℕ) (line : List ℕ) → is_blank byte ≡ true
    → drop (prefix_len is_blank (byte ∷ line)) (byte ∷ line) ≡ drop (prefix_len is_blank line) line
skip byte line blank =
    let next : 1 + prefix_len is_blank line ≡ suc (prefix_len is_blank line) = omega arith in
    rw (blank, next) refl

-- the blanks in front are no part of a field
pub fields_after_blanks : (line : List ℕ) → fields line ≡ fields (drop (prefix_len is_blank line) line)
fields_after_blanks [] = refl
fields_after_blanks (byte ∷ line) =
    elim (cases_Bool (is_blank byte)) [
      | inl blank ↦ blank_cons byte line blank ∙ fields_after_blanks line ∙ sym (ap fields (skip byte line blank))
      | inr other ↦ rw other refl
    ]

-- what follows the blanks in front begins with a field
pub begun : (line : List ℕ) → 0 < length (drop (prefix_len is_blank line) line)
    → 0 < position_or_len is_blank (drop (prefix_len is_blank line) line)
begun [] some = absurd (omega arith)
begun (byte ∷ line) some =
    elim (cases_Bool (is_blank byte)) [
      | inl blank ↦ rw (skip byte line blank) (begun line (rw (skip byte line blank) at some))
      | inr other ↦ rw other (rw other (omega arith))
    ]

-- a line without a byte has no fields
pub fields_none : (line : List ℕ) → length line ≡ 0 → fields line ≡ []
unfolding fields
fields_none [] none = refl
fields_none (byte ∷ line) none = absurd (omega arith)

-- a piece that is not empty is a field
piece_cons : (piece : List ℕ) (pieces : List (List ℕ)) → 0 < length piece
    → filter (λ (p : List ℕ). nat_lt 0 (length p)) (piece ∷ pieces) ≡ piece ∷ filter (λ (p : List ℕ). nat_lt 0 (length p)) pieces
piece_cons [] pieces some = absurd (omega arith)
piece_cons (byte ∷ piece) pieces some = rw (lt-ltb 0 (length (byte ∷ piece)) some) refl

-- the first field of a line that begins with it ends before the first blank
pub fields_begun : (line : List ℕ) → 0 < position_or_len is_blank line
    → fields line ≡ take (position_or_len is_blank line) line ∷ fields (drop (position_or_len is_blank line) line)
unfolding fields
fields_begun line some =
    let n : ℕ = position_or_len is_blank line in
    let tests : List (List ℕ) → List (List ℕ) = filter (λ (p : List ℕ). nat_lt 0 (length p)) in
    elim (cases_lt n (length line)) [
      | inl within ↦
          let behind : drop n line ≡ get_or line n 0 ∷ drop (n + 1) line = rw add-one (drop-cons line n 0 within) in
          ap tests (slice_split_first is_blank line 0 within)
          ∙ piece_cons (take n line) (slice_split is_blank (drop (n + 1) line)) (rw (length-take-le n line (omega arith)) some)
          ∙ ap (λ (fs : List (List ℕ)). take n line ∷ fs)
          (sym (ap fields behind ∙ blank_cons (get_or line n 0) (drop (n + 1) line) (passes_at_first is_blank line 0 within)))
      | inr all ↦
          let each : All (λ byte. is_blank byte ≡ false) line =
          All-from_get_or (λ byte. is_blank byte ≡ false) line 0 (λ i lt. fails_before_first is_blank line i 0 (omega arith)) in
          ap tests (slice_split_none is_blank line each)
          ∙ piece_cons line [] (omega (arith, prefix_len-le-length (λ byte. not (is_blank byte)) line))
          ∙ ap₂ (λ (f : List ℕ) (fs : List (List ℕ)). f ∷ fs) (sym (take_all n line all)) (sym (ap fields (drop_all n line all)))
    ]
