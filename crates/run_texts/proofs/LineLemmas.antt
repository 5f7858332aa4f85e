-- The first line of a text, and the number of its lines.
use Rattle.std.proofs.Common.{ℕ, suc, inl, inr, ◌≡◌, ◌+◌, ◌<◌, ◌≤◌, ◌==◌, Bool, false, List, [], ◌∷◌, length, take, drop, Some, None, position, refl, ap, ◌∙◌, arith}
use Rattle.std.specs.List.{slice_split, onto_first, position_or_len, All}
use Rattle.std.specs.Str.Lines.{lines, lines_of_parts, strip_carriage_return}
use Rattle.std.proofs.lemmas.List.Splits.{slice_split_first, slice_split_none, slice_split-cons_yes, slice_split-cons_no, length-slice_split}
use Rattle.std.proofs.lemmas.List.Sums.{fails_before_first}
use Rattle.std.proofs.lemmas.List.Elements.{All-from_get_or}
use Rattle.std.proofs.lemmas.Bool.{ne_eqb, cases_Bool}
use Rattle.std.proofs.lemmas.Bool.Decides.{nat_tests}

abbrev is_line_feed : ℕ → Bool
is_line_feed byte = byte == 10

-- a part that another follows is a line, without its carriage return
parts_cons : (part : List ℕ) (parts : List (List ℕ)) → 0 < length parts
    → lines_of_parts (part ∷ parts) ≡ strip_carriage_return part ∷ lines_of_parts parts
parts_cons part [] some = absurd (omega arith)
parts_cons part (next ∷ parts) some = refl

-- where a text has a line feed, its first line ends there
pub lines_at : (text : List ℕ) (end : ℕ) → position is_line_feed text ≡ Some end
    → lines text ≡ strip_carriage_return (take end text) ∷ lines (drop (end + 1) text)
lines_at text end found =
    let within : position_or_len is_line_feed text < length text = grind (arith, nat_tests) in
    let place : position_or_len is_line_feed text ≡ end = grind (arith, nat_tests) in
    let behind : List ℕ = drop (position_or_len is_line_feed text + 1) text in
    let parts = slice_split_first is_line_feed text 0 within in
    ap lines_of_parts parts
    ∙ parts_cons (take (position_or_len is_line_feed text) text) (slice_split is_line_feed behind) (omega (arith, length-slice_split is_line_feed behind))
    ∙ ap (λ at. strip_carriage_return (take at text) ∷ lines (drop (at + 1) text)) place

-- where it has none, it is one line
pub lines_last : (text : List ℕ) → 0 < length text → position is_line_feed text ≡ None → lines text ≡ text ∷ []
lines_last text some none =
    let past : length text ≤ position_or_len is_line_feed text = grind (arith, nat_tests) in
    let each : All (λ byte. is_line_feed byte ≡ false) text =
    All-from_get_or (λ byte. is_line_feed byte ≡ false) text 0 (λ i lt. fails_before_first is_line_feed text i 0 (omega arith)) in
    ap lines_of_parts (slice_split_none is_line_feed text each) ∙ one text some
  where
    one : (text : List ℕ) → 0 < length text → lines_of_parts (text ∷ []) ≡ text ∷ []
    one [] some = absurd (omega arith)
    one (byte ∷ text) some = rw (ne_eqb (length (byte ∷ text)) 0 (omega arith)) refl

-- a byte in front of the first part adds a line at most
length-onto_first : (byte : ℕ) (parts : List (List ℕ)) → length (lines_of_parts (onto_first byte parts)) ≤ 1 + length (lines_of_parts parts)
length-onto_first byte [] = omega arith
length-onto_first byte (part ∷ []) = rw (ne_eqb (suc (length part)) 0 (omega arith)) (omega arith)
length-onto_first byte (part ∷ next ∷ parts) = omega arith

-- a text has at most a line for each byte
pub length-lines : (text : List ℕ) → length (lines text) ≤ length text
length-lines [] = omega arith
length-lines (byte ∷ text) =
    let parts : List (List ℕ) = slice_split is_line_feed text in
    let some : 0 < length parts = omega (arith, length-slice_split is_line_feed text) in
    elim (cases_Bool (is_line_feed byte)) [
      | inl ends ↦ rw (slice_split-cons_yes is_line_feed byte text ends, parts_cons [] parts some) (omega (arith, length-lines text))
      | inr other ↦ rw (slice_split-cons_no is_line_feed byte text other) (omega (arith, length-onto_first byte parts, length-lines text))
    ]
