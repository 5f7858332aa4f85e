-- A text of fields: its lines, the fields of a line, and the numbers that fields write. Bytes are ASCII codes.
use Rattle.std.specs.Prelude.{ℕ, Bool, false, not, ◌==◌, ◌||◌, ◌&&◌, nat_eq, nat_lt, nat_le, if◌then◌else◌, List, [], ◌∷◌, length, map, filter, Option, Some, None, codes}
use Rattle.std.specs.List.{slice_split, starts_with, list_all}
use Rattle.std.specs.Char.{is_digit}
use Rattle.std.specs.Str.Lines.{lines}
use Rattle.std.specs.Str.Parse.{digits_value}

-- the bytes that separate fields: space and tab
abbrev pub is_blank : ℕ → Bool
is_blank byte = byte == 32 || byte == 9

-- the fields of a line: the pieces between blanks, without those that are empty
unfoldable pub fields : List ℕ → List (List ℕ)
fields line = filter (λ piece. nat_lt 0 (length piece)) (slice_split is_blank line)

-- A text as the fields of its lines. A line ends with a line feed, or with a carriage return and a line feed, which are
-- no part of it; the last line may lack the line feed, and is then the whole rest.
unfoldable pub rows : List ℕ → List (List (List ℕ))
rows text = map fields (lines text)

-- a line whose first field begins with `#` is a comment
abbrev pub is_comment : List ℕ → Bool
is_comment first = starts_with nat_eq first (codes "#")

-- a line that says something: it is neither empty nor a comment
abbrev pub is_statement : List (List ℕ) → Bool
is_statement [] = false
is_statement (first ∷ others) = not (is_comment first)

-- the number that digits of a radix write, None where a byte is no such digit
abbrev pub numeral : ℕ → List ℕ → Option ℕ
numeral radix digits = if list_all (λ byte. is_digit byte radix) digits then Some (digits_value radix digits) else None

-- a number: 1 to 10 decimal digits, which may begin with zeros
unfoldable pub decimal : List ℕ → Option ℕ
decimal field = if nat_le 1 (length field) && nat_le (length field) 10 then numeral 10 field else None

-- an address: exactly 8 hexadecimal digits, of either case
unfoldable pub hexadecimal : List ℕ → Option ℕ
hexadecimal field = if length field == 8 then numeral 16 field else None
