-- Fields of a text: numbers in decimal and in hexadecimal digits. A field carries the byte that ends it.
use Rattle.std.specs.Prelude.{ℕ, zero, suc, ◌+◌, ◌/◌, ◌%◌, ◌^◌, ◌∷◌, ◌++◌, [], List, nat_lt, if◌then◌else◌}
use Rattle.std.specs.Fmt.{decimal}

-- the bytes that end fields
abbrev pub space : ℕ
space = 32

abbrev pub line_feed : ℕ
line_feed = 10

-- a number in decimal digits, without leading zeros
abbrev pub number : ℕ → ℕ → List ℕ
number stop n = decimal n ++ stop ∷ []

-- a hexadecimal digit, in capitals
abbrev pub glyph : ℕ → ℕ
glyph d = if nat_lt d 10 then 48 + d else 55 + d

-- the last so many hexadecimal digits of a number
unfoldable pub hex : ℕ → ℕ → List ℕ
hex zero n = []
hex (suc k) n = glyph (n / 16 ^ k % 16) ∷ hex k n

-- a field of so many hexadecimal digits
abbrev pub hex_field : ℕ → ℕ → ℕ → List ℕ
hex_field stop digits n = hex digits n ++ stop ∷ []
