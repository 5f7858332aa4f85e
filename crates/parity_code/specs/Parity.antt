-- A byte under parity, as the caches of LEON3FT keep it (GRLIB, LEON3FT, caches): bits 0 to 7 are the byte, bit 8 its parity.
use Rattle.std.specs.Prelude.{◌≡◌, ℕ, ◌+◌, ◌*◌, ◌%◌, ◌^◌, ◌<◌, ◌≤◌, List, [], ◌∷◌, length, Option, Some, None}
use Rattle.lf_num.specs.Bits.{ones_below}
use Rattle.lf_num.specs.Toggles.{struck, IsPlaceSet}

-- 1 where a byte has an odd number of ones, else 0
abbrev pub parity : ℕ → ℕ
parity byte = ones_below 8 byte % 2

-- the nine bits that hold a byte
unfoldable pub code : ℕ → ℕ
code byte = parity byte * 2 ^ 8 + byte

-- what nine bits read as, by the byte that they held and the set of bits that were turned since: a turned bit is detected
abbrev pub read_of : ℕ → List ℕ → Option ℕ
read_of byte [] = Some byte
read_of byte (bit ∷ bits) = None

-- the promise: nine bits that differ from a byte's by at most one bit read by that
abbrev pub ReadsStruck : ℕ → Option ℕ → Type 0
ReadsStruck bits answer =
    (byte : ℕ) (turned : List ℕ) → byte < 2 ^ 8 → IsPlaceSet 9 turned → length turned ≤ 1 → bits ≡ struck (code byte) turned → answer ≡ read_of byte turned
