-- Parts of a word, which are bytes and halves: memory is big-endian (SPARC V8, chapter 5, data formats).
use Rattle.std.specs.Prelude.{◌≡◌, ℕ, ◌+◌, ◌-◌, ◌*◌, ◌/◌, ◌%◌, ◌^◌, ◌<◌, ◌==◌, ◌||◌, ◌&&◌, nat_le, nat_lt, Bool, if◌then◌else◌}
use Rattle.lf_model.specs.Operation.{byte_of}

-- a byte, or a half
abbrev pub is_part : ℕ → Bool
is_part len = len == 1 || len == 2

-- how many bits of a word stand below the `len` bytes from an address on
abbrev pub bits_below : ℕ → ℕ → ℕ
bits_below addr len = 8 * (4 - addr % 4 - len)

-- a word with the `len` bytes from an address on replaced by the low bytes of a number: the bits above them, the number,
-- and the bits below them; with `len` 4 it is the number
unfoldable pub merged : ℕ → ℕ → ℕ → ℕ → ℕ
merged word addr len value =
    let low = bits_below addr len in
    word / 2 ^ (low + 8 * len) * 2 ^ (low + 8 * len) + value % 2 ^ (8 * len) * 2 ^ low + word % 2 ^ low

-- byte by byte: the bytes from the address on are those of the number, and each other byte of the word is as it was
abbrev pub HasMergedBytes : ℕ → ℕ → ℕ → ℕ → ℕ → Type 0
HasMergedBytes word addr len value new =
    (i : ℕ) → i < 4 → byte_of new 4 i ≡ (if nat_le (addr % 4) i && nat_lt i (addr % 4 + len) then byte_of value len (i - addr % 4) else byte_of word 4 i)
