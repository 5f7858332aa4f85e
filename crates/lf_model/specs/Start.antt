-- Memory at the start: the image's bytes in RAM, which of them are text, and which addresses are in RAM.
-- Numbers stand big-endian (SPARC V8, chapter 5, data formats). Where RAM and the output word lie, and that text
-- is write-protected, is this machine's own.
use Rattle.std.specs.Prelude.{ℕ, zero, suc, ◌≡◌, ◌≤◌, ◌+◌, ◌-◌, ◌*◌, ◌%◌, ◌^◌, IsTrue, All, length, Bool, ◌&&◌, nat_lt, nat_le, slice_index, find, List}
use Rattle.std.specs.List.{list_any, list_all, range_with_len}
use Rattle.std.specs.Option.{option_map_or}
use Rattle.lf_model.specs.declared.image.Segment.{Segment}
use Rattle.lf_model.specs.declared.image.Range.{Range}
use Rattle.lf_model.specs.declared.image.Image.{Image}

-- the first address of RAM
abbrev pub ram_first : ℕ
ram_first = 0x40000000

-- the output word: a word stored here is a byte of the core's output
abbrev pub output_word : ℕ
output_word = 0x80000100

-- the segment holds this address
abbrev pub covers : ℕ → Segment → Bool
covers a s = nat_le s.addr a && nat_lt a (s.addr + s.size)

-- the byte that a segment has at this address: 0 past the bytes that the file gives
abbrev pub byte_in : ℕ → Segment → ℕ
byte_in a s = slice_index s.bytes (a - s.addr)

-- the byte of memory at the start: its segment's byte, else 0
abbrev pub initial_byte : Image → ℕ → ℕ
initial_byte image a = option_map_or (byte_in a) (find (covers a) image.segments) 0

-- the address is in the range
abbrev pub in_range : ℕ → Range → Bool
in_range a r = nat_le r.first a && nat_lt a (r.first + r.length)

-- the byte at this address is text: executable and write-protected
abbrev pub is_text_byte : List Range → ℕ → Bool
is_text_byte text a = list_any (in_range a) text

-- a word, whose address is a multiple of 4, is a text word where all its four bytes are text bytes
abbrev pub is_text_word : List Range → ℕ → Bool
is_text_word text a = list_all (λ i. is_text_byte text (a + i)) (range_with_len 0 4)

-- one of the bytes from a on is a text byte
abbrev pub touches_text : List Range → ℕ → ℕ → Bool
touches_text text a len = list_any (λ i. is_text_byte text (a + i)) (range_with_len 0 len)

-- all the bytes from a on are in RAM of this size
abbrev pub is_in_ram : ℕ → ℕ → ℕ → Bool
is_in_ram ram a len = nat_le ram_first a && nat_le (a + len) (ram_first + ram)

-- the big-endian number of the bytes from a on
unfoldable pub number_at : (ℕ → ℕ) → ℕ → ℕ → ℕ
number_at byte a zero = 0
number_at byte a (suc n) = number_at byte a n * 2 ^ 8 + byte (a + n)

-- the image's word at an address
abbrev pub word_at : Image → ℕ → ℕ
word_at image a = number_at (initial_byte image) a 4

-- the image can be loaded into RAM of this size: its segments, with no more bytes than memory, and its text lie in RAM,
-- and its entry is a text word
pub record IsLoadable (ram : ℕ) (image : Image) : Type 0 where
  pub segments : All (λ s. IsTrue (is_in_ram ram s.addr s.size)) image.segments
  pub bytes : All (λ s. length s.bytes ≤ s.size) image.segments
  pub text : All (λ r. IsTrue (is_in_ram ram r.first r.length)) image.text
  pub aligned : image.entry % 4 ≡ 0
  pub entry : IsTrue (is_text_word image.text image.entry)
