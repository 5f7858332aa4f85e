-- The headers that are read from a written file.
use Rattle.std.proofs.Common.{◌≡◌, ℕ, ◌+◌, ◌*◌, ◌^◌, ◌<◌, Bool, true, false, cond, ◌&&◌, List, [], ◌∷◌, ◌++◌, length, map, filter, drop, take, if◌then◌else◌, refl, sym, ap, ◌∙◌, append_assoc, arith}
use Rattle.std.specs.List.{range_with_len, flat_map, AllByRecursion as Each}
use Rattle.std.specs.Int.{from_bool}
use Rattle.std.proofs.lemmas.List.{length-append}
use Rattle.std.proofs.lemmas.Bool.{lt-ltb}
use Rattle.std.proofs.Math.Seq.{drop-append-add, drop-append_seam, take-append_seam}
use Rattle.byteorder.specs.Endian.{big_number, big_bytes}
use Rattle.byteorder.specs.Numbers.{big_number-reads_back}
use Rattle.lf_model.specs.declared.image.Segment.{Segment}
use Rattle.lf_model.specs.declared.image.Range.{Range}
use Rattle.elf_image.specs.declared.header.FileHeader.{FileHeader}
use Rattle.elf_image.specs.declared.header.ProgramHeader.{ProgramHeader}
use Rattle.elf_image.specs.Fields.{number_at}
use Rattle.elf_image.specs.Headers.{file_header_of, program_at, is_load, is_writable, is_executable, has}
use Rattle.elf_image.specs.Spelled.{segment_of, text_in}
use Rattle.elf_image.specs.Written.{file_header, program_header, program_headers, flags_of, contents, memory_of}
use Rattle.elf_image.proofs.WriterLemmas.{header_of, headers_first}

-- a number that stands behind other bytes
number_after : (front bytes : List ℕ) (length_ place offset : ℕ) → place ≡ length front
    → number_at (front ++ bytes) length_ (place + offset) ≡ number_at bytes length_ offset
unfolding number_at
number_after front bytes length_ place offset e =
    ap (λ n. big_number length_ (drop (n + offset) (front ++ bytes))) e ∙ ap (big_number length_) (drop-append-add front bytes offset)

-- the file header

abbrev pub header_read : ℕ → ℕ → FileHeader
header_read entry count = record {
  entry = entry;
  programs = record { place = 52; entry_size = 32; count = count };
  sections = record { place = 0; entry_size = 40; count = 0 };
}

pub header_fields : (entry count : ℕ) (rest : List ℕ) → entry < 256 ^ 4 → count < 256 ^ 2
    → file_header_of (file_header entry count ++ rest) ≡ header_read entry count
unfolding number_at file_header
header_fields entry count rest fits few =
    ap (λ e. header_read e (big_number 2 (big_bytes 2 count ++ []))) (big_number-reads_back 4 entry [] fits)
    ∙ ap (header_read entry) (big_number-reads_back 2 count [] few)

pub length-file_header : (entry count : ℕ) → length (file_header entry count) ≡ 52
unfolding file_header
length-file_header entry count = refl

-- the program headers

abbrev pub head : ℕ → ℕ → Segment → ProgramHeader
head at place s = record {
  place = at;
  kind = 1;
  offset = place;
  memory = memory_of s;
  file_size = length s.bytes;
  flags = flags_of s;
}

-- the numbers of a header fit their fields
pub record Fits (place : ℕ) (s : Segment) : Type 0 where
  pub offset : place < 256 ^ 4
  pub first : s.addr < 256 ^ 4
  pub bytes : length s.bytes < 256 ^ 4
  pub size : s.size < 256 ^ 4

flags_fit : (w x : Bool) → 4 + 2 * from_bool w + from_bool x < 256 ^ 4
flags_fit true true = omega arith
flags_fit true false = omega arith
flags_fit false true = omega arith
flags_fit false false = omega arith

pub length-header_of : (place : ℕ) (s : Segment) → length (header_of place s) ≡ 32
unfolding program_header
length-header_of place s = refl

-- a header at the front
head_read : (place : ℕ) (s : Segment) (rest : List ℕ) → Fits place s → (at : ℕ)
    → record {
      place = at;
      kind = number_at (header_of place s ++ rest) 4 0;
      offset = number_at (header_of place s ++ rest) 4 4;
      memory = record { first = number_at (header_of place s ++ rest) 4 8; length = number_at (header_of place s ++ rest) 4 20 };
      file_size = number_at (header_of place s ++ rest) 4 16;
      flags = number_at (header_of place s ++ rest) 4 24;
    } ≡ head at place s
unfolding number_at program_header
head_read place s rest fits at =
    let read = λ (x : ℕ). big_number 4 (big_bytes 4 x ++ []) in
    let with_fields = λ (offset first size file_size flags : ℕ). let p : ProgramHeader = record {
      place = at;
      kind = 1;
      offset = offset;
      memory = record { first = first; length = size };
      file_size = file_size;
      flags = flags;
    } in p in
    ap (λ o. with_fields o (read s.addr) (read s.size) (read (length s.bytes)) (read (flags_of s))) (big_number-reads_back 4 place [] fits.offset)
    ∙ ap (λ a. with_fields place a (read s.size) (read (length s.bytes)) (read (flags_of s))) (big_number-reads_back 4 s.addr [] fits.first)
    ∙ ap (λ z. with_fields place s.addr z (read (length s.bytes)) (read (flags_of s))) (big_number-reads_back 4 s.size [] fits.size)
    ∙ ap (λ n. with_fields place s.addr s.size n (read (flags_of s))) (big_number-reads_back 4 (length s.bytes) [] fits.bytes)
    ∙ ap (λ f. with_fields place s.addr s.size (length s.bytes) f) (big_number-reads_back 4 (flags_of s) [] (flags_fit s.write s.exec))

-- a header behind other bytes
program_read : (front rest : List ℕ) (at place : ℕ) (s : Segment) → at ≡ length front → Fits place s
    → program_at (front ++ (header_of place s ++ rest)) at ≡ head at place s
program_read front rest at place s e fits =
    let bytes = header_of place s ++ rest in
    let before = λ (offset : ℕ). number_at (front ++ bytes) 4 (at + offset) in
    let after = λ (offset : ℕ). number_at bytes 4 offset in
    let number = λ (offset : ℕ). number_after front bytes 4 at offset e in
    let with_numbers = λ (kind offset first size file_size flags : ℕ). let p : ProgramHeader = record {
      place = at;
      kind = kind;
      offset = offset;
      memory = record { first = first; length = size };
      file_size = file_size;
      flags = flags;
    } in p in
    ap (λ k. with_numbers k (before 4) (before 8) (before 20) (before 16) (before 24)) (number 0)
    ∙ ap (λ o. with_numbers (after 0) o (before 8) (before 20) (before 16) (before 24)) (number 4)
    ∙ ap (λ a. with_numbers (after 0) (after 4) a (before 20) (before 16) (before 24)) (number 8)
    ∙ ap (λ z. with_numbers (after 0) (after 4) (after 8) z (before 16) (before 24)) (number 20)
    ∙ ap (λ n. with_numbers (after 0) (after 4) (after 8) (after 20) n (before 24)) (number 16)
    ∙ ap (λ f. with_numbers (after 0) (after 4) (after 8) (after 20) (after 16) f) (number 24)
    ∙ head_read place s rest fits at

-- the headers of segments, from a place in the file on, with their bytes from another place on
abbrev pub heads : ℕ → ℕ → List Segment → List ProgramHeader
heads at place [] = []
heads at place (s ∷ ss) = head at place s ∷ heads (at + 32) (place + length s.bytes) ss

abbrev pub AllFit : ℕ → List Segment → Type 0
AllFit place [] = Unit {0}
AllFit place (s ∷ ss) = Fits place s × AllFit (place + length s.bytes) ss

pub programs_read : (ss : List Segment) (front rest file : List ℕ) (base i at place : ℕ) → at ≡ length front → base + 32 * i ≡ at
    → AllFit place ss → file ≡ front ++ (program_headers place ss ++ rest)
    → map (λ k. program_at file (base + 32 * k)) (range_with_len i (length ss)) ≡ heads at place ss
programs_read [] front rest file base i at place start here fit is = refl
programs_read (s ∷ ss) front rest file base i at place start here fit is =
    let header = header_of place s in
    let more = program_headers (place + length s.bytes) ss in
    let first : file ≡ front ++ (header ++ (more ++ rest)) =
    is ∙ ap (λ h. front ++ (h ++ rest)) (headers_first place s ss) ∙ ap (λ t. front ++ t) (append_assoc header more rest) in
    let next : file ≡ (front ++ header) ++ (more ++ rest) = first ∙ sym (append_assoc front header (more ++ rest)) in
    let moved : at + 32 ≡ length (front ++ header) = omega (arith, length-append front header, length-header_of place s) in
    let one : program_at file (base + 32 * i) ≡ head at place s =
    ap (program_at file) here ∙ ap (λ f. program_at f at) first ∙ program_read front (more ++ rest) at place s start fit.0 in
    let others : map (λ k. program_at file (base + 32 * k)) (range_with_len (i + 1) (length ss)) ≡ heads (at + 32) (place + length s.bytes) ss =
    programs_read ss (front ++ header) rest file base (i + 1) (at + 32) (place + length s.bytes) moved (omega arith) fit.1 next in
    ap (λ p. p ∷ map (λ k. program_at file (base + 32 * k)) (range_with_len (i + 1) (length ss))) one ∙ ap (λ ps. head at place s ∷ ps) others

-- none of them is passed over
pub heads_load : (ss : List Segment) (at place : ℕ) → Each (λ s. 0 < s.size) ss → filter is_load (heads at place ss) ≡ heads at place ss
heads_load [] at place h = refl
heads_load (s ∷ ss) at place h = rw (lt-ltb 0 s.size h.0) (ap (λ ps. head at place s ∷ ps) (heads_load ss (at + 32) (place + length s.bytes) h.1))

-- the flags of a segment
writable_flag : (w x : Bool) → has (4 + 2 * from_bool w + from_bool x) 2 ≡ w
writable_flag true true = refl
writable_flag true false = refl
writable_flag false true = refl
writable_flag false false = refl

executable_flag : (w x : Bool) → has (4 + 2 * from_bool w + from_bool x) 1 ≡ x
executable_flag true true = refl
executable_flag true false = refl
executable_flag false true = refl
executable_flag false false = refl

pub head_writable : (at place : ℕ) (s : Segment) → is_writable (head at place s) ≡ s.write
head_writable at place s = writable_flag s.write s.exec

pub head_executable : (at place : ℕ) (s : Segment) → is_executable (head at place s) ≡ s.exec
head_executable at place s = executable_flag s.write s.exec

-- the segments that they tell of
segment_with : Segment → List ℕ → Bool → Bool → Segment
segment_with s bytes write exec = record { addr = s.addr; bytes = bytes; size = s.size; write = write; exec = exec }

pub segments_read : (ss : List Segment) (front file : List ℕ) (at place : ℕ) → file ≡ front ++ contents ss → length front ≡ place
    → map (segment_of file) (heads at place ss) ≡ ss
unfolding segment_with
segments_read [] front file at place is start = refl
segments_read (s ∷ ss) front file at place is start =
    let more = contents ss in
    let dropped : drop place file ≡ s.bytes ++ more =
    ap (λ n. drop n file) (sym start) ∙ ap (drop (length front)) is ∙ drop-append_seam front (s.bytes ++ more) in
    let bytes : take (length s.bytes) (drop place file) ≡ s.bytes =
    ap (take (length s.bytes)) dropped ∙ take-append_seam s.bytes more in
    let one : segment_of file (head at place s) ≡ s =
    ap (λ xs. segment_with s xs (is_writable (head at place s)) (is_executable (head at place s))) bytes
    ∙ ap (λ w. segment_with s s.bytes w (is_executable (head at place s))) (head_writable at place s)
    ∙ ap (segment_with s s.bytes s.write) (head_executable at place s) in
    let next : file ≡ (front ++ s.bytes) ++ more = is ∙ sym (append_assoc front s.bytes more) in
    let others = segments_read ss (front ++ s.bytes) file (at + 32) (place + length s.bytes) next (omega (arith, length-append front s.bytes)) in
    ap (λ t. t ∷ map (segment_of file) (heads (at + 32) (place + length s.bytes) ss)) one ∙ ap (λ ts. s ∷ ts) others

-- the text of a segment that is not both
abbrev text_by : Bool → Bool → Range → List Range
text_by exec write memory = if exec then (if write then [] else memory ∷ []) else []

text_one : (at place : ℕ) (s : Segment) → (s.write && s.exec) ≡ false → text_in [] (head at place s) ≡ map memory_of (filter (λ t. t.exec) (s ∷ []))
unfolding text_in
text_one at place s not_both =
    ap (λ x. text_by x (is_writable (head at place s)) (memory_of s)) (head_executable at place s)
    ∙ ap (λ w. text_by s.exec w (memory_of s)) (head_writable at place s)
    ∙ cases s.write s.exec not_both
  where
    cases : (w x : Bool) → (w && x) ≡ false → text_by x w (memory_of s) ≡ map memory_of (cond x (s ∷ []) [])
    cases true true h = absurd cc
    cases true false h = refl
    cases false true h = refl
    cases false false h = refl

pub text_read : (ss : List Segment) (at place : ℕ) → Each (λ s. (s.write && s.exec) ≡ false) ss
    → flat_map (text_in []) (heads at place ss) ≡ map memory_of (filter (λ s. s.exec) ss)
text_read [] at place h = refl
text_read (s ∷ ss) at place h =
    ap (λ t. t ++ flat_map (text_in []) (heads (at + 32) (place + length s.bytes) ss)) (text_one at place s h.0)
    ∙ ap (λ t. map memory_of (filter (λ t. t.exec) (s ∷ [])) ++ t) (text_read ss (at + 32) (place + length s.bytes) h.1)
    ∙ split s.exec
  where
    split : (x : Bool) → map memory_of (cond x (s ∷ []) []) ++ map memory_of (filter (λ s. s.exec) ss) ≡ map memory_of (cond x (s ∷ filter (λ s. s.exec) ss) (filter (λ s. s.exec) ss))
    split true = refl
    split false = refl
