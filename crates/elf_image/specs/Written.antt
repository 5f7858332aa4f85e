-- The written form of an image.
use Rattle.std.specs.Prelude.{ℕ, ◌≡◌, ◌<◌, ◌≤◌, ◌+◌, ◌*◌, ◌%◌, ◌&&◌, true, false, [], ◌∷◌, ◌++◌, List, length, map, filter, codes, replicate, All, AllPairs}
use Rattle.std.specs.List.{flat_map}
use Rattle.std.specs.Int.{from_bool}
use Rattle.byteorder.specs.Endian.{big_bytes}
use Rattle.lf_model.specs.Start.{is_in_ram, is_text_word}
use Rattle.lf_model.specs.declared.image.Segment.{Segment}
use Rattle.lf_model.specs.declared.image.Range.{Range}
use Rattle.lf_model.specs.declared.image.Image.{Image}
use Rattle.elf_image.specs.Fields.{Field, file_header_size, program_header_size, section_header_size, e_type, e_machine, e_version, e_entry, e_phoff, e_shoff, e_flags, e_ehsize, e_phentsize, e_phnum, e_shentsize, e_shnum, e_shstrndx, p_type, p_offset, p_vaddr, p_paddr, p_filesz, p_memsz, p_flags, p_align}
use Rattle.elf_image.specs.Headers.{meet}

-- fields with their numbers, one after the other, big-endian
abbrev pub fields : List (Field × ℕ) → List ℕ
fields numbers = flat_map (λ entry. big_bytes entry.0.length entry.1) numbers

-- e_ident: the magic number, class ELFCLASS32, data ELFDATA2MSB, version EV_CURRENT, and padding
abbrev pub identification : List ℕ
identification = 0x7F ∷ codes "ELF" ++ 1 ∷ 2 ∷ 1 ∷ replicate 9 0

-- the header of an executable for SPARC, by its entry and its number of program headers, which stand right after it; it
-- has no section headers
unfoldable pub file_header : ℕ → ℕ → List ℕ
file_header entry programs = identification ++ fields ((e_type, 2) ∷ (e_machine, 2) ∷ (e_version, 1) ∷ (e_entry, entry)
    ∷ (e_phoff, file_header_size) ∷ (e_shoff, 0) ∷ (e_flags, 0) ∷ (e_ehsize, file_header_size)
    ∷ (e_phentsize, program_header_size) ∷ (e_phnum, programs) ∷ (e_shentsize, section_header_size) ∷ (e_shnum, 0)
    ∷ (e_shstrndx, 0) ∷ [])

-- the header of a loadable segment, by the place of its bytes in the file, its address, its number of bytes in
-- the file and in memory, and its flags
unfoldable pub program_header : (offset addr file_size size flags : ℕ) → List ℕ
program_header offset addr file_size size flags = fields ((p_type, 1) ∷ (p_offset, offset) ∷ (p_vaddr, addr)
    ∷ (p_paddr, addr) ∷ (p_filesz, file_size) ∷ (p_memsz, size) ∷ (p_flags, flags) ∷ (p_align, 4) ∷ [])

-- PF_R, PF_W where it is writable, and PF_X where it is executable
abbrev pub flags_of : Segment → ℕ
flags_of s = 4 + 2 * from_bool s.write + from_bool s.exec

-- the program headers of these segments, whose bytes stand one after the other from this place in the file on
unfoldable pub program_headers : ℕ → List Segment → List ℕ
program_headers offset [] = []
program_headers offset (s ∷ ss) =
    program_header offset s.addr (length s.bytes) s.size (flags_of s) ++ program_headers (offset + length s.bytes) ss

-- the bytes of these segments, one after the other
abbrev pub contents : List Segment → List ℕ
contents segments = flat_map (λ s. s.bytes) segments

-- the file of a program by its entry and its segments: its header, their program headers, and their bytes
unfoldable pub written_program : ℕ → List Segment → List ℕ
written_program entry segments = file_header entry (length segments)
    ++ program_headers (file_header_size + program_header_size * length segments) segments
    ++ contents segments

-- the file of an image; its text is not written, since the flags of its segments tell it
abbrev pub written : Image → List ℕ
written image = written_program image.entry image.segments

-- the addresses of a segment
abbrev pub memory_of : Segment → Range
memory_of s = record { first = s.addr; length = s.size }

-- an image that a file can give for RAM of this size: 1 to 64 segments in RAM without overlaps, none of them empty, or
-- writable and executable; its text is the executable ones, and its entry a text word
pub record IsPlain (ram : ℕ) (image : Image) : Type 0 where
  pub some : 0 < length image.segments
  pub few : length image.segments ≤ 64
  pub not_empty : All (λ s. 0 < s.size) image.segments
  pub whole : All (λ s. length s.bytes ≤ s.size) image.segments
  pub in_ram : All (λ s. is_in_ram ram s.addr s.size ≡ true) image.segments
  pub apart : AllPairs (λ s t. meet (memory_of s) (memory_of t) ≡ false) image.segments
  pub protected : All (λ s. (s.write && s.exec) ≡ false) image.segments
  pub text : image.text ≡ map memory_of (filter (λ s. s.exec) image.segments)
  pub aligned : image.entry % 4 ≡ 0
  pub entry : is_text_word image.text image.entry ≡ true
