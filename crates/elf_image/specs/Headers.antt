-- The headers that a file holds, and the segments and sections that they tell of.
use Rattle.std.specs.Prelude.{ℕ, ◌+◌, ◌*◌, ◌==◌, ◌&&◌, ◌||◌, Bool, not, nat_lt, List, map, filter, bit_and}
use Rattle.std.specs.List.{range_with_len}
use Rattle.lf_model.specs.declared.image.Range.{Range}
use Rattle.elf_image.specs.declared.header.FileHeader.{FileHeader}
use Rattle.elf_image.specs.declared.header.HeaderTable.{HeaderTable}
use Rattle.elf_image.specs.declared.header.ProgramHeader.{ProgramHeader}
use Rattle.elf_image.specs.declared.header.SectionHeader.{SectionHeader}
use Rattle.elf_image.specs.Fields.{value, e_entry, e_phoff, e_phentsize, e_phnum, e_shoff, e_shentsize, e_shnum, p_type, p_offset, p_vaddr, p_filesz, p_memsz, p_flags, sh_flags, sh_addr, sh_size, program_header_size, section_header_size}

-- the file header
abbrev pub file_header_of : List ℕ → FileHeader
file_header_of file = record {
  entry = value file 0 e_entry;
  programs = record { place = value file 0 e_phoff; entry_size = value file 0 e_phentsize; count = value file 0 e_phnum };
  sections = record { place = value file 0 e_shoff; entry_size = value file 0 e_shentsize; count = value file 0 e_shnum };
}

-- the program header at a place of the file
abbrev pub program_at : List ℕ → ℕ → ProgramHeader
program_at file place = record {
  place = place;
  kind = value file place p_type;
  offset = value file place p_offset;
  memory = record { first = value file place p_vaddr; length = value file place p_memsz };
  file_size = value file place p_filesz;
  flags = value file place p_flags;
}

-- the section header at a place of the file
abbrev pub section_at : List ℕ → ℕ → SectionHeader
section_at file place = record {
  place = place;
  flags = value file place sh_flags;
  memory = record { first = value file place sh_addr; length = value file place sh_size };
}

-- the headers of a table, one after the other, each of this size
abbrev pub headers_of : {H : Type 0} → (ℕ → H) → ℕ → HeaderTable → List H
headers_of header_at size table = map (λ i. header_at (table.place + size * i)) (range_with_len 0 table.count)

-- the program headers of the file
abbrev pub programs_of : List ℕ → List ProgramHeader
programs_of file = headers_of (program_at file) program_header_size (file_header_of file).programs

-- the section headers of the file
abbrev pub sections_of : List ℕ → List SectionHeader
sections_of file = headers_of (section_at file) section_header_size (file_header_of file).sections

-- these flags have this one
abbrev pub has : ℕ → ℕ → Bool
has flags flag = not (bit_and flags flag == 0)

-- a loadable segment that takes memory: PT_LOAD, with p_memsz not 0
abbrev pub is_load : ProgramHeader → Bool
is_load p = p.kind == 1 && nat_lt 0 p.memory.length

-- a segment that asks for a dynamic linker: PT_DYNAMIC or PT_INTERP
abbrev pub is_dynamic : ProgramHeader → Bool
is_dynamic p = p.kind == 2 || p.kind == 3

-- the loadable segments of the file
abbrev pub loads_of : List ℕ → List ProgramHeader
loads_of file = filter is_load (programs_of file)

-- PF_X
abbrev pub is_executable : ProgramHeader → Bool
is_executable p = has p.flags 1

-- PF_W
abbrev pub is_writable : ProgramHeader → Bool
is_writable p = has p.flags 2

-- a section of machine code in memory: SHF_ALLOC and SHF_EXECINSTR, and not empty
abbrev pub is_code : SectionHeader → Bool
is_code s = has s.flags 0x002 && has s.flags 0x004 && nat_lt 0 s.memory.length

-- a section in memory whose bytes are compressed: SHF_ALLOC and SHF_COMPRESSED
abbrev pub is_compressed : SectionHeader → Bool
is_compressed s = has s.flags 0x002 && has s.flags 0x800

-- two ranges that are not empty have an address in common
abbrev pub meet : Range → Range → Bool
meet a b = nat_lt a.first (b.first + b.length) && nat_lt b.first (a.first + a.length)
