-- The layout of a 32-bit big-endian ELF file: its headers and their fields (System V Application Binary Interface,
-- chapter 4, "Object Files", and chapter 5, "Program Loading and Dynamic Linking").
use Rattle.std.specs.Prelude.{ℕ, ◌+◌, List, drop}
use Rattle.byteorder.specs.Endian.{big_number}

-- a field of a header: its offset in the header and its length, in bytes
pub record Field : Type 0 where
  pub offset : ℕ
  pub length : ℕ

abbrev pub field : ℕ → ℕ → Field
field offset length = record { offset = offset; length = length }

-- the file header, at the front of the file: 16 bytes of e_ident and these fields, 52 bytes in all
abbrev pub file_header_size : ℕ
file_header_size = 52

abbrev pub e_type : Field
e_type = field 16 2

abbrev pub e_machine : Field
e_machine = field 18 2

abbrev pub e_version : Field
e_version = field 20 4

abbrev pub e_entry : Field
e_entry = field 24 4

abbrev pub e_phoff : Field
e_phoff = field 28 4

abbrev pub e_shoff : Field
e_shoff = field 32 4

abbrev pub e_flags : Field
e_flags = field 36 4

abbrev pub e_ehsize : Field
e_ehsize = field 40 2

abbrev pub e_phentsize : Field
e_phentsize = field 42 2

abbrev pub e_phnum : Field
e_phnum = field 44 2

abbrev pub e_shentsize : Field
e_shentsize = field 46 2

abbrev pub e_shnum : Field
e_shnum = field 48 2

abbrev pub e_shstrndx : Field
e_shstrndx = field 50 2

-- a program header, of 32 bytes
abbrev pub program_header_size : ℕ
program_header_size = 32

abbrev pub p_type : Field
p_type = field 0 4

abbrev pub p_offset : Field
p_offset = field 4 4

abbrev pub p_vaddr : Field
p_vaddr = field 8 4

abbrev pub p_paddr : Field
p_paddr = field 12 4

abbrev pub p_filesz : Field
p_filesz = field 16 4

abbrev pub p_memsz : Field
p_memsz = field 20 4

abbrev pub p_flags : Field
p_flags = field 24 4

abbrev pub p_align : Field
p_align = field 28 4

-- a section header, of 40 bytes; its other fields aren't looked at
abbrev pub section_header_size : ℕ
section_header_size = 40

abbrev pub sh_flags : Field
sh_flags = field 8 4

abbrev pub sh_addr : Field
sh_addr = field 12 4

abbrev pub sh_size : Field
sh_size = field 20 4

-- the big-endian number in so many bytes of the file, from a place on
unfoldable pub number_at : List ℕ → ℕ → ℕ → ℕ
number_at file length place = big_number length (drop place file)

-- the number that a field holds, in the header at a place of the file
abbrev pub value : List ℕ → ℕ → Field → ℕ
value file place f = number_at file f.length (place + f.offset)
