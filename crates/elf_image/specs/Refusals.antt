-- Why a file is refused: the conditions for a refusal, in their order.
use Rattle.std.specs.Prelude.{ℕ, ◌+◌, ◌*◌, ◌%◌, ◌==◌, ◌&&◌, ◌||◌, Bool, not, nat_lt, nat_eq, [], ◌∷◌, ◌++◌, List, length, map, find, codes, slice_index, Option}
use Rattle.std.specs.List.{list_any, starts_with}
use Rattle.std.specs.Option.{option_map}
use Rattle.lf_model.specs.Start.{is_in_ram, is_text_word}
use Rattle.lf_model.specs.declared.image.Range.{Range}
use Rattle.elf_image.specs.declared.refusal.Fault.{Fault}
use Rattle.elf_image.specs.declared.refusal.Refusal.{Refusal}
use Rattle.elf_image.specs.declared.refusal.Refusal.TheVariants.{Archive, Short, Magic, Class, Order, Version, FileType, Machine, Table, Dynamic, Compressed, Segment, WritableCode, Entry}
use Rattle.elf_image.specs.declared.header.FileHeader.{FileHeader}
use Rattle.elf_image.specs.declared.header.HeaderTable.{HeaderTable}
use Rattle.elf_image.specs.declared.header.ProgramHeader.{ProgramHeader}
use Rattle.elf_image.specs.declared.header.SectionHeader.{SectionHeader}
use Rattle.elf_image.specs.Fields.{value, file_header_size, program_header_size, section_header_size, e_version, e_type, e_machine, e_entry, e_phnum, e_phentsize, e_phoff, e_shentsize, e_shoff, p_flags}
use Rattle.elf_image.specs.Headers.{file_header_of, programs_of, sections_of, loads_of, is_executable, is_writable, is_dynamic, is_code, is_compressed, meet}
use Rattle.elf_image.specs.Spelled.{text_of}

-- a condition for a refusal, with the refusal and the offset that it tells where it holds
pub record Condition : Type 0 where
  pub fault : Fault
  pub holds : Bool

abbrev pub refuse : Refusal → ℕ → Bool → Condition
refuse refusal offset holds = record { fault = record { refusal = refusal; offset = offset }; holds = holds }

-- what the first of these conditions that holds tells
abbrev pub first_fault : List Condition → Option Fault
first_fault conditions = option_map (λ c. c.fault) (find (λ c. c.holds) conditions)

-- an archive, a file that is too short, and an identification, e_ident, other than 7F 45 4C 46 (ELF), 32-bit class, big-endian
-- data and version 1
unfoldable pub identification_conditions : List ℕ → List Condition
identification_conditions file =
    refuse Archive 0 (starts_with nat_eq file (codes "!<arch>\n"))
    ∷ refuse Short (length file) (nat_lt (length file) file_header_size)
    ∷ refuse Magic 0 (not (starts_with nat_eq file (0x7F ∷ codes "ELF")))
    ∷ refuse Class 4 (not (slice_index file 4 == 1))
    ∷ refuse Order 5 (not (slice_index file 5 == 2))
    ∷ refuse Version 6 (not (slice_index file 6 == 1))
    ∷ []

-- a version, a type and a machine other than 1, ET_EXEC and EM_SPARC
unfoldable pub kind_conditions : List ℕ → List Condition
kind_conditions file =
    refuse Version e_version.offset (not (value file 0 e_version == 1))
    ∷ refuse FileType e_type.offset (not (value file 0 e_type == 2))
    ∷ refuse Machine e_machine.offset (not (value file 0 e_machine == 2))
    ∷ []

-- so many headers of a size don't lie in a file of this length
abbrev pub is_outside : ℕ → ℕ → HeaderTable → Bool
is_outside len size table = nat_lt len (table.place + size * table.count)

-- no program header or more than 64, program headers of another size or outside the file; and, where there are section
-- headers, the same of their size and place
unfoldable pub table_conditions : ℕ → FileHeader → List Condition
table_conditions len h =
    refuse Table e_phnum.offset (h.programs.count == 0 || nat_lt 64 h.programs.count)
    ∷ refuse Table e_phentsize.offset (not (h.programs.entry_size == program_header_size))
    ∷ refuse Table e_phoff.offset (is_outside len program_header_size h.programs)
    ∷ refuse Table e_shentsize.offset (not (h.sections.count == 0) && not (h.sections.entry_size == section_header_size))
    ∷ refuse Table e_shoff.offset (not (h.sections.count == 0) && is_outside len section_header_size h.sections)
    ∷ []

-- a program that is linked dynamically
abbrev pub dynamic : ProgramHeader → Condition
dynamic p = refuse Dynamic p.place (is_dynamic p)

-- a section in memory whose bytes are compressed
abbrev pub compressed : SectionHeader → Condition
compressed s = refuse Compressed s.place (is_compressed s)

-- the segment has bytes, and they don't lie in a file of this length
abbrev pub is_cut_off : ℕ → ProgramHeader → Bool
is_cut_off len p = not (p.file_size == 0) && nat_lt len (p.offset + p.file_size)

-- a segment before this one has an address of its memory
abbrev pub is_overlapping : List ProgramHeader → ProgramHeader → Bool
is_overlapping loads p = list_any (λ q. nat_lt q.place p.place && meet q.memory p.memory) loads

-- a loadable segment that has more bytes than memory, whose bytes don't lie in the file, whose memory doesn't lie in
-- RAM, or whose memory overlaps that of an earlier one
abbrev pub misplaced : ℕ → ℕ → List ProgramHeader → ProgramHeader → Condition
misplaced ram len loads p = refuse Segment p.place (nat_lt p.memory.length p.file_size || is_cut_off len p
    || not (is_in_ram ram p.memory.first p.memory.length) || is_overlapping loads p)

-- one of these sections is code, a part of which lies in the segment
abbrev pub has_code : List SectionHeader → ProgramHeader → Bool
has_code sections p = list_any (λ s. is_code s && meet s.memory p.memory) sections

-- a segment that is writable and executable, and has no part of a section of code
abbrev pub writable_code : List SectionHeader → ProgramHeader → Condition
writable_code sections p = refuse WritableCode (p.place + p_flags.offset)
    (is_writable p && is_executable p && not (has_code sections p))

-- an entry that is no multiple of 4, or no text word
abbrev pub bad_entry : List Range → ℕ → Condition
bad_entry text entry = refuse Entry e_entry.offset (not (entry % 4 == 0) || not (is_text_word text entry))

-- the conditions on the file header
unfoldable pub file_conditions : List ℕ → List Condition
file_conditions file = identification_conditions file ++ kind_conditions file ++ table_conditions (length file) (file_header_of file)

-- the conditions on program headers and sections, those of one kind from the lowest header on, for RAM of this size
unfoldable pub header_conditions : ℕ → ℕ → List ProgramHeader → List SectionHeader → List ProgramHeader → List Condition
header_conditions ram len programs sections loads =
    map dynamic programs ++ map compressed sections ++ map (misplaced ram len loads) loads ++ map (writable_code sections) loads

-- all conditions on a file, in their order, for RAM of this size
unfoldable pub conditions : ℕ → List ℕ → List Condition
conditions ram file = file_conditions file
    ++ header_conditions ram (length file) (programs_of file) (sections_of file) (loads_of file)
    ++ bad_entry (text_of (sections_of file) (loads_of file)) (file_header_of file).entry ∷ []
