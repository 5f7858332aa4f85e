-- Where the headers of a file lie. For the reader's own steps.
use Rattle.std.specs.Prelude.{ℕ, ◌≡◌, ◌+◌, ◌*◌, ◌^◌, ◌≤◌, ◌<◌, List, length, None}
use Rattle.elf_image.specs.declared.header.FileHeader.{FileHeader}
use Rattle.elf_image.specs.declared.header.HeaderTable.{HeaderTable}
use Rattle.elf_image.specs.Headers.{file_header_of}
use Rattle.elf_image.specs.Refusals.{file_conditions, first_fault}

-- each header of the table, of this size, lies in a file of this length
abbrev pub IsInside : ℕ → ℕ → HeaderTable → Type 0
IsInside len size table = (i : ℕ) → i < table.count → table.place + size * i + size ≤ len

-- the program headers, of which there are at most 64, and the section headers lie in a file of this length
pub record TablesIn (len : ℕ) (h : FileHeader) : Type 0 where
  pub few : h.programs.count ≤ 64
  pub programs : IsInside len 32 h.programs
  pub sections : IsInside len 40 h.sections

-- all fields of a program header at this place have a place of 32 bits
abbrev pub HeaderIn : ℕ → Type 0
HeaderIn place = place + 32 ≤ 2 ^ 32

-- the header of a file on which no condition holds, so that its tables of headers lie in the file
pub record IsHeaderOf (file : List ℕ) (h : FileHeader) : Type 0 where
  pub read : h ≡ file_header_of file
  pub accepted : first_fault (file_conditions file) ≡ None
  pub tables : TablesIn (length file) h
