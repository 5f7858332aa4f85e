-- The image that the bytes of a file spell.
use Rattle.std.specs.Prelude.{ℕ, ◌+◌, ◌-◌, ◌&&◌, [], ◌∷◌, List, map, take, drop, min, max, if◌then◌else◌}
use Rattle.std.specs.List.{flat_map}
use Rattle.lf_model.specs.declared.image.Segment.{Segment}
use Rattle.lf_model.specs.declared.image.Range.{Range}
use Rattle.lf_model.specs.declared.image.Image.{Image}
use Rattle.elf_image.specs.declared.header.ProgramHeader.{ProgramHeader}
use Rattle.elf_image.specs.declared.header.SectionHeader.{SectionHeader}
use Rattle.elf_image.specs.Headers.{file_header_of, sections_of, loads_of, is_executable, is_writable, is_code, meet}

-- a loadable segment, with its bytes in the file
abbrev pub segment_of : List ℕ → ProgramHeader → Segment
segment_of file p = record {
  addr = p.memory.first;
  bytes = take p.file_size (drop p.offset file);
  size = p.memory.length;
  write = is_writable p;
  exec = is_executable p;
}

-- the addresses that two ranges have in common
abbrev pub common : Range → Range → Range
common a b = let first = max a.first b.first in record {
  first = first;
  length = min (a.first + a.length) (b.first + b.length) - first;
}

-- the part of a section of code that lies in a segment
abbrev pub code_in : ProgramHeader → SectionHeader → List Range
code_in p s = if is_code s && meet s.memory p.memory then common s.memory p.memory ∷ [] else []

-- the text of a segment: nothing where it is not executable, all of it where it is executable and not writable, and
-- where it is both, its parts of sections of code, in the order of the sections
unfoldable pub text_in : List SectionHeader → ProgramHeader → List Range
text_in sections p = if is_executable p
    then (if is_writable p then flat_map (code_in p) sections else p.memory ∷ [])
    else []

-- the text of these segments, in their order
abbrev pub text_of : List SectionHeader → List ProgramHeader → List Range
text_of sections loads = flat_map (text_in sections) loads

-- the image: e_entry, the loadable segments in the order of their headers, and their text
abbrev pub image_of : List ℕ → Image
image_of file = record {
  entry = (file_header_of file).entry;
  segments = map (segment_of file) (loads_of file);
  text = text_of (sections_of file) (loads_of file);
}
