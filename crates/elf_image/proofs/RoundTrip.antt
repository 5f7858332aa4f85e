-- A written image reads back.
use Rattle.std.proofs.Common.{◌≡◌, ℕ, ◌+◌, ◌*◌, ◌^◌, ◌<◌, ◌≤◌, true, false, ◌&&◌, List, [], ◌∷◌, ◌++◌, length, map, filter, None, sym, ap, ◌∙◌, append_assoc, arith}
use Rattle.std.specs.List.{AllByRecursion as Each}
use Rattle.std.proofs.lemmas.List.{length-append}
use Rattle.std.proofs.lemmas.List.Elements.{recursion_from_All}
use Rattle.std.proofs.lemmas.Bool.Decides.{nat_tests}
use Rattle.lf_model.specs.Start.{is_in_ram}
use Rattle.lf_model.specs.declared.image.Segment.{Segment}
use Rattle.lf_model.specs.declared.image.Range.{Range}
use Rattle.lf_model.specs.declared.image.Image.{Image}
use Rattle.elf_image.specs.declared.header.FileHeader.{FileHeader}
use Rattle.elf_image.specs.declared.header.ProgramHeader.{ProgramHeader}
use Rattle.elf_image.specs.declared.header.SectionHeader.{SectionHeader}
use Rattle.elf_image.specs.Headers.{file_header_of, programs_of, sections_of, loads_of, headers_of, program_at, section_at, is_load}
use Rattle.elf_image.specs.Spelled.{segment_of, text_of, image_of}
use Rattle.elf_image.specs.Refusals.{Condition, first_fault, identification_conditions, kind_conditions, table_conditions, file_conditions, header_conditions, bad_entry, conditions}
use Rattle.elf_image.specs.Answer.{IsFileOf}
use Rattle.elf_image.specs.Written.{file_header, program_headers, contents, written_program, written, IsPlain}
use Rattle.elf_image.proofs.FaultLemmas.{none_append}
use Rattle.elf_image.proofs.WriterLemmas.{header_of, headers_first, headers_none as no_headers}
use Rattle.elf_image.proofs.ReadBack.{header_read, header_fields, length-file_header, length-header_of, heads, heads_load, programs_read, segments_read, text_read, AllFit}
use Rattle.elf_image.proofs.Accepted.{identification_none, kind_none, table_none, headers_none, entry_none}

-- what a file gives by the headers that are read from it

abbrev conditions_with : ℕ → List ℕ → FileHeader → List ProgramHeader → List SectionHeader → List ProgramHeader → List Condition
conditions_with ram file h programs sections loads =
    (identification_conditions file ++ kind_conditions file ++ table_conditions (length file) h)
    ++ header_conditions ram (length file) programs sections loads ++ bad_entry (text_of sections loads) h.entry ∷ []

abbrev image_with : List ℕ → FileHeader → List SectionHeader → List ProgramHeader → Image
image_with file h sections loads = record { entry = h.entry; segments = map (segment_of file) loads; text = text_of sections loads }

abbrev image_with_parts : ℕ → List Segment → List Range → Image
image_with_parts entry segments text = record { entry = entry; segments = segments; text = text }

-- the headers of a file
pub record Holds (file : List ℕ) (h : FileHeader) (loads : List ProgramHeader) : Type 0 where
  pub header : file_header_of file ≡ h
  pub programs : programs_of file ≡ loads
  pub sections : sections_of file ≡ []
  pub segments : loads_of file ≡ loads

conditions_of : (ram : ℕ) (file : List ℕ) (h : FileHeader) (loads : List ProgramHeader) → Holds file h loads
    → conditions ram file ≡ conditions_with ram file h loads [] loads
unfolding conditions file_conditions
conditions_of ram file h loads holds =
    ap (λ x. conditions_with ram file x (programs_of file) (sections_of file) (loads_of file)) holds.header
    ∙ ap (λ ps. conditions_with ram file h ps (sections_of file) (loads_of file)) holds.programs
    ∙ ap (λ ss. conditions_with ram file h loads ss (loads_of file)) holds.sections
    ∙ ap (λ ps. conditions_with ram file h loads [] ps) holds.segments

image_is : (file : List ℕ) (h : FileHeader) (loads : List ProgramHeader) → Holds file h loads → image_of file ≡ image_with file h [] loads
image_is file h loads holds =
    ap (λ x. image_with file x (sections_of file) (loads_of file)) holds.header
    ∙ ap (λ ss. image_with file h ss (loads_of file)) holds.sections
    ∙ ap (λ ps. image_with file h [] ps) holds.segments

-- the numbers of headers fit, since all segments lie in RAM
all_fit : (ss : List Segment) (ram place : ℕ) → ram ≤ 2 ^ 24 → Each (λ s. length s.bytes ≤ s.size) ss
    → Each (λ s. is_in_ram ram s.addr s.size ≡ true) ss → place + 2 ^ 24 * length ss ≤ 2 ^ 31 → AllFit place ss
all_fit [] ram place small whole in_ram room = tt
all_fit (s ∷ ss) ram place small whole in_ram room =
    let at = in_ram.0 in
    let bytes : length s.bytes ≤ 2 ^ 24 = grind (arith, nat_tests, whole.0) in (
      record {
        offset = omega arith;
        first = grind (arith, nat_tests);
        bytes = omega arith;
        size = grind (arith, nat_tests);
      },
      all_fit ss ram (place + length s.bytes) small whole.1 in_ram.1 (omega arith),
    )

length-program_headers : (ss : List Segment) (place : ℕ) → length (program_headers place ss) ≡ 32 * length ss
length-program_headers [] place = ap length (no_headers place)
length-program_headers (s ∷ ss) place =
    let rest = program_headers (place + length s.bytes) ss in
    ap length (headers_first place s ss)
    ∙ omega (arith, length-append (header_of place s) rest, length-header_of place s, length-program_headers ss (place + length s.bytes))

-- the headers that are read from the file
written_headers : (image : Image) (file : List ℕ) → image.entry < 256 ^ 4 → length image.segments ≤ 64
    → Each (λ s. 0 < s.size) image.segments → AllFit (52 + 32 * length image.segments) image.segments
    → file ≡ file_header image.entry (length image.segments)
    ++ (program_headers (52 + 32 * length image.segments) image.segments ++ contents image.segments)
    → Holds file (header_read image.entry (length image.segments)) (heads 52 (52 + 32 * length image.segments) image.segments)
written_headers image file fits few not_empty fit is =
    let n = length image.segments in
    let front = file_header image.entry n in
    let loads = heads 52 (52 + 32 * n) image.segments in
    let rest = program_headers (52 + 32 * n) image.segments ++ contents image.segments in
    let header : file_header_of file ≡ header_read image.entry n =
    ap file_header_of is ∙ header_fields image.entry n rest fits (omega arith) in
    let read : headers_of (program_at file) 32 (header_read image.entry n).programs ≡ loads =
    programs_read image.segments front (contents image.segments) file 52 0 52 (52 + 32 * n)
    (sym (length-file_header image.entry n)) (omega arith) fit is in
    let programs : programs_of file ≡ loads = ap (λ h. headers_of (program_at file) 32 h.programs) header ∙ read in
    record {
      header = header;
      programs = programs;
      sections = ap (λ h. headers_of (section_at file) 40 h.sections) header;
      segments = ap (filter is_load) programs ∙ heads_load image.segments 52 (52 + 32 * n) not_empty;
    }

written_back : (ram : ℕ) (image : Image) (file : List ℕ) → ram ≤ 2 ^ 24 → image.entry < 256 ^ 4 → IsPlain ram image
    → file ≡ file_header image.entry (length image.segments)
    ++ (program_headers (52 + 32 * length image.segments) image.segments ++ contents image.segments)
    → IsFileOf ram file image
written_back ram image file small fits plain is =
    let n = length image.segments in
    let place = 52 + 32 * n in
    let ss = image.segments in
    let front = file_header image.entry n in
    let headers = program_headers place ss in
    let rest = headers ++ contents ss in
    let loads = heads 52 place ss in
    let whole = recursion_from_All (λ (s : Segment). length s.bytes ≤ s.size) ss plain.whole in
    let in_ram = recursion_from_All (λ (s : Segment). is_in_ram ram s.addr s.size ≡ true) ss plain.in_ram in
    let not_empty = recursion_from_All (λ (s : Segment). 0 < s.size) ss plain.not_empty in
    let not_both = recursion_from_All (λ (s : Segment). (s.write && s.exec) ≡ false) ss plain.protected in
    let fit = all_fit ss ram place small whole in_ram (omega (arith, plain.few)) in
    let holds = written_headers image file fits plain.few not_empty fit is in
    let len : length file ≡ place + length (contents ss) =
    ap length is ∙ omega (
      arith,
      length-append front rest,
      length-file_header image.entry n,
      length-append headers (contents ss),
      length-program_headers ss place,
    ) in
    let text : text_of [] loads ≡ image.text = text_read ss 52 place not_both ∙ sym plain.text in
    let segments : map (segment_of file) loads ≡ ss =
    segments_read ss (front ++ headers) file 52 place (is ∙ sym (append_assoc front headers (contents ss)))
    (omega (arith, length-append front headers, length-file_header image.entry n, length-program_headers ss place)) in
    let identified : first_fault (identification_conditions file) ≡ None =
    ap (λ f. first_fault (identification_conditions f)) is ∙ identification_none image.entry n rest in
    let kind : first_fault (kind_conditions file) ≡ None =
    ap (λ f. first_fault (kind_conditions f)) is ∙ kind_none image.entry n rest in
    let tables = table_none (length file) image.entry n plain.some plain.few (omega (arith, len)) in
    let placed = headers_none ss ram (length file) 52 place whole in_ram (omega (arith, len)) plain.apart not_both in
    let entered : first_fault (bad_entry (text_of [] loads) image.entry ∷ []) ≡ None =
    ap (λ t. first_fault (bad_entry t image.entry ∷ [])) text ∙ entry_none image.text image.entry plain.aligned plain.entry in
    record {
      accepted = ap first_fault (conditions_of ram file (header_read image.entry n) loads holds)
          ∙ none_append ((identification_conditions file ++ kind_conditions file ++ table_conditions (length file) (header_read image.entry n))
          ++ header_conditions ram (length file) loads [] loads)
          (bad_entry (text_of [] loads) image.entry ∷ [])
          (none_append (identification_conditions file ++ kind_conditions file ++ table_conditions (length file) (header_read image.entry n))
          (header_conditions ram (length file) loads [] loads)
          (none_append (identification_conditions file ++ kind_conditions file) (table_conditions (length file) (header_read image.entry n))
          (none_append (identification_conditions file) (kind_conditions file) identified kind) tables)
          placed)
          entered;
      spelled = sym (image_is file (header_read image.entry n) loads holds
          ∙ ap (λ xs. image_with_parts image.entry xs (text_of [] loads)) segments
          ∙ ap (image_with_parts image.entry ss) text);
    }

-- the law: the file that an image is written as spells it
pub reads_back : (ram : ℕ) (image : Image) → ram ≤ 2 ^ 24 → image.entry < 256 ^ 4 → IsPlain ram image → IsFileOf ram (written image) image
unfolding written_program
reads_back ram image small fits plain =
    written_back ram image (written image) small fits plain
    (append_assoc (file_header image.entry (length image.segments)) (program_headers (52 + 32 * length image.segments) image.segments)
    (contents image.segments))
