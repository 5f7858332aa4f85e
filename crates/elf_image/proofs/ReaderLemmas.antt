-- What a file on which no condition holds grants to the reader.
use Rattle.std.proofs.Common.{◌≡◌, ℕ, ◌+◌, ◌*◌, ◌^◌, ◌<◌, false, not, nat_lt, ◌||◌, List, ◌++◌, map, filter, length, None, All, slice_index_or, arith}
use Rattle.std.specs.List.{range_with_len}
use Rattle.std.proofs.lemmas.Bool.{or_parts}
use Rattle.std.proofs.lemmas.List.Elements.{All-from_recursion, All-filter, All-map}
use Rattle.std.proofs.lemmas.List.FromFn.{get_or-range_with_len, length-range_with_len}
use Rattle.lf_model.proofs.EachLemmas.{each_weaker}
use Rattle.lf_model.specs.Start.{is_in_ram}
use Rattle.elf_image.specs.declared.header.HeaderTable.{HeaderTable}
use Rattle.elf_image.specs.declared.header.ProgramHeader.{ProgramHeader}
use Rattle.elf_image.specs.declared.header.SectionHeader.{SectionHeader}
use Rattle.elf_image.specs.Headers.{headers_of, program_at, is_load}
use Rattle.elf_image.specs.Refusals.{first_fault, header_conditions, dynamic, compressed, misplaced, writable_code, is_cut_off, is_overlapping}
use Rattle.elf_image.specs.Tables.{IsInside, HeaderIn}
use Rattle.elf_image.proofs.FaultLemmas.{none_of_map, none_of_both}

-- a segment that is not misplaced has its bytes in the file
not_cut_off : (ram len : ℕ) (loads : List ProgramHeader) (p : ProgramHeader) → (misplaced ram len loads p).holds ≡ false
    → is_cut_off len p ≡ false
not_cut_off ram len loads p held =
    let small = nat_lt p.memory.length p.file_size in
    let cut = is_cut_off len p in
    let outside = not (is_in_ram ram p.memory.first p.memory.length) in
    let overlaps = is_overlapping loads p in
    (or_parts small cut (or_parts (small || cut) outside (or_parts (small || cut || outside) overlaps held).0).0).1

-- the bytes of each segment lie in the file
pub uncut : (ram len : ℕ) (programs : List ProgramHeader) (sections : List SectionHeader) (loads : List ProgramHeader)
    → first_fault (header_conditions ram len programs sections loads) ≡ None → All (λ load. is_cut_off len load ≡ false) loads
unfolding header_conditions
uncut ram len programs sections loads h =
    let asked = map dynamic programs ++ map compressed sections in
    let placed = map (misplaced ram len loads) loads in
    let coded = map (writable_code sections) loads in
    let segments = (none_of_both asked placed (none_of_both (asked ++ placed) coded h).0).1 in
    All-from_recursion (λ load. is_cut_off len load ≡ false) loads
    (each_weaker (λ load. (misplaced ram len loads load).holds ≡ false) (λ load. is_cut_off len load ≡ false) loads
    (not_cut_off ram len loads) (none_of_map (misplaced ram len loads) loads segments))

-- each program header has a place of 32 bits
pub places_fit : (file : List ℕ) (table : HeaderTable) → length file < 2 ^ 32 → IsInside (length file) 32 table
    → All (λ load. HeaderIn load.place) (filter is_load (headers_of (program_at file) 32 table))
places_fit file table short inside =
    let P = λ (load : ProgramHeader). HeaderIn load.place in
    All-filter is_load P (headers_of (program_at file) 32 table)
    (All-map P (λ i. program_at file (table.place + 32 * i)) (range_with_len 0 table.count)
    (λ k d below. fits k d (omega (arith, length-range_with_len 0 table.count))))
  where
    fits : (k d : ℕ) → k < table.count → HeaderIn (table.place + 32 * slice_index_or (range_with_len 0 table.count) k d)
    fits k d below = rw (get_or-range_with_len 0 table.count k d below) (omega (arith, inside k below))
