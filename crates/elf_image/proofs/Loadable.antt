-- The image of a file on which no condition holds can be loaded.
use Rattle.std.proofs.Common.{◌≡◌, ℕ, ◌%◌, ◌≤◌, ◌==◌, Bool, true, false, if◌then◌else◌, ◌&&◌, ◌||◌, not, nat_lt, List, [], ◌∷◌, ◌++◌, length, get_or, map, take, drop, None, refl, sym, arith, inl, inr, subst, Result, Ok, Err, IfOk}
use Rattle.std.specs.List.{flat_map, AllByRecursion as Each}
use Rattle.std.proofs.lemmas.Bool.{cases_Bool, or_parts, and_parts, eqb-true}
use Rattle.std.proofs.lemmas.Bool.Decides.{nat_tests}
use Rattle.std.proofs.lemmas.List.{length-take}
use Rattle.std.proofs.lemmas.List.Elements.{All-from_recursion, All-map}
use Rattle.lf_model.proofs.EachLemmas.{each_append, each_weaker}
use Rattle.lf_model.specs.Start.{is_in_ram, is_text_word, IsLoadable}
use Rattle.lf_model.specs.declared.image.Range.{Range}
use Rattle.lf_model.specs.declared.image.Segment.{Segment}
use Rattle.lf_model.specs.declared.image.Image.{Image}
use Rattle.elf_image.specs.declared.header.ProgramHeader.{ProgramHeader}
use Rattle.elf_image.specs.declared.header.SectionHeader.{SectionHeader}
use Rattle.elf_image.specs.Headers.{file_header_of, programs_of, sections_of, loads_of, is_executable, is_writable, is_code, meet}
use Rattle.elf_image.specs.Spelled.{segment_of, common, code_in, text_in, text_of, image_of}
use Rattle.elf_image.specs.declared.error.ImageErr.{ImageErr}
use Rattle.elf_image.specs.Answer.{IsFileOf}
use Rattle.elf_image.specs.Refusals.{first_fault, file_conditions, header_conditions, conditions, dynamic, compressed, misplaced, writable_code, bad_entry, is_cut_off, is_overlapping}
use Rattle.elf_image.proofs.FaultLemmas.{none_of_map, none_of_both}

-- what a segment that is not misplaced grants
pub record IsPlaced (ram len : ℕ) (p : ProgramHeader) : Type 0 where
  pub whole : p.file_size ≤ p.memory.length
  pub uncut : is_cut_off len p ≡ false
  pub in_ram : is_in_ram ram p.memory.first p.memory.length ≡ true

placed : (ram len : ℕ) (loads : List ProgramHeader) (p : ProgramHeader) → (misplaced ram len loads p).holds ≡ false → IsPlaced ram len p
placed ram len loads p held =
    let small = nat_lt p.memory.length p.file_size in
    let cut = is_cut_off len p in
    let outside = not (is_in_ram ram p.memory.first p.memory.length) in
    let three = (or_parts (small || cut || outside) (is_overlapping loads p) held).0 in
    let two = or_parts (small || cut) outside three in
    let one = or_parts small cut two.0 in
    let large : nat_lt p.memory.length p.file_size ≡ false = one.0 in
    record {
      whole = grind (arith, nat_tests);
      uncut = one.1;
      in_ram = not_false (is_in_ram ram p.memory.first p.memory.length) two.1;
    }
  where
    not_false : (b : Bool) → not b ≡ false → b ≡ true
    not_false true h = refl
    not_false false h = absurd cc

-- the segments of a file whose headers pass
pub all_placed : (ram len : ℕ) (programs : List ProgramHeader) (sections : List SectionHeader) (loads : List ProgramHeader)
    → first_fault (header_conditions ram len programs sections loads) ≡ None → Each (IsPlaced ram len) loads
unfolding header_conditions
all_placed ram len programs sections loads h =
    let asked = map dynamic programs ++ map compressed sections in
    let segments = map (misplaced ram len loads) loads in
    let coded = map (writable_code sections) loads in
    each_weaker (λ p. (misplaced ram len loads p).holds ≡ false) (IsPlaced ram len) loads (placed ram len loads)
    (none_of_map (misplaced ram len loads) loads (none_of_both asked segments (none_of_both (asked ++ segments) coded h).0).1)

-- text lies in RAM

abbrev InRam : ℕ → Range → Type 0
InRam ram r = is_in_ram ram r.first r.length ≡ true

common_in_ram : (ram : ℕ) (a b : Range) → meet a b ≡ true → InRam ram b → InRam ram (common a b)
common_in_ram ram a b both in_ram = grind (arith, nat_tests)

code_in_ram : (ram : ℕ) (p : ProgramHeader) (s : SectionHeader) → InRam ram p.memory → Each (InRam ram) (code_in p s)
code_in_ram ram p s in_ram = elim (cases_Bool (is_code s && meet s.memory p.memory)) [
  | inl is_so ↦ rw is_so (common_in_ram ram s.memory p.memory (and_parts (is_code s) (meet s.memory p.memory) is_so).1 in_ram, tt)
  | inr not_so ↦ rw not_so tt
]

each_flat_map : {X Y : Type 0} (P : Y → Type 0) (f : X → List Y) (xs : List X) → ((x : X) → Each P (f x)) → Each P (flat_map f xs)
each_flat_map P f [] h = tt
each_flat_map P f (x ∷ xs) h = each_append P (f x) (flat_map f xs) (h x) (each_flat_map P f xs h)

text_by_in_ram : (ram : ℕ) (code : List Range) (memory : Range) (x w : Bool) → Each (InRam ram) code → InRam ram memory
    → Each (InRam ram) (if x then (if w then code else memory ∷ []) else [])
text_by_in_ram ram code memory true true parts whole = parts
text_by_in_ram ram code memory true false parts whole = (whole, tt)
text_by_in_ram ram code memory false w parts whole = tt

text_in_ram : (ram len : ℕ) (sections : List SectionHeader) (p : ProgramHeader) → IsPlaced ram len p → Each (InRam ram) (text_in sections p)
unfolding text_in
text_in_ram ram len sections p h =
    text_by_in_ram ram (flat_map (code_in p) sections) p.memory (is_executable p) (is_writable p)
    (each_flat_map (InRam ram) (code_in p) sections (λ s. code_in_ram ram p s h.in_ram)) h.in_ram

texts_in_ram : (ram len : ℕ) (sections : List SectionHeader) (loads : List ProgramHeader) → Each (IsPlaced ram len) loads
    → Each (InRam ram) (text_of sections loads)
texts_in_ram ram len sections [] h = tt
texts_in_ram ram len sections (p ∷ loads) h =
    each_append (InRam ram) (text_in sections p) (text_of sections loads) (text_in_ram ram len sections p h.0)
    (texts_in_ram ram len sections loads h.1)

-- the law
pub loadable : (ram : ℕ) (file : List ℕ) → first_fault (conditions ram file) ≡ None → IsLoadable ram (image_of file)
unfolding conditions
loadable ram file h =
    let sections = sections_of file in
    let loads = loads_of file in
    let entry = (file_header_of file).entry in
    let text = text_of sections loads in
    let headers = header_conditions ram (length file) (programs_of file) sections loads in
    let parts = none_of_both (file_conditions file ++ headers) (bad_entry text entry ∷ []) h in
    let segments = all_placed ram (length file) (programs_of file) sections loads (none_of_both (file_conditions file) headers parts.0).1 in
    let all = All-from_recursion (IsPlaced ram (length file)) loads segments in
    let entered = or_parts (not (entry % 4 == 0)) (not (is_text_word text entry)) (held text entry parts.1) in
    record {
      segments = All-map (λ (s : Segment). is_in_ram ram s.addr s.size ≡ true) (segment_of file) loads (λ k d below. (all k d below).in_ram);
      bytes = All-map (λ (s : Segment). length s.bytes ≤ s.size) (segment_of file) loads
          (λ k d below. short (drop (get_or loads k d).offset file) (get_or loads k d).file_size (get_or loads k d).memory.length (all k d below).whole);
      text = All-from_recursion (InRam ram) text (texts_in_ram ram (length file) sections loads segments);
      aligned = eqb-true (entry % 4) 0 (not_false (entry % 4 == 0) entered.0);
      entry = not_false (is_text_word text entry) entered.1;
    }
  where
    held : (text : List Range) (entry : ℕ) → first_fault (bad_entry text entry ∷ []) ≡ None → (bad_entry text entry).holds ≡ false
    held text entry none = elim (cases_Bool (bad_entry text entry).holds) [
      | inl is_so ↦ absurd (let told = rw is_so at none in cc)
      | inr not_so ↦ not_so
    ]

    not_false : (b : Bool) → not b ≡ false → b ≡ true
    not_false true e = refl
    not_false false e = absurd cc

    short : (bytes : List ℕ) (n m : ℕ) → n ≤ m → length (take n bytes) ≤ m
    short bytes n m most = omega (arith, length-take n bytes)

pub loadable_of : (ram : ℕ) (file : List ℕ) (r : Result Image ImageErr) → IfOk r (IsFileOf ram file) → IfOk r (IsLoadable ram)
loadable_of ram file (Ok image) h = subst (IsLoadable ram) (sym h.spelled) (loadable ram file h.accepted)
loadable_of ram file (Err e) h = tt
