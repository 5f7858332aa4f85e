-- No condition for a refusal holds of a written file.
use Rattle.std.proofs.Common.{◌≡◌, ℕ, ◌+◌, ◌*◌, ◌%◌, ◌<◌, ◌≤◌, ◌==◌, true, false, ◌&&◌, ◌||◌, not, nat_lt, List, [], ◌∷◌, ◌++◌, length, map, get_or, All, AllPairs, None, refl, ap, ◌∙◌, arith, inl, inr, zero, suc}
use Rattle.std.specs.List.{AllByRecursion as Each}
use Rattle.std.proofs.lemmas.Bool.{le-ltb, or_from, and_left, and_right, cases_lt, eq-eqb}
use Rattle.std.proofs.lemmas.Bool.Decides.{nat_tests}
use Rattle.std.proofs.lemmas.List.{length-append}
use Rattle.std.proofs.lemmas.List.Elements.{recursion_from_All, All-from_recursion}
use Rattle.std.proofs.lemmas.List.Folds.{list_any_none}
use Rattle.lf_model.specs.Start.{is_in_ram, is_text_word}
use Rattle.lf_model.specs.declared.image.Segment.{Segment}
use Rattle.lf_model.specs.declared.image.Range.{Range}
use Rattle.elf_image.specs.declared.header.ProgramHeader.{ProgramHeader}
use Rattle.elf_image.specs.Headers.{meet}
use Rattle.elf_image.specs.Refusals.{first_fault, identification_conditions, kind_conditions, table_conditions, header_conditions, dynamic, misplaced, writable_code, bad_entry, is_cut_off, is_overlapping}
use Rattle.elf_image.specs.Fields.{number_at}
use Rattle.elf_image.specs.Written.{file_header, contents, memory_of}
use Rattle.elf_image.proofs.FaultLemmas.{none_of_each, none_of_mapped, none_append}
use Rattle.elf_image.proofs.ReadBack.{header_read, length-file_header, heads, head_writable, head_executable}

-- the conditions on the file header

pub identification_none : (entry count : ℕ) (rest : List ℕ) → first_fault (identification_conditions (file_header entry count ++ rest)) ≡ None
unfolding identification_conditions file_header
identification_none entry count rest = none_of_each (identification_conditions (file_header entry count ++ rest)) (
  refl,
  (
    le-ltb (length (file_header entry count ++ rest)) 52
        (omega (arith, length-append (file_header entry count) rest, length-file_header entry count)),
    (refl, (refl, (refl, (refl, tt)))),
  ),
)

pub kind_none : (entry count : ℕ) (rest : List ℕ) → first_fault (kind_conditions (file_header entry count ++ rest)) ≡ None
unfolding kind_conditions file_header number_at
kind_none entry count rest = refl

pub table_none : (len entry count : ℕ) → 0 < count → count ≤ 64 → 52 + 32 * count ≤ len → first_fault (table_conditions len (header_read entry count)) ≡ None
unfolding table_conditions
table_none len entry count some few inside = none_of_each (table_conditions len (header_read entry count))
    (count_fits, (refl, (le-ltb len (52 + 32 * count) inside, (refl, (refl, tt)))))
  where
    count_fits : (count == 0 || nat_lt 64 count) ≡ false
    count_fits = grind (arith, nat_tests)

-- the conditions on program headers

dynamic_none : (ss : List Segment) (at place : ℕ) → Each (λ p. (dynamic p).holds ≡ false) (heads at place ss)
dynamic_none [] at place = tt
dynamic_none (s ∷ ss) at place = (refl, dynamic_none ss (at + 32) (place + length s.bytes))

writable_none : (ss : List Segment) (at place : ℕ) → Each (λ s. (s.write && s.exec) ≡ false) ss
    → Each (λ p. (writable_code [] p).holds ≡ false) (heads at place ss)
writable_none [] at place h = tt
writable_none (s ∷ ss) at place h = (
  rw (head_writable at place s, head_executable at place s) (and_left (s.write && s.exec) true h.0),
  writable_none ss (at + 32) (place + length s.bytes) h.1,
)

-- what a segment grants by itself
pub record IsLaid (ram len : ℕ) (p : ProgramHeader) : Type 0 where
  pub whole : nat_lt p.memory.length p.file_size ≡ false
  pub uncut : is_cut_off len p ≡ false
  pub in_ram : is_in_ram ram p.memory.first p.memory.length ≡ true

laid : (ss : List Segment) (ram len at place : ℕ) → Each (λ s. length s.bytes ≤ s.size) ss
    → Each (λ s. is_in_ram ram s.addr s.size ≡ true) ss → place + length (contents ss) ≤ len → Each (IsLaid ram len) (heads at place ss)
laid [] ram len at place whole in_ram inside = tt
laid (s ∷ ss) ram len at place whole in_ram inside =
    let sum : place + (length s.bytes + length (contents ss)) ≤ len = omega (arith, length-append s.bytes (contents ss)) in (
      record {
        whole = le-ltb s.size (length s.bytes) whole.0;
        uncut = grind (arith, nat_tests);
        in_ram = in_ram.0;
      },
      laid ss ram len (at + 32) (place + length s.bytes) whole.1 in_ram.1 (omega arith),
    )

-- a header by its number
pub record IsHead (at i : ℕ) (p : ProgramHeader) (s : Segment) : Type 0 where
  pub place : p.place ≡ at + 32 * i
  pub memory : p.memory ≡ memory_of s

no_segment : Segment
no_segment = record { addr = 0; bytes = []; size = 0; write = false; exec = false }

length-heads : (ss : List Segment) (at place : ℕ) → length (heads at place ss) ≡ length ss
length-heads [] at place = refl
length-heads (s ∷ ss) at place = ap suc (length-heads ss (at + 32) (place + length s.bytes))

head_at : (ss : List Segment) (at place i : ℕ) (d : ProgramHeader) (e : Segment) → i < length ss
    → IsHead at i (get_or (heads at place ss) i d) (get_or ss i e)
head_at [] at place i d e below = absurd (omega arith)
head_at (s ∷ ss) at place zero d e below = record { place = omega arith; memory = refl }
head_at (s ∷ ss) at place (suc i) d e below =
    let next = head_at ss (at + 32) (place + length s.bytes) i d e (omega arith) in
    record { place = omega (arith, next.place); memory = next.memory }

-- no segment overlaps an earlier one
apart_at : (ss : List Segment) (at place i j : ℕ) (d e : ProgramHeader) (s : Segment) → i < length ss → j < length ss
    → AllPairs (λ s t. meet (memory_of s) (memory_of t) ≡ false) ss
    → let q = get_or (heads at place ss) j e in let p = get_or (heads at place ss) i d in (nat_lt q.place p.place && meet q.memory p.memory) ≡ false
apart_at ss at place i j d e s below below_j apart =
    let p = get_or (heads at place ss) i d in
    let q = get_or (heads at place ss) j e in
    let is_p = head_at ss at place i d s below in
    let is_q = head_at ss at place j e s below_j in
    let before = nat_lt q.place p.place in
    let common = meet q.memory p.memory in
    elim (cases_lt j i) [
      | inl earlier ↦ and_right before common (ap (λ m. meet m p.memory) is_q.memory ∙ ap (meet (memory_of (get_or ss j s))) is_p.memory ∙ apart j i s earlier below)
      | inr later ↦ and_left before common (le-ltb q.place p.place (omega (arith, is_p.place, is_q.place)))
    ]

overlapping_none : (ss : List Segment) (at place i : ℕ) (d : ProgramHeader) (s : Segment) → i < length ss
    → AllPairs (λ s t. meet (memory_of s) (memory_of t) ≡ false) ss
    → is_overlapping (heads at place ss) (get_or (heads at place ss) i d) ≡ false
overlapping_none ss at place i d s below apart =
    let p = get_or (heads at place ss) i d in
    list_any_none (λ q. nat_lt q.place p.place && meet q.memory p.memory) (heads at place ss)
    (λ j e below_j. apart_at ss at place i j d e s below (omega (arith, length-heads ss at place)) apart)

misplaced_none : (ss : List Segment) (ram len at place : ℕ) → Each (λ s. length s.bytes ≤ s.size) ss
    → Each (λ s. is_in_ram ram s.addr s.size ≡ true) ss → place + length (contents ss) ≤ len
    → AllPairs (λ s t. meet (memory_of s) (memory_of t) ≡ false) ss
    → All (λ p. (misplaced ram len (heads at place ss) p).holds ≡ false) (heads at place ss)
misplaced_none ss ram len at place whole in_ram inside apart i d below =
    let p = get_or (heads at place ss) i d in
    let lies = All-from_recursion (IsLaid ram len) (heads at place ss) (laid ss ram len at place whole in_ram inside) i d below in
    let below_s : i < length ss = omega (arith, length-heads ss at place) in
    let alone = overlapping_none ss at place i d (get_or ss i no_segment) below_s apart in
    or_from _ _ (or_from _ _ (or_from _ _ lies.whole lies.uncut) (ap not lies.in_ram)) alone

pub headers_none : (ss : List Segment) (ram len at place : ℕ) → Each (λ s. length s.bytes ≤ s.size) ss
    → Each (λ s. is_in_ram ram s.addr s.size ≡ true) ss → place + length (contents ss) ≤ len
    → AllPairs (λ s t. meet (memory_of s) (memory_of t) ≡ false) ss → Each (λ s. (s.write && s.exec) ≡ false) ss
    → first_fault (header_conditions ram len (heads at place ss) [] (heads at place ss)) ≡ None
unfolding header_conditions
headers_none ss ram len at place whole in_ram inside apart not_both =
    let loads = heads at place ss in
    let dynamics = none_of_mapped dynamic loads (dynamic_none ss at place) in
    let places = none_of_mapped (misplaced ram len loads) loads
    (recursion_from_All (λ p. (misplaced ram len loads p).holds ≡ false) loads (misplaced_none ss ram len at place whole in_ram inside apart)) in
    let codes_ = none_of_mapped (writable_code []) loads (writable_none ss at place not_both) in
    none_append (map dynamic loads ++ [] ++ map (misplaced ram len loads) loads) (map (writable_code []) loads)
    (none_append (map dynamic loads ++ []) (map (misplaced ram len loads) loads)
    (none_append (map dynamic loads) [] dynamics refl) places) codes_

pub entry_none : (text : List Range) (entry : ℕ) → entry % 4 ≡ 0 → is_text_word text entry ≡ true → first_fault (bad_entry text entry ∷ []) ≡ None
entry_none text entry aligned text_word = none_of_each (bad_entry text entry ∷ [])
    (or_from (not (entry % 4 == 0)) (not (is_text_word text entry)) (ap not (eq-eqb _ _ aligned)) (ap not text_word), tt)
