-- The words of the code of a generated image, and that the image can be loaded.
use Rattle.std.proofs.Common.{ℕ, zero, suc, ◌≡◌, ◌≤◌, ◌<◌, ◌+◌, ◌-◌, ◌*◌, ◌/◌, ◌%◌, ◌^◌, true, false, List, [], ◌∷◌, ◌++◌, Option, Some, None, IsSomeAnd, length, length-append, refl, sym, ap, subst, ◌∙◌, arith}
use Rattle.std.specs.Prelude.{All, IsTrue, slice_index, slice_get, find, nat_lt}
use Rattle.std.specs.Int.{to_be_bytes, w32}
use Rattle.std.specs.List.{AllByRecursion as Each, flat_map, filter_map, cons_option}
use Rattle.std.specs.Option.{option_map_or}
use Rattle.std.proofs.lemmas.Bool.{le-leb, lt-ltb}
use Rattle.std.proofs.lemmas.List.Elements.{All-from_recursion, recursion_from_All}
use Rattle.lf_model.specs.Start.{ram_first, covers, byte_in, initial_byte, number_at, word_at, is_in_ram, IsLoadable}
use Rattle.lf_model.specs.Instructions.{instruction_of}
use Rattle.lf_model.specs.declared.image.Range.{Range}
use Rattle.lf_model.specs.declared.image.Segment.{Segment}
use Rattle.lf_model.specs.declared.instruction.Instr.{Instr}
use Rattle.work_gen.specs.Draws.{next_state}
use Rattle.work_gen.specs.Program.{body, program}
use Rattle.work_gen.specs.Encoding.{word_of, bytes_of, IsEncoded}
use Rattle.work_gen.specs.Layout.{code_length, data_address, data_end, instructions, generated_image, HoldsProgram}

-- ---- the bytes of a list of instructions

-- the bytes of a word stand at a place
record HasWord (code : List ℕ) (at w : ℕ) : Type 0 where
  first : slice_index code at ≡ w / 2 ^ 24 % 256
  second : slice_index code (at + 1) ≡ w / 2 ^ 16 % 256
  third : slice_index code (at + 2) ≡ w / 2 ^ 8 % 256
  fourth : slice_index code (at + 3) ≡ w % 256

-- the word of an instruction of the list
record IsWordAt (list : List Instr) (code : List ℕ) (i : ℕ) : Type 0 where
  word : ℕ
  small : word < 2 ^ 32
  decodes : slice_get list i ≡ Some (instruction_of word)
  stands : HasWord code (4 * i) word

bytes_of_more : (x : Instr) (xs : List Instr) (w : ℕ) → word_of x ≡ Some w → bytes_of (x ∷ xs) ≡ to_be_bytes w32 w ++ bytes_of xs
unfolding bytes_of
bytes_of_more x xs w is = ap (λ (word : Option ℕ). flat_map (to_be_bytes w32) (cons_option word (filter_map word_of xs))) is

four_on : (a b c d : ℕ) (rest : List ℕ) (at n : ℕ) → at ≡ suc (suc (suc (suc n))) → slice_index (a ∷ b ∷ c ∷ d ∷ rest) at ≡ slice_index rest n
four_on a b c d rest at n is = ap (slice_index (a ∷ b ∷ c ∷ d ∷ rest)) is

word_later : (w v i : ℕ) (rest : List ℕ) → HasWord rest (4 * i) v → HasWord (to_be_bytes w32 w ++ rest) (4 * suc i) v
word_later w v i rest has = record {
  first = four_on _ _ _ _ rest (4 * suc i) (4 * i) (omega arith) ∙ has.first;
  second = four_on _ _ _ _ rest (4 * suc i + 1) (4 * i + 1) (omega arith) ∙ has.second;
  third = four_on _ _ _ _ rest (4 * suc i + 2) (4 * i + 2) (omega arith) ∙ has.third;
  fourth = four_on _ _ _ _ rest (4 * suc i + 3) (4 * i + 3) (omega arith) ∙ has.fourth;
}

-- the word that an encoded instruction has
word_had : (x : Instr) (word : Option ℕ) → word_of x ≡ word → IsSomeAnd word (λ w. (w < 2 ^ 32) × (instruction_of w ≡ x))
    → (w : ℕ) × (word_of x ≡ Some w) × (w < 2 ^ 32) × (instruction_of w ≡ x)
word_had x None is h = absurd h
word_had x (Some w) is h = (w, is, h.0, h.1)

word_at_place : (list : List Instr) → Each IsEncoded list → (i : ℕ) → i < length list → IsWordAt list (bytes_of list) i
word_at_place [] each i below = absurd (omega (arith, below))
word_at_place (x ∷ xs) each zero below =
    let had = word_had x (word_of x) refl each.0 in
    subst (λ (code : List ℕ). IsWordAt (x ∷ xs) code 0) (sym (bytes_of_more x xs had.0 had.1)) (record {
      word = had.0;
      small = had.2;
      decodes = ap Some (sym had.3);
      stands = record { first = refl; second = refl; third = refl; fourth = refl };
    })
word_at_place (x ∷ xs) each (suc i) below =
    let had = word_had x (word_of x) refl each.0 in
    let later = word_at_place xs each.1 i (omega (arith, below)) in
    subst (λ (code : List ℕ). IsWordAt (x ∷ xs) code (suc i)) (sym (bytes_of_more x xs had.0 had.1)) (record {
      word = later.word;
      small = later.small;
      decodes = later.decodes;
      stands = word_later had.0 later.word i (bytes_of xs) later.stands;
    })

length-bytes_of : (list : List Instr) → Each IsEncoded list → length (bytes_of list) ≡ 4 * length list
unfolding bytes_of
length-bytes_of [] each = refl
length-bytes_of (x ∷ xs) each =
    let had = word_had x (word_of x) refl each.0 in
    ap length (bytes_of_more x xs had.0 had.1) ∙ (let rest = length-bytes_of xs each.1 in omega (arith, rest))

-- ---- the length of a program

length-body : (size state : ℕ) → length (body state size) ≡ size
length-body zero state = refl
length-body (suc size) state = ap suc (length-body size (next_state state))

length-program : (address start size : ℕ) → length (program address start size) ≡ size + 8
unfolding program
length-program address start size = let middle = length-body size start in grind (arith, length-append, middle)

-- ---- the words of an image

first_byte : (s : Segment) (ss : List Segment) (a : ℕ) → s.addr ≤ a → a < s.addr + s.size
    → option_map_or (byte_in a) (find (covers a) (s ∷ ss)) 0 ≡ byte_in a s
first_byte s ss a from to = rw (le-leb s.addr a from, lt-ltb a (s.addr + s.size) to) refl

number_of_bytes : (f : ℕ → ℕ) (a w : ℕ) → w < 2 ^ 32 → f (a + 0) ≡ w / 2 ^ 24 % 256 → f (a + 1) ≡ w / 2 ^ 16 % 256
    → f (a + 2) ≡ w / 2 ^ 8 % 256 → f (a + 3) ≡ w % 256 → number_at f a 4 ≡ w
unfolding number_at
number_of_bytes f a w small first second third fourth = omega (arith, small, first, second, third, fourth)

-- the segments of an image
abbrev code_segment : ℕ → ℕ → Segment
code_segment start size =
    record { addr = ram_first; bytes = bytes_of (instructions start size); size = code_length size; write = false; exec = true }

abbrev data_segment : ℕ → List Segment
data_segment size = record { addr = data_address size; bytes = []; size = 1024; write = true; exec = false } ∷ []

code_byte : (start size n a : ℕ) → a ≡ ram_first + n → n < code_length size
    → initial_byte (generated_image start size) a ≡ slice_index (bytes_of (instructions start size)) n
unfolding generated_image
code_byte start size n a is below =
    first_byte (code_segment start size) (data_segment size) a (omega (arith, is)) (omega (arith, is, below))
    ∙ ap (slice_index (bytes_of (instructions start size))) (let at : a - ram_first ≡ n = omega (arith, is) in at)

word_there : (start size i : ℕ) → i < size + 8 → IsWordAt (instructions start size) (bytes_of (instructions start size)) i
    → slice_get (instructions start size) i ≡ Some (instruction_of (word_at (generated_image start size) (ram_first + 4 * i)))
word_there start size i below there =
    there.decodes ∙ ap (λ (w : ℕ). Some (instruction_of w)) (sym (number_of_bytes (initial_byte (generated_image start size)) (ram_first + 4 * i) there.word there.small
    (code_byte start size (4 * i) (ram_first + 4 * i + 0) (omega arith) (omega (arith, below)) ∙ there.stands.first)
    (code_byte start size (4 * i + 1) (ram_first + 4 * i + 1) (omega arith) (omega (arith, below)) ∙ there.stands.second)
    (code_byte start size (4 * i + 2) (ram_first + 4 * i + 2) (omega arith) (omega (arith, below)) ∙ there.stands.third)
    (code_byte start size (4 * i + 3) (ram_first + 4 * i + 3) (omega arith) (omega (arith, below)) ∙ there.stands.fourth)))

pub decodes : (start size : ℕ) → All IsEncoded (instructions start size) → HoldsProgram (instructions start size) (generated_image start size)
unfolding generated_image
decodes start size encoded i below =
    let short = length-program (data_address size) start size in
    word_there start size i (omega (arith, below, short))
    (word_at_place (instructions start size) (recursion_from_All IsEncoded (instructions start size) encoded) i below)

-- ---- loading

in_ram : (ram a len : ℕ) → ram_first ≤ a → a + len ≤ ram_first + ram → IsTrue (is_in_ram ram a len)
in_ram ram a len from to = rw (le-leb ram_first a from, le-leb (a + len) (ram_first + ram) to) refl

pub loadable : (start size : ℕ) → All IsEncoded (instructions start size) → (ram : ℕ) → data_end size ≤ ram_first + ram
    → IsLoadable ram (generated_image start size)
unfolding generated_image
loadable start size encoded ram room =
    let short = length-program (data_address size) start size in
    let bytes = length-bytes_of (instructions start size) (recursion_from_All IsEncoded (instructions start size) encoded) in
    let code = in_ram ram ram_first (code_length size) (omega arith) (omega (arith, room)) in
    let behind = in_ram ram (data_address size) 1024 (omega arith) room in
    let image = generated_image start size in
    let here : Segment → Type 0 = λ s. IsTrue (is_in_ram ram s.addr s.size) in
    let whole : Segment → Type 0 = λ s. length s.bytes ≤ s.size in
    let inside : Range → Type 0 = λ r. IsTrue (is_in_ram ram r.first r.length) in
    let segments : Each here image.segments = (code, (behind, tt)) in
    let filled : Each whole image.segments = (omega (arith, short, bytes), (omega arith, tt)) in
    let ranges : Each inside image.text = (code, tt) in
    record {
      segments = All-from_recursion here image.segments segments;
      bytes = All-from_recursion whole image.segments filled;
      text = All-from_recursion inside image.text ranges;
      aligned = refl;
      entry = rw (text_byte size 0 (omega arith), text_byte size 1 (omega arith), text_byte size 2 (omega arith), text_byte size 3 (omega arith)) refl;
    }
  where
    text_byte : (n : ℕ) (i : ℕ) → i < 4 → nat_lt (ram_first + i) (ram_first + code_length n) ≡ true
    text_byte n i below = lt-ltb (ram_first + i) (ram_first + code_length n) (omega (arith, below))
