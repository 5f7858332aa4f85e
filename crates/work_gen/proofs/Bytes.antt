-- The bytes of lists of instructions, one after another.
use Rattle.std.proofs.Common.{ℕ, ◌≡◌, ◌+◌, ◌-◌, ◌^◌, ◌<◌, List, [], ◌∷◌, ◌++◌, Option, Some, None, IsSome, IsSomeAnd, map, append_assoc, append-nil, zero, suc, ◌≤◌, refl, sym, ap, subst, ◌∙◌, arith}
use Rattle.std.specs.Prelude.{IfSome, All}
use Rattle.std.specs.Int.{to_be_bytes, w32}
use Rattle.std.specs.List.{flat_map, filter_map, range_with_len}
use Rattle.std.proofs.lemmas.Grind.{flat_map-append}
use Rattle.std.proofs.lemmas.List.Elements.{filter_map-append, All-append, All-cons, All-nil}
use Rattle.std.proofs.lemmas.List.FromFn.{map-range_with_len_more}
use Rattle.lf_model.specs.Instructions.{instruction_of}
use Rattle.lf_model.specs.declared.instruction.Instr.{Instr}
use Rattle.work_gen.specs.Draws.{next_state, drawn}
use Rattle.work_gen.specs.Program.{body_instruction, body, start_up, trap_always, program, set_number}
use Rattle.work_gen.specs.Encoding.{word_of, words_of, bytes_of, IsEncoded}

-- ---- one instruction

-- the bytes of the word that an instruction has
pub bytes_of_one : (instruction : Instr) (w : ℕ) → IsSome (word_of instruction) → IfSome (word_of instruction) (λ word. word ≡ w)
    → bytes_of (instruction ∷ []) ≡ to_be_bytes w32 w
unfolding bytes_of
bytes_of_one instruction w some is = by_word (word_of instruction) some is
  where
    by_word : (word : Option ℕ) → IsSome word → IfSome word (λ v. v ≡ w)
        → flat_map (to_be_bytes w32) (filter_map (λ (_ : Instr). word) (instruction ∷ [])) ≡ to_be_bytes w32 w
    by_word None some is = cc
    by_word (Some v) some is = rw is (append-nil (to_be_bytes w32 w))

none_some : IsSome {T = ℕ} None → ⊥
none_some is = cc

-- an instruction whose only word is that instruction again
pub encoded_by : (instruction : Instr) (word : Option ℕ) (w : ℕ) → IsSome word → IfSome word (λ v. v ≡ w)
    → w < 2 ^ 32 → instruction_of w ≡ instruction → IsSomeAnd word (λ v. (v < 2 ^ 32) × (instruction_of v ≡ instruction))
encoded_by instruction None w some is small back = absurd (none_some some)
encoded_by instruction (Some v) w some is small back = rw is (small, back)

-- ---- lists of instructions

pub bytes_of-append : (xs ys : List Instr) → bytes_of (xs ++ ys) ≡ bytes_of xs ++ bytes_of ys
unfolding bytes_of
bytes_of-append xs ys =
    ap (flat_map (to_be_bytes w32)) (filter_map-append word_of xs ys) ∙ flat_map-append (to_be_bytes w32) (words_of xs) (words_of ys)

-- one instruction more of those that were left
pub bytes_more : (file now all : List ℕ) (x : Instr) (rest : List Instr) → now ≡ file ++ bytes_of (x ∷ [])
    → file ++ bytes_of (x ∷ rest) ≡ all → now ++ bytes_of rest ≡ all
bytes_more file now all x rest is whole =
    ap (λ bytes. bytes ++ bytes_of rest) is ∙ append_assoc file (bytes_of (x ∷ [])) (bytes_of rest)
    ∙ ap (λ bytes. file ++ bytes) (sym (bytes_of-append (x ∷ []) rest)) ∙ whole

-- one instruction more of a list that grows at its end
pub bytes_push : (old file now : List ℕ) (xs ys : List Instr) (x : Instr) → file ≡ old ++ bytes_of xs → now ≡ file ++ bytes_of (x ∷ [])
    → ys ≡ xs ++ x ∷ [] → now ≡ old ++ bytes_of ys
bytes_push old file now xs ys x before is more =
    is ∙ ap (λ bytes. bytes ++ bytes_of (x ∷ [])) before ∙ append_assoc old (bytes_of xs) (bytes_of (x ∷ []))
    ∙ ap (λ bytes. old ++ bytes) (sym (bytes_of-append xs (x ∷ []))) ∙ ap (λ zs. old ++ bytes_of zs) (sym more)

-- ---- the body

-- the rest of a body: its next instruction, and the rest behind it
pub body_more : (n i state : ℕ) → i < n
    → body state (n - i) ≡ body_instruction (drawn (next_state state)) ∷ body (next_state state) (n - (i + 1))
body_more n i state below =
    let left : n - i ≡ suc (n - (i + 1)) = omega (arith, below) in ap (body state) left

-- the same of the bytes of a program that grows by this instruction, and of what can be encoded
pub body_bytes : (n i state : ℕ) (file now all : List ℕ) → i < n → now ≡ file ++ bytes_of (body_instruction (drawn (next_state state)) ∷ [])
    → file ++ bytes_of (body state (n - i)) ≡ all → now ++ bytes_of (body (next_state state) (n - (i + 1))) ≡ all
body_bytes n i state file now all below is whole =
    bytes_more file now all (body_instruction (drawn (next_state state))) (body (next_state state) (n - (i + 1))) is
    (ap (λ rest. file ++ bytes_of rest) (sym (body_more n i state below)) ∙ whole)

pub body_encoded : (n i state : ℕ) (P : Type 0) → i < n → IsEncoded (body_instruction (drawn (next_state state)))
    → (All IsEncoded (body state (n - i)) → P) → All IsEncoded (body (next_state state) (n - (i + 1))) → P
body_encoded n i state P below here whole rest =
    whole (subst (All IsEncoded) (sym (body_more n i state below)) (All-cons IsEncoded _ _ here rest))

-- behind the last instruction
pub body_ends : (n i state : ℕ) → n ≤ i → body state (n - i) ≡ []
body_ends n i state end = let none : n - i ≡ zero = omega (arith, end) in ap (body state) none

-- ---- start-up code

-- one number more is set
pub numbers_more : (first : Instr) (n : ℕ) → first ∷ map set_number (range_with_len 0 (n + 1)) ≡ (first ∷ map set_number (range_with_len 0 n)) ++ set_number n ∷ []
numbers_more first n = ap (λ rest. first ∷ rest) (map-range_with_len_more set_number 0 n n (omega arith))

pub bytes_of_none : bytes_of [] ≡ []
unfolding bytes_of
bytes_of_none = refl

-- ---- the program

-- start-up code, body and end make the program
pub program_bytes : (address start size : ℕ) (first second third : List ℕ) → first ≡ [] ++ bytes_of (start_up address)
    → second ≡ first ++ bytes_of (body start size) → third ≡ second ++ bytes_of (trap_always ∷ []) → third ≡ bytes_of (program address start size)
unfolding program
program_bytes address start size first second third is_first is_second is_third =
    is_third ∙ ap (λ bytes. bytes ++ bytes_of (trap_always ∷ [])) (is_second ∙ ap (λ bytes. bytes ++ bytes_of (body start size)) is_first
    ∙ sym (bytes_of-append (start_up address) (body start size)))
    ∙ sym (bytes_of-append (start_up address ++ body start size) (trap_always ∷ []))

pub program_encoded : (address start size : ℕ) → All IsEncoded (start_up address) → All IsEncoded (body start size) → IsEncoded trap_always
    → All IsEncoded (program address start size)
unfolding program
program_encoded address start size first second third =
    All-append IsEncoded (start_up address ++ body start size) (trap_always ∷ [])
    (All-append IsEncoded (start_up address) (body start size) first second) (All-cons IsEncoded trap_always [] third (All-nil IsEncoded))
