-- The words that the log leaves in memory, with one more entry: a store or an atomic puts its bytes into the words that they lie in.
use Rattle.std.proofs.Common.{◌≡◌, ℕ, ◌+◌, ◌-◌, ◌*◌, ◌/◌, ◌%◌, ◌^◌, ◌<◌, ◌≤◌, ◌&&◌, ◌||◌, refl, ap, sym, subst, ◌∙◌, arith, inl, inr, ◌⊎◌, cond, Bool, true, false, List, [], ◌∷◌, ◌++◌, nat_le, nat_lt, nat_eq, length, length-set, slice_index, slice_set, IsTrue}
use Rattle.std.proofs.lemmas.Bool.{cases_Bool, cases_eq, cases_lt, and_parts, lt-ltb, ltb-true}
use Rattle.std.proofs.lemmas.List.{get_or-set_same, get_or-set_other}
use Rattle.std.proofs.lemmas.Bool.Decides.{nat_tests}
use Rattle.bus_memory.specs.MemoryState.{MemoryState, stored as stored_in, merged_in, is_bad_at, value_at}
use Rattle.lf_model.specs.Bus.Words.{word_of}
use Rattle.lf_model.specs.Operation.{byte_of, byte_put, touches}
use Rattle.lf_model.specs.Promise.Regular.{is_length}
use Rattle.lf_model.specs.Records.AllRecords.{number_left}
use Rattle.lf_model.specs.Start.{ram_first, initial_byte}
use Rattle.lf_model.specs.Value.{stored}
use Rattle.lf_model.specs.declared.bus.Entry.{Entry}
use Rattle.lf_model.specs.declared.image.Image.{Image}
use Rattle.ram_words.specs.Parts.{is_part, merged}
use Rattle.ram_words.specs.Ram.{place_of}
use Rattle.ram_words.proofs.LoadLemmas.{number_at-same}
use Rattle.ram_words.proofs.PartLemmas.{merged-bytes, first_byte, second_byte, third_byte, fourth_byte, first_half, second_half}
use Rattle.ahb_bus.specs.BusOk.{AreLeft, HasBytes}
use Rattle.ahb_bus.proofs.NumberBytes.{byte_of_number, number_of_word, number_small}

-- ---- one word

-- what an entry leaves of a word: it touches none of its bytes, or puts those that it touches
abbrev IsPut : Entry → ℕ → ℕ → ℕ → Type 0
IsPut e first old new = ((new ≡ old) × ((j : ℕ) → j < 4 → touches (first + j) e ≡ false))
    ⊎ ((new < 2 ^ 32) × ((j : ℕ) → j < 4 → byte_of new 4 j ≡ cond (touches (first + j) e) (byte_put (first + j) e) (byte_of old 4 j)))

-- a merged word is a word
merged-small : (word addr len value : ℕ) → word < 2 ^ 32 → (len ≡ 1) ⊎ (len ≡ 2) → addr % len ≡ 0 → merged word addr len value < 2 ^ 32
merged-small word addr len value small (inl one) aligned = elim (cases_eq (addr % 4) 0) [
  | inl is ↦ omega (arith, first_byte word addr len value one is)
  | inr no_first ↦ elim (cases_eq (addr % 4) 1) [
    | inl is ↦ omega (arith, second_byte word addr len value one is)
    | inr no_second ↦ elim (cases_eq (addr % 4) 2) [
      | inl is ↦ omega (arith, third_byte word addr len value one is)
      | inr no_third ↦ omega (arith, fourth_byte word addr len value one (omega arith))
    ]
  ]
]
merged-small word addr len value small (inr two) aligned = elim (cases_eq (addr % 4) 0) [
  | inl is ↦ omega (arith, first_half word addr len value two is)
  | inr no_first ↦
      let even : addr % 2 ≡ 0 = ap (λ (n : ℕ). addr % n) (sym two) ∙ aligned in
      omega (arith, second_half word addr len value two (omega arith))
]

-- what a store puts into the word that holds its bytes
part_put : (e : Entry) (first word : ℕ) → word < 2 ^ 32 → IsTrue (is_part e.len) → e.addr % e.len ≡ 0 → first + e.addr % 4 ≡ e.addr → merged word e.addr e.len e.put < 2 ^ 32
    → IsPut e first word (merged word e.addr e.len e.put)
part_put e first word small part aligned at fits = inr (
  fits,
  λ j low. merged-bytes word e.addr e.len e.put small part aligned j low ∙ same_test j ∙ by_test j (touches (first + j) e),
)
  where
    same_test : (j : ℕ) → cond (nat_le (e.addr % 4) j && nat_lt j (e.addr % 4 + e.len)) (byte_of e.put e.len (j - e.addr % 4)) (byte_of word 4 j)
        ≡ cond (touches (first + j) e) (byte_of e.put e.len (j - e.addr % 4)) (byte_of word 4 j)
    same_test j =
        let low : nat_le (e.addr % 4) j ≡ nat_le e.addr (first + j) = grind (arith, nat_tests) in
        let high : nat_lt j (e.addr % 4 + e.len) ≡ nat_lt (first + j) (e.addr + e.len) = grind (arith, nat_tests) in
        rw (low, high) refl

    by_test : (j : ℕ) (b : Bool) → cond b (byte_of e.put e.len (j - e.addr % 4)) (byte_of word 4 j) ≡ cond b (byte_put (first + j) e) (byte_of word 4 j)
    by_test j true = ap (λ (k : ℕ). byte_of e.put e.len k) (omega (arith, at))
    by_test j false = refl

whole_put : (e : Entry) (first word : ℕ) → e.len ≡ 4 → first ≡ e.addr → e.put < 2 ^ 32 → IsPut e first word e.put
whole_put e first word len at fits = inr (
  fits,
  λ j low.
      let touched : touches (first + j) e ≡ true = grind (arith, nat_tests) in
      let offset : j ≡ first + j - e.addr = omega arith in
      ap (λ (k : ℕ). byte_of e.put 4 k) offset ∙ ap (λ (n : ℕ). byte_of e.put n (first + j - e.addr)) (sym len)
      ∙ sym (ap (λ (b : Bool). cond b (byte_put (first + j) e) (byte_of word 4 j)) touched),
)

-- the halves of a doubleword
high_byte : (value j : ℕ) → j < 4 → byte_of (value / 2 ^ 32) 4 j ≡ byte_of value 8 j
high_byte value j low = elim (cases_eq j 0) [
  | inl is ↦ rw is (omega arith)
  | inr no_first ↦ elim (cases_eq j 1) [
    | inl is ↦ rw is (omega arith)
    | inr no_second ↦ elim (cases_eq j 2) [
      | inl is ↦ rw is (omega arith)
      | inr no_third ↦ let is : j ≡ 3 = omega arith in rw is (omega arith)
    ]
  ]
]

low_byte : (value j : ℕ) → j < 4 → byte_of (value % 2 ^ 32) 4 j ≡ byte_of value 8 (4 + j)
low_byte value j low = elim (cases_eq j 0) [
  | inl is ↦ rw is (omega arith)
  | inr no_first ↦ elim (cases_eq j 1) [
    | inl is ↦ rw is (omega arith)
    | inr no_second ↦ elim (cases_eq j 2) [
      | inl is ↦ rw is (omega arith)
      | inr no_third ↦ let is : j ≡ 3 = omega arith in rw is (omega arith)
    ]
  ]
]

high_put : (e : Entry) (first word : ℕ) → e.len ≡ 8 → first ≡ e.addr → e.put < 2 ^ 64 → IsPut e first word (e.put / 2 ^ 32)
high_put e first word len at fits = inr (
  omega arith,
  λ j low.
      let touched : touches (first + j) e ≡ true = grind (arith, nat_tests) in
      let offset : j ≡ first + j - e.addr = omega arith in
      high_byte e.put j low ∙ ap (λ (k : ℕ). byte_of e.put 8 k) offset ∙ ap (λ (n : ℕ). byte_of e.put n (first + j - e.addr)) (sym len)
      ∙ sym (ap (λ (b : Bool). cond b (byte_put (first + j) e) (byte_of word 4 j)) touched),
)

low_put : (e : Entry) (first word : ℕ) → e.len ≡ 8 → first ≡ e.addr + 4 → IsPut e first word (e.put % 2 ^ 32)
low_put e first word len at = inr (
  omega arith,
  λ j low.
      let touched : touches (first + j) e ≡ true = grind (arith, nat_tests) in
      let offset : 4 + j ≡ first + j - e.addr = omega arith in
      low_byte e.put j low ∙ ap (λ (k : ℕ). byte_of e.put 8 k) offset ∙ ap (λ (n : ℕ). byte_of e.put n (first + j - e.addr)) (sym len)
      ∙ sym (ap (λ (b : Bool). cond b (byte_put (first + j) e) (byte_of word 4 j)) touched),
)

-- the bytes of other words stay
other_word : (e : Entry) (first j : ℕ) → (first + 4 ≤ e.addr) ⊎ (e.addr + e.len ≤ first) → j < 4 → touches (first + j) e ≡ false
other_word e first j (inl below) low = grind (arith, nat_tests)
other_word e first j (inr above) low = grind (arith, nat_tests)

-- ---- one more entry

-- the byte that it leaves at an address
stored_push : (a : ℕ) (es : List Entry) (e : Entry) (byte : ℕ) → stored a (es ++ e ∷ []) byte ≡ cond (touches a e) (byte_put a e) (stored a es byte)
stored_push a [] e byte = refl
stored_push a (x ∷ xs) e byte = stored_push a xs e (cond (touches a x) (byte_put a x) byte)

stored_small : (a : ℕ) (es : List Entry) (byte : ℕ) → byte < 2 ^ 8 → stored a es byte < 2 ^ 8
stored_small a [] byte small = small
stored_small a (e ∷ es) byte small = elim (cases_Bool (touches a e)) [
  | inl here ↦ rw here (stored_small a es (byte_put a e) (omega arith))
  | inr other ↦ rw other (stored_small a es byte small)
]

module _ (image : Image) (bytes : HasBytes image) (log : List Entry) where
  abbrev byte_left : ℕ → ℕ
  byte_left a = stored a log (initial_byte image a)

  byte_small : (a : ℕ) → byte_left a < 2 ^ 8
  byte_small a = stored_small a log (initial_byte image a) (bytes a)

  -- a word that the log leaves is a word, and its bytes
  pub word_left_small : (addr : ℕ) → number_left image log addr < 2 ^ 32
  word_left_small addr = number_small byte_left addr 4 (λ j lt. byte_small (addr + j))

  pub word_left_byte : (addr j : ℕ) → j < 4 → byte_of (number_left image log addr) 4 j ≡ byte_left (addr + j)
  word_left_byte addr j low = byte_of_number byte_left addr 4 (λ i lt. byte_small (addr + i)) j low

  module _ (e : Entry) where
    after : ℕ → ℕ
    after a = stored a (log ++ e ∷ []) (initial_byte image a)

    word_put : (first old new : ℕ) → old ≡ number_left image log first → IsPut e first old new → new ≡ number_left image (log ++ e ∷ []) first
    unfolding after
    word_put first old new is (inl kept) =
        kept.0 ∙ is
        ∙ number_at-same byte_left after first first 4
        (λ j low.
        sym (stored_push (first + j) log e (initial_byte image (first + j))
        ∙ ap (λ (b : Bool). cond b (byte_put (first + j) e) (byte_left (first + j))) (kept.1 j low)))
    word_put first old new is (inr put) =
        sym (number_of_word after first new put.0 (λ j low.
        stored_push (first + j) log e (initial_byte image (first + j))
        ∙ ap (λ (byte : ℕ). cond (touches (first + j) e) (byte_put (first + j) e) byte) (sym (ap (λ (v : ℕ). byte_of v 4 j) is ∙ word_left_byte first j low))
        ∙ sym (put.1 j low)))

    module _ (values : List ℕ) (left : AreLeft image log values) where
      words_put : (values' : List ℕ) → length values' ≡ length values
          → ((place : ℕ) → place < length values → IsPut e (ram_first + 4 * place) (slice_index values place) (slice_index values' place))
          → AreLeft image (log ++ e ∷ []) values'
      words_put values' same puts place within =
          let inside : place < length values = omega (arith, within, same) in
          word_put (ram_first + 4 * place) (slice_index values place) (slice_index values' place) (left place inside) (puts place inside)

      -- one word is written, in which the bytes lie
      one_word : (place value : ℕ) → place < length values → ram_first + 4 * place ≤ e.addr → e.addr + e.len ≤ ram_first + 4 * place + 4
          → IsPut e (ram_first + 4 * place) (slice_index values place) value → AreLeft image (log ++ e ∷ []) (slice_set values place value)
      one_word place value within low high put =
          words_put (slice_set values place value) (length-set values place value) (λ i inside. elim (cases_eq i place) [
            | inl here ↦ subst (λ (k : ℕ). IsPut e (ram_first + 4 * k) (slice_index values k) (slice_index (slice_set values place value) k)) (sym here)
                (subst (λ (v : ℕ). IsPut e (ram_first + 4 * place) (slice_index values place) v) (sym (get_or-set_same values place value 0 within)) put)
            | inr there ↦ inl (get_or-set_other values place i value 0 there, λ j below. other_word e (ram_first + 4 * i) j (beside i there) below)
          ])
        where
          beside : (i : ℕ) → (i ≡ place → ⊥) → (ram_first + 4 * i + 4 ≤ e.addr) ⊎ (e.addr + e.len ≤ ram_first + 4 * i)
          beside i there = elim (cases_lt i place) [
            | inl before ↦ inl (omega arith)
            | inr after ↦ inr (omega arith)
          ]

      -- two words are written, in which the eight bytes lie
      two_words : (place : ℕ) → place + 1 < length values → e.len ≡ 8 → ram_first + 4 * place ≡ e.addr → e.put < 2 ^ 64
          → AreLeft image (log ++ e ∷ []) (slice_set (slice_set values place (e.put / 2 ^ 32)) (place + 1) (e.put % 2 ^ 32))
      two_words place within len at fits =
          let first : List ℕ = slice_set values place (e.put / 2 ^ 32) in
          let long : length first ≡ length values = length-set values place (e.put / 2 ^ 32) in
          words_put (slice_set first (place + 1) (e.put % 2 ^ 32)) (length-set first (place + 1) (e.put % 2 ^ 32) ∙ long) (λ i inside. elim (cases_eq i (place + 1)) [
            | inl second ↦ subst (λ (k : ℕ). IsPut e (ram_first + 4 * k) (slice_index values k) (slice_index (slice_set first (place + 1) (e.put % 2 ^ 32)) k)) (sym second)
                (subst (λ (v : ℕ). IsPut e (ram_first + 4 * (place + 1)) (slice_index values (place + 1)) v) (sym (get_or-set_same first (place + 1) (e.put % 2 ^ 32) 0 (omega (arith, long))))
                (low_put e (ram_first + 4 * (place + 1)) (slice_index values (place + 1)) len (omega arith)))
            | inr no_second ↦ subst (λ (v : ℕ). IsPut e (ram_first + 4 * i) (slice_index values i) v) (sym (get_or-set_other first (place + 1) i (e.put % 2 ^ 32) 0 no_second)) (elim (cases_eq i place) [
              | inl here ↦ subst (λ (k : ℕ). IsPut e (ram_first + 4 * k) (slice_index values k) (slice_index first k)) (sym here)
                  (subst (λ (v : ℕ). IsPut e (ram_first + 4 * place) (slice_index values place) v) (sym (get_or-set_same values place (e.put / 2 ^ 32) 0 (omega arith)))
                  (high_put e (ram_first + 4 * place) (slice_index values place) len at fits))
              | inr there ↦ inl (get_or-set_other values place i (e.put / 2 ^ 32) 0 there, λ j below. other_word e (ram_first + 4 * i) j (beside i there no_second) below)
            ])
          ])
        where
          beside : (i : ℕ) → (i ≡ place → ⊥) → (i ≡ place + 1 → ⊥) → (ram_first + 4 * i + 4 ≤ e.addr) ⊎ (e.addr + e.len ≤ ram_first + 4 * i)
          beside i there no_second = elim (cases_lt i place) [
            | inl before ↦ inl (omega arith)
            | inr after ↦ inr (omega arith)
          ]

-- ---- a store or an atomic that is not lost

-- a swap puts a whole word
merged-whole : (word addr len value : ℕ) → word < 2 ^ 32 → value < 2 ^ 32 → len ≡ 4 → addr % 4 ≡ 0 → merged word addr len value ≡ value
unfolding merged
merged-whole word addr len value small fits size place = rw (size, place) (omega arith)

-- its bytes lie in RAM of so many words
pub record IsAt (e : Entry) (count : ℕ) : Type 0 where
  pub low : ram_first ≤ e.addr
  pub high : e.addr + e.len ≤ ram_first + 4 * count
  pub aligned : e.addr % e.len ≡ 0

module _ (image : Image) (bytes : HasBytes image) (log : List Entry) (e : Entry) (m : MemoryState) (left : AreLeft image log m.values) (at : IsAt e (length m.values)) where
  abbrev values_after : MemoryState → Type 0
  values_after new = AreLeft image (log ++ e ∷ []) new.values

  left_part : (e.len ≡ 1) ⊎ (e.len ≡ 2) → values_after (record m { values = slice_set m.values (place_of e.addr) (merged (value_at m e.addr) e.addr e.len e.put) })
  left_part short =
      let place : ℕ = place_of e.addr in
      let word : ℕ = slice_index m.values place in
      let within : place < length m.values = omega (arith, at.low, at.high, some_length short) in
      let small : word < 2 ^ 32 = subst (λ (v : ℕ). v < 2 ^ 32) (sym (left place within)) (word_left_small image bytes log (ram_first + 4 * place)) in
      one_word image bytes log e m.values left place (merged word e.addr e.len e.put) within (omega (arith, at.low)) (inside short)
      (part_put e (ram_first + 4 * place) word small (is_short short) at.aligned (omega (arith, at.low)) (merged-small word e.addr e.len e.put small short at.aligned))
    where
      some_length : (e.len ≡ 1) ⊎ (e.len ≡ 2) → 1 ≤ e.len
      some_length (inl one) = omega arith
      some_length (inr two) = omega arith

      is_short : (e.len ≡ 1) ⊎ (e.len ≡ 2) → IsTrue (is_part e.len)
      is_short (inl one) = rw one refl
      is_short (inr two) = rw two refl

      inside : (e.len ≡ 1) ⊎ (e.len ≡ 2) → e.addr + e.len ≤ ram_first + 4 * place_of e.addr + 4
      inside (inl one) = omega (arith, at.low)
      inside (inr two) = let even : e.addr % 2 ≡ 0 = ap (λ (n : ℕ). e.addr % n) (sym two) ∙ at.aligned in omega (arith, at.low)

  left_word : e.len ≡ 4 → e.put < 2 ^ 32 → values_after (record m { values = slice_set m.values (place_of e.addr) e.put })
  left_word four fits =
      let place : ℕ = place_of e.addr in
      let aligned : e.addr % 4 ≡ 0 = subst (λ (n : ℕ). e.addr % n ≡ 0) four at.aligned in
      let within : place < length m.values = omega (arith, at.low, at.high) in
      one_word image bytes log e m.values left place e.put within (omega (arith, at.low)) (omega (arith, at.low))
      (whole_put e (ram_first + 4 * place) (slice_index m.values place) four (omega (arith, at.low)) fits)

  left_double : e.len ≡ 8 → e.put < 2 ^ 64
      → values_after (record m { values = slice_set (slice_set m.values (place_of e.addr) (e.put / 2 ^ 32)) (place_of (e.addr + 4)) (e.put % 2 ^ 32) })
  left_double eight fits =
      let place : ℕ = place_of e.addr in
      let aligned : e.addr % 8 ≡ 0 = subst (λ (n : ℕ). e.addr % n ≡ 0) eight at.aligned in
      let next : place_of (e.addr + 4) ≡ place + 1 = omega (arith, at.low) in
      let within : place + 1 < length m.values = omega (arith, at.low, at.high) in
      subst (λ (k : ℕ). AreLeft image (log ++ e ∷ []) (slice_set (slice_set m.values place (e.put / 2 ^ 32)) k (e.put % 2 ^ 32))) (sym next)
      (two_words image bytes log e m.values left place within eight (omega (arith, at.low)) fits)

  merged_good : is_bad_at m (word_of e.addr) ≡ false
      → merged_in e.addr e.len e.put m ≡ record m { values = slice_set m.values (place_of e.addr) (merged (value_at m e.addr) e.addr e.len e.put) }
  merged_good good = ap (λ (b : Bool). cond b m (record m { values = slice_set m.values (place_of e.addr) (merged (value_at m e.addr) e.addr e.len e.put) })) good

  part_left : (e.len ≡ 1) ⊎ (e.len ≡ 2) → is_bad_at m (word_of e.addr) ≡ false → values_after (merged_in e.addr e.len e.put m)
  part_left short good = subst values_after (sym (merged_good good)) (left_part short)

  swap_left : e.len ≡ 4 → e.put < 2 ^ 32 → is_bad_at m (word_of e.addr) ≡ false → values_after (merged_in e.addr e.len e.put m)
  swap_left four fits good =
      let aligned : e.addr % 4 ≡ 0 = subst (λ (n : ℕ). e.addr % n ≡ 0) four at.aligned in
      let within : place_of e.addr < length m.values = omega (arith, at.low, at.high) in
      let small : value_at m e.addr < 2 ^ 32 =
      subst (λ (v : ℕ). v < 2 ^ 32) (sym (left (place_of e.addr) within)) (word_left_small image bytes log (ram_first + 4 * place_of e.addr)) in
      subst values_after (sym (merged_good good))
      (subst (λ (v : ℕ). values_after (record m { values = slice_set m.values (place_of e.addr) v })) (sym (merged-whole (value_at m e.addr) e.addr e.len e.put small fits four aligned))
      (left_word four fits))

  -- an atomic
  pub atomic_left : IsTrue (nat_eq e.len 1 || nat_eq e.len 4) → e.put < 2 ^ (8 * e.len) → is_bad_at m (word_of e.addr) ≡ false → values_after (merged_in e.addr e.len e.put m)
  atomic_left size fits good = elim (cases_eq e.len 1) [
    | inl one ↦ part_left (inl one) good
    | inr no_one ↦
        let four : e.len ≡ 4 = grind (arith, nat_tests) in
        swap_left four (subst (λ (n : ℕ). e.put < 2 ^ (8 * n)) four fits) good
  ]

  short_store : e.len < 4 → stored_in e.addr e.len e.put m ≡ merged_in e.addr e.len e.put m
  short_store lt = ap (λ (b : Bool). cond b (merged_in e.addr e.len e.put m) (cond (nat_eq e.len 4) (record m { values = slice_set m.values (place_of e.addr) e.put })
      (record m { values = slice_set (slice_set m.values (place_of e.addr) (e.put / 2 ^ 32)) (place_of (e.addr + 4)) (e.put % 2 ^ 32) }))) (lt-ltb e.len 4 lt)

  part_stored : (e.len ≡ 1) ⊎ (e.len ≡ 2) → e.len < 4 → (nat_lt e.len 4 && is_bad_at m (word_of e.addr)) ≡ false → values_after (stored_in e.addr e.len e.put m)
  part_stored short lt kept =
      let good : is_bad_at m (word_of e.addr) ≡ false = sym (ap (λ (b : Bool). b && is_bad_at m (word_of e.addr)) (lt-ltb e.len 4 lt)) ∙ kept in
      subst values_after (sym (short_store lt)) (part_left short good)

  by_tests : (short whole : Bool) → nat_lt e.len 4 ≡ short → nat_eq e.len 4 ≡ whole → stored_in e.addr e.len e.put m
      ≡ cond short (merged_in e.addr e.len e.put m) (cond whole (record m { values = slice_set m.values (place_of e.addr) e.put })
      (record m { values = slice_set (slice_set m.values (place_of e.addr) (e.put / 2 ^ 32)) (place_of (e.addr + 4)) (e.put % 2 ^ 32) }))
  by_tests short whole is_short is_whole = rw (is_short, is_whole) refl

  word_store : e.len ≡ 4 → stored_in e.addr e.len e.put m ≡ record m { values = slice_set m.values (place_of e.addr) e.put }
  word_store four = by_tests false true (ap (λ (n : ℕ). nat_lt n 4) four) (ap (λ (n : ℕ). nat_eq n 4) four)

  double_store : e.len ≡ 8 → stored_in e.addr e.len e.put m
      ≡ record m { values = slice_set (slice_set m.values (place_of e.addr) (e.put / 2 ^ 32)) (place_of (e.addr + 4)) (e.put % 2 ^ 32) }
  double_store eight = by_tests false false (ap (λ (n : ℕ). nat_lt n 4) eight) (ap (λ (n : ℕ). nat_eq n 4) eight)

  -- a store
  pub store_left : is_length e.len ≡ true → e.put < 2 ^ (8 * e.len) → (nat_lt e.len 4 && is_bad_at m (word_of e.addr)) ≡ false → values_after (stored_in e.addr e.len e.put m)
  store_left size fits kept = elim (cases_eq e.len 1) [
    | inl one ↦ part_stored (inl one) (omega arith) kept
    | inr no_one ↦ elim (cases_eq e.len 2) [
      | inl two ↦ part_stored (inr two) (omega arith) kept
      | inr no_two ↦ elim (cases_eq e.len 4) [
        | inl four ↦ subst values_after (sym (word_store four)) (left_word four (subst (λ (n : ℕ). e.put < 2 ^ (8 * n)) four fits))
        | inr no_four ↦
            let eight : e.len ≡ 8 = grind (arith, nat_tests) in
            subst values_after (sym (double_store eight)) (left_double eight (subst (λ (n : ℕ). e.put < 2 ^ (8 * n)) eight fits))
      ]
    ]
  ]

  -- a lost one leaves memory as it was
  pub merged_bad : is_bad_at m (word_of e.addr) ≡ true → merged_in e.addr e.len e.put m ≡ m
  merged_bad bad = ap (λ (b : Bool). cond b m (record m { values = slice_set m.values (place_of e.addr) (merged (value_at m e.addr) e.addr e.len e.put) })) bad

  pub lost_left : is_length e.len ≡ true → (nat_lt e.len 4 && is_bad_at m (word_of e.addr)) ≡ true → stored_in e.addr e.len e.put m ≡ m
  lost_left size lost =
      let parts = and_parts (nat_lt e.len 4) (is_bad_at m (word_of e.addr)) lost in
      short_store (ltb-true e.len 4 parts.0) ∙ merged_bad parts.1
