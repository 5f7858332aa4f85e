-- A fill of the fetch cache puts the image's bytes: its valid words are text, which no store changes.
use Rattle.std.proofs.Common.{◌≡◌, ◌∙◌, ◌+◌, ◌-◌, ◌*◌, ◌/◌, ◌%◌, ◌<◌, ◌≤◌, ◌&&◌, ℕ, zero, suc, Bool, true, false, not, IsTrue, List, [], ◌∷◌, slice_index, refl, ap, sym, subst, arith, inl, inr}
use Rattle.std.proofs.lemmas.Bool.{and_parts, cases_Bool, cases_lt}
use Rattle.std.specs.Int.{bit_at, from_bool}
use Rattle.std.specs.List.{list_all, list_any, range_with_len}
use Rattle.ahb_bus.proofs.NumberBytes.{byte_of_number}
use Rattle.ahb_bus.proofs.ShownLemmas.{line_word}
use Rattle.ahb_bus.specs.BusOk.{BusOk}
use Rattle.ahb_bus.specs.BusState.{BusState, memory_of, answered}
use Rattle.bus_memory.specs.MemoryState.{line_shown, reads_line}
use Rattle.lf_model.specs.Course.Syndromes.{met_bad}
use Rattle.lf_model.specs.Course.Turned.{valid_by}
use Rattle.lf_model.specs.Operation.{touches, byte_of, byte_put}
use Rattle.lf_model.specs.Records.BusRecord.{leaves_text}
use Rattle.lf_model.specs.Start.{initial_byte, is_text_byte, is_text_word, is_in_ram, touches_text, number_at}
use Rattle.lf_model.specs.Value.{stored}
use Rattle.lf_model.specs.declared.bus.Entry.{Entry}
use Rattle.lf_model.specs.declared.bus.Transfer.{Transfer}
use Rattle.lf_model.specs.declared.image.Range.{Range}
use Rattle.parity_cache.proofs.Bytes.{touched_from, untouched}
use Rattle.core_turns.specs.AfterTurn.{text_valid}

-- the line that is filled has these bytes in the words that are valid
abbrev pub HasLine : (ℕ → ℕ) → ℕ → ℕ → List ℕ → Type 0
HasLine byte addr valid words = (a : ℕ) → a / 32 ≡ addr / 32 → bit_at valid (a / 4 % 8) ≡ 1 → byte_of (slice_index words (a / 4 % 8)) 4 (a % 4) ≡ byte a

-- ---- one element of a range

pub all_in : (p : ℕ → Bool) (first n j : ℕ) → list_all p (range_with_len first n) ≡ true → first ≤ j → j < first + n → p j ≡ true
all_in p first zero j h from below = absurd (omega (arith, from, below))
all_in p first (suc n) j h from below =
    let parts = and_parts (p first) (list_all p (range_with_len (first + 1) n)) h in
    elim (cases_lt first j) [
      | inl later ↦ all_in p (first + 1) n j parts.1 (omega (arith, later)) (omega (arith, below))
      | inr here ↦ let same : first ≡ j = omega (arith, from, here) in subst (λ m. p m ≡ true) same parts.0
    ]

pub none_in : (p : ℕ → Bool) (first n j : ℕ) → list_any p (range_with_len first n) ≡ false → first ≤ j → j < first + n → p j ≡ false
none_in p first zero j h from below = absurd (omega (arith, from, below))
none_in p first (suc n) j h from below = elim (cases_Bool (p first)) [
  | inl so ↦ let no : true ≡ false = rw so at h in absurd (cc)
  | inr not_so ↦
      let rest : list_any p (range_with_len (first + 1) n) ≡ false = rw not_so at h in
      elim (cases_lt first j) [
        | inl later ↦ none_in p (first + 1) n j rest (omega (arith, later)) (omega (arith, below))
        | inr here ↦ let same : first ≡ j = omega (arith, from, here) in subst (λ m. p m ≡ false) same not_so
      ]
]

-- ---- bytes of memory

-- a store puts bytes
pub stored_small : (a byte : ℕ) (entries : List Entry) → byte < 256 → stored a entries byte < 256
stored_small a byte [] small = small
stored_small a byte (e ∷ entries) small = elim (cases_Bool (touches a e)) [
  | inl is ↦ rw is (stored_small a (byte_put a e) entries (omega arith))
  | inr none ↦ rw none (stored_small a byte entries small)
]

-- a fill puts the bytes of the words that memory read, where they are valid
pub line_read : (byte : ℕ → ℕ) → ((a : ℕ) → byte a < 256) → (addr valid : ℕ) (words : List ℕ) → addr % 32 ≡ 0
    → ((j : ℕ) → j < 8 → bit_at valid j ≡ 1 → slice_index words j ≡ number_at byte (addr + 4 * j) 4) → HasLine byte addr valid words
line_read byte small addr valid words aligned read a line is =
    let below : a / 4 % 8 < 8 = omega arith in
    let at : addr + 4 * (a / 4 % 8) + a % 4 ≡ a = omega (arith, aligned, line) in
    ap (λ n. byte_of n 4 (a % 4)) (read (a / 4 % 8) below is)
    ∙ (byte_of_number byte (addr + 4 * (a / 4 % 8)) 4 (λ j less. small (addr + 4 * (a / 4 % 8) + j)) (a % 4) (omega arith) ∙ ap byte at)

-- entries that touch no text leave a text byte
pub text_kept : (text : List Range) (log : List Entry) → list_all (leaves_text text) log ≡ true → (a byte : ℕ) → is_text_byte text a ≡ true → stored a log byte ≡ byte
text_kept text [] leaves a byte is = refl
text_kept text (e ∷ log) leaves a byte is =
    let parts = and_parts (leaves_text text e) (list_all (leaves_text text) log) leaves in
    ap (λ b. stored a log b) (untouched a e byte (λ touched_.
    let within = touched_from a e touched_ in
    let at : e.addr + (a - e.addr) ≡ a = omega (arith, within.0) in
    let none : is_text_byte text (e.addr + (a - e.addr)) ≡ false =
    none_in (λ i. is_text_byte text (e.addr + i)) 0 e.len (a - e.addr) (not_true (touches_text text e.addr e.len) parts.0) (omega arith) (omega (arith, within.0, within.1)) in
    let no : true ≡ false = sym is ∙ (ap (is_text_byte text) (sym at) ∙ none) in absurd (cc)))
    ∙ text_kept text log parts.1 a byte is
  where
    not_true : (b : Bool) → not b ≡ true → b ≡ false
    not_true true h = absurd (cc)
    not_true false h = refl

-- so a line whose valid words are text words has the image's bytes
pub text_line : (initial : ℕ → ℕ) → ((a : ℕ) → initial a < 256) → (text : List Range) (log : List Entry) → list_all (leaves_text text) log ≡ true → (addr valid : ℕ) (words : List ℕ) → addr % 32 ≡ 0
    → ((j : ℕ) → j < 8 → bit_at valid j ≡ 1 → is_text_word text (addr + 4 * j) ≡ true)
    → ((j : ℕ) → j < 8 → bit_at valid j ≡ 1 → slice_index words j ≡ number_at (λ a. stored a log (initial a)) (addr + 4 * j) 4) → HasLine initial addr valid words
text_line initial small text log leaves addr valid words aligned texts read a line is =
    let word : is_text_word text (addr + 4 * (a / 4 % 8)) ≡ true = texts (a / 4 % 8) (omega arith) is in
    let at : addr + 4 * (a / 4 % 8) + a % 4 ≡ a = omega (arith, aligned, line) in
    let is_text : is_text_byte text (addr + 4 * (a / 4 % 8) + a % 4) ≡ true = all_in (λ i. is_text_byte text (addr + 4 * (a / 4 % 8) + i)) 0 4 (a % 4) word (omega arith) (omega arith) in
    line_read (λ b. stored b log (initial b)) (λ b. stored_small b (initial b) log (small b)) addr valid words aligned read a line is
    ∙ text_kept text log leaves a (initial a) (ap (is_text_byte text) (sym at) ∙ is_text)

-- ---- valid bits

digit_small : (b : Bool) → from_bool b < 2
digit_small true = omega arith
digit_small false = omega arith

digit_true : (b : Bool) → from_bool b ≡ 1 → b ≡ true
digit_true true is = refl
digit_true false is = absurd cc

-- a number of eight binary digits
abbrev digits : (a b c d e f g h : ℕ) → ℕ
digits a b c d e f g h = 0 + a * 1 + b * 2 + c * 4 + d * 8 + e * 16 + f * 32 + g * 64 + h * 128

module _ (is_valid : ℕ → Bool) where
  abbrev d : ℕ → ℕ
  d j = from_bool (is_valid j)

  bits_are : valid_by is_valid ≡ digits (d 0) (d 1) (d 2) (d 3) (d 4) (d 5) (d 6) (d 7)
  bits_are = refl

  digit_at : (j : ℕ) → j < 8 → bit_at (digits (d 0) (d 1) (d 2) (d 3) (d 4) (d 5) (d 6) (d 7)) j ≡ d j
  digit_at zero below = omega (arith, digit_small (is_valid 0))
  digit_at (suc zero) below = omega (arith, digit_small (is_valid 0), digit_small (is_valid 1))
  digit_at (suc (suc zero)) below = omega (arith, digit_small (is_valid 0), digit_small (is_valid 1), digit_small (is_valid 2))
  digit_at (suc (suc (suc zero))) below = omega (arith, digit_small (is_valid 0), digit_small (is_valid 1), digit_small (is_valid 2), digit_small (is_valid 3))
  digit_at (suc (suc (suc (suc zero)))) below = omega (arith, digit_small (is_valid 0), digit_small (is_valid 1), digit_small (is_valid 2), digit_small (is_valid 3), digit_small (is_valid 4))
  digit_at (suc (suc (suc (suc (suc zero))))) below =
      omega (arith, digit_small (is_valid 0), digit_small (is_valid 1), digit_small (is_valid 2), digit_small (is_valid 3), digit_small (is_valid 4), digit_small (is_valid 5))
  digit_at (suc (suc (suc (suc (suc (suc zero)))))) below =
      omega (arith, digit_small (is_valid 0), digit_small (is_valid 1), digit_small (is_valid 2), digit_small (is_valid 3), digit_small (is_valid 4), digit_small (is_valid 5), digit_small (is_valid 6))
  digit_at (suc (suc (suc (suc (suc (suc (suc zero))))))) below =
      omega (arith, digit_small (is_valid 0), digit_small (is_valid 1), digit_small (is_valid 2), digit_small (is_valid 3), digit_small (is_valid 4), digit_small (is_valid 5), digit_small (is_valid 6), digit_small (is_valid 7))
  digit_at (suc (suc (suc (suc (suc (suc (suc (suc j)))))))) below = absurd (omega (arith, below))

  -- the bit of a word says whether it is valid
  pub word_valid : (j : ℕ) → j < 8 → bit_at (valid_by is_valid) j ≡ 1 → is_valid j ≡ true
  word_valid j below is = digit_true (is_valid j) (sym (digit_at j below) ∙ (ap (λ n. bit_at n j) (sym bits_are) ∙ is))

-- ---- a fill of the fetch cache

module _ (bus : BusState) (ok : BusOk bus) (asked : Transfer) (reads : reads_line asked.kind ≡ true) (aligned : asked.addr % 32 ≡ 0) (inside : IsTrue (is_in_ram bus.setup.config.ram asked.addr 32)) where
  abbrev t : Transfer
  t = answered bus asked

  abbrev is_good : ℕ → Bool
  is_good j = not (met_bad t j) && is_text_word bus.setup.image.text (t.addr + 4 * j)

  not_false : (b : Bool) → not b ≡ true → b ≡ false
  not_false true h = absurd (cc)
  not_false false h = refl

  pub text_filled_line : HasLine (initial_byte bus.setup.image) asked.addr (text_valid bus.setup.image t) (line_shown (memory_of bus) asked.addr).words
  unfolding text_valid
  text_filled_line =
      text_line (initial_byte bus.setup.image) ok.bytes bus.setup.image.text bus.log ok.text asked.addr (valid_by is_good) (line_shown (memory_of bus) asked.addr).words aligned
      (λ j below is. (and_parts (not (met_bad t j)) (is_text_word bus.setup.image.text (t.addr + 4 * j)) (word_valid is_good j below is)).1)
      (λ j below is. line_word bus ok asked reads j below aligned inside
      (not_false (met_bad t j) (and_parts (not (met_bad t j)) (is_text_word bus.setup.image.text (t.addr + 4 * j)) (word_valid is_good j below is)).0))
