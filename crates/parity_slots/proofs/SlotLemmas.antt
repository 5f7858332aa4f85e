-- A ledger follows the units of a slot as an event befalls its tag, or bytes of its line.
use Rattle.std.proofs.Common.{◌≡◌, ◌≢◌, inl, inr, ◌==◌, ◌&&◌, ℕ, zero, suc, ◌+◌, ◌-◌, ◌*◌, ◌/◌, ◌%◌, ◌^◌, ◌<◌, ◌≤◌, Bool, true, false, ◌||◌, List, [], ◌∷◌, length, map, take, drop, slice_index, refl, sym, ap, ap₂, ◌∙◌, subst, arith, lit<}
use Rattle.std.specs.List.{list_any, range_with_len}
use Rattle.std.proofs.lemmas.List.{length-drop, length-take-le, get_or-take, get_or-drop}
use Rattle.flip_ledger.specs.Follows.{Follows}
use Rattle.flip_ledger.specs.Ledger.{Ledger}
use Rattle.lf_model.specs.Caches.Slot.{history_at, befalls_each, has_struck_tag, valid_bits}
use Rattle.lf_model.specs.Flips.{Moment, byte_budget, is_struck_byte}
use Rattle.parity_slots.specs.Inside.{IsSlotOf}
use Rattle.parity_slots.specs.ParityWords.{byte_in, no_word, word_at, byte_among, bytes_in, AreWordUnits}
use Rattle.parity_slots.specs.SlotState.{SlotState, has_struck_in}
use Rattle.parity_slots.specs.declared.parity_word.ParityWord.{ParityWord}
use Rattle.parity_slots.proofs.WordLemmas.{byte_of_words, byte_of_word, byte_at_word}
use Rattle.lf_model.specs.Operation.{byte_of}
use Rattle.std.specs.Int.{bit_at}
use Rattle.std.proofs.lemmas.Bool.{cases_eq, eq-eqb, ne_eqb}
use Rattle.std.proofs.lemmas.Nat.{mod_low}
use Rattle.std.proofs.lemmas.Nat.Bits.{bit_at_cat_low}
use Rattle.parity_slots.specs.Units.{with_units, unit_of}
use Rattle.parity_slots.proofs.UnitLemmas.{unit_tag, unit_line, with_tag, with_line, over_tag, over_line, over_whole_line}
use Rattle.parity_units.specs.Events.{byte_at, befallen, over}
use Rattle.parity_units.specs.Bytes.{is_bad}
use Rattle.parity_units.proofs.ByteLemmas.{byte_reads, bad_struck}
use Rattle.parity_units.specs.declared.byte.ParityByte.{ParityByte}
use Rattle.parity_units.specs.declared.events.Event.{Event}

-- the same of another first unit and another count
along : (first first' count count' : ℕ) (f : List Moment → List Moment) (h : ℕ → List Moment) (l : Ledger) → first ≡ first' → count ≡ count'
    → Follows byte_budget (over first count f h) l → Follows byte_budget (over first' count' f h) l
along first first' count count' f h l at is follows = rw (← at, ← is) follows

-- a run of words of a line
pub run_length : (line : List ParityWord) (place count : ℕ) → length line ≡ 8 → place + count ≤ 8 → length (take (place + count - place) (drop place line)) ≡ count
run_length line place count len fits =
    let rest : length (drop place line) ≡ length line - place = length-drop place line in
    let is : place + count - place ≡ count = omega arith in
    rw is (length-take-le count (drop place line) (omega (arith, rest, len, fits)))

run_words : (line : List ParityWord) (place count i : ℕ) → i < count → word_at (take (place + count - place) (drop place line)) i ≡ word_at line (place + i)
run_words line place count i lt = get_or-take (place + count - place) (drop place line) i no_word (omega arith) ∙ get_or-drop place line i no_word

module _ (s : SlotState) (tag : ParityWord) (line : List ParityWord) (used : ℕ) (is : IsSlotOf s tag line used) (first : ℕ) (h : ℕ → List Moment) where
  pub tag_units : AreWordUnits first (tag ∷ []) (with_units first s.slot h)
  tag_units i lt =
      ap (λ (b : ParityByte). b.struck) (sym (byte_of_words 4 (tag ∷ []) i lt))
      ∙ (is.tag_bytes.each i lt).struck
      ∙ ap is_struck_byte (sym (with_tag first s.slot h i lt))

  -- a byte of the line
  pub line_unit : (place : ℕ) → place < 32 → (byte_among line place).struck ≡ is_struck_byte (with_units first s.slot h (first + 4 + place))
  line_unit place lt =
      let unit : first + 4 + place ≡ first + (place + 4) = omega arith in
      ap (λ (b : ParityByte). b.struck) (sym (byte_of_words 32 line place lt))
      ∙ (is.line_bytes.each place lt).struck
      ∙ ap is_struck_byte (sym (ap (with_units first s.slot h) unit ∙ with_line first s.slot h place lt))

  pub line_units : AreWordUnits (first + 4) line (with_units first s.slot h)
  line_units i lt = line_unit i (omega (arith, lt, is.line_length))

  -- some words of it
  pub run_units : (place count : ℕ) → place + count ≤ 8 → AreWordUnits (first + 4 + 4 * place) (take (place + count - place) (drop place line)) (with_units first s.slot h)
  run_units place count fits i lt =
      let len : length (take (place + count - place) (drop place line)) ≡ count = run_length line place count is.line_length fits in
      let word : i / 4 < count = omega (arith, lt, len) in
      let here : 4 * place + i < 32 = omega (arith, word, fits) in
      let quotient : (4 * place + i) / 4 ≡ place + i / 4 = omega arith in
      let rest : (4 * place + i) % 4 ≡ i % 4 = omega arith in
      let unit : first + 4 + (4 * place + i) ≡ first + 4 + 4 * place + i = omega arith in
      ap (λ (w : ParityWord). (byte_in w (i % 4)).struck) (run_words line place count (i / 4) word)
      ∙ ap₂ (λ (w k : ℕ). (byte_in (word_at line w) k).struck) (sym quotient) (sym rest)
      ∙ line_unit (4 * place + i) here
      ∙ ap (λ (u : ℕ). is_struck_byte (with_units first s.slot h u)) unit

  tag_count : length s.slot.tag_histories ≡ 4
  tag_count = is.tag_bytes.all_histories

  line_count : length s.slot.line_histories ≡ 32
  line_count = is.line_bytes.all_histories

  module _ (event : Event) (l : Ledger) where
    pub follows_tag : Follows byte_budget (over first 4 (befallen event) (with_units first s.slot h)) l
        → Follows byte_budget (with_units first (record s.slot { tag_histories = map (befallen event) s.slot.tag_histories }) h) l
    follows_tag follows = subst (λ (g : ℕ → List Moment). Follows byte_budget g l) (over_tag first s.slot h (befallen event) tag_count) follows

    pub follows_line : Follows byte_budget (over (first + 4) (4 * length line) (befallen event) (with_units first s.slot h)) l
        → Follows byte_budget (with_units first (record s.slot { line_histories = map (befallen event) s.slot.line_histories }) h) l
    follows_line follows =
        let all : 4 * length line ≡ 32 = omega (arith, is.line_length) in
        subst (λ (g : ℕ → List Moment). Follows byte_budget g l) (over_whole_line first s.slot h (befallen event) line_count)
        (along (first + 4) (first + 4) (4 * length line) 32 (befallen event) (with_units first s.slot h) l refl all follows)

    pub follows_run : (place count : ℕ) → place + count ≤ 32 → Follows byte_budget (over (first + 4 + place) count (befallen event) (with_units first s.slot h)) l
        → Follows byte_budget (with_units first (record s.slot { line_histories = befalls_each (befallen event) (range_with_len place count) s.slot.line_histories }) h) l
    follows_run place count fits follows = subst (λ (g : ℕ → List Moment). Follows byte_budget g l) (over_line first place count s.slot h (befallen event) line_count fits) follows

-- ---- whether a tag byte is struck

any_four : (p : List Moment → Bool) (hs : List (List Moment)) → length hs ≡ 4
    → list_any p hs ≡ (p (history_at 0 hs) || (p (history_at 1 hs) || (p (history_at 2 hs) || p (history_at 3 hs))))
any_four p [] len = absurd (omega arith)
any_four p (a ∷ []) len = absurd (omega arith)
any_four p (a ∷ b ∷ []) len = absurd (omega arith)
any_four p (a ∷ b ∷ c ∷ []) len = absurd (omega arith)
any_four p (a ∷ b ∷ c ∷ d ∷ []) len = ap (λ (t : Bool). p a || (p b || (p c || t))) (or_false (p d))
  where
    or_false : (b : Bool) → (b || false) ≡ b
    or_false true = refl
    or_false false = refl
any_four p (a ∷ b ∷ c ∷ d ∷ e ∷ hs) len = absurd (omega arith)

pub struck_tag : (s : SlotState) (tag : ParityWord) (line : List ParityWord) (used : ℕ) → IsSlotOf s tag line used
    → has_struck_tag s.slot ≡ (is_bad (byte_in tag 0) || (is_bad (byte_in tag 1) || (is_bad (byte_in tag 2) || is_bad (byte_in tag 3))))
struck_tag s tag line used is =
    let at : (i : ℕ) → i < 4 → is_struck_byte (history_at i s.slot.tag_histories) ≡ is_bad (byte_at (bytes_in 4 (tag ∷ [])) i) =
    λ i lt. sym (bad_struck (slice_index s.slot.tag i) (history_at i s.slot.tag_histories) (byte_at (bytes_in 4 (tag ∷ [])) i) (is.tag_bytes.each i lt)) in
    any_four is_struck_byte s.slot.tag_histories is.tag_bytes.all_histories
    ∙ ap (λ (b : Bool). b || (is_struck_byte (history_at 1 s.slot.tag_histories) || (is_struck_byte (history_at 2 s.slot.tag_histories) || is_struck_byte (history_at 3 s.slot.tag_histories)))) (at 0 (lit< tt))
    ∙ ap (λ (b : Bool). is_bad (byte_in tag 0) || (b || (is_struck_byte (history_at 2 s.slot.tag_histories) || is_struck_byte (history_at 3 s.slot.tag_histories)))) (at 1 (lit< tt))
    ∙ ap (λ (b : Bool). is_bad (byte_in tag 0) || (is_bad (byte_in tag 1) || (b || is_struck_byte (history_at 3 s.slot.tag_histories)))) (at 2 (lit< tt))
    ∙ ap (λ (b : Bool). is_bad (byte_in tag 0) || (is_bad (byte_in tag 1) || (is_bad (byte_in tag 2) || b))) (at 3 (lit< tt))

-- none is where the tag is not
pub unstruck_tag : (hs : List (List Moment)) (i : ℕ) → list_any is_struck_byte hs ≡ false → is_struck_byte (history_at i hs) ≡ false
unstruck_tag [] i none = refl
unstruck_tag (h ∷ hs) zero none = left (is_struck_byte h) (list_any is_struck_byte hs) none
  where
    left : (a b : Bool) → (a || b) ≡ false → a ≡ false
    left true b e = e
    left false b e = refl
unstruck_tag (h ∷ hs) (suc i) none = unstruck_tag hs i (right (is_struck_byte h) (list_any is_struck_byte hs) none)
  where
    right : (a b : Bool) → (a || b) ≡ false → b ≡ false
    right true true e = e
    right true false e = refl
    right false b e = e

pub tag_reads : (s : SlotState) (tag : ParityWord) (line : List ParityWord) (used : ℕ) → IsSlotOf s tag line used → has_struck_tag s.slot ≡ false
    → (i : ℕ) → i < 4 → byte_of tag.bits 4 i ≡ slice_index s.slot.tag i
tag_reads s tag line used is none i lt =
    sym (mod_low (bit_at tag.parity i) 8 (byte_of tag.bits 4 i) (omega arith))
    ∙ ap (λ (b : ParityByte). b.bits % 2 ^ 8) (sym (byte_of_words 4 (tag ∷ []) i lt ∙ byte_of_word tag i lt))
    ∙ byte_reads (slice_index s.slot.tag i) (history_at i s.slot.tag_histories) (byte_at (bytes_in 4 (tag ∷ [])) i) (is.tag_bytes.each i lt) (unstruck_tag s.slot.tag_histories i none)

-- its valid bits
pub valid_is : (s : SlotState) (tag : ParityWord) (line : List ParityWord) (used : ℕ) → IsSlotOf s tag line used → has_struck_tag s.slot ≡ false → tag.bits % 256 ≡ valid_bits s.slot
valid_is s tag line used is none = omega (arith, tag_reads s tag line used is none 3 (lit< tt))

pub valid_bit : (s : SlotState) (tag : ParityWord) (line : List ParityWord) (used : ℕ) → IsSlotOf s tag line used → has_struck_tag s.slot ≡ false
    → (j : ℕ) → j < 8 → bit_at tag.bits j ≡ bit_at (valid_bits s.slot) j
valid_bit s tag line used is none j lt =
    let split : tag.bits ≡ tag.bits / 256 * 2 ^ 8 + tag.bits % 256 = omega arith in
    ap (λ (n : ℕ). bit_at n j) split
    ∙ bit_at_cat_low (tag.bits / 256) 8 (tag.bits % 256) j lt
    ∙ ap (λ (n : ℕ). bit_at n j) (valid_is s tag line used is none)

-- the line that it holds
same_line : (w a : ℕ) → w < 2 ^ 32 → a < 2 ^ 32
    → (w / 256 == a / 256) ≡ (byte_of w 4 0 == a / 2 ^ 24 % 256 && byte_of w 4 1 == a / 2 ^ 16 % 256 && byte_of w 4 2 == a / 2 ^ 8 % 256)
same_line w a fits small = elim (cases_eq (w / 256) (a / 256)) [
  | inl same ↦
      eq-eqb (w / 256) (a / 256) same
      ∙ sym (all (byte_of w 4 0 == a / 2 ^ 24 % 256) (byte_of w 4 1 == a / 2 ^ 16 % 256) (byte_of w 4 2 == a / 2 ^ 8 % 256)
      (eq-eqb (byte_of w 4 0) (a / 2 ^ 24 % 256) (omega (arith, same))) (eq-eqb (byte_of w 4 1) (a / 2 ^ 16 % 256) (omega (arith, same))) (eq-eqb (byte_of w 4 2) (a / 2 ^ 8 % 256) (omega (arith, same))))
  | inr differs ↦
      ne_eqb (w / 256) (a / 256) differs
      ∙ sym (elim (cases_eq (byte_of w 4 0) (a / 2 ^ 24 % 256)) [
        | inr other ↦ ap (λ (b : Bool). b && byte_of w 4 1 == a / 2 ^ 16 % 256 && byte_of w 4 2 == a / 2 ^ 8 % 256) (ne_eqb (byte_of w 4 0) (a / 2 ^ 24 % 256) other)
        | inl first ↦ elim (cases_eq (byte_of w 4 1) (a / 2 ^ 16 % 256)) [
          | inr other ↦ second_no (byte_of w 4 0 == a / 2 ^ 24 % 256) (byte_of w 4 1 == a / 2 ^ 16 % 256) (byte_of w 4 2 == a / 2 ^ 8 % 256) (ne_eqb (byte_of w 4 1) (a / 2 ^ 16 % 256) other)
          | inl second ↦
              let third : byte_of w 4 2 ≢ a / 2 ^ 8 % 256 = λ e. differs (omega (arith, first, second, e, fits, small)) in
              third_no (byte_of w 4 0 == a / 2 ^ 24 % 256) (byte_of w 4 1 == a / 2 ^ 16 % 256) (byte_of w 4 2 == a / 2 ^ 8 % 256) (ne_eqb (byte_of w 4 2) (a / 2 ^ 8 % 256) third)
        ]
      ])
]
  where
    all : (a b c : Bool) → a ≡ true → b ≡ true → c ≡ true → (a && b && c) ≡ true
    all a b c ae be ce = rw (ae, be, ce) refl

    second_no : (a b c : Bool) → b ≡ false → (a && b && c) ≡ false
    second_no true b c be = ap (λ (x : Bool). x && c) be
    second_no false b c be = refl

    third_no : (a b c : Bool) → c ≡ false → (a && b && c) ≡ false
    third_no true true c ce = ce
    third_no true false c ce = refl
    third_no false b c ce = refl

pub line_is : (s : SlotState) (tag : ParityWord) (line : List ParityWord) (used : ℕ) → IsSlotOf s tag line used → has_struck_tag s.slot ≡ false → (addr : ℕ) → addr < 2 ^ 32 → tag.bits < 2 ^ 32
    → (tag.bits / 256 == addr / 256) ≡ (slice_index s.slot.tag 0 == addr / 2 ^ 24 % 256 && slice_index s.slot.tag 1 == addr / 2 ^ 16 % 256 && slice_index s.slot.tag 2 == addr / 2 ^ 8 % 256)
line_is s tag line used is none addr small fits =
    rw (← tag_reads s tag line used is none 0 (lit< tt), ← tag_reads s tag line used is none 1 (lit< tt), ← tag_reads s tag line used is none 2 (lit< tt)) (same_line tag.bits addr fits small)

-- ---- the marks of its units

pub tag_mark : (s : SlotState) (tag : ParityWord) (line : List ParityWord) (used : ℕ) → IsSlotOf s tag line used → (place : ℕ) → place < 4
    → (byte_in tag place).struck ≡ is_struck_byte (unit_of s.slot place)
tag_mark s tag line used is place lt =
    ap (λ (b : ParityByte). b.struck) (sym (byte_of_words 4 (tag ∷ []) place lt ∙ byte_of_word tag place lt))
    ∙ (is.tag_bytes.each place lt).struck
    ∙ ap is_struck_byte (sym (unit_tag s.slot place lt))

pub line_mark : (s : SlotState) (tag : ParityWord) (line : List ParityWord) (used : ℕ) → IsSlotOf s tag line used → (place : ℕ) → place < 32
    → (byte_among line place).struck ≡ is_struck_byte (unit_of s.slot (place + 4))
line_mark s tag line used is place lt =
    ap (λ (b : ParityByte). b.struck) (sym (byte_of_words 32 line place lt))
    ∙ (is.line_bytes.each place lt).struck
    ∙ ap is_struck_byte (sym (unit_line s.slot place))

-- ---- the bytes of its line

-- one that is not struck reads as it was last written
pub line_reads : (s : SlotState) (tag : ParityWord) (line : List ParityWord) (used : ℕ) → IsSlotOf s tag line used
    → (i : ℕ) → i < 32 → is_struck_byte (history_at i s.slot.line_histories) ≡ false → byte_of (word_at line (i / 4)).bits 4 (i % 4) ≡ slice_index s.bytes i
line_reads s tag line used is i lt unstruck =
    sym (mod_low (bit_at (word_at line (i / 4)).parity (i % 4)) 8 (byte_of (word_at line (i / 4)).bits 4 (i % 4)) (omega arith))
    ∙ ap (λ (b : ParityByte). b.bits % 2 ^ 8) (sym (byte_of_words 32 line i lt))
    ∙ byte_reads (slice_index s.bytes i) (history_at i s.slot.line_histories) (byte_at (bytes_in 32 line) i) (is.line_bytes.each i lt) unstruck

-- parity shows which are struck
pub line_shows : (s : SlotState) (tag : ParityWord) (line : List ParityWord) (used : ℕ) → IsSlotOf s tag line used
    → (w k : ℕ) → w < 8 → k < 4 → is_struck_byte (history_at (4 * w + k) s.slot.line_histories) ≡ is_bad (byte_in (word_at line w) k)
line_shows s tag line used is w k lt few =
    let i : ℕ = 4 * w + k in
    let within : 4 * w + k < 32 = omega (arith, lt, few) in
    sym (bad_struck (slice_index s.bytes (4 * w + k)) (history_at (4 * w + k) s.slot.line_histories) (byte_at (bytes_in 32 line) (4 * w + k)) (is.line_bytes.each (4 * w + k) within))
    ∙ ap is_bad (byte_of_words 32 line (4 * w + k) within ∙ byte_at_word line w k few)

-- a word has a struck byte where the parity of one of its bytes is wrong
pub word_shows : (s : SlotState) (tag : ParityWord) (line : List ParityWord) (used : ℕ) → IsSlotOf s tag line used → (w : ℕ) → w < 8
    → has_struck_in (4 * w) 4 s.slot ≡ (is_bad (byte_in (word_at line w) 0) || (is_bad (byte_in (word_at line w) 1) || (is_bad (byte_in (word_at line w) 2) || is_bad (byte_in (word_at line w) 3))))
word_shows s tag line used is w lt =
    let at : (i k : ℕ) → k < 4 → i ≡ 4 * w + k → is_struck_byte (history_at i s.slot.line_histories) ≡ is_bad (byte_in (word_at line w) k) =
    λ i k few e. ap (λ (j : ℕ). is_struck_byte (history_at j s.slot.line_histories)) e ∙ line_shows s tag line used is w k lt few in
    four_tests (is_struck_byte (history_at (4 * w) s.slot.line_histories)) (is_struck_byte (history_at (4 * w + 1) s.slot.line_histories))
    (is_struck_byte (history_at (4 * w + 1 + 1) s.slot.line_histories)) (is_struck_byte (history_at (4 * w + 1 + 1 + 1) s.slot.line_histories))
    (is_bad (byte_in (word_at line w) 0)) (is_bad (byte_in (word_at line w) 1)) (is_bad (byte_in (word_at line w) 2)) (is_bad (byte_in (word_at line w) 3))
    (at (4 * w) 0 (lit< tt) (omega arith)) (at (4 * w + 1) 1 (lit< tt) (omega arith)) (at (4 * w + 1 + 1) 2 (lit< tt) (omega arith)) (at (4 * w + 1 + 1 + 1) 3 (lit< tt) (omega arith))
  where
    or_false : (b : Bool) → (b || false) ≡ b
    or_false true = refl
    or_false false = refl

    four_tests : (a b c d a' b' c' d' : Bool) → a ≡ a' → b ≡ b' → c ≡ c' → d ≡ d' → (a || (b || (c || (d || false)))) ≡ (a' || (b' || (c' || d')))
    four_tests a b c d a' b' c' d' ae be ce de = rw (ae, be, ce, de, or_false d') refl
