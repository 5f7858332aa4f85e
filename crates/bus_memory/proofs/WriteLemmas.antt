-- The words after a transfer, and the array after its writes.
use Rattle.std.proofs.Common.{◌≡◌, ◌≢◌, ℕ, ◌+◌, ◌%◌, ◌<◌, ◌≤◌, Bool, true, false, not, ◌&&◌, cond, nat_lt, List, [], ◌∷◌, length, Option, Some, None, refl, sym, ap, ap₂, ◌∙◌, subst, inl, inr, arith}
use Rattle.std.proofs.lemmas.Bool.{cases_eq, ne_eqb}
use Rattle.std.proofs.lemmas.Bool.Decides.{nat_tests}
use Rattle.std.proofs.lemmas.List.{get_or-set_same, get_or-set_other, length-set}
use Rattle.flip_ledger.specs.Follows.{has_struck}
use Rattle.lf_model.specs.Bus.Words.{Word, word_of, touches_word, write_of, with_write, write_by, words_after}
use Rattle.lf_model.specs.Caches.Slot.{history_at, befalls}
use Rattle.lf_model.specs.Course.Syndromes.{has_address}
use Rattle.lf_model.specs.Flips.{How, Moment}
use Rattle.lf_model.specs.Flips.How.{Whole}
use Rattle.lf_model.specs.Flips.Moment.{Written}
use Rattle.lf_model.specs.Start.{ram_first}
use Rattle.lf_model.specs.declared.bus.Transfer.{Transfer}
use Rattle.lf_model.specs.declared.bus.TurnKind.{TurnKind}
use Rattle.lf_model.specs.declared.bus.TurnKind.TheVariants.{Store}
use Rattle.bus_memory.specs.Followed.{address_of, IsUnstruck, IsShown, Follows}
use Rattle.bus_memory.proofs.FollowLemmas.{follows_map, follows_one}
use Rattle.bus_memory.proofs.PlaceLemmas.{address_back, address_of-place}
use Rattle.ram_words.specs.Ram.{place_of}

-- a write strikes nothing
pub unstruck_written : (how : Option How) (h : List Moment) → IsUnstruck h → IsUnstruck (with_write how h)
unstruck_written None h un = un
unstruck_written (Some how) h un = λ i. un i

-- the words with what a transfer writes
abbrev pub word_after : Transfer → Word → Word
word_after t word = record word { history = with_write (write_by t word) word.history }

-- how a transfer with an address writes a word, by whether it touches it
written_by : (t : Transfer) (w : Word) (touches : Bool) → has_address t ≡ true → touches_word t.addr t.len w.addr t.kind ≡ touches
    → write_by t w ≡ cond touches (write_of t.len w.history t.kind) None
written_by t w touches has is = ap₂ (λ (a b : Bool). cond (a && b) (write_of t.len w.history t.kind) None) has is

has : (t : Transfer) → ram_first ≤ t.addr → has_address t ≡ true
has t above = ap not (ne_eqb t.addr 0 (λ none. omega (arith, none, above)))

-- a transfer that touches one word
pub follows_written : (t : Transfer) (words : List Word) (hs : List (List Moment)) → ram_first ≤ t.addr → place_of t.addr < length hs
    → touches_word t.addr t.len (word_of t.addr) t.kind ≡ true
    → ((w : ℕ) → w % 4 ≡ 0 → w ≢ word_of t.addr → touches_word t.addr t.len w t.kind ≡ false)
    → Follows words hs → Follows (words_after t None words) (befalls (λ h. with_write (write_of t.len h t.kind) h) (place_of t.addr) hs)
follows_written t words hs above within here there follows =
    follows_one (word_after t) (λ h. with_write (write_of t.len h t.kind) h) (place_of t.addr) words hs within (λ w. refl)
    (λ w same.
    ap (λ (how : Option How). with_write how w.history)
    (written_by t w true (has t above) (ap (λ (a : ℕ). touches_word t.addr t.len a t.kind) (same ∙ address_of-place t.addr above) ∙ here)))
    (λ w aligned other.
    ap (λ (how : Option How). with_write how w.history)
    (written_by t w false (has t above) (there w.addr aligned (λ e. other (e ∙ sym (address_of-place t.addr above))))))
    (λ none un. unstruck_written (write_of t.len (history_at (place_of t.addr) hs) t.kind) (history_at (place_of t.addr) hs) un)
    follows

-- which words stores and atomics touch
pub touches_own : (addr len : ℕ) → 0 < len → nat_lt addr (word_of addr + 4) && nat_lt (word_of addr) (addr + len) ≡ true
touches_own addr len some = grind (arith, nat_tests)

pub touches_no_other : (addr len w : ℕ) → addr % 4 + len ≤ 4 → w % 4 ≡ 0 → w ≢ word_of addr → nat_lt addr (w + 4) && nat_lt w (addr + len) ≡ false
touches_no_other addr len w fits aligned other = grind (arith, nat_tests)

-- a transfer that writes nothing
pub unwritten : (t : Transfer) (words : List Word) → ((h : List Moment) → write_of t.len h t.kind ≡ None) → words_after t None words ≡ words
unwritten t [] none = refl
unwritten t (w ∷ ws) none = ap₂ (λ (v : Word) (vs : List Word). v ∷ vs) (same (has_address t && touches_word t.addr t.len w.addr t.kind)) (unwritten t ws none)
  where
    same : (b : Bool) → record w { history = with_write (cond b (write_of t.len w.history t.kind) None) w.history } ≡ w
    same true = ap (λ (how : Option How). record w { history = with_write how w.history }) (none w.history)
    same false = refl

-- a store of two words
abbrev pub written_whole : List Moment → List Moment
written_whole h = Written Whole ∷ h

module _ (hs : List (List Moment)) (p q : ℕ) (apart : p ≢ q) (first : p < length hs) (second : q < length hs) where
  at_first : history_at p (befalls written_whole q (befalls written_whole p hs)) ≡ written_whole (history_at p hs)
  at_first =
      get_or-set_other (befalls written_whole p hs) q p (written_whole (history_at q (befalls written_whole p hs))) [] apart
      ∙ get_or-set_same hs p (written_whole (history_at p hs)) [] first

  at_second : history_at q (befalls written_whole q (befalls written_whole p hs)) ≡ written_whole (history_at q hs)
  at_second =
      get_or-set_same (befalls written_whole p hs) q (written_whole (history_at q (befalls written_whole p hs))) []
      (rw (length-set hs p (written_whole (history_at p hs))) second)
      ∙ ap written_whole (get_or-set_other hs p q (written_whole (history_at p hs)) [] (λ e. apart (sym e)))

  at_other : (x : ℕ) → x ≢ p → x ≢ q → history_at x (befalls written_whole q (befalls written_whole p hs)) ≡ history_at x hs
  at_other x not_p not_q =
      get_or-set_other (befalls written_whole p hs) q x (written_whole (history_at q (befalls written_whole p hs))) [] not_q
      ∙ get_or-set_other hs p x (written_whole (history_at p hs)) [] not_p

  pub length_double : length (befalls written_whole q (befalls written_whole p hs)) ≡ length hs
  length_double =
      length-set (befalls written_whole p hs) q (written_whole (history_at q (befalls written_whole p hs)))
      ∙ length-set hs p (written_whole (history_at p hs))

  -- it strikes nothing
  pub struck_double : (i x : ℕ) → has_struck i (history_at x (befalls written_whole q (befalls written_whole p hs))) ≡ has_struck i (history_at x hs)
  struck_double i x = elim (cases_eq x p) [
    | inl is_p ↦
        ap (λ (y : ℕ). has_struck i (history_at y (befalls written_whole q (befalls written_whole p hs)))) is_p
        ∙ ap (has_struck i) at_first
        ∙ ap (λ (y : ℕ). has_struck i (history_at y hs)) (sym is_p)
    | inr not_p ↦ elim (cases_eq x q) [
      | inl is_q ↦
          ap (λ (y : ℕ). has_struck i (history_at y (befalls written_whole q (befalls written_whole p hs)))) is_q
          ∙ ap (has_struck i) at_second
          ∙ ap (λ (y : ℕ). has_struck i (history_at y hs)) (sym is_q)
      | inr not_q ↦ ap (has_struck i) (at_other x not_p not_q)
    ]
  ]

touches_first : (addr : ℕ) → nat_lt addr (addr + 4) && nat_lt addr (addr + 8) ≡ true
touches_first addr = grind (arith, nat_tests)

touches_second : (addr : ℕ) → nat_lt addr (addr + 4 + 4) && nat_lt (addr + 4) (addr + 8) ≡ true
touches_second addr = grind (arith, nat_tests)

touches_neither : (addr w : ℕ) → addr % 8 ≡ 0 → w % 4 ≡ 0 → w ≢ addr → w ≢ addr + 4 → nat_lt addr (w + 4) && nat_lt w (addr + 8) ≡ false
touches_neither addr w aligned whole not_first not_second = grind (arith, nat_tests)

place_next : (addr : ℕ) → ram_first ≤ addr → place_of addr ≢ place_of (addr + 4)
place_next addr above e = omega arith

place_later : (addr : ℕ) → ram_first ≤ addr → place_of addr ≤ place_of (addr + 4)
place_later addr above = omega arith

double_aligned : (addr : ℕ) → addr % 8 ≡ 0 → addr % 4 ≡ 0
double_aligned addr aligned = omega arith

next_aligned : (addr : ℕ) → addr % 8 ≡ 0 → (addr + 4) % 4 ≡ 0
next_aligned addr aligned = omega arith

pub follows_double : (t : Transfer) (words : List Word) (hs : List (List Moment)) → t.kind ≡ Store → t.len ≡ 8 → t.addr % 8 ≡ 0 → ram_first ≤ t.addr → place_of (t.addr + 4) < length hs
    → Follows words hs
    → Follows (words_after t None words) (befalls written_whole (place_of (t.addr + 4)) (befalls written_whole (place_of t.addr) hs))
follows_double t words hs store double aligned above within follows =
    follows_map (word_after t) words hs (befalls written_whole (place_of (t.addr + 4)) (befalls written_whole (place_of t.addr) hs))
    (length_double hs (place_of t.addr) (place_of (t.addr + 4)) (place_next t.addr above) before within)
    (λ w. refl) shows
    (λ p lt none un. λ i. struck_double hs (place_of t.addr) (place_of (t.addr + 4)) (place_next t.addr above) before within i p ∙ un i) follows
  where
    before : place_of t.addr < length hs
    before = omega (arith, within, place_later t.addr above)

    whole : (w : Word) (touches : Bool) → nat_lt t.addr (w.addr + 4) && nat_lt w.addr (t.addr + 8) ≡ touches → write_by t w ≡ cond touches (Some Whole) None
    whole w touches is =
        ap₂ (λ (len : ℕ) (kind : TurnKind). cond (has_address t && touches_word t.addr len w.addr kind) (write_of len w.history kind) None) double store
        ∙ ap₂ (λ (a b : Bool). cond (a && b) (Some Whole) None) (has t above) is

    at_word : (w : Word) (a : ℕ) (h : List Moment) → w.addr ≡ a → nat_lt t.addr (a + 4) && nat_lt a (t.addr + 8) ≡ true → h ≡ written_whole w.history → h ≡ (word_after t w).history
    at_word w a h same touches is =
        is ∙ sym (ap (λ (how : Option How). with_write how w.history) (whole w true (ap (λ (b : ℕ). nat_lt t.addr (b + 4) && nat_lt b (t.addr + 8)) same ∙ touches)))

    shows : (w : Word) → IsShown hs w → history_at (place_of w.addr) (befalls written_whole (place_of (t.addr + 4)) (befalls written_whole (place_of t.addr) hs)) ≡ (word_after t w).history
    shows w is = elim (cases_eq w.addr t.addr) [
      | inl first ↦
          at_word w t.addr (history_at (place_of w.addr) (befalls written_whole (place_of (t.addr + 4)) (befalls written_whole (place_of t.addr) hs))) first (touches_first t.addr)
          (ap (λ (a : ℕ). history_at (place_of a) (befalls written_whole (place_of (t.addr + 4)) (befalls written_whole (place_of t.addr) hs))) first
          ∙ at_first hs (place_of t.addr) (place_of (t.addr + 4)) (place_next t.addr above) before within
          ∙ ap (λ (a : ℕ). written_whole (history_at (place_of a) hs)) (sym first)
          ∙ ap written_whole is.history)
      | inr not_first ↦ elim (cases_eq w.addr (t.addr + 4)) [
        | inl second ↦
            at_word w (t.addr + 4) (history_at (place_of w.addr) (befalls written_whole (place_of (t.addr + 4)) (befalls written_whole (place_of t.addr) hs))) second (touches_second t.addr)
            (ap (λ (a : ℕ). history_at (place_of a) (befalls written_whole (place_of (t.addr + 4)) (befalls written_whole (place_of t.addr) hs))) second
            ∙ at_second hs (place_of t.addr) (place_of (t.addr + 4)) (place_next t.addr above) before within
            ∙ ap (λ (a : ℕ). written_whole (history_at (place_of a) hs)) (sym second)
            ∙ ap written_whole is.history)
        | inr not_second ↦
            at_other hs (place_of t.addr) (place_of (t.addr + 4)) (place_next t.addr above) before within (place_of w.addr)
            (λ e. not_first (sym (address_back w.addr is.aligned is.above) ∙ ap address_of e ∙ address_back t.addr (double_aligned t.addr aligned) above))
            (λ e. not_second (sym (address_back w.addr is.aligned is.above) ∙ ap address_of e ∙ address_back (t.addr + 4) (next_aligned t.addr aligned) (omega (arith, above))))
            ∙ is.history
            ∙ sym (ap (λ (how : Option How). with_write how w.history) (whole w false (touches_neither t.addr w.addr aligned is.aligned not_first not_second)))
      ]
    ]

-- ---- what a transfer does to the array

-- the array is written as the definitions' words are, and no flip strikes
pub record Writes (t : Transfer) (hs hs' : List (List Moment)) : Type 0 where
  pub long : length hs' ≡ length hs
  pub follows : (words : List Word) → Follows words hs → Follows (words_after t None words) hs'
  pub struck : (i place : ℕ) → has_struck i (history_at place hs') ≡ has_struck i (history_at place hs)

pub writes_nothing : (t : Transfer) (hs : List (List Moment)) → ((h : List Moment) → write_of t.len h t.kind ≡ None) → Writes t hs hs
writes_nothing t hs none = record {
  long = refl;
  follows = λ words follows. subst (λ (ws : List Word). Follows ws hs) (sym (unwritten t words none)) follows;
  struck = λ i place. refl;
}

struck_write : (how : Option How) (i : ℕ) (h : List Moment) → has_struck i (with_write how h) ≡ has_struck i h
struck_write None i h = refl
struck_write (Some how) i h = refl

pub writes_word : (t : Transfer) (hs : List (List Moment)) → ram_first ≤ t.addr → place_of t.addr < length hs
    → touches_word t.addr t.len (word_of t.addr) t.kind ≡ true
    → ((w : ℕ) → w % 4 ≡ 0 → w ≢ word_of t.addr → touches_word t.addr t.len w t.kind ≡ false)
    → Writes t hs (befalls (λ h. with_write (write_of t.len h t.kind) h) (place_of t.addr) hs)
writes_word t hs above within here there = record {
  long = length-set hs (place_of t.addr) (with_write (write_of t.len (history_at (place_of t.addr) hs) t.kind) (history_at (place_of t.addr) hs));
  follows = λ words follows. follows_written t words hs above within here there follows;
  struck = struck;
}
  where
    struck : (i place : ℕ) → has_struck i (history_at place (befalls (λ h. with_write (write_of t.len h t.kind) h) (place_of t.addr) hs)) ≡ has_struck i (history_at place hs)
    struck i place = elim (cases_eq place (place_of t.addr)) [
      | inl same ↦
          ap (λ (p : ℕ). has_struck i (history_at p (befalls (λ h. with_write (write_of t.len h t.kind) h) (place_of t.addr) hs))) same
          ∙ ap (has_struck i) (get_or-set_same hs (place_of t.addr) (with_write (write_of t.len (history_at (place_of t.addr) hs) t.kind) (history_at (place_of t.addr) hs)) [] within)
          ∙ struck_write (write_of t.len (history_at (place_of t.addr) hs) t.kind) i (history_at (place_of t.addr) hs)
          ∙ ap (λ (p : ℕ). has_struck i (history_at p hs)) (sym same)
      | inr other ↦ ap (has_struck i) (get_or-set_other hs (place_of t.addr) place (with_write (write_of t.len (history_at (place_of t.addr) hs) t.kind) (history_at (place_of t.addr) hs)) [] other)
    ]

pub writes_double : (t : Transfer) (hs : List (List Moment)) → t.kind ≡ Store → t.len ≡ 8 → t.addr % 8 ≡ 0 → ram_first ≤ t.addr → place_of (t.addr + 4) < length hs
    → Writes t hs (befalls written_whole (place_of (t.addr + 4)) (befalls written_whole (place_of t.addr) hs))
writes_double t hs store double aligned above within = record {
  long = length_double hs (place_of t.addr) (place_of (t.addr + 4)) (place_next t.addr above) (omega (arith, within, place_later t.addr above)) within;
  follows = λ words follows. follows_double t words hs store double aligned above within follows;
  struck = struck_double hs (place_of t.addr) (place_of (t.addr + 4)) (place_next t.addr above) (omega (arith, within, place_later t.addr above)) within;
}
