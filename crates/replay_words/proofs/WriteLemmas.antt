-- The words after writes of a transfer, one word after the other, and after a name.
use Rattle.std.proofs.Common.{◌≡◌, ◌≢◌, ℕ, ◌+◌, ◌*◌, ◌%◌, ◌<◌, Bool, true, false, ◌&&◌, cond, List, [], ◌∷◌, length, map, slice_set, Option, Some, None, refl, sym, ap, ap₂, ◌∙◌, inl, inr, arith}
use Rattle.std.specs.List.{AllByRecursion}
use Rattle.std.proofs.lemmas.Bool.{cases_eq, eq-eqb, ne_eqb, lt-ltb}
use Rattle.std.proofs.lemmas.Bool.Decides.{nat_tests}
use Rattle.std.proofs.lemmas.List.{get_or-set_same, get_or-set_other, length-set, set-get_or}
use Rattle.flip_ledger.specs.Follows.{has_struck}
use Rattle.lf_model.specs.Bus.Words.{Word, touches_word, write_of, with_write, words_after}
use Rattle.lf_model.specs.Caches.Slot.{history_at, befalls}
use Rattle.lf_model.specs.Course.Syndromes.{has_address}
use Rattle.lf_model.specs.Flips.{How, Moment, is_bad_word, is_fixed_word}
use Rattle.lf_model.specs.Flips.How.{Whole, ByPartStore, ByAtomic, ByFix}
use Rattle.lf_model.specs.Flips.Moment.{Named}
use Rattle.lf_model.specs.declared.bus.Transfer.{Transfer}
use Rattle.lf_model.specs.declared.bus.TurnKind.{TurnKind}
use Rattle.lf_model.specs.declared.bus.TurnKind.TheVariants.{Store, Atomic, Fix}
use Rattle.replay_units.specs.Units.{Units, befallen}
use Rattle.replay_words.specs.Places.{place_in, words_of, AreDistinct, IsAligned}
use Rattle.replay_words.specs.Touching.{is_in_span}
use Rattle.replay_words.specs.Writing.{written_at, named_at, after_writes, AreWordUnits, KeepsStruck}
use Rattle.replay_words.specs.declared.touched.Span.{Span}
use Rattle.replay_words.proofs.PlaceLemmas.{befalls_at, one_word}

-- ---- one word

module _ (t : Transfer) (addr : ℕ) (addrs : List ℕ) (hs : List (List Moment)) (distinct : AreDistinct addrs) (long : length hs ≡ length addrs) where
  abbrev touch : List Moment → List Moment
  touch h = with_write (write_of t.len h t.kind) h

  touched_words : map (written_at t addr) (words_of addrs hs) ≡ words_of addrs (befalls_at touch (place_in addrs addr) hs)
  touched_words = one_word addr touch (written_at t addr) (λ w. refl) addrs hs distinct long

  -- it is written so, or not at all
  pub write_some : (place : ℕ) (how : How) → place_in addrs addr ≡ Some place → Some how ≡ write_of t.len (history_at place hs) t.kind
      → words_of addrs (slice_set hs place (with_write (Some how) (history_at place hs))) ≡ map (written_at t addr) (words_of addrs hs)
  write_some place how is way =
      ap (λ (w : Option How). words_of addrs (slice_set hs place (with_write w (history_at place hs)))) way
      ∙ ap (λ (p : Option ℕ). words_of addrs (befalls_at touch p hs)) (sym is)
      ∙ sym touched_words

  pub write_none : (place : ℕ) → place_in addrs addr ≡ Some place → None ≡ write_of t.len (history_at place hs) t.kind
      → words_of addrs hs ≡ map (written_at t addr) (words_of addrs hs)
  write_none place is way =
      ap (words_of addrs) (sym (set-get_or hs place []))
      ∙ ap (λ (w : Option How). words_of addrs (slice_set hs place (with_write w (history_at place hs)))) way
      ∙ ap (λ (p : Option ℕ). words_of addrs (befalls_at touch p hs)) (sym is)
      ∙ sym touched_words

  pub write_nowhere : place_in addrs addr ≡ None → words_of addrs hs ≡ map (written_at t addr) (words_of addrs hs)
  write_nowhere is = ap (λ (p : Option ℕ). words_of addrs (befalls_at touch p hs)) (sym is) ∙ sym touched_words

module _ (addr : ℕ) (addrs : List ℕ) (hs : List (List Moment)) (distinct : AreDistinct addrs) (long : length hs ≡ length addrs) where
  named_words : map (named_at addr) (words_of addrs hs) ≡ words_of addrs (befalls_at (λ h. Named ∷ h) (place_in addrs addr) hs)
  named_words = one_word addr (λ h. Named ∷ h) (named_at addr) (λ w. refl) addrs hs distinct long

  pub name_some : (place : ℕ) → place_in addrs addr ≡ Some place → words_of addrs (slice_set hs place (Named ∷ history_at place hs)) ≡ map (named_at addr) (words_of addrs hs)
  name_some place is = ap (λ (p : Option ℕ). words_of addrs (befalls_at (λ h. Named ∷ h) p hs)) (sym is) ∙ sym named_words

  pub name_nowhere : place_in addrs addr ≡ None → words_of addrs hs ≡ map (named_at addr) (words_of addrs hs)
  name_nowhere is = ap (λ (p : Option ℕ). words_of addrs (befalls_at (λ h. Named ∷ h) p hs)) (sym is) ∙ sym named_words

-- ---- no flip strikes

pub keeps_same : (units : Units) → KeepsStruck units units
keeps_same units = record { budget = refl; flips = refl; long = refl; struck = λ i unit. refl }

pub keeps_then : (a b c : Units) → KeepsStruck a b → KeepsStruck b c → KeepsStruck a c
keeps_then a b c first next = record {
  budget = next.budget ∙ first.budget;
  flips = next.flips ∙ first.flips;
  long = next.long ∙ first.long;
  struck = λ i unit. next.struck i unit ∙ first.struck i unit;
}

pub keeps_befallen : (happen : List Moment → List Moment) (place : ℕ) (units : Units) → ((i : ℕ) (h : List Moment) → has_struck i (happen h) ≡ has_struck i h) → place < length units.histories
    → KeepsStruck units (befallen happen place units)
keeps_befallen happen place units quiet within = record {
  budget = refl;
  flips = refl;
  long = length-set units.histories place (happen (history_at place units.histories));
  struck = λ i unit. elim (cases_eq unit place) [
    | inl same ↦
        ap (λ (u : ℕ). has_struck i (history_at u (befalls happen place units.histories))) same
        ∙ ap (has_struck i) (get_or-set_same units.histories place (happen (history_at place units.histories)) [] within)
        ∙ quiet i (history_at place units.histories)
        ∙ ap (λ (u : ℕ). has_struck i (history_at u units.histories)) (sym same)
    | inr other ↦ ap (has_struck i) (get_or-set_other units.histories place unit (happen (history_at place units.histories)) [] other)
  ];
}

pub units_kept : (addrs : List ℕ) (old new : Units) → KeepsStruck old new → AreWordUnits addrs old → AreWordUnits addrs new
units_kept addrs old new keeps are = record { budget = keeps.budget ∙ are.budget; long = keeps.long ∙ are.long }

-- ---- the words of a span, one after the other

-- words at addresses that are multiples of 4
pub map_aligned : (f g : Word → Word) → ((w : Word) → w.addr % 4 ≡ 0 → f w ≡ g w) → (addrs : List ℕ) (hs : List (List Moment)) → AllByRecursion IsAligned addrs → map f (words_of addrs hs) ≡ map g (words_of addrs hs)
map_aligned f g same [] hs all = refl
map_aligned f g same (a ∷ addrs) [] all = refl
map_aligned f g same (a ∷ addrs) (h ∷ hs) all = ap₂ (λ (w : Word) (rest : List Word). w ∷ rest) (same (record { addr = a; history = h }) all.0) (map_aligned f g same addrs hs all.1)

map_then : (f g : Word → Word) (words : List Word) → map f (map g words) ≡ map (λ w. f (g w)) words
map_then f g [] = refl
map_then f g (w ∷ words) = ap (λ (rest : List Word). f (g w) ∷ rest) (map_then f g words)

module _ (t : Transfer) (first : ℕ) where
  abbrev written : Word → Word
  written w = record w { history = with_write (write_of t.len w.history t.kind) w.history }

  abbrev span : ℕ → Span
  span count = record { first = first; count = count }

  -- the first so many words of the span are written
  abbrev pub partly : ℕ → Word → Word
  partly count w = cond (is_in_span (span count) w.addr) (written w) w

  in_next : first % 4 ≡ 0 → (i addr : ℕ) → addr ≢ first + 4 * i → addr % 4 ≡ 0 → is_in_span (span (i + 1)) addr ≡ is_in_span (span i) addr
  in_next aligned i addr other at = grind (arith, nat_tests)

  in_last : (i addr : ℕ) → addr ≡ first + 4 * i → is_in_span (span (i + 1)) addr ≡ true
  in_last i addr same = grind (arith, nat_tests)

  not_yet : (i addr : ℕ) → addr ≡ first + 4 * i → is_in_span (span i) addr ≡ false
  not_yet i addr same = grind (arith, nat_tests)

  none_yet : (addr : ℕ) → is_in_span (span 0) addr ≡ false
  none_yet addr = grind (arith, nat_tests)

  addr_same : (b : Bool) (w : Word) → (cond b (written w) w).addr ≡ w.addr
  addr_same true w = refl
  addr_same false w = refl

  one_more : first % 4 ≡ 0 → (i : ℕ) (w : Word) → w.addr % 4 ≡ 0 → written_at t (first + 4 * i) (partly i w) ≡ partly (i + 1) w
  one_more aligned i w at = elim (cases_eq w.addr (first + 4 * i)) [
    | inl same ↦
        ap (λ (b : Bool). written_at t (first + 4 * i) (cond b (written w) w)) (not_yet i w.addr same)
        ∙ ap (λ (b : Bool). cond b (written w) w) (eq-eqb w.addr (first + 4 * i) same)
        ∙ ap (λ (b : Bool). cond b (written w) w) (sym (in_last i w.addr same))
    | inr other ↦
        ap (λ (b : Bool). cond b (written (partly i w)) (partly i w)) (ne_eqb (partly i w).addr (first + 4 * i) (λ e. other (sym (addr_same (is_in_span (span i) w.addr) w) ∙ e)))
        ∙ ap (λ (b : Bool). cond b (written w) w) (sym (in_next aligned i w.addr other at))
  ]

  module _ (addrs : List ℕ) (hs : List (List Moment)) (all : AllByRecursion IsAligned addrs) where
    pub partly_none : words_of addrs hs ≡ map (partly 0) (words_of addrs hs)
    partly_none = sym (map_id (words_of addrs hs)) ∙ map_aligned (λ w. w) (partly 0) (λ w at. ap (λ (b : Bool). cond b (written w) w) (sym (none_yet w.addr))) addrs hs all
      where
        map_id : (words : List Word) → map (λ w. w) words ≡ words
        map_id [] = refl
        map_id (w ∷ words) = ap (λ (rest : List Word). w ∷ rest) (map_id words)

    pub partly_more : first % 4 ≡ 0 → (i : ℕ) → map (written_at t (first + 4 * i)) (map (partly i) (words_of addrs hs)) ≡ map (partly (i + 1)) (words_of addrs hs)
    partly_more aligned i =
        map_then (written_at t (first + 4 * i)) (partly i) (words_of addrs hs)
        ∙ map_aligned (λ w. written_at t (first + 4 * i) (partly i w)) (partly (i + 1)) (λ w at. one_more aligned i w at) addrs hs all

    pub partly_all : (count : ℕ) → ((word : ℕ) → word % 4 ≡ 0 → (has_address t && touches_word t.addr t.len word t.kind) ≡ is_in_span (span count) word)
        → map (partly count) (words_of addrs hs) ≡ map (after_writes t) (words_of addrs hs)
    partly_all count touches = map_aligned (partly count) (after_writes t) (λ w at. by w (is_in_span (span count) w.addr) (touches w.addr at)) addrs hs all
      where
        by : (w : Word) (b : Bool) → (has_address t && touches_word t.addr t.len w.addr t.kind) ≡ b → cond b (written w) w ≡ after_writes t w
        by w true is = ap (λ (b : Bool). record w { history = with_write (cond b (write_of t.len w.history t.kind) None) w.history }) (sym is)
        by w false is = ap (λ (b : Bool). record w { history = with_write (cond b (write_of t.len w.history t.kind) None) w.history }) (sym is)

-- ---- a turn ends

pub after_none : (t : Transfer) (words : List Word) → map (after_writes t) words ≡ words_after t None words
after_none t [] = refl
after_none t (w ∷ words) = ap (λ (rest : List Word). after_writes t w ∷ rest) (after_none t words)

pub after_some : (t : Transfer) (addr : ℕ) (words : List Word) → map (named_at addr) (map (after_writes t) words) ≡ words_after t (Some addr) words
after_some t addr words = map_then (named_at addr) (after_writes t) words

-- ---- how a transfer writes a word that it touches

module _ (len : ℕ) (h : List Moment) (kind : TurnKind) (b : Bool) where
  pub part_write : kind ≡ Store → len < 4 → is_bad_word h ≡ b → cond b None (Some ByPartStore) ≡ write_of len h kind
  part_write store short bad =
      sym
      (ap (write_of len h) store
      ∙ ap (λ (c : Bool). cond c (cond (is_bad_word h) None (Some ByPartStore)) (Some Whole)) (lt-ltb len 4 short)
      ∙ ap (λ (c : Bool). cond c None (Some ByPartStore)) bad)

  pub atomic_write : kind ≡ Atomic → is_bad_word h ≡ b → cond b None (Some ByAtomic) ≡ write_of len h kind
  atomic_write atomic bad = sym (ap (write_of len h) atomic ∙ ap (λ (c : Bool). cond c None (Some ByAtomic)) bad)

  pub fix_write : kind ≡ Fix → is_fixed_word h ≡ b → cond b (Some ByFix) None ≡ write_of len h kind
  fix_write fix fixed = sym (ap (write_of len h) fix ∙ ap (λ (c : Bool). cond c (Some ByFix) None) fixed)
