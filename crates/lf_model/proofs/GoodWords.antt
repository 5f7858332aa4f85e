-- Where no memory word ever has two turned bits, no transfer meets a bad word.
use Rattle.std.proofs.Common.{◌≡◌, ◌∙◌, ◌+◌, ◌-◌, ◌*◌, ◌/◌, ◌%◌, ◌^◌, ◌<◌, ◌==◌, ℕ, zero, suc, Bool, true, false, nat_lt, List, [], ◌∷◌, length, map, fold, find, refl, ap, sym, arith, cond, subst, slice_index, Option, Some, None, if◌then◌else◌}
use Rattle.std.proofs.lemmas.Bool.{or_parts, false≢true}
use Rattle.std.specs.List.{list_any, range_with_len}
use Rattle.std.specs.List.{AllByRecursion as Each}
use Rattle.std.specs.Option.{option_map_or}
use Rattle.lf_model.specs.Bus.Words.{Word, is_at, history_of, word_history, struck_word, strike_word, words_begun, word_of, words_by_kind, words_read, answered, with_write, write_by, with_name, words_after}
use Rattle.lf_model.specs.Course.Syndromes.{is_bad_syndrome, packed, has_address}
use Rattle.lf_model.specs.Flips.{How, Moment, is_bad_word, syndrome}
use Rattle.lf_model.specs.Flips.Moment.{Struck, Written, Named}
use Rattle.lf_model.specs.NumberedFlips.{numbered_flips}
use Rattle.lf_model.specs.Promise.NeverStops.{was_bad, word_was_bad}
use Rattle.lf_model.specs.declared.bus.Transfer.{Transfer}
use Rattle.lf_model.specs.declared.bus.TurnKind.{TurnKind}
use Rattle.lf_model.specs.declared.bus.TurnKind.TheVariants.{Fetch, Load, Store, Atomic, Snoop, Look, Fix}
use Rattle.lf_model.specs.declared.flip.Flip.{Flip}
use Rattle.lf_model.specs.declared.flip.Flip.TheVariants.{Mem, Reg, Tag, Line}
use Rattle.lf_model.proofs.GoodCells.{bad_was_bad}
use Rattle.lf_model.proofs.GoodCourse.{IsClean}
use Rattle.lf_model.proofs.SyndromeLaw.{bad_by_syndrome, syndrome_below}

-- none of these words ever was bad
unfoldable pub Good : List Word → Type 0
Good words = list_any word_was_bad words ≡ false

-- ---- what happens to words

good_map : (change : Word → Word) → ((word : Word) → word_was_bad (change word) ≡ false → word_was_bad word ≡ false) → (words : List Word)
    → Good (map change words) → Good words
unfolding Good
good_map change goes [] good = refl
good_map change goes (word ∷ words) good = let parts = or_parts (word_was_bad (change word)) _ good in
    rw (goes word parts.0, good_map change goes words parts.1) refl

good_struck : (number addr bit : ℕ) (word : Word) → word_was_bad (struck_word number addr bit word) ≡ false → word_was_bad word ≡ false
good_struck number addr bit word good = by_address (word.addr == addr) good
  where
    by_address : (b : Bool) → word_was_bad (if b then record word { history = Struck number bit ∷ word.history } else word) ≡ false → word_was_bad word ≡ false
    by_address true good = (or_parts (is_bad_word (Struck number bit ∷ word.history)) (was_bad word.history) good).1
    by_address false good = good

good_strike : (turn number : ℕ) (words : List Word) (flip : Flip) → Good (strike_word turn number words flip) → Good words
good_strike turn number words (Mem at addr bit) good = by_turn (at == turn) good
  where
    by_turn : (b : Bool) → Good (if b then map (struck_word number addr bit) words else words) → Good words
    by_turn true good = good_map (struck_word number addr bit) (good_struck number addr bit) words good
    by_turn false good = good
good_strike turn number words (Reg core step cell bit) good = good
good_strike turn number words (Tag core step fetch way set byte bit) good = good
good_strike turn number words (Line core step fetch way set byte bit) good = good

abbrev strike_at : ℕ → List Word → ℕ × Flip → List Word
strike_at turn words flip = strike_word turn flip.0 words flip.1

good_strikes : (turn : ℕ) (flips : List (ℕ × Flip)) (words : List Word) → Good (fold (strike_at turn) words flips) → Good words
good_strikes turn [] words good = good
good_strikes turn (flip ∷ flips) words good = good_strike turn flip.0 words flip.1 (good_strikes turn flips (strike_at turn words flip) good)

pub good_begun : (script : List Flip) (turn : ℕ) (words : List Word) → Good (words_begun script turn words) → Good words
good_begun script turn words good = good_strikes turn (numbered_flips script) words good

good_write : (how : Option How) (h : List Moment) → was_bad (with_write how h) ≡ false → was_bad h ≡ false
good_write None h good = good
good_write (Some how) h good = (or_parts (is_bad_word (Written how ∷ h)) (was_bad h) good).1

good_name : (name : Option ℕ) (word : Word) → word_was_bad (with_name name word) ≡ false → word_was_bad word ≡ false
good_name None word good = good
good_name (Some addr) word good = by_address (word.addr == addr) good
  where
    by_address : (b : Bool) → word_was_bad (if b then record word { history = Named ∷ word.history } else word) ≡ false → word_was_bad word ≡ false
    by_address true good = (or_parts (is_bad_word (Named ∷ word.history)) (was_bad word.history) good).1
    by_address false good = good

pub good_after : (t : Transfer) (name : Option ℕ) (words : List Word) → Good (words_after t name words) → Good words
good_after t name words good = good_map (λ word. with_name name (record word { history = with_write (write_by t word) word.history }))
    (λ word good. good_write (write_by t word) word.history (good_name name (record word { history = with_write (write_by t word) word.history }) good)) words good

-- ---- what a transfer reads

found_good : (b : Bool) (word : Word) (rest : Option Word) → was_bad word.history ≡ false → was_bad (option_map_or history_of rest []) ≡ false
    → was_bad (option_map_or history_of (cond b (Some word) rest) []) ≡ false
found_good true word rest good later = good
found_good false word rest good later = later

good_history : (words : List Word) (addr : ℕ) → Good words → was_bad (word_history words addr) ≡ false
unfolding Good
good_history [] addr good = refl
good_history (word ∷ words) addr good = let parts = or_parts (word_was_bad word) _ good in
    found_good (is_at addr word) word (find (is_at addr) words) parts.0 (good_history words addr parts.1)

not_bad : (h : List Moment) (b : Bool) → is_bad_word h ≡ b → was_bad h ≡ false → b ≡ false
not_bad h true is good = absurd (false≢true (sym good ∙ bad_was_bad h is))
not_bad h false is good = refl

-- a syndrome of seven bits that is that of no bad word
record IsGood (s : ℕ) : Type 0 where
  below : s < 128
  fine : is_bad_syndrome s ≡ false

syndrome_at : List Word → ℕ → ℕ
syndrome_at words addr = syndrome (word_history words addr)

is_good : (words : List Word) → Good words → (addr : ℕ) → IsGood (syndrome_at words addr)
unfolding syndrome_at
is_good words good addr = record {
  below = syndrome_below (word_history words addr);
  fine = bad_by_syndrome (word_history words addr) ∙ not_bad (word_history words addr) (is_bad_word (word_history words addr)) refl (good_history words addr good);
}

-- ---- the syndromes of a transfer

-- so many syndromes in one number, taken apart again
abbrev unpacked : ℕ → List ℕ → List ℕ
unpacked count syns = map (λ j. packed syns / 2 ^ (56 - 8 * j) % 256) (range_with_len 0 count)

one_back : (s : ℕ) → s < 128 → (0 * 256 + s) * 2 ^ 56 / 2 ^ 56 % 256 ≡ s
one_back s below = omega (arith, below)

-- eight of them in one number
abbrev joined : (s0 s1 s2 s3 s4 s5 s6 s7 : ℕ) → ℕ
joined s0 s1 s2 s3 s4 s5 s6 s7 = (((((((0 * 256 + s0) * 256 + s1) * 256 + s2) * 256 + s3) * 256 + s4) * 256 + s5) * 256 + s6) * 256 + s7

pub eight_back : (s0 s1 s2 s3 s4 s5 s6 s7 : ℕ) → s0 < 128 → s1 < 128 → s2 < 128 → s3 < 128 → s4 < 128 → s5 < 128 → s6 < 128 → s7 < 128 → unpacked 8 (s0 ∷ s1 ∷ s2 ∷ s3 ∷ s4 ∷ s5 ∷ s6 ∷ s7 ∷ []) ≡ s0 ∷ s1 ∷ s2 ∷ s3 ∷ s4 ∷ s5 ∷ s6 ∷ s7 ∷ []
eight_back s0 s1 s2 s3 s4 s5 s6 s7 b0 b1 b2 b3 b4 b5 b6 b7 =
    let n = joined s0 s1 s2 s3 s4 s5 s6 s7 in
    let e0 : n * 1 / 2 ^ 56 % 256 ≡ s0 = omega (arith, b0, b1, b2, b3, b4, b5, b6, b7) in
    let e1 : n * 1 / 2 ^ 48 % 256 ≡ s1 = omega (arith, b0, b1, b2, b3, b4, b5, b6, b7) in
    let e2 : n * 1 / 2 ^ 40 % 256 ≡ s2 = omega (arith, b0, b1, b2, b3, b4, b5, b6, b7) in
    let e3 : n * 1 / 2 ^ 32 % 256 ≡ s3 = omega (arith, b0, b1, b2, b3, b4, b5, b6, b7) in
    let e4 : n * 1 / 2 ^ 24 % 256 ≡ s4 = omega (arith, b0, b1, b2, b3, b4, b5, b6, b7) in
    let e5 : n * 1 / 2 ^ 16 % 256 ≡ s5 = omega (arith, b0, b1, b2, b3, b4, b5, b6, b7) in
    let e6 : n * 1 / 2 ^ 8 % 256 ≡ s6 = omega (arith, b0, b1, b2, b3, b4, b5, b6, b7) in
    let e7 : n * 1 / 2 ^ 0 % 256 ≡ s7 = omega (arith, b0, b1, b2, b3, b4, b5, b6, b7) in
    rw (e0, e1, e2, e3, e4, e5, e6, e7) refl

-- the syndromes at some words: none, one, or the eight of a line
data IsRead : List ℕ → Type 0 where
  NoWord : IsRead []
  OneWord : (a : ℕ) → IsRead (a ∷ [])
  OneLine : (a b c d e f g h : ℕ) → IsRead (a ∷ b ∷ c ∷ d ∷ e ∷ f ∷ g ∷ h ∷ [])

is_read : (b : Bool) (addr len : ℕ) (kind : TurnKind) → IsRead (if b then words_by_kind addr len kind else [])
is_read false addr len kind = NoWord
is_read true addr len Fetch = OneLine _ _ _ _ _ _ _ _
is_read true addr len Load = OneLine _ _ _ _ _ _ _ _
is_read true addr len Store = part (nat_lt len 4)
  where
    part : (b : Bool) → IsRead (if b then word_of addr ∷ [] else [])
    part true = OneWord (word_of addr)
    part false = NoWord
is_read true addr len Atomic = OneWord (word_of addr)
is_read true addr len Snoop = NoWord
is_read true addr len Look = OneLine _ _ _ _ _ _ _ _
is_read true addr len Fix = OneWord addr

all_fine : (syns : List ℕ) → Each IsGood syns → (j : ℕ) → is_bad_syndrome (slice_index syns j) ≡ false
all_fine [] good j = refl
all_fine (s ∷ syns) good zero = good.0.fine
all_fine (s ∷ syns) good (suc j) = all_fine syns good.1 j

fine_read : (words : List Word) → Good words → (addrs : List ℕ) → IsRead addrs → (j : ℕ)
    → is_bad_syndrome (slice_index (unpacked (length addrs) (map (syndrome_at words) addrs)) j) ≡ false
fine_read words good addrs NoWord j = refl
fine_read words good addrs (OneWord a) j =
    let s = syndrome_at words a in
    let is = is_good words good a in
    subst (λ syns. is_bad_syndrome (slice_index syns j) ≡ false) (sym (ap (λ s. s ∷ []) (one_back s is.below))) (all_fine (s ∷ []) (is, tt) j)
fine_read words good addrs (OneLine a b c d e f g h) j =
    let at = is_good words good in
    subst (λ syns. is_bad_syndrome (slice_index syns j) ≡ false)
    (sym (eight_back _ _ _ _ _ _ _ _ (at a).below (at b).below (at c).below (at d).below (at e).below (at f).below (at g).below (at h).below))
    (all_fine (map (syndrome_at words) (a ∷ b ∷ c ∷ d ∷ e ∷ f ∷ g ∷ h ∷ [])) (at a, (at b, (at c, (at d, (at e, (at f, (at g, (at h, tt)))))))) j)

-- what memory answers to a transfer has no bad word
pub answers_clean : (words : List Word) (t : Transfer) → Good words → IsClean (answered words t)
unfolding IsClean syndrome_at
answers_clean words t good j = fine_read words good (words_read t) (is_read (has_address t) t.addr t.len t.kind) j
