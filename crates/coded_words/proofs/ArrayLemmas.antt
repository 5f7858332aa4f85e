-- An array of words, as one of them changes.
use Rattle.std.proofs.Common.{◌≡◌, ℕ, ◌<◌, false, nat_lt, List, [], ◌∷◌, length, map, slice_index, slice_index_or, slice_set, refl, sym, ap, ◌∙◌, inl, inr, arith}
use Rattle.std.proofs.lemmas.Bool.{cases_eq}
use Rattle.std.proofs.lemmas.Bool.Decides.{nat_tests}
use Rattle.std.proofs.lemmas.List.{get_or-map, get_or-set_same, get_or-set_other, length-set, length-map, map-set, set-get_or, nil_from_length}
use Rattle.flip_ledger.specs.Follows.{IsWrite, Gains, Follows, Keeps, number_of}
use Rattle.flip_ledger.specs.declared.record.Encounter.TheVariants as encounters
use Rattle.flip_ledger.proofs.FollowLemmas.{follows_unstruck}
use Rattle.flip_ledger.specs.Ledger.{Ledger, standing_in}
use Rattle.lf_model.specs.Caches.Slot.{history_at, befalls}
use Rattle.lf_model.specs.Flips.{Moment, Standing, standing, word_budget}
use Rattle.lf_model.specs.Flips.Moment.{Written}
use Rattle.coded_words.specs.Kept.{seen, unit_histories, IsRemembered, IsKept}
use Rattle.coded_words.specs.Past.{past_at}
use Rattle.coded_words.specs.WordState.{WordState}
use Rattle.coded_words.specs.Ways.{how_of, write_of}
use Rattle.coded_words.specs.Words.{Words, value_of, history_of, word_in}
use Rattle.coded_words.specs.declared.history.How.{How}
use Rattle.coded_words.specs.declared.history.How.TheVariants as ways
use Rattle.coded_words.specs.declared.words.CodedWords.TheInside.{Inside}

-- the histories with one more moment of a unit
abbrev pub more : Moment → List Moment → List Moment
more m h = m ∷ h

pub gains : (hs : List (List Moment)) (unit : ℕ) (m : Moment) → unit < length hs → Gains unit m (unit_histories hs) (unit_histories (befalls (more m) unit hs))
gains hs unit m within = record {
  here = get_or-set_same hs unit (m ∷ history_at unit hs) [] within;
  others = λ u other. get_or-set_other hs unit u (m ∷ history_at unit hs) [] other;
}

-- the ledger remembers the same past
pub remembered_more : (hs : List (List Moment)) (past : List (List (List Moment))) (l l' : Ledger) (unit : ℕ) (m : Moment) → unit < length hs → Keeps l l' → IsRemembered hs past l
    → IsRemembered (befalls (more m) unit hs) past l'
remembered_more hs past l l' unit m within keeps is = record {
  turn = keeps.turn ∙ is.turn;
  lengths = λ t lt. is.lengths t lt ∙ sym (length-set hs unit (m ∷ history_at unit hs));
  goes_on = λ t u lt. elim (cases_eq u unit) [
    | inl same ↦
        rw (same, get_or-set_same hs unit (m ∷ history_at unit hs) [] within)
        (record { since = m ∷ (is.goes_on t unit lt).since; is = ap (more m) (is.goes_on t unit lt).is })
    | inr other ↦ rw (get_or-set_other hs unit u (m ∷ history_at unit hs) [] other) (is.goes_on t u lt)
  ];
  went_on = is.went_on;
  remembers = λ t lt. keeps.remembers word_budget t (unit_histories (past_at t past)) (rw is.turn lt) (is.remembers t lt);
}

-- the word that is read at a place
module _ (ws : List WordState) (place : ℕ) {now : WordState} (read : now ≡ slice_index_or ws place now) (within : place < length ws) where
  pub history_here : history_at place (map history_of ws) ≡ now.history
  history_here = get_or-map history_of ws place now [] within ∙ ap history_of (sym read)

  pub value_here : slice_index (map value_of ws) place ≡ now.value
  value_here = get_or-map value_of ws place now 0 within ∙ ap value_of (sym read)

  -- the word becomes another
  pub histories_set : (f : List Moment → List Moment) (new : WordState) → new.history ≡ f now.history → map history_of (slice_set ws place new) ≡ befalls f place (map history_of ws)
  histories_set f new is = map-set history_of ws place new ∙ ap (slice_set (map history_of ws) place) (is ∙ ap f (sym history_here))

  pub values_set : (v : ℕ) (new : WordState) → new.value ≡ v → map value_of (slice_set ws place new) ≡ slice_set (map value_of ws) place v
  values_set v new is = map-set value_of ws place new ∙ ap (slice_set (map value_of ws) place) is

  pub values_same : (new : WordState) → new.value ≡ now.value → map value_of (slice_set ws place new) ≡ map value_of ws
  values_same new is = values_set now.value new is ∙ ap (slice_set (map value_of ws) place) (sym value_here) ∙ set-get_or (map value_of ws) place 0

  -- no flip stands where it is not struck
  pub none_standing : (l : Ledger) → place < length l.standing → Follows word_budget (unit_histories (map history_of ws)) l → nat_lt 0 (length (standing word_budget now.history)) ≡ false
      → standing_in l place ≡ []
  none_standing l lt follows unstruck =
      follows.standing_is place lt
      ∙ ap (map number_of) (ap (standing word_budget) history_here ∙ nothing (standing word_budget now.history) unstruck)
    where
      nothing : (flips : List Standing) → nat_lt 0 (length flips) ≡ false → flips ≡ []
      nothing flips none = nil_from_length flips (grind (arith, nat_tests))

pub word_here : (words : Inside) (place : ℕ) {now : WordState} → now ≡ slice_index_or words.words.items place now → place < length words.words.items → word_in (seen words) place ≡ now
word_here words place {now} read within =
    ap (λ (v : ℕ). record { value = v; history = history_at place (map history_of words.words.items) }) (value_here words.words.items place read within)
    ∙ ap (λ (h : List Moment). record { value = now.value; history = h }) (history_here words.words.items place read within)

-- an array stays kept as something befalls a word
pub kept_more : (words : Inside) (place : ℕ) {now : WordState} (m : Moment) (new : WordState) (l : Ledger) → IsKept words → now ≡ slice_index_or words.words.items place now → place < length words.words.items
    → new.history ≡ m ∷ now.history → Keeps words.ledger l → Follows word_budget (unit_histories (befalls (more m) place (map history_of words.words.items))) l
    → (length l.standing ≡ length (slice_set words.words.items place new))
    × Follows word_budget (unit_histories (map history_of (slice_set words.words.items place new))) l
    × IsRemembered (map history_of (slice_set words.words.items place new)) words.past l
kept_more words place {now} m new l kept read within is keeps follows =
    let ws : List WordState = words.words.items in
    let fits : place < length (map history_of ws) = omega (arith, within, length-map ws history_of) in
    let set : map history_of (slice_set ws place new) ≡ befalls (more m) place (map history_of ws) = histories_set ws place read within (more m) new is in
    (keeps.units ∙ kept.units ∙ sym (length-set ws place new), rw set follows, rw set (remembered_more (map history_of ws) words.past words.ledger l place m fits keeps kept.remembered))

-- what its users see then
pub seen_more : (words : Inside) (place : ℕ) {now : WordState} (m : Moment) (v : ℕ) (new : WordState) (l : Ledger) → now ≡ slice_index_or words.words.items place now → place < length words.words.items
    → new.history ≡ m ∷ now.history → new.value ≡ v → length l.flips ≡ length words.ledger.flips
    → ◌≡◌ {A = Words} (record { values = map value_of (slice_set words.words.items place new); histories = map history_of (slice_set words.words.items place new); past = words.past; flips = length l.flips })
    (record { values = slice_set (map value_of words.words.items) place v; histories = befalls (more m) place (map history_of words.words.items); past = words.past; flips = length words.ledger.flips })
seen_more words place {now} m v new l read within is value flips =
    let ws : List WordState = words.words.items in
    let made : List ℕ → List (List Moment) → ℕ → Words = λ vs hs n. record { values = vs; histories = hs; past = words.past; flips = n } in
    ap (λ (vs : List ℕ). made vs (map history_of (slice_set ws place new)) (length l.flips)) (values_set ws place read within v new value)
    ∙ ap (λ (hs : List (List Moment)). made (slice_set (map value_of ws) place v) hs (length l.flips)) (histories_set ws place read within (more m) new is)
    ∙ ap (made (slice_set (map value_of ws) place v) (befalls (more m) place (map history_of ws))) flips

pub seen_same : (words : Inside) (place : ℕ) {now : WordState} (f : List Moment → List Moment) (new : WordState) (l : Ledger) → now ≡ slice_index_or words.words.items place now → place < length words.words.items
    → new.history ≡ f now.history → new.value ≡ now.value → length l.flips ≡ length words.ledger.flips → (past : List (List (List Moment)))
    → ◌≡◌ {A = Words} (record { values = map value_of (slice_set words.words.items place new); histories = map history_of (slice_set words.words.items place new); past = past; flips = length l.flips })
    (record { values = map value_of words.words.items; histories = befalls f place (map history_of words.words.items); past = past; flips = length words.ledger.flips })
seen_same words place {now} f new l read within is value flips past =
    let ws : List WordState = words.words.items in
    let made : List ℕ → List (List Moment) → ℕ → Words = λ vs hs n. record { values = vs; histories = hs; past = past; flips = n } in
    ap (λ (vs : List ℕ). made vs (map history_of (slice_set ws place new)) (length l.flips)) (values_same ws place read within new value)
    ∙ ap (λ (hs : List (List Moment)). made (map value_of ws) hs (length l.flips)) (histories_set ws place read within f new is)
    ∙ ap (made (map value_of ws) (befalls f place (map history_of ws))) flips

-- the two words for a way to write agree
pub is_write : (how : How) → IsWrite (write_of how) (how_of how)
is_write ways.Whole = refl
is_write ways.ByPartStore = refl
is_write ways.ByAtomic = refl
is_write ways.ByFix = refl
is_write ways.ByReadBack = refl

-- a ledger follows a write of a word, noted or not
module _ (ws : List WordState) (place : ℕ) {now : WordState} (read : now ≡ slice_index_or ws place now) (within : place < length ws) (l : Ledger) (units : length l.standing ≡ length ws)
    (follows : Follows word_budget (unit_histories (map history_of ws)) l) (how : How) where
  pub unstruck_written : (unstruck : nat_lt 0 (length (standing word_budget now.history)) ≡ false) → Follows word_budget (unit_histories (befalls (more (Written (how_of how))) place (map history_of ws))) l
  unstruck_written unstruck =
      let lt : place < length l.standing = omega (arith, within, units) in
      follows_unstruck word_budget place (unit_histories (map history_of ws)) (unit_histories (befalls (more (Written (how_of how))) place (map history_of ws)))
      (encounters.Written (write_of how) l.turn) (Written (how_of how)) l (how_of how, (refl, is_write how)) lt (omega arith) (none_standing ws place read within l lt follows unstruck)
      (gains (map history_of ws) place (Written (how_of how)) (omega (arith, within, length-map ws history_of))) follows

-- a frame that nothing changed
pub keeps_same : (l : Ledger) → Keeps l l
keeps_same l = record { units = refl; flips = refl; turn = refl; remembers = λ budget t past lt remembers. remembers }
