use Rattle.std.proofs.Common.{◌≡◌, ℕ, zero, suc, List, [], ◌∷◌, length, map, refl, sym, ap, ◌∙◌, arith}
use Rattle.std.specs.Prelude.{replicate}
use Rattle.std.proofs.lemmas.List.{length-map}
use Rattle.lf_model.specs.Caches.Slot.{history_at}
use Rattle.lf_model.specs.Flips.{Moment, word_budget}
use Rattle.coded_words.specs.WordState.{WordState}
use Rattle.coded_words.specs.Words.{Words, value_of, history_of}
use Rattle.coded_words.proofs.words.CodedWords.new.Goals as goal

no_history : (vs : List ℕ) → map history_of (map (λ v. record { value = v; history = [] }) vs) ≡ replicate (length vs) []
no_history [] = refl
no_history (v ∷ vs) = ap (λ (hs : List (List Moment)). [] ∷ hs) (no_history vs)

their_values : (vs : List ℕ) → map value_of (map (λ v. record { value = v; history = [] }) vs) ≡ vs
their_values [] = refl
their_values (v ∷ vs) = ap (λ (rest : List ℕ). v ∷ rest) (their_values vs)

empty_at : (n unit : ℕ) → history_at unit (replicate n []) ≡ []
empty_at zero unit = refl
empty_at (suc n) zero = refl
empty_at (suc n) (suc unit) = empty_at n unit

pub invariant_of-result : goal.invariant_of-result
invariant_of-result c =
    let vs = c.args.values.now in
    let ledger = c.in_ok-new.field-0 in
    let histories : map history_of c.in_ok-fresh_words.field-0.items ≡ replicate (length vs) [] = ap (map history_of) c.in_ok-fresh_words.ensures ∙ no_history vs in
    let words : length c.in_ok-fresh_words.field-0.items ≡ length vs = ap (length {A = WordState}) c.in_ok-fresh_words.ensures ∙ length-map vs (λ v. record { value = v; history = [] }) in
    record {
      units = c.in_ok-new.ensures.units ∙ sym words;
      follows = rw histories (c.in_ok-new.ensures.follows word_budget _ (λ unit. empty_at (length vs) unit));
      remembered = rw c.of.ensures.value (record {
        turn = c.in_ok-new.ensures.turn;
        lengths = λ t lt. absurd (omega (arith, lt));
        goes_on = λ t unit lt. absurd (omega (arith, lt));
        went_on = λ s t unit le lt. absurd (omega (arith, lt));
        remembers = λ t lt. absurd (omega (arith, lt));
      });
    }

pub returns : goal.returns
returns c =
    let vs = c.args.values.now in
    let made : List ℕ → List (List Moment) → List (List (List Moment)) → ℕ → Words = λ values histories past flips. record { values = values; histories = histories; past = past; flips = flips } in
    let ws = c.in_ok-fresh_words.field-0.items in
    let flips = length c.in_ok-new.field-0.flips in
    ap (λ (values : List ℕ). made values (map history_of ws) c.of.result flips) (ap (map value_of) c.in_ok-fresh_words.ensures ∙ their_values vs)
    ∙ ap (λ (histories : List (List Moment)). made vs histories c.of.result flips) (ap (map history_of) c.in_ok-fresh_words.ensures ∙ no_history vs)
    ∙ ap (λ (past : List (List (List Moment))). made vs (replicate (length vs) []) past flips) c.of.ensures.value
    ∙ ap (made vs (replicate (length vs) []) []) c.in_ok-new.ensures.flips
