-- The states of flips as encounters change them.
use Rattle.std.proofs.Common.{◌≡◌, ℕ, zero, suc, ◌<◌, ◌≤◌, Bool, true, false, ◌&&◌, cond, nat_eq, nat_le, List, [], ◌∷◌, length, map, Option, Some, None, refl, sym, ap, ◌∙◌, inl, inr, arith}
use Rattle.std.specs.Prelude.{All, is_none}
use Rattle.std.specs.List.{list_any}
use Rattle.std.proofs.lemmas.Bool.{cases_eq, eq-eqb, ne_eqb, lt-ltb, le-ltb, le-leb}
use Rattle.std.proofs.lemmas.List.{get_or-set_same, get_or-set_other, length-set}
use Rattle.std.proofs.lemmas.List.Elements.{All-head, All-tail}
use Rattle.lf_model.specs.declared.trace.Fate.{Fate}
use Rattle.flip_ledger.specs.Follows.{stands_in, IsEndBy, IsPast}
use Rattle.flip_ledger.specs.Ledger.{flip_at, met, settled, named_where}
use Rattle.flip_ledger.specs.Rule.{earlier, fate_by, ended_by, met_by, fate_in, lasts, stood_in}
use Rattle.flip_ledger.specs.declared.record.Encounter.{Encounter}
use Rattle.flip_ledger.specs.declared.record.Encounter.TheVariants.{Found, Named, Written}
use Rattle.flip_ledger.specs.declared.record.FlipState.{FlipState}
use Rattle.flip_ledger.specs.declared.record.FlipState.TheVariants.{ToCome, Declined, Applied}
use Rattle.flip_ledger.specs.declared.record.Write.TheVariants.{Whole, Correcting}
use Rattle.flip_ledger.proofs.FateRule.{earlier_twice}

-- ---- one flip

-- an encounter gives its fate, unless an earlier one holds
pub fate_met_by : (encounter : Encounter) (flip : FlipState) → fate_in (met_by encounter flip) ≡ earlier (fate_by encounter) (fate_in flip)
fate_met_by Found ToCome = refl
fate_met_by Named ToCome = refl
fate_met_by (Written Whole turn) ToCome = refl
fate_met_by (Written Correcting turn) ToCome = refl
fate_met_by Found Declined = refl
fate_met_by Named Declined = refl
fate_met_by (Written Whole turn) Declined = refl
fate_met_by (Written Correcting turn) Declined = refl
fate_met_by encounter (Applied stay) = refl

-- the same encounter twice is as once
ended_twice : (encounter : Encounter) (until : Option ℕ) → ended_by encounter (ended_by encounter until) ≡ ended_by encounter until
ended_twice Found until = refl
ended_twice Named until = refl
ended_twice (Written write turn) None = refl
ended_twice (Written write turn) (Some until) = refl

met_twice : (encounter : Encounter) (flip : FlipState) → met_by encounter (met_by encounter flip) ≡ met_by encounter flip
met_twice encounter ToCome = refl
met_twice encounter Declined = refl
met_twice encounter (Applied stay) =
    ap (λ (until : Option ℕ). Applied (record stay { until = until; fate = earlier (fate_by encounter) (earlier (fate_by encounter) stay.fate) })) (ended_twice encounter stay.until)
    ∙ ap (λ (fate : Fate). Applied (record stay { until = ended_by encounter stay.until; fate = fate })) (earlier_twice (fate_by encounter) stay.fate)

-- it stands after the encounter if it stood, and that is no write
abbrev pub leaves : Encounter → Bool
leaves Found = true
leaves Named = true
leaves (Written write turn) = false

none_ended : (turn : ℕ) (until : Option ℕ) → is_none (ended_by (Written Whole turn) until) ≡ false
none_ended turn None = refl
none_ended turn (Some until) = refl

and_false : (a : Bool) → (a && false) ≡ false
and_false true = refl
and_false false = refl

pub stands_met : (encounter : Encounter) (unit : ℕ) (flip : FlipState) → stands_in unit (met_by encounter flip) ≡ (leaves encounter && stands_in unit flip)
stands_met Found unit ToCome = refl
stands_met Named unit ToCome = refl
stands_met (Written write turn) unit ToCome = refl
stands_met Found unit Declined = refl
stands_met Named unit Declined = refl
stands_met (Written write turn) unit Declined = refl
stands_met Found unit (Applied stay) = refl
stands_met Named unit (Applied stay) = refl
stands_met (Written write turn) unit (Applied stay) = ap (λ (b : Bool). nat_eq stay.unit unit && b) (none_ended turn stay.until) ∙ and_false (nat_eq stay.unit unit)

-- where it stood as a turn ended is as before, for an encounter that is no write, and for a write in a later turn
abbrev pub IsAfter : ℕ → Encounter → Type 0
IsAfter turn Found = Unit {0}
IsAfter turn Named = Unit {0}
IsAfter turn (Written write now) = turn < now

lasts_met : (turn : ℕ) (encounter : Encounter) (until : Option ℕ) → IsAfter turn encounter → lasts turn (ended_by encounter until) ≡ lasts turn until
lasts_met turn Found until after = refl
lasts_met turn Named until after = refl
lasts_met turn (Written write now) None after = lt-ltb turn now after
lasts_met turn (Written write now) (Some until) after = refl

pub stood_met : (encounter : Encounter) (unit turn : ℕ) (flip : FlipState) → IsAfter turn encounter → stood_in unit turn (met_by encounter flip) ≡ stood_in unit turn flip
stood_met encounter unit turn ToCome after = refl
stood_met encounter unit turn Declined after = refl
stood_met encounter unit turn (Applied stay) after = ap (λ (b : Bool). (nat_eq stay.unit unit && nat_le stay.since turn) && b) (lasts_met turn encounter stay.until after)

-- what came about by a turn did so after an encounter of that turn
abbrev pub IsBy : ℕ → Encounter → Type 0
IsBy turn Found = Unit {0}
IsBy turn Named = Unit {0}
IsBy turn (Written write now) = now ≤ turn

end_met : (turn : ℕ) (encounter : Encounter) (until : Option ℕ) → IsBy turn encounter → IsEndBy turn until → IsEndBy turn (ended_by encounter until)
end_met turn Found until by is = is
end_met turn Named until by is = is
end_met turn (Written write now) None by is = by
end_met turn (Written write now) (Some until) by is = is

pub past_met : (turn : ℕ) (encounter : Encounter) (flip : FlipState) → IsBy turn encounter → IsPast turn flip → IsPast turn (met_by encounter flip)
past_met turn encounter ToCome by is = is
past_met turn encounter Declined by is = is
past_met turn encounter (Applied stay) by is = (is.0, end_met turn encounter stay.until by is.1)

-- a flip of the past stood in a unit as a later turn ended just where it stands
lasts_past : (now turn : ℕ) (until : Option ℕ) → now ≤ turn → IsEndBy now until → lasts turn until ≡ is_none until
lasts_past now turn None le is = refl
lasts_past now turn (Some until) le is = le-ltb turn until (omega (arith, le, is))

pub stood_past : (unit now turn : ℕ) (flip : FlipState) → now ≤ turn → IsPast now flip → stood_in unit turn flip ≡ stands_in unit flip
stood_past unit now turn ToCome le is = refl
stood_past unit now turn Declined le is = refl
stood_past unit now turn (Applied stay) le is =
    ap (λ (b : Bool). (nat_eq stay.unit unit && b) && lasts turn stay.until) (le-leb stay.since turn (omega (arith, le, is.0)))
    ∙ ap (λ (b : Bool). (nat_eq stay.unit unit && true) && b) (lasts_past now turn stay.until le is.1)
    ∙ ap (λ (b : Bool). b && is_none stay.until) (and_true (nat_eq stay.unit unit))
  where
    and_true : (a : Bool) → (a && true) ≡ a
    and_true true = refl
    and_true false = refl

pub past_later : (now turn : ℕ) (flip : FlipState) → now ≤ turn → IsPast now flip → IsPast turn flip
past_later now turn ToCome le is = is
past_later now turn Declined le is = is
past_later now turn (Applied stay) le is = (omega (arith, le, is.0), end_later stay.until is.1)
  where
    end_later : (until : Option ℕ) → IsEndBy now until → IsEndBy turn until
    end_later None is = is
    end_later (Some until) is = omega (arith, le, is)

-- ---- all flips

pub length-settled : (encounter : Encounter) (numbers : List ℕ) (flips : List FlipState) → length (settled encounter numbers flips) ≡ length flips
length-settled encounter [] flips = refl
length-settled encounter (number ∷ numbers) flips = length-set (settled encounter numbers flips) number _ ∙ length-settled encounter numbers flips

-- the flips of these numbers meet, and no others
module _ (encounter : Encounter) (flips : List FlipState) (i : ℕ) where
  pub flip_settled : (numbers : List ℕ) → All (λ number. number < length flips) numbers
      → flip_at (settled encounter numbers flips) i ≡ cond (list_any (λ number. nat_eq number i) numbers) (met_by encounter (flip_at flips i)) (flip_at flips i)
  flip_settled [] known = refl
  flip_settled (number ∷ numbers) known =
      let rest : List FlipState = settled encounter numbers flips in
      let known_rest : All (λ n. n < length flips) numbers = All-tail (λ n. n < length flips) number numbers known in
      let within : number < length rest = omega (arith, length-settled encounter numbers flips, All-head (λ n. n < length flips) number numbers known) in
      let any : Bool = list_any (λ n. nat_eq n i) numbers in
      elim (cases_eq number i) [
        | inl same ↦
            rw (eq-eqb number i same)
            (ap (λ (n : ℕ). flip_at (met encounter n rest) i) same
            ∙ get_or-set_same rest i (met_by encounter (flip_at rest i)) ToCome (rw same at within)
            ∙ ap (met_by encounter) (flip_settled numbers known_rest)
            ∙ again any)
        | inr other ↦
            rw (ne_eqb number i other)
            (get_or-set_other rest number i (met_by encounter (flip_at rest number)) ToCome (λ e. other (sym e)) ∙ flip_settled numbers known_rest)
      ]
    where
      again : (b : Bool) → met_by encounter (cond b (met_by encounter (flip_at flips i)) (flip_at flips i)) ≡ met_by encounter (flip_at flips i)
      again true = met_twice encounter (flip_at flips i)
      again false = refl

-- the flips that stood in a unit as a turn ended were named
pub flip_named : (unit turn : ℕ) (flips : List FlipState) (i : ℕ)
    → flip_at (map (named_where unit turn) flips) i ≡ cond (stood_in unit turn (flip_at flips i)) (met_by Named (flip_at flips i)) (flip_at flips i)
flip_named unit turn [] i = refl
flip_named unit turn (flip ∷ flips) zero = refl
flip_named unit turn (flip ∷ flips) (suc i) = flip_named unit turn flips i
