-- The rule of fates, one moment at a time: how the fate of a flip changes as its unit's history gets one more moment.
use Rattle.std.proofs.Common.{◌≡◌, ℕ, Bool, true, false, ◌&&◌, ◌||◌, not, cond, nat_eq, nat_lt, List, [], ◌∷◌, length, refl, sym, ap, ◌∙◌}
use Rattle.lf_model.specs.Fates.{happened, strikes, is_applied, stands, is_found, is_named, is_whole, is_repaired, is_overwritten, first_fate, fate_of}
use Rattle.lf_model.specs.Flips.{How, Moment, standing}
use Rattle.lf_model.specs.Flips.Moment.{Struck, Written, Found, Named}
use Rattle.lf_model.specs.declared.trace.Fate.{Fate}
use Rattle.lf_model.specs.declared.trace.Fate.TheVariants as fates
use Rattle.flip_ledger.specs.Follows.{has_struck, is_whole_write, IsWrite}
use Rattle.flip_ledger.specs.Rule.{place_of, earlier, fate_by}
use Rattle.flip_ledger.specs.declared.record.Encounter.{Encounter}
use Rattle.flip_ledger.specs.declared.record.Encounter.TheVariants as encounters
use Rattle.flip_ledger.specs.declared.record.Write.{Write}
use Rattle.flip_ledger.specs.declared.record.Write.TheVariants.{Whole, Correcting}

-- the fate by what happened to a flip
abbrev pub fate_when : Bool → Bool → Bool → Bool → Bool → Bool → Fate
fate_when struck applied found repaired named overwritten = first_fate (
    (not struck, fates.Late)
    ∷ (not applied, fates.Declined)
    ∷ (found, fates.Discarded)
    ∷ (repaired, fates.Repaired)
    ∷ (named, fates.Stopped)
    ∷ (overwritten, fates.Overwritten)
    ∷ [])

-- one more thing that happened gives its fate, unless an earlier one holds
pub found_too : (a b c d e f : Bool) → fate_when a b true d e f ≡ earlier fates.Discarded (fate_when a b c d e f)
found_too false b c d e f = refl
found_too true false c d e f = refl
found_too true true true d e f = refl
found_too true true false true e f = refl
found_too true true false false true f = refl
found_too true true false false false true = refl
found_too true true false false false false = refl

pub repaired_too : (a b c d e f : Bool) → fate_when a b c true e f ≡ earlier fates.Repaired (fate_when a b c d e f)
repaired_too false b c d e f = refl
repaired_too true false c d e f = refl
repaired_too true true true d e f = refl
repaired_too true true false true e f = refl
repaired_too true true false false true f = refl
repaired_too true true false false false true = refl
repaired_too true true false false false false = refl

pub named_too : (a b c d e f : Bool) → fate_when a b c d true f ≡ earlier fates.Stopped (fate_when a b c d e f)
named_too false b c d e f = refl
named_too true false c d e f = refl
named_too true true true d e f = refl
named_too true true false true e f = refl
named_too true true false false true f = refl
named_too true true false false false true = refl
named_too true true false false false false = refl

pub overwritten_too : (a b c d e f : Bool) → fate_when a b c d e true ≡ earlier fates.Overwritten (fate_when a b c d e f)
overwritten_too false b c d e f = refl
overwritten_too true false c d e f = refl
overwritten_too true true true d e f = refl
overwritten_too true true false true e f = refl
overwritten_too true true false false true f = refl
overwritten_too true true false false false true = refl
overwritten_too true true false false false false = refl

-- the moment that an encounter is
abbrev pub IsMoment : Encounter → Moment → Type 0
IsMoment encounters.Found m = m ≡ Found
IsMoment encounters.Named m = m ≡ Named
IsMoment (encounters.Written write turn) m = (how : How) × ((m ≡ Written how) × IsWrite write how)

abbrev pub meets : Encounter → Bool → Fate → Fate
meets encounter here fate = cond here (earlier (fate_by encounter) fate) fate

pub found_or_not : (s a b c d e f : Bool) → fate_when a b (s || c) d e f ≡ meets encounters.Found s (fate_when a b c d e f)
found_or_not true a b c d e f = found_too a b c d e f
found_or_not false a b c d e f = refl

pub named_or_not : (s a b c d e f : Bool) → fate_when a b c d (s || e) f ≡ meets encounters.Named s (fate_when a b c d e f)
named_or_not true a b c d e f = named_too a b c d e f
named_or_not false a b c d e f = refl

pub written_or_not : (write : Write) (turn : ℕ) (w s a b c d e f : Bool) → w ≡ is_whole_write write
    → fate_when a b c ((not w && s) || d) e ((w && s) || f) ≡ meets (encounters.Written write turn) s (fate_when a b c d e f)
written_or_not Whole turn true true a b c d e f is = overwritten_too a b c d e f
written_or_not Whole turn true false a b c d e f is = refl
written_or_not Whole turn false s a b c d e f is = absurd (cc)
written_or_not Correcting turn false true a b c d e f is = repaired_too a b c d e f
written_or_not Correcting turn false false a b c d e f is = refl
written_or_not Correcting turn true s a b c d e f is = absurd (cc)

module _ (budget i : ℕ) (h : List Moment) where
  -- the fate after an encounter, which meets with the flip where that stands
  pub fate_met : (encounter : Encounter) (m : Moment) → IsMoment encounter m → fate_of budget i (m ∷ h) ≡ meets encounter (stands budget i h) (fate_of budget i h)
  fate_met encounters.Found m is =
      ap (λ (x : Moment). fate_of budget i (x ∷ h)) is
      ∙ found_or_not (stands budget i h) (happened (strikes i) h) (happened (is_applied budget i) h) (happened (is_found budget i) h) (happened (is_repaired budget i) h) (happened (is_named budget i) h) (happened (is_overwritten budget i) h)
  fate_met encounters.Named m is =
      ap (λ (x : Moment). fate_of budget i (x ∷ h)) is
      ∙ named_or_not (stands budget i h) (happened (strikes i) h) (happened (is_applied budget i) h) (happened (is_found budget i) h) (happened (is_repaired budget i) h) (happened (is_named budget i) h) (happened (is_overwritten budget i) h)
  fate_met (encounters.Written write turn) m is =
      ap (λ (x : Moment). fate_of budget i (x ∷ h)) is.1.0
      ∙ written_or_not write turn (is_whole is.0) (stands budget i h) (happened (strikes i) h) (happened (is_applied budget i) h) (happened (is_found budget i) h) (happened (is_repaired budget i) h) (happened (is_named budget i) h) (happened (is_overwritten budget i) h) is.1.1

  -- another flip that strikes changes nothing
  pub fate_other : (number bit : ℕ) → nat_eq number i ≡ false → fate_of budget i (Struck number bit ∷ h) ≡ fate_of budget i h
  fate_other number bit other =
      ap (λ (b : Bool). fate_when (b || happened (strikes i) h) ((b && nat_lt (length (standing budget h)) budget) || happened (is_applied budget i) h)
      (happened (is_found budget i) h) (happened (is_repaired budget i) h) (happened (is_named budget i) h) (happened (is_overwritten budget i) h)) other

-- a flip that struck is not late
pub not_late : (applied found repaired named overwritten : Bool) → fate_when true applied found repaired named overwritten ≡ fates.Late → ⊥
not_late false c d e f is = cc
not_late true true d e f is = cc
not_late true false true e f is = cc
not_late true false false true f is = cc
not_late true false false false true is = cc
not_late true false false false false is = cc

pub fate_struck : (budget i : ℕ) (h : List Moment) → has_struck i h ≡ true → fate_of budget i h ≡ fates.Late → ⊥
fate_struck budget i h is late =
    not_late (happened (is_applied budget i) h) (happened (is_found budget i) h) (happened (is_repaired budget i) h) (happened (is_named budget i) h) (happened (is_overwritten budget i) h)
    (ap (λ (b : Bool). fate_when b (happened (is_applied budget i) h) (happened (is_found budget i) h) (happened (is_repaired budget i) h) (happened (is_named budget i) h) (happened (is_overwritten budget i) h)) (sym is) ∙ late)

-- the same encounter twice is as once
pub earlier_twice : (first second : Fate) → earlier first (earlier first second) ≡ earlier first second
earlier_twice first second = cases (nat_lt (place_of first) (place_of second)) refl
  where
    cases : (b : Bool) → nat_lt (place_of first) (place_of second) ≡ b → earlier first (cond b first second) ≡ cond b first second
    cases true is = same (nat_lt (place_of first) (place_of first))
      where
        same : (b : Bool) → cond b first first ≡ first
        same true = refl
        same false = refl
    cases false is = ap (λ (b : Bool). cond b first second) is
