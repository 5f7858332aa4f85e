-- A flip that did not strike a unit neither stands in it nor met with anything there.
use Rattle.std.proofs.Common.{◌≡◌, ℕ, Bool, true, false, ◌&&◌, ◌||◌, not, cond, nat_eq, nat_lt, List, [], ◌∷◌, length, map, refl, sym, ap, ◌∙◌, eq-eqb}
use Rattle.std.specs.List.{list_any}
use Rattle.lf_model.specs.Fates.{happened, is_applied, stands, is_found, is_named, is_whole, is_repaired, is_overwritten, fate_of}
use Rattle.lf_model.specs.Flips.{Moment, Standing, standing}
use Rattle.lf_model.specs.Flips.Moment.{Struck, Written, Found, Named}
use Rattle.lf_model.specs.declared.trace.Fate.TheVariants.{Declined, Dormant}
use Rattle.flip_ledger.specs.Follows.{has_struck, number_of}
use Rattle.flip_ledger.proofs.FateRule.{fate_when}

-- both of two tests fail
or_left : (a b : Bool) → (a || b) ≡ false → a ≡ false
or_left true b none = none
or_left false b none = refl

or_right : (a b : Bool) → (a || b) ≡ false → b ≡ false
or_right true b none = cc
or_right false b none = none

and_false : (a : Bool) → (a && false) ≡ false
and_false true = refl
and_false false = refl

-- a flip that is not the one that strikes stands as before
pub stands_other : (budget i number bit : ℕ) (flips : List Standing) (below : Bool) → nat_eq number i ≡ false
    → list_any (λ (flip : Standing). nat_eq flip.number i) (cond below (record { number = number; bit = bit } ∷ flips) flips) ≡ list_any (λ (flip : Standing). nat_eq flip.number i) flips
stands_other budget i number bit flips true other = ap (λ (b : Bool). b || list_any (λ (flip : Standing). nat_eq flip.number i) flips) other
stands_other budget i number bit flips false other = refl

module _ (budget i : ℕ) where
  pub absent : (h : List Moment) → has_struck i h ≡ false → stands budget i h ≡ false
  absent [] none = refl
  absent (Struck number bit ∷ h) none =
      stands_other budget i number bit (standing budget h) (nat_lt (length (standing budget h)) budget) (or_left (nat_eq number i) (has_struck i h) none)
      ∙ absent h (or_right (nat_eq number i) (has_struck i h) none)
  absent (Written how ∷ h) none = refl
  absent (Found ∷ h) none = absent h none
  absent (Named ∷ h) none = absent h none

  -- so a flip that stands struck
  pub struck_stands : (h : List Moment) → stands budget i h ≡ true → has_struck i h ≡ true
  struck_stands h is = cases (has_struck i h) refl
    where
      cases : (b : Bool) → has_struck i h ≡ b → b ≡ true
      cases true e = refl
      cases false e = sym (absent h e) ∙ is

  -- nothing happened to it
  not_applied : (h : List Moment) → has_struck i h ≡ false → happened (is_applied budget i) h ≡ false
  not_applied [] none = refl
  not_applied (Struck number bit ∷ h) none =
      ap (λ (b : Bool). (b && nat_lt (length (standing budget h)) budget) || happened (is_applied budget i) h) (or_left (nat_eq number i) (has_struck i h) none)
      ∙ not_applied h (or_right (nat_eq number i) (has_struck i h) none)
  not_applied (Written how ∷ h) none = not_applied h none
  not_applied (Found ∷ h) none = not_applied h none
  not_applied (Named ∷ h) none = not_applied h none

  not_found : (h : List Moment) → has_struck i h ≡ false → happened (is_found budget i) h ≡ false
  not_found [] none = refl
  not_found (Struck number bit ∷ h) none = not_found h (or_right (nat_eq number i) (has_struck i h) none)
  not_found (Written how ∷ h) none = not_found h none
  not_found (Found ∷ h) none = ap (λ (b : Bool). b || happened (is_found budget i) h) (absent h none) ∙ not_found h none
  not_found (Named ∷ h) none = not_found h none

  not_named : (h : List Moment) → has_struck i h ≡ false → happened (is_named budget i) h ≡ false
  not_named [] none = refl
  not_named (Struck number bit ∷ h) none = not_named h (or_right (nat_eq number i) (has_struck i h) none)
  not_named (Written how ∷ h) none = not_named h none
  not_named (Found ∷ h) none = not_named h none
  not_named (Named ∷ h) none = ap (λ (b : Bool). b || happened (is_named budget i) h) (absent h none) ∙ not_named h none

  not_repaired : (h : List Moment) → has_struck i h ≡ false → happened (is_repaired budget i) h ≡ false
  not_repaired [] none = refl
  not_repaired (Struck number bit ∷ h) none = not_repaired h (or_right (nat_eq number i) (has_struck i h) none)
  not_repaired (Written how ∷ h) none =
      ap (λ (b : Bool). (not (is_whole how) && b) || happened (is_repaired budget i) h) (absent h none)
      ∙ ap (λ (b : Bool). b || happened (is_repaired budget i) h) (and_false (not (is_whole how)))
      ∙ not_repaired h none
  not_repaired (Found ∷ h) none = not_repaired h none
  not_repaired (Named ∷ h) none = not_repaired h none

  not_overwritten : (h : List Moment) → has_struck i h ≡ false → happened (is_overwritten budget i) h ≡ false
  not_overwritten [] none = refl
  not_overwritten (Struck number bit ∷ h) none = not_overwritten h (or_right (nat_eq number i) (has_struck i h) none)
  not_overwritten (Written how ∷ h) none =
      ap (λ (b : Bool). (is_whole how && b) || happened (is_overwritten budget i) h) (absent h none)
      ∙ ap (λ (b : Bool). b || happened (is_overwritten budget i) h) (and_false (is_whole how))
      ∙ not_overwritten h none
  not_overwritten (Found ∷ h) none = not_overwritten h none
  not_overwritten (Named ∷ h) none = not_overwritten h none

  -- the fate of a flip as it strikes
  pub fate_first : (h : List Moment) (bit : ℕ) → has_struck i h ≡ false
      → fate_of budget i (Struck i bit ∷ h) ≡ cond (nat_lt (length (standing budget h)) budget) Dormant Declined
  fate_first h bit none =
      let below : Bool = nat_lt (length (standing budget h)) budget in
      ap (λ (b : Bool). fate_when (b || has_struck i h) ((b && below) || happened (is_applied budget i) h) (happened (is_found budget i) h) (happened (is_repaired budget i) h) (happened (is_named budget i) h) (happened (is_overwritten budget i) h)) (same i)
      ∙ ap (λ (b : Bool). fate_when true (below || b) (happened (is_found budget i) h) (happened (is_repaired budget i) h) (happened (is_named budget i) h) (happened (is_overwritten budget i) h)) (not_applied h none)
      ∙ ap (λ (b : Bool). fate_when true (below || false) b (happened (is_repaired budget i) h) (happened (is_named budget i) h) (happened (is_overwritten budget i) h)) (not_found h none)
      ∙ ap (λ (b : Bool). fate_when true (below || false) false b (happened (is_named budget i) h) (happened (is_overwritten budget i) h)) (not_repaired h none)
      ∙ ap (λ (b : Bool). fate_when true (below || false) false false b (happened (is_overwritten budget i) h)) (not_named h none)
      ∙ ap (λ (b : Bool). fate_when true (below || false) false false false b) (not_overwritten h none)
      ∙ last below
    where
      same : (n : ℕ) → nat_eq n n ≡ true
      same n = eq-eqb n n refl

      last : (b : Bool) → fate_when true (b || false) false false false false ≡ cond b Dormant Declined
      last true = refl
      last false = refl

-- the numbers of the flips that stand
pub any_number : (i : ℕ) (flips : List Standing) → list_any (λ number. nat_eq number i) (map number_of flips) ≡ list_any (λ (flip : Standing). nat_eq flip.number i) flips
any_number i [] = refl
any_number i (flip ∷ flips) = ap (λ (b : Bool). nat_eq flip.number i || b) (any_number i flips)
