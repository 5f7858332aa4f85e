-- An error trap that named a unit in the past: what is different at the end.
use Rattle.std.proofs.Common.{◌≡◌, ℕ, Bool, true, false, ◌&&◌, ◌||◌, not, nat_eq, nat_lt, List, [], ◌∷◌, ◌++◌, length, refl, ap, ◌∙◌}
use Rattle.std.specs.List.{list_any}
use Rattle.lf_model.specs.Fates.{happened, strikes, is_applied, stands, is_found, is_named, is_whole, is_repaired, is_overwritten, fate_of}
use Rattle.lf_model.specs.Flips.{Moment, Standing, struck, standing}
use Rattle.lf_model.specs.Flips.Moment.{Struck, Written, Found, Named}
use Rattle.flip_ledger.specs.Follows.{has_struck}
use Rattle.flip_ledger.specs.declared.record.Encounter.TheVariants as encounter
use Rattle.flip_ledger.proofs.FateRule.{fate_when, meets, named_or_not}

module _ (budget i : ℕ) (past : List Moment) where
  -- the same flips stand
  pub standing_named : (since : List Moment) → standing budget (since ++ Named ∷ past) ≡ standing budget (since ++ past)
  standing_named [] = refl
  standing_named (Struck number bit ∷ since) = ap (struck budget number bit) (standing_named since)
  standing_named (Written how ∷ since) = refl
  standing_named (Found ∷ since) = standing_named since
  standing_named (Named ∷ since) = standing_named since

  pub struck_named : (since : List Moment) → has_struck i (since ++ Named ∷ past) ≡ has_struck i (since ++ past)
  struck_named [] = refl
  struck_named (Struck number bit ∷ since) = ap (λ (b : Bool). nat_eq number i || b) (struck_named since)
  struck_named (Written how ∷ since) = struck_named since
  struck_named (Found ∷ since) = struck_named since
  struck_named (Named ∷ since) = struck_named since

  pub stands_named : (since : List Moment) → stands budget i (since ++ Named ∷ past) ≡ stands budget i (since ++ past)
  stands_named since = ap (list_any (λ (flip : Standing). nat_eq flip.number i)) (standing_named since)

  -- what struck in the past has struck
  pub struck_since : (since : List Moment) → has_struck i past ≡ true → has_struck i (since ++ past) ≡ true
  struck_since [] is = is
  struck_since (m ∷ since) is = ap (λ (b : Bool). strikes i m (since ++ past) || b) (struck_since since is) ∙ or_true (strikes i m (since ++ past))
    where
      or_true : (b : Bool) → (b || true) ≡ true
      or_true true = refl
      or_true false = refl

  applied_named : (since : List Moment) → happened (is_applied budget i) (since ++ Named ∷ past) ≡ happened (is_applied budget i) (since ++ past)
  applied_named [] = refl
  applied_named (Struck number bit ∷ since) =
      ap (λ (flips : List Standing). (nat_eq number i && nat_lt (length flips) budget) || happened (is_applied budget i) (since ++ Named ∷ past)) (standing_named since)
      ∙ ap (λ (b : Bool). (nat_eq number i && nat_lt (length (standing budget (since ++ past))) budget) || b) (applied_named since)
  applied_named (Written how ∷ since) = applied_named since
  applied_named (Found ∷ since) = applied_named since
  applied_named (Named ∷ since) = applied_named since

  found_named : (since : List Moment) → happened (is_found budget i) (since ++ Named ∷ past) ≡ happened (is_found budget i) (since ++ past)
  found_named [] = refl
  found_named (Struck number bit ∷ since) = found_named since
  found_named (Written how ∷ since) = found_named since
  found_named (Found ∷ since) =
      ap (λ (b : Bool). b || happened (is_found budget i) (since ++ Named ∷ past)) (stands_named since)
      ∙ ap (λ (b : Bool). stands budget i (since ++ past) || b) (found_named since)
  found_named (Named ∷ since) = found_named since

  repaired_named : (since : List Moment) → happened (is_repaired budget i) (since ++ Named ∷ past) ≡ happened (is_repaired budget i) (since ++ past)
  repaired_named [] = refl
  repaired_named (Struck number bit ∷ since) = repaired_named since
  repaired_named (Written how ∷ since) =
      ap (λ (b : Bool). (not (is_whole how) && b) || happened (is_repaired budget i) (since ++ Named ∷ past)) (stands_named since)
      ∙ ap (λ (b : Bool). (not (is_whole how) && stands budget i (since ++ past)) || b) (repaired_named since)
  repaired_named (Found ∷ since) = repaired_named since
  repaired_named (Named ∷ since) = repaired_named since

  overwritten_named : (since : List Moment) → happened (is_overwritten budget i) (since ++ Named ∷ past) ≡ happened (is_overwritten budget i) (since ++ past)
  overwritten_named [] = refl
  overwritten_named (Struck number bit ∷ since) = overwritten_named since
  overwritten_named (Written how ∷ since) =
      ap (λ (b : Bool). (is_whole how && b) || happened (is_overwritten budget i) (since ++ Named ∷ past)) (stands_named since)
      ∙ ap (λ (b : Bool). (is_whole how && stands budget i (since ++ past)) || b) (overwritten_named since)
  overwritten_named (Found ∷ since) = overwritten_named since
  overwritten_named (Named ∷ since) = overwritten_named since

  -- it was named, if it stood then
  named_named : (since : List Moment) → happened (is_named budget i) (since ++ Named ∷ past) ≡ (stands budget i past || happened (is_named budget i) (since ++ past))
  named_named [] = refl
  named_named (Struck number bit ∷ since) = named_named since
  named_named (Written how ∷ since) = named_named since
  named_named (Found ∷ since) = named_named since
  named_named (Named ∷ since) =
      ap (λ (b : Bool). b || happened (is_named budget i) (since ++ Named ∷ past)) (stands_named since)
      ∙ ap (λ (b : Bool). stands budget i (since ++ past) || b) (named_named since)
      ∙ turned_round (stands budget i (since ++ past)) (stands budget i past) (happened (is_named budget i) (since ++ past))
    where
      turned_round : (a b c : Bool) → (a || (b || c)) ≡ (b || (a || c))
      turned_round true true c = refl
      turned_round true false c = refl
      turned_round false b c = refl

  pub fate_named : (since : List Moment) → fate_of budget i (since ++ Named ∷ past) ≡ meets encounter.Named (stands budget i past) (fate_of budget i (since ++ past))
  fate_named since =
      let h : List Moment = since ++ past in
      let new : List Moment = since ++ Named ∷ past in
      ap (λ (b : Bool). fate_when b (happened (is_applied budget i) new) (happened (is_found budget i) new) (happened (is_repaired budget i) new) (happened (is_named budget i) new) (happened (is_overwritten budget i) new)) (struck_named since)
      ∙ ap (λ (b : Bool). fate_when (has_struck i h) b (happened (is_found budget i) new) (happened (is_repaired budget i) new) (happened (is_named budget i) new) (happened (is_overwritten budget i) new)) (applied_named since)
      ∙ ap (λ (b : Bool). fate_when (has_struck i h) (happened (is_applied budget i) h) b (happened (is_repaired budget i) new) (happened (is_named budget i) new) (happened (is_overwritten budget i) new)) (found_named since)
      ∙ ap (λ (b : Bool). fate_when (has_struck i h) (happened (is_applied budget i) h) (happened (is_found budget i) h) b (happened (is_named budget i) new) (happened (is_overwritten budget i) new)) (repaired_named since)
      ∙ ap (λ (b : Bool). fate_when (has_struck i h) (happened (is_applied budget i) h) (happened (is_found budget i) h) (happened (is_repaired budget i) h) (happened (is_named budget i) new) b) (overwritten_named since)
      ∙ ap (λ (b : Bool). fate_when (has_struck i h) (happened (is_applied budget i) h) (happened (is_found budget i) h) (happened (is_repaired budget i) h) b (happened (is_overwritten budget i) h)) (named_named since)
      ∙ named_or_not (stands budget i past) (has_struck i h) (happened (is_applied budget i) h) (happened (is_found budget i) h) (happened (is_repaired budget i) h) (happened (is_named budget i) h) (happened (is_overwritten budget i) h)
