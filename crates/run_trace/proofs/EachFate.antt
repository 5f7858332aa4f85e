-- The fates of all flips, one by one.
use Rattle.std.proofs.Common.{◌≡◌, ◌∙◌, ◌+◌, ◌<◌, ◌++◌, ℕ, List, [], ◌∷◌, length, take, slice_index_or, ap, sym, arith, add-one}
use Rattle.std.proofs.lemmas.List.{take_more, length-take-le}
use Rattle.lf_model.specs.declared.flip.Flip.{Flip}
use Rattle.lf_model.specs.declared.record.CoreRecord.{CoreRecord}
use Rattle.lf_model.specs.declared.trace.Fate.{Fate}
use Rattle.run_trace.specs.Fates.{fate_recorded, fates_recorded}

module _ (records : List CoreRecord) (bus : List Fate) where
  fates-append : (n m : ℕ) (xs : List Flip) (flip : Flip) → m ≡ n + length xs
      → fates_recorded records bus n (xs ++ flip ∷ []) ≡ fates_recorded records bus n xs ++ fate_recorded records bus m flip ∷ []
  fates-append n m [] flip e = ap (λ i. fate_recorded records bus i flip ∷ []) (omega (arith, e))
  fates-append n m (x ∷ xs) flip e = ap (λ (fs : List Fate). fate_recorded records bus n x ∷ fs) (fates-append (n + 1) m xs flip (omega (arith, e, add-one (length xs))))

  -- the fate of the flip after the first i of a script
  pub fates_more : (script : List Flip) (i : ℕ) (d : Flip) (is : Fate) → i < length script → is ≡ fate_recorded records bus i (slice_index_or script i d)
      → fates_recorded records bus 0 (take i script) ++ is ∷ [] ≡ fates_recorded records bus 0 (take (i + 1) script)
  fates_more script i d is within e =
      ap (λ (f : Fate). fates_recorded records bus 0 (take i script) ++ f ∷ []) e
      ∙ (sym (fates-append 0 i (take i script) (slice_index_or script i d) (omega (arith, length-take-le i script (omega (arith, within)))))
      ∙ ap (fates_recorded records bus 0) (sym (take_more script i d within)))
