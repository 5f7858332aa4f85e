-- The walk of the scrubber after one more transfer, and the first transfer that is not its next.
use Rattle.std.proofs.Common.{◌≡◌, ◌∙◌, ℕ, ◌+◌, ◌<◌, List, length, take, get_or, ap, sym, subst, refl, inl, inr, Option, Some, None, IfSome, arith}
use Rattle.std.proofs.lemmas.List.{take_more}
use Rattle.std.proofs.lemmas.List.Sums.{fold_push}
use Rattle.std.proofs.lemmas.Option.{slice_get-get_or}
use Rattle.lf_model.specs.Bus.Walk.{scrubber, walk_start, walk_by, walk_after, WalkAt}
use Rattle.lf_model.specs.Places.{FailsFirst}
use Rattle.lf_model.specs.declared.bus.Transfer.{Transfer as Turn}
use Rattle.lf_model.specs.declared.bus.TurnKind.TheVariants.{Fetch}
use Rattle.lf_model.specs.declared.bus.Why.TheVariants as whys
use Rattle.lf_model.specs.declared.image.Range.{Range}
use Rattle.lf_model.specs.declared.place.Place.TheVariants.{Transfer, Final}
use Rattle.lf_model.specs.declared.setup.Setup.{Setup}
use Rattle.lf_model.specs.declared.trace.Trace.{Trace}
use Rattle.ledger_audit.specs.FirstPlaces.{WalkFailsFirst}
use Rattle.ledger_audit.specs.WalkState.{reported_at}

-- what stands for a transfer that isn't there
abbrev pub no_transfer : Turn
no_transfer = record { syn = 0; turn = 0; master = 0; step = 0; addr = 0; kind = Fetch; why = whys.None; way = 0; words = 0; len = 0 }

module _ (range : Range) (ts : List Turn) (i : ℕ) (d : Turn) (within : i < length ts) where
  pub walk_more : walk_by range (walk_after range (take i ts)) (get_or ts i d) ≡ walk_after range (take (i + 1) ts)
  walk_more = sym (ap (walk_after range) (take_more ts i d within) ∙ fold_push (walk_by range) (walk_start range) (take i ts) (get_or ts i d))

  pub is_next : ((get_or ts i d).master ≡ scrubber → reported_at i (walk_after range (take i ts)) (get_or ts i d) ≡ get_or ts i d) → WalkAt range ts i
  is_next h = subst (λ o. IfSome o (λ t. t.master ≡ scrubber → reported_at i (walk_after range (take i ts)) t ≡ t)) (sym (slice_get-get_or ts i d within)) h

  pub must_be_next : WalkAt range ts i → (get_or ts i d).master ≡ scrubber → reported_at i (walk_after range (take i ts)) (get_or ts i d) ≡ get_or ts i d
  must_be_next h = subst (λ o. IfSome o (λ t. t.master ≡ scrubber → reported_at i (walk_after range (take i ts)) t ≡ t)) (slice_get-get_or ts i d within) h

-- ---- the first place

module _ (setup : Setup) (trace : Trace) (ts : List Turn) (same : ts ≡ trace.transfers) where
  abbrev range : Range
  range = setup.config.scrub

  moved : (place : Option ℕ) → FailsFirst (length ts) (WalkAt range ts) place → FailsFirst (length trace.transfers) (WalkAt range trace.transfers) place
  moved place h = subst (λ (us : List Turn). FailsFirst (length us) (WalkAt range us) place) same h

  turns_same : (walk_after range ts).turns ≡ (walk_after range trace.transfers).turns
  turns_same = ap (λ (us : List Turn). (walk_after range us).turns) same

  pub off_walk : (i : ℕ) → FailsFirst (length ts) (WalkAt range ts) (Some i) → WalkFailsFirst setup trace (Some (Transfer i))
  off_walk i h = inr (i, moved (Some i) h, refl)

  pub whole_walk : FailsFirst (length ts) (WalkAt range ts) None → (walk_after range ts).turns ≡ setup.config.scrub_turns → WalkFailsFirst setup trace None
  whole_walk h turns = inl (moved None h, inl ((λ i low. sym turns_same ∙ turns), refl))

  pub other_turns : FailsFirst (length ts) (WalkAt range ts) None → ((walk_after range ts).turns ≡ setup.config.scrub_turns → ⊥) → WalkFailsFirst setup trace (Some Final)
  other_turns h fails =
      inl (moved None h, inr (0, (omega arith, (λ e. fails (turns_same ∙ e)), (λ j low. absurd (omega (arith, low)))), refl))
