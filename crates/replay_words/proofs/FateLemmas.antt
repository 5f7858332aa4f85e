-- What became of a flip of the script, as its word has it.
use Rattle.std.proofs.Common.{◌≡◌, ℕ, ◌<◌, Bool, true, false, List, length, Option, Some, None, refl, sym, ap, ◌∙◌, subst, inl, inr, arith}
use Rattle.std.specs.Prelude.{slice_get, IfSome}
use Rattle.std.proofs.lemmas.Bool.{cases_Bool}
use Rattle.flip_ledger.proofs.FateRule.{fate_when}
use Rattle.flip_ledger.specs.Follows.{has_struck}
use Rattle.flip_ledger.specs.declared.plan.Strike.{Strike}
use Rattle.lf_model.specs.Bus.Words.{word_history}
use Rattle.lf_model.specs.Caches.Slot.{history_at}
use Rattle.lf_model.specs.Fates.{happened, is_applied, is_found, is_repaired, is_named, is_overwritten, fate_of}
use Rattle.lf_model.specs.Flips.{Moment, word_budget}
use Rattle.lf_model.specs.Ledger.FlipFate.{unit_history, budget_of}
use Rattle.lf_model.specs.Records.BusRecord.{no_arrays}
use Rattle.lf_model.specs.declared.flip.Flip.{Flip}
use Rattle.lf_model.specs.declared.flip.Flip.TheVariants.{Mem, Reg, Tag, Line}
use Rattle.lf_model.specs.declared.trace.Fate.{Fate}
use Rattle.lf_model.specs.declared.trace.Fate.TheVariants.{Late}
use Rattle.replay_units.specs.Units.{Units, IsToCome}
use Rattle.replay_words.specs.Places.{place_in, words_of}
use Rattle.replay_words.specs.Striking.{IsFor, IsPending}
use Rattle.replay_words.proofs.PlaceLemmas.{place_within, found_word, no_word}

-- a flip that struck no unit is late
late_where_none : (budget i : ℕ) (h : List Moment) → has_struck i h ≡ false → Late ≡ fate_of budget i h
late_where_none budget i h none =
    sym
    (ap (λ (struck : Bool). fate_when struck (happened (is_applied budget i) h) (happened (is_found budget i) h) (happened (is_repaired budget i) h) (happened (is_named budget i) h) (happened (is_overwritten budget i) h))
    none)

module _ (script : List Flip) (addrs : List ℕ) (units : Units) (plan : List Strike) (pending : IsPending script addrs units plan) (i : ℕ) (fate : Fate)
    (struck : (unit : ℕ) → unit < length units.histories → has_struck i (history_at unit units.histories) ≡ true → fate ≡ fate_of units.budget i (history_at unit units.histories))
    (late : IsToCome i units.histories → fate ≡ Late) where
  to_come : (flip : Flip) → slice_get script i ≡ Some flip → ((unit : ℕ) → IsFor addrs unit (Some flip) → has_struck i (history_at unit units.histories) ≡ false) → IsToCome i units.histories
  to_come flip this none unit lt = elim (cases_Bool (has_struck i (history_at unit units.histories))) [
    | inl now ↦ none unit (subst (IsFor addrs unit) this (pending.own i unit lt now))
    | inr not_it ↦ not_it
  ]

  of_word : (turn addr bit : ℕ) → slice_get script i ≡ Some (Mem turn addr bit) → (place : Option ℕ) → place ≡ place_in addrs addr → fate ≡ fate_of word_budget i (word_history (words_of addrs units.histories) addr)
  of_word turn addr bit this None is =
      rw (← no_word addrs units.histories addr pending.sound.long is refl)
      (late (to_come (Mem turn addr bit) this (λ unit at. let e : None ≡ Some unit = is ∙ at in absurd cc)))
  of_word turn addr bit this (Some p) is =
      rw (← found_word addrs units.histories addr pending.sound.long is p refl)
      (elim (cases_Bool (has_struck i (history_at p units.histories))) [
        | inl now ↦
            let within = place_within addrs addr p (sym is) in
            struck p (omega (arith, within, pending.sound.long)) now ∙ ap (λ (budget : ℕ). fate_of budget i (history_at p units.histories)) pending.sound.budget
        | inr none ↦
            late
            (to_come (Mem turn addr bit) this
            (λ unit at.
            let e : Some p ≡ Some unit = is ∙ at in
            let same : p ≡ unit = cc in
            ap (λ (u : ℕ). has_struck i (history_at u units.histories)) (sym same) ∙ none))
            ∙ late_where_none word_budget i (history_at p units.histories) none
      ])

  of_flip : (flip : Flip) → slice_get script i ≡ Some flip → fate ≡ fate_of (budget_of flip) i (unit_history (words_of addrs units.histories) no_arrays flip)
  of_flip (Mem turn addr bit) this = of_word turn addr bit this (place_in addrs addr) refl
  of_flip (Reg core step cell bit) this = late (to_come (Reg core step cell bit) this (λ unit at. absurd at))
  of_flip (Tag core step fetch way set byte bit) this = late (to_come (Tag core step fetch way set byte bit) this (λ unit at. absurd at))
  of_flip (Line core step fetch way set byte bit) this = late (to_come (Line core step fetch way set byte bit) this (λ unit at. absurd at))

  pub has_fate : IfSome (slice_get script i) (λ flip. fate ≡ fate_of (budget_of flip) i (unit_history (words_of addrs units.histories) no_arrays flip))
  has_fate = by (slice_get script i) refl
    where
      by : (got : Option Flip) → slice_get script i ≡ got → IfSome got (λ flip. fate ≡ fate_of (budget_of flip) i (unit_history (words_of addrs units.histories) no_arrays flip))
      by None is = tt
      by (Some flip) is = of_flip flip is
