-- Names at the same place of their lists are the same.
use Rattle.std.proofs.Common.{◌≡◌, ◌∙◌, ℕ, zero, suc, refl, ap, sym, true}
use Rattle.std.proofs.lemmas.Bool.{eqb-true}
use Rattle.lf_model.specs.Names.{kind_place, why_place, fate_place, same_kind, same_why, same_fate}
use Rattle.lf_model.specs.declared.bus.TurnKind.{TurnKind}
use Rattle.lf_model.specs.declared.bus.TurnKind.TheVariants as kinds
use Rattle.lf_model.specs.declared.bus.Why.{Why}
use Rattle.lf_model.specs.declared.bus.Why.TheVariants as whys
use Rattle.lf_model.specs.declared.trace.Fate.{Fate}
use Rattle.lf_model.specs.declared.trace.Fate.TheVariants as fates

kind_at : ℕ → TurnKind
kind_at zero = kinds.Fetch
kind_at (suc zero) = kinds.Load
kind_at (suc (suc zero)) = kinds.Store
kind_at (suc (suc (suc zero))) = kinds.Atomic
kind_at (suc (suc (suc (suc zero)))) = kinds.Snoop
kind_at (suc (suc (suc (suc (suc zero))))) = kinds.Look
kind_at (suc (suc (suc (suc (suc (suc n)))))) = kinds.Fix

kind_again : (a : TurnKind) → kind_at (kind_place a) ≡ a
unfolding kind_at
kind_again kinds.Fetch = refl
kind_again kinds.Load = refl
kind_again kinds.Store = refl
kind_again kinds.Atomic = refl
kind_again kinds.Snoop = refl
kind_again kinds.Look = refl
kind_again kinds.Fix = refl

pub kinds_same : (a b : TurnKind) → same_kind a b ≡ true → a ≡ b
kinds_same a b h = sym (kind_again a) ∙ (ap kind_at (eqb-true (kind_place a) (kind_place b) h) ∙ kind_again b)

why_at : ℕ → Why
why_at zero = whys.None
why_at (suc zero) = whys.Absent
why_at (suc (suc zero)) = whys.Word
why_at (suc (suc (suc zero))) = whys.Tag
why_at (suc (suc (suc (suc zero)))) = whys.Byte
why_at (suc (suc (suc (suc (suc zero))))) = whys.Full
why_at (suc (suc (suc (suc (suc (suc zero)))))) = whys.Miss
why_at (suc (suc (suc (suc (suc (suc (suc zero))))))) = whys.Stbar
why_at (suc (suc (suc (suc (suc (suc (suc (suc zero)))))))) = whys.Atomic
why_at (suc (suc (suc (suc (suc (suc (suc (suc (suc zero))))))))) = whys.Flush
why_at (suc (suc (suc (suc (suc (suc (suc (suc (suc (suc zero)))))))))) = whys.Window
why_at (suc (suc (suc (suc (suc (suc (suc (suc (suc (suc (suc zero))))))))))) = whys.End
why_at (suc (suc (suc (suc (suc (suc (suc (suc (suc (suc (suc (suc n)))))))))))) = whys.Sched

why_again : (a : Why) → why_at (why_place a) ≡ a
unfolding why_at
why_again whys.None = refl
why_again whys.Absent = refl
why_again whys.Word = refl
why_again whys.Tag = refl
why_again whys.Byte = refl
why_again whys.Full = refl
why_again whys.Miss = refl
why_again whys.Stbar = refl
why_again whys.Atomic = refl
why_again whys.Flush = refl
why_again whys.Window = refl
why_again whys.End = refl
why_again whys.Sched = refl

pub whys_same : (a b : Why) → same_why a b ≡ true → a ≡ b
whys_same a b h = sym (why_again a) ∙ (ap why_at (eqb-true (why_place a) (why_place b) h) ∙ why_again b)

fate_at : ℕ → Fate
fate_at zero = fates.Late
fate_at (suc zero) = fates.Declined
fate_at (suc (suc zero)) = fates.Repaired
fate_at (suc (suc (suc zero))) = fates.Discarded
fate_at (suc (suc (suc (suc zero)))) = fates.Stopped
fate_at (suc (suc (suc (suc (suc zero))))) = fates.Overwritten
fate_at (suc (suc (suc (suc (suc (suc n)))))) = fates.Dormant

fate_again : (a : Fate) → fate_at (fate_place a) ≡ a
unfolding fate_at
fate_again fates.Late = refl
fate_again fates.Declined = refl
fate_again fates.Repaired = refl
fate_again fates.Discarded = refl
fate_again fates.Stopped = refl
fate_again fates.Overwritten = refl
fate_again fates.Dormant = refl

pub fates_same : (a b : Fate) → same_fate a b ≡ true → a ≡ b
fates_same a b h = sym (fate_again a) ∙ (ap fate_at (eqb-true (fate_place a) (fate_place b) h) ∙ fate_again b)
