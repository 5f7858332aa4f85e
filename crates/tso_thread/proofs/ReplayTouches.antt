-- The operations of the trace stay the same whatever an instruction does.
use Rattle.std.proofs.Common.{◌≡◌, ◌∙◌, List, [], ◌∷◌, refl, ap}
use Rattle.std.specs.Prelude.{fold}
use Rattle.lf_model.specs.declared.touch.Touch.{Touch}
use Rattle.lf_model.specs.declared.touch.Touch.TheVariants.{StartStep, LookFetch, ReadCell, WriteCell, LookData, StoreData, FlushCaches, SnoopData, FillFetch, FillData}
use Rattle.tso_thread.specs.ReplayState.{Answering, replay_touch}

touch_ops : (s : Answering) (t : Touch) → (replay_touch s t).ops ≡ s.ops
touch_ops s (LookData addr len) = refl
touch_ops s (StoreData addr len value) = refl
touch_ops s (StartStep step) = refl
touch_ops s (LookFetch addr) = refl
touch_ops s (ReadCell cell) = refl
touch_ops s (WriteCell cell) = refl
touch_ops s FlushCaches = refl
touch_ops s (SnoopData addr) = refl
touch_ops s (FillFetch addr valid) = refl
touch_ops s (FillData addr valid) = refl

touches_ops : (s : Answering) (ts : List Touch) → (fold replay_touch s ts).ops ≡ s.ops
touches_ops s [] = refl
touches_ops s (t ∷ ts) = touches_ops (replay_touch s t) ts ∙ touch_ops s t

pub ops_kept : (s t : Answering) (ts : List Touch) → t ≡ fold replay_touch s ts → t.ops ≡ s.ops
ops_kept s t ts is = ap (λ (x : Answering). x.ops) is ∙ touches_ops s ts
