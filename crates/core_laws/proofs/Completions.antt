-- What a record says of the completion of each operation, as operations retire and as stores are lost.
use Rattle.std.proofs.Common.{◌≡◌, ◌++◌, ℕ, nat_le, List, [], ◌∷◌, Some, None, length, map, refl, ap, arith, if◌then◌else◌}
use Rattle.std.specs.List.{zip}
use Rattle.core_laws.proofs.LostKinds.{load_stays}
use Rattle.core_laws.specs.SeenSoFar.{lost_from, losing}
use Rattle.lf_model.specs.Course.Progress.{Completion}
use Rattle.lf_model.specs.Records.CoreRecord.{completion_reported}
use Rattle.lf_model.specs.declared.trace.Op.{Op}

-- of these operations, and of what was seen as each of them retired
abbrev pub all_reported : List Op → List ℕ → List Completion
all_reported ops seen = map (λ (o : Op × ℕ). completion_reported o.0 o.1) (zip ops seen)

-- one operation more
pub reported_more : (ops : List Op) (seen : List ℕ) (o : Op) (s : ℕ) → length seen ≡ length ops → all_reported (ops ++ o ∷ []) (seen ++ s ∷ []) ≡ all_reported ops seen ++ completion_reported o s ∷ []
reported_more [] [] o s e = refl
reported_more [] (x ∷ seen) o s e = absurd (omega (arith, e))
reported_more (x ∷ ops) [] o s e = absurd (omega (arith, e))
reported_more (x ∷ ops) (y ∷ seen) o s e = ap (λ cs. completion_reported x y ∷ cs) (reported_more ops seen o s (omega (arith, e)))

lost_reported : (n : ℕ) (o : Op) (s : ℕ) → completion_reported (lost_from n o) s ≡ completion_reported o s
lost_reported n o s = ap (λ load. record { step = o.step; way = if load then Some o.way else None; seen = s }) (load_stays o.kind (nat_le n o.k))

-- a store that is lost retired as the others
pub reported_losing : (n : ℕ) (ops : List Op) (seen : List ℕ) → all_reported (losing n ops) seen ≡ all_reported ops seen
reported_losing n [] seen = refl
reported_losing n (o ∷ ops) [] = refl
reported_losing n (o ∷ ops) (s ∷ seen) = let first = lost_reported n o s in let later = reported_losing n ops seen in cc
