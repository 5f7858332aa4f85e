-- A file that was read whole.
use Rattle.std.proofs.Common.{ℕ, ◌≤◌, List, length, Option, Some, None, subst}
use Rattle.std.specs.Prelude.{IfSome}
use Rattle.lf_io.specs.Answers.{IsWhole}

-- what holds of the bytes that were read holds of the file, where it is told
pub whole_holds : (told : Option (List ℕ)) (limit : ℕ) (bytes : List ℕ) (P : List ℕ → Type 0) → IsWhole told limit bytes → P bytes → IfSome told (λ file. (length file ≤ limit) × P file)
whole_holds None limit bytes P whole holds = tt
whole_holds (Some file) limit bytes P whole holds = subst (λ (f : List ℕ). (length f ≤ limit) × P f) whole.whole (whole.within, holds)
