-- A file that is read piece by piece.
use Rattle.std.proofs.Common.{◌≡◌, ℕ, ◌+◌, ◌≤◌, Bool, true, false, List, ◌++◌, length, take, drop, arith, ap, length-append}
use Rattle.std.specs.Prelude.{Option, None, Some, IfSome, if◌then◌else◌}
use Rattle.std.proofs.Math.Seq.{take-add}
use Rattle.std.proofs.lemmas.List.{length-take}
use Rattle.lf_io.specs.Held.{ReadsAt}
use Rattle.lf_io.specs.Answers.{IsStart}

-- the bytes so far and those of one more read
pub start_more : (told : Option (List ℕ)) (bytes new buffer : List ℕ) (place n : ℕ) → place ≡ length bytes → n ≤ length buffer → new ≡ bytes ++ take n buffer → IfSome told (λ file. ReadsAt file place buffer n) → IsStart told bytes → IsStart told new
start_more None bytes new buffer place n here fits grown reads start = tt
start_more (Some file) bytes new buffer place n here fits grown reads start =
    let longer : length new ≡ length bytes + n = omega (arith, ap length grown, length-append bytes (take n buffer), length-take n buffer) in
    rw (longer, take-add) (rw (grown, reads.same, here) (ap (λ (b : List ℕ). b ++ take n (drop (length bytes) file)) start))

-- the same where those of the read may not have been added
pub start_after : (added : Bool) (told : Option (List ℕ)) (bytes new buffer : List ℕ) (place n : ℕ) → place ≡ length bytes → n ≤ length buffer → new ≡ (if added then bytes ++ take n buffer else bytes) → IfSome told (λ file. ReadsAt file place buffer n) → IsStart told bytes → IsStart told new
start_after true told bytes new buffer place n here fits grown reads start = start_more told bytes new buffer place n here fits grown reads start
start_after false told bytes new buffer place n here fits grown reads start = rw grown start
