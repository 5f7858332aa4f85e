use Rattle.std.proofs.Common.{◌≡◌, ℕ, List, [], length, take}
use Rattle.std.specs.Prelude.{vec_len}
use Rattle.std.specs.Vec.{vec_capacity}
use Rattle.core_parts.specs.Strikes.{arrays_of, IsFor, Came}
use Rattle.lf_model.specs.Ledger.FlipFate.{flip_fates}
use Rattle.lf_model.specs.Records.CoreRecord.{of_core_alone}
use Rattle.lf_model.specs.declared.flip.Flip.{Flip}
use Rattle.leon_core.proofs.finish.put_fates.Given as goal

abbrev pub invariant-loop-number : goal.invariant-loop-number
invariant-loop-number l = record {
  used : vec_len l.fates ≡ l.number;
  room : vec_capacity l.fates ≡ l.flips;
  fates : (script : List Flip) (core step : ℕ) → IsFor core script l.arrays → Came script core step (arrays_of l.arrays) → length script ≡ l.flips
      → l.fates.items ≡ take l.number (flip_fates script [] (of_core_alone core (arrays_of l.arrays)));
}
