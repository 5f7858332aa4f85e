use Rattle.std.proofs.Common.{◌≡◌, ◌-◌, ◌==◌, ℕ, not, slice_index}
use Rattle.std.specs.Prelude.{find}
use Rattle.std.specs.List.{range_with_len}
use Rattle.lf_model.specs.Course.Syndromes.{syndromes_of}
use Rattle.ledger_audit.proofs.ahb.first_unclean.Given as goal

abbrev pub invariant-loop-place : goal.invariant-loop-place
invariant-loop-place l = find (λ (j : ℕ). not (slice_index (syndromes_of l.transfer) j == 0)) (range_with_len 0 l.transfer.words)
    ≡ find (λ (j : ℕ). not (slice_index (syndromes_of l.transfer) j == 0)) (range_with_len l.place (l.transfer.words - l.place))
