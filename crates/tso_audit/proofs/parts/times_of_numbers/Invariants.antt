use Rattle.std.proofs.Common.{◌≡◌, ◌<◌, ℕ, take, length, count_by, get_or}
use Rattle.lf_model.specs.Once.{is_number}
use Rattle.tso_audit.proofs.parts.times_of_numbers.Given as goal

abbrev pub invariant-loop-op : goal.invariant-loop-op
invariant-loop-op l = record { size : length l.times.items ≡ l.n; counted : (k : ℕ) → k < l.n → get_or l.times.items k 0 ≡ count_by (is_number l.c k) (take l.op-index l.order) }
