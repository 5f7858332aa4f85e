use Rattle.std.proofs.Common.{◌≡◌, ◌≤◌, ◌<◌, ℕ, true, map, drop}
use Rattle.std.specs.List.{list_all}
use Rattle.lf_model.specs.Operation.{is_lost}
use Rattle.ledger_audit.proofs.Along.{before_at}
use Rattle.ledger_audit.specs.Account.{completions_of, entry_seen}
use Rattle.ledger_audit.specs.FirstPlaces.{SameOrderAt}
use Rattle.ledger_audit.specs.Sorting.{Tells}
use Rattle.ledger_audit.proofs.order.first_other_operation.Given as goal

abbrev pub invariant-loop-place : goal.invariant-loop-place
invariant-loop-place l = record {
  entries : l.entries ≡ (before_at l.order l.place).entries;
  few : l.entries ≤ l.place;
  tells : Tells l.so_far (before_at l.order l.place);
  ends : l.so_far.ends_lost ≡ true → list_all is_lost (drop l.place l.order) ≡ true;
  held : (j : ℕ) → j < l.place → SameOrderAt (map entry_seen l.log) (map completions_of l.cores) l.order j;
}
