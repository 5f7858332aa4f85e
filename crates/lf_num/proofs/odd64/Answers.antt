use Rattle.std.proofs.Common.{◌%◌, ℕ, ◌∙◌, ap}
use Rattle.lf_num.proofs.Sums.{from_bool-odd}
use Rattle.lf_num.proofs.odd64.Goals as goal

pub returns : goal.returns
returns c = record { parity = from_bool-odd c.ones.result ∙ ap (λ (x : ℕ). x % 2) c.ones.ensures.count }
