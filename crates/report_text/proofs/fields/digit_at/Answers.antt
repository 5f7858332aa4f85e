use Rattle.std.proofs.Common.{ℕ, ◌/◌, ◌%◌, ap, arith}
use Rattle.report_text.proofs.Digits.{power_of_16, past_16}
use Rattle.report_text.proofs.fields.digit_at.Goals as goal

pub returns-then-place-lt16 : goal.returns-then-place-lt16
returns-then-place-lt16 c = record { digit = ap (λ (p : ℕ). c.args.n / p % 16) (power_of_16 c.args.place) }

pub returns-else-place-lt16 : goal.returns-else-place-lt16
returns-else-place-lt16 c = record { digit = past_16 c.args.n c.args.place (omega arith) (omega arith) }
