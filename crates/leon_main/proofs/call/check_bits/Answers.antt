use Rattle.std.proofs.Common.{ℕ, ◌≡◌, ◌<◌, ◌^◌, ◌/◌, arith, ap, ◌∙◌}
use Rattle.edac_code.specs.Code.{code, check_bits}
use Rattle.leon_main.proofs.call.check_bits.Goals as goal

above : (word : ℕ) → word < 2 ^ 32 → code word / 2 ^ 32 ≡ check_bits word
unfolding code
above word fits = omega arith

pub returns : goal.returns
returns c = ap (λ (n : ℕ). n / 2 ^ 32) c.encode39.ensures.code ∙ above c.args.word (omega arith)
