use Rattle.std.proofs.Common.{ℕ, ◌%◌, ◌^◌, Some, ap, ◌∙◌}
use Rattle.std.proofs.lemmas.Bool.{ltb-true}
use Rattle.parity_code.proofs.ParityLemmas.{byte_of-code}
use Rattle.ft_cells.proofs.byte9.Byte9Protect.unstruck.Goals as goal

pub returns : goal.returns
returns c = λ byte is same. ap (λ (b : ℕ). Some b) (ap (λ (n : ℕ). n % 2 ^ 8) same ∙ byte_of-code byte (ltb-true byte (2 ^ 8) is))
