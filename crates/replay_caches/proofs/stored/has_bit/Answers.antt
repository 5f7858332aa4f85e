use Rattle.std.proofs.Common.{◌==◌, ℕ, sym, ap}
use Rattle.std.proofs.lemmas.Nat.Bits.{bit_at_above}
use Rattle.replay_caches.proofs.stored.has_bit.Goals as goal

pub returns-then-bit-ge8 : goal.returns-then-bit-ge8
returns-then-bit-ge8 c = ap (λ (n : ℕ). n == 1) (sym (bit_at_above c.args.byte 8 c.args.bit c.ranges.byte.fits c.if-bit-ge8.true))
