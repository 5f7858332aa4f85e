use Rattle.std.proofs.Common.{◌/◌}
use Rattle.parity_cache.proofs.MaskLemmas.{masked}
use Rattle.parity_cache.proofs.cache.ParityCache.set_of.Goals as goal

pub returns : goal.returns
returns c = rw (← c.self.view_is) (masked (c.args.addr / 32) c.self.inside.shape.sets c.self.invariant.shape.sets)
