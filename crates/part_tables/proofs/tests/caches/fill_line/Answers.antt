use Rattle.std.proofs.Common.{◌∙◌, ap, arith}
use Rattle.parity_cache.specs.CacheState.{CacheState}
use Rattle.part_tables.proofs.tests.caches.fill_line.Goals as goal

pub returns-clause-shape : goal.returns-clause-shape
returns-clause-shape c = c.fill.ensures.keeps.shape ∙ (c.look.ensures.keeps.shape ∙ ap (λ (s : CacheState). s.cache.shape) c.requires)

pub returns-clause-uses : goal.returns-clause-uses
returns-clause-uses c =
    let filled = c.fill.ensures.keeps.uses_at_most in
    let looked = c.look.ensures.keeps.uses_at_most in
    let none = ap (λ (s : CacheState). s.cache.uses) c.requires in
    omega (arith, filled, looked, none)
