use Rattle.replay_caches.specs.declared.part.Part.TheVariants.{Tag, Line}
use Rattle.replay_caches.proofs.cache.Cache.fate.Goals as goal

pub returns-clause-tag : goal.returns-clause-tag
returns-clause-tag c = rw (← c.self.view_is) (λ slot byte struck. c.fate.ensures.struck slot byte Tag struck)

pub returns-clause-line : goal.returns-clause-line
returns-clause-line c = rw (← c.self.view_is) (λ slot byte struck. c.fate.ensures.struck slot byte Line struck)
