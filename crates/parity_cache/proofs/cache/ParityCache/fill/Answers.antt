use Rattle.std.proofs.Common.{◌≡◌, ℕ, ◌+◌, ap, ap₂, ◌∙◌, arith}
use Rattle.lf_model.specs.Caches.Change.{victim}
use Rattle.parity_cache.specs.CacheState.{filled_in}
use Rattle.parity_cache.proofs.SetLemmas.{filled_is}
use Rattle.parity_cache.proofs.VictimLemmas.{victim_way, victim_among}
use Rattle.parity_cache.proofs.cache.ParityCache.fill.Goals as goal

pub overflow_add-i : goal.overflow_add-i
overflow_add-i c = omega (arith, c.first_slot.ensures.fits, c.from.ensures)

pub fill_slot-requires-clause-slot : goal.fill_slot-requires-clause-slot
fill_slot-requires-clause-slot c =
    let some = c.first_slot.ensures.some in
    let is = victim_way c.args.line c.args.self.now.cache some in
    let among = victim_among c.args.line c.args.self.now.cache some in
    omega (arith, c.first_slot.ensures.first, c.first_slot.ensures.within, c.from.ensures, c.requires.way, is, among.1)

pub returns-clause-filled : goal.returns-clause-filled
returns-clause-filled c =
    let i : c.first_slot.result + c.from.result ≡ victim c.args.line c.args.self.now.cache =
    ap₂ (λ (a b : ℕ). a + b) c.first_slot.ensures.first (c.from.ensures ∙ c.requires.way) ∙ victim_way c.args.line c.args.self.now.cache c.first_slot.ensures.some in
    c.fill_slot.ensures.filled
    ∙ ap (λ (i : ℕ). filled_in i c.args.line c.args.valid c.args.words.now c.args.self.now) i
    ∙ filled_is c.args.line c.args.valid c.args.words.now c.args.self.now
