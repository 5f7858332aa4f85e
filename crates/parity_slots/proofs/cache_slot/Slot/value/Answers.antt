use Rattle.std.proofs.Common.{◌≡◌, false, arith}
use Rattle.lf_model.specs.Caches.Slot.{has_struck_byte}
use Rattle.parity_slots.proofs.ValueLemmas.{reads_1, reads_2, reads_4, reads_8, is_one}
use Rattle.parity_slots.proofs.cache_slot.Slot.value.Goals as goal

pub overflow_add-result : goal.overflow_add-result
overflow_add-result c = omega (arith, c.from.ensures, c.from-in-8.ensures, c.value-word.ensures.is, c.value-word.ensures.fits, c.value.ensures.is, c.value.ensures.fits)

pub returns-in-8-clause-is : goal.returns-in-8-clause-is
returns-in-8-clause-is c =
    let inside = c.self.inside in
    let unstruck : has_struck_byte c.args.addr c.args.len inside.state.slot ≡ false = rw (← c.self.view_is) at c.requires.unstruck in
    rw (← c.self.view_is, c.from.ensures, c.from-in-8.ensures, c.value-word.ensures.is, c.value.ensures.is)
    (reads_8 inside.state inside.tag inside.line inside.used c.self.invariant c.args.addr c.args.len c.requires.access unstruck
    c.wanted_first-first.result c.wanted_first-first.ensures c.value-word.ensures.fits c.in-8.is c.value.ensures.fits)

pub returns-in-4-clause-is : goal.returns-in-4-clause-is
returns-in-4-clause-is c =
    let inside = c.self.inside in
    let unstruck : has_struck_byte c.args.addr c.args.len inside.state.slot ≡ false = rw (← c.self.view_is) at c.requires.unstruck in
    rw (← c.self.view_is, c.from-in-4.ensures, c.value-word.ensures.is)
    (reads_4 inside.state inside.tag inside.line inside.used c.self.invariant c.args.addr c.args.len c.requires.access unstruck
    c.wanted_first-first.result c.wanted_first-first.ensures c.value-word.ensures.fits c.in-4.is)

pub returns-in-2-clause-is : goal.returns-in-2-clause-is
returns-in-2-clause-is c =
    let inside = c.self.inside in
    let unstruck : has_struck_byte c.args.addr c.args.len inside.state.slot ≡ false = rw (← c.self.view_is) at c.requires.unstruck in
    rw (← c.self.view_is, c.from-in-2.ensures, c.value-word.ensures.is)
    (reads_2 inside.state inside.tag inside.line inside.used c.self.invariant c.args.addr c.args.len c.requires.access unstruck
    c.wanted_first-first.result c.wanted_first-first.ensures c.value-word.ensures.fits c.in-2.is)

pub returns-in_default-clause-is : goal.returns-in_default-clause-is
returns-in_default-clause-is c =
    let inside = c.self.inside in
    let unstruck : has_struck_byte c.args.addr c.args.len inside.state.slot ≡ false = rw (← c.self.view_is) at c.requires.unstruck in
    let one : c.args.len ≡ 1 = is_one c.args.addr c.args.len c.requires.access (λ e. absurd (omega (arith, e))) (λ e. absurd (omega (arith, e))) (λ e. absurd (omega (arith, e))) in
    rw (← c.self.view_is, c.from-in_default.ensures, c.value-word.ensures.is)
    (reads_1 inside.state inside.tag inside.line inside.used c.self.invariant c.args.addr c.args.len c.requires.access unstruck
    c.wanted_first-first.result c.wanted_first-first.ensures c.value-word.ensures.fits one)

pub returns-in-8-clause-fits : goal.returns-in-8-clause-fits
returns-in-8-clause-fits c = rw c.in-8.is (omega (arith, c.from.ensures, c.from-in-8.ensures, c.value-word.ensures.is, c.value-word.ensures.fits, c.value.ensures.is, c.value.ensures.fits))

pub returns-in-4-clause-fits : goal.returns-in-4-clause-fits
returns-in-4-clause-fits c = rw c.in-4.is (omega (arith, c.from-in-4.ensures, c.value-word.ensures.is, c.value-word.ensures.fits))

pub returns-in-2-clause-fits : goal.returns-in-2-clause-fits
returns-in-2-clause-fits c = rw c.in-2.is (omega (arith, c.from-in-2.ensures))

pub returns-in_default-clause-fits : goal.returns-in_default-clause-fits
returns-in_default-clause-fits c =
    let one : c.args.len ≡ 1 = is_one c.args.addr c.args.len c.requires.access (λ e. absurd (omega (arith, e))) (λ e. absurd (omega (arith, e))) (λ e. absurd (omega (arith, e))) in
    rw one (omega (arith, c.from-in_default.ensures))
