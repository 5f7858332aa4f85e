use Rattle.std.proofs.Common.{refl, sym}
use Rattle.core_parts.specs.Inside.{state_in, seen_in}
use Rattle.core_parts.specs.declared.phase.Phase.TheVariants.{Begun}
use Rattle.core_steps.proofs.KeepsCore.{core_kept}
use Rattle.core_steps.proofs.Tried.{tries_of}
use Rattle.core_steps.proofs.step.attempt.Goals as goal

pub returns-clause-tries : goal.returns-clause-tries
returns-clause-tries c named =
    let p = c.args.parts.now in
    let q = c.try_instruction-did.new.parts in
    tries_of c.try_instruction-did.result c.args.arch.now c.try_instruction-did.new.arch (seen_in p) (seen_in q) (state_in p) (state_in q) c.args.quiet named Begun
    c.try_instruction-did.ensures.works (sym c.requires.core.core) refl refl

pub returns-clause-core : goal.returns-clause-core
returns-clause-core c =
    core_kept c.args.quiet c.try_instruction-did.result c.args.arch.now c.try_instruction-did.new.arch c.args.parts.now c.try_instruction-did.new.parts
    c.try_instruction-did.ensures.works c.try_instruction-did.ensures.counts c.requires.core c.fits.ensures.fit
