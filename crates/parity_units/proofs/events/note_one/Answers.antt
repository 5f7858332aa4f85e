use Rattle.std.proofs.Common.{refl, subst}
use Rattle.flip_ledger.specs.Follows.{Gains}
use Rattle.lf_model.specs.Flips.How.{Whole}
use Rattle.parity_units.specs.Events.{moment_of}
use Rattle.parity_units.specs.declared.events.Event.{Event}
use Rattle.parity_units.proofs.events.note_one.Goals as goal

pub returns-in-Write-clause-follows : goal.returns-in-Write-clause-follows
returns-in-Write-clause-follows c = λ h new gains follows.
    c.written.ensures.follows 1 Whole h new refl (subst (λ (event : Event). Gains c.args.unit (moment_of event) h new) c.in-Write.is gains) follows
