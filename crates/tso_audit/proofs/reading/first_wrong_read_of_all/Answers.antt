use Rattle.std.proofs.Common.{◌<◌, ◌+◌, ℕ, length, subst, sym, arith, Option}
use Rattle.lf_model.specs.Places.{AtPlace, FailsFirst}
use Rattle.tso_audit.specs.LastPlaces.{start_in, ValueOf}
use Rattle.tso_audit.proofs.FirstWrongRead.{first_of_more, first_same, value_of_all}
use Rattle.tso_audit.proofs.reading.first_wrong_read_of_all.Goals as goal

pub loop-core-preserved : goal.loop-core-preserved
loop-core-preserved c =
    subst (λ (p : Option ℕ). FailsFirst (length c.args.order.now) (λ i. (d : ℕ) → d < c.loop-core.core + 1 → AtPlace (ValueOf d (start_in c.args.at_start.now)) c.args.order.now i) p)
    (sym c.earlier-first.ensures)
    (first_of_more (length c.args.order.now) c.loop-core.core (λ d i. AtPlace (ValueOf d (start_in c.args.at_start.now)) c.args.order.now i) c.loop-core.first c.in_ok-first_wrong_read.field-0
    c.loop-core.invariant c.in_ok-first_wrong_read.ensures)

pub returns : goal.returns
returns c =
    value_of_all c.args.order.now c.args.cores (start_in c.args.at_start.now) c.requires.cores c.loop-core.first
    (first_same (length c.args.order.now) (λ i. (d : ℕ) → d < c.loop-core.core → AtPlace (ValueOf d (start_in c.args.at_start.now)) c.args.order.now i)
    (λ i. (d : ℕ) → d < c.args.cores → AtPlace (ValueOf d (start_in c.args.at_start.now)) c.args.order.now i) (λ i low all d small. all d (omega (arith, small)))
    (λ i low all d small. all d (omega (arith, small))) c.loop-core.first c.loop-core.invariant)
