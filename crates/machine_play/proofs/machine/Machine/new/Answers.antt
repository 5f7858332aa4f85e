use Rattle.std.proofs.Common.{ap}
use Rattle.ahb_bus.specs.BusState.{BusState}
use Rattle.machine_play.proofs.Starting.{new_comes, new_sound}
use Rattle.machine_play.proofs.machine.Machine.new.Goals as goal

pub returns-clause-machine : goal.returns-clause-machine
returns-clause-machine c =
    let made = c.in_ok-bus.ensures.made in
    new_sound c.args.s.now (record { cores = c.in_ok-cores_at_reset.field-0.items; bus = c.in_ok-bus.bus; walk = c.new-2.result }) c.in_ok-cores_at_reset.ensures c.new-2.ensures
    (ap (λ (b : BusState). b.log) made) (ap (λ (b : BusState). b.transfers) made) c.requires (ap (λ (b : BusState). b.setup) made) c.in_ok-bus.ensures.ok (ap (λ (b : BusState). b.begun) made)

pub returns-clause-none : goal.returns-clause-none
returns-clause-none c =
    let made = c.in_ok-bus.ensures.made in
    new_comes c.args.s.now (record { cores = c.in_ok-cores_at_reset.field-0.items; bus = c.in_ok-bus.bus; walk = c.new-2.result }) c.in_ok-cores_at_reset.ensures c.new-2.ensures
    (ap (λ (b : BusState). b.log) made) (ap (λ (b : BusState). b.transfers) made)
