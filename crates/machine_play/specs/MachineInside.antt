-- How the machine is kept, and what its users see of it.
use Rattle.machine_play.specs.MachineValue.{MachineValue}
use Rattle.machine_play.specs.declared.machine.Machine.TheInside.{Inside}

abbrev pub seen : Inside → MachineValue
seen m = record { cores = m.cores.items; bus = m.bus; walk = m.scrubber }
