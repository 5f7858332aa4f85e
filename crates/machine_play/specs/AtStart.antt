-- The machine before its first event.
use Rattle.std.specs.Prelude.{map}
use Rattle.std.specs.List.{range_with_len}
use Rattle.ahb_bus.specs.BusState.{BusState}
use Rattle.core_parts.specs.CoreValue.{start_value}
use Rattle.lf_model.specs.Bus.Walk.{walk_start}
use Rattle.lf_model.specs.declared.setup.Setup.{Setup}
use Rattle.machine_play.specs.MachineValue.{MachineValue}

-- each core at reset, a bus, and the scrubber before its first turn
abbrev pub machine_at_start : Setup → BusState → MachineValue
machine_at_start setup bus = record {
  cores = map (start_value setup) (range_with_len 0 setup.config.cores);
  bus = bus;
  walk = record { config = setup.config; walk = walk_start setup.config.scrub };
}
