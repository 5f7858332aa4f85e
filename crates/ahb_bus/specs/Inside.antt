-- What the bus keeps, and what of it its users see.
use Rattle.std.specs.Prelude.{◌≡◌}
use Rattle.ahb_bus.specs.BusOk.{BusOk}
use Rattle.ahb_bus.specs.BusState.{BusState, most_transfers, most_entries}
use Rattle.ahb_bus.specs.declared.bus.Bus.TheInside.{Inside}

abbrev pub seen : Inside → BusState
seen bus = record {
  setup = bus.setup.value;
  log = bus.log.entries;
  transfers = bus.memory.transfers;
  begun = bus.memory.begun;
  values = bus.memory.values;
  status = bus.status;
}

pub record IsBus (bus : Inside) : Type 0 where
  pub script : bus.memory.script ≡ bus.setup.value.flips
  -- room is reserved for all shares
  pub room : bus.memory.room ≡ most_transfers bus.setup.value.config
  pub log_room : bus.log.room ≡ most_entries bus.setup.value.config
  pub ok : BusOk (seen bus)
