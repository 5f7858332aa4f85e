-- What is kept of memory over the transfers, and what of it its users see.
use Rattle.std.specs.Prelude.{◌≡◌, ◌/◌, ◌^◌, ◌<◌, ◌≤◌, length, vec_capacity}
use Rattle.bus_memory.specs.Kept.{IsKept}
use Rattle.bus_memory.specs.MemoryState.{MemoryState}
use Rattle.bus_memory.specs.declared.memory.BusMemory.TheInside.{Inside}

abbrev pub seen : Inside → MemoryState
seen m = record {
  script = m.script.value;
  transfers = m.transfers.items;
  begun = m.begun;
  values = m.memory.values;
  room = vec_capacity m.transfers;
}

pub record IsBusMemory (m : Inside) : Type 0 where
  pub kept : IsKept m.script.value m.transfers.items m.begun m.memory m.plan
  -- transfers can be counted
  pub room : vec_capacity m.transfers < 2 ^ 32
  pub within : length m.transfers.items ≤ vec_capacity m.transfers
  pub flips : length m.script.value ≤ 2 ^ 32
  -- the array is RAM, and each flip of the script has a fate
  pub ram : m.ram / 4 ≡ length m.memory.histories
  pub fates : length m.fates.items ≡ length m.script.value
