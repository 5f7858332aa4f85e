-- The parts of a core that has caught up with the log.
use Rattle.std.specs.Prelude.{List, length, map, fold, drop}
use Rattle.core_parts.specs.declared.parts.Parts.{Parts}
use Rattle.lf_model.specs.Caches.Change.{snooped}
use Rattle.lf_model.specs.declared.bus.Entry.{Entry}
use Rattle.parity_cache.specs.CacheState.{with_cache}
use Rattle.snoop.specs.Snooping.{address_of}

-- its data cache snooped the addresses of the entries that it had not seen, in order
abbrev pub caught_up_parts : List Entry → Parts → Parts
caught_up_parts log p = record p {
  arrays = record p.arrays {
    data_cache = with_cache (fold snooped p.arrays.data_cache.cache (map address_of (drop p.«record».seen log))) p.arrays.data_cache;
  };
  «record» = record p.«record» { seen = length log };
}
