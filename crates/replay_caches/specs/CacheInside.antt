-- How a cache is kept.
use Rattle.std.specs.Prelude.{◌≡◌, ◌*◌, ◌≤◌, length}
use Rattle.replay_caches.specs.CacheState.{CacheState}
use Rattle.replay_caches.specs.declared.cache.Cache.TheInside.{Inside}

abbrev pub seen : Inside → CacheState
seen c = record {
  cache = record { shape = c.shape; slots = c.slots.slots; uses = c.uses; tag_errors = c.tag_errors; byte_errors = c.byte_errors };
  flips = c.slots.flips;
}

pub record IsKept (c : Inside) : Type 0 where
  pub some_way : 1 ≤ c.shape.ways
  pub few_ways : c.shape.ways ≤ 4
  pub some_set : 1 ≤ c.shape.sets
  pub few_sets : c.shape.sets ≤ 256
  pub slots : length c.slots.slots ≡ c.shape.ways * c.shape.sets
  pub tag_errors : c.tag_errors ≤ 3
  pub byte_errors : c.byte_errors ≤ 3
