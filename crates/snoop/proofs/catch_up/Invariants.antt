use Rattle.std.proofs.Common.{◌≡◌, ℕ, ◌-◌, map, take, drop}
use Rattle.std.specs.Prelude.{fold}
use Rattle.std.specs.List.{AllByRecursion}
use Rattle.lf_model.specs.Caches.Change.{snooped}
use Rattle.order_log.specs.LogState.{IsLogEntry}
use Rattle.parity_cache.specs.CacheState.{with_cache, IsCleanSet}
use Rattle.parity_cache.specs.Keeps.{Keeps}
use Rattle.snoop.specs.Snooping.{address_of}
use Rattle.snoop.proofs.catch_up.Given as goal

abbrev pub invariant-loop-i : goal.invariant-loop-i
invariant-loop-i l = record {
  snooped : l.cache ≡ with_cache (fold snooped l.initial.cache.cache (map address_of (take (l.i - l.seen) (drop l.seen l.log.entries)))) l.initial.cache;
  entries : AllByRecursion IsLogEntry (take (l.i - l.seen) (drop l.seen l.log.entries));
  clean : (addr : ℕ) → IsCleanSet addr l.initial.cache.cache → IsCleanSet addr l.cache.cache;
  keeps : Keeps 0 l.initial.cache l.cache;
}
