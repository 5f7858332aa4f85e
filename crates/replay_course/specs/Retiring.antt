-- What an instruction that retires does to the arrays of its core, by its footprint.
use Rattle.std.specs.Prelude.{Option, Some, None}
use Rattle.lf_model.specs.Caches.Change.{updated}
use Rattle.lf_model.specs.Course.Arrays.{Arrays}
use Rattle.replay_effects.specs.declared.footprint.Access.{Access}
use Rattle.replay_effects.specs.declared.footprint.AccessKind.{AccessKind}
use Rattle.replay_effects.specs.declared.footprint.AccessKind.TheVariants.{Load, Store, Atomic}

abbrev pub store_of_kind : Access → Arrays → AccessKind → Arrays
store_of_kind x a Load = a
store_of_kind x a Store = record a { data_cache = updated x.addr x.len a.data_cache }
store_of_kind x a Atomic = a

-- a store updates the data cache
abbrev pub store_of : Option Access → Arrays → Arrays
store_of None a = a
store_of (Some x) a = store_of_kind x a x.kind
