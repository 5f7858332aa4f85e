-- An atomic: what it asks, LDSTUB or SWAP of RAM that changes no text, with a register; and what it first leaves.
use Rattle.std.specs.Prelude.{ℕ, ◌+◌, ◌<◌, ◌==◌, ◌||◌, Bool, IsTrue, if◌then◌else◌}
use Rattle.core_parts.specs.CoreValue.{CoreValue}
use Rattle.core_parts.specs.IsCore.{CanStore}
use Rattle.core_parts.specs.declared.parts.Parts.{Parts}
use Rattle.lf_model.specs.Caches.Change.{snooped}
use Rattle.lf_model.specs.declared.bus.Pending.{Pending}
use Rattle.lf_model.specs.declared.setup.Setup.{Setup}
use Rattle.parity_cache.specs.CacheState.{with_cache}
use Rattle.core_turns.specs.AfterTurn.{exchanged}

pub record CanExchange (setup : Setup) (p : Pending) (rd : ℕ) : Type 0 where
  pub size : IsTrue (p.len == 1 || p.len == 4)
  pub store : CanStore setup p
  pub register : rd < 32

-- ---- the parts of the core after it

-- the core sees its own entry of the log, and drops the line
abbrev pub entry_seen : ℕ → Parts → Parts
entry_seen addr p = record p {
  arrays = record p.arrays { data_cache = with_cache (snooped p.arrays.data_cache.cache addr) p.arrays.data_cache };
  «record» = record p.«record» { seen = p.«record».seen + 1 };
}

-- ---- the core after it

-- it retires, having read this number, where its entry is in the log: its word was good
abbrev pub exchanged_if : Bool → Pending → ℕ → ℕ → CoreValue → CoreValue
exchanged_if enters p rd got v = if enters then exchanged p.addr p.len p.value rd got v else v
