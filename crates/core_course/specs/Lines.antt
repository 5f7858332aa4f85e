-- What the lines of a core's caches hold: a byte of a resident word that is not struck is, in the data cache, what the entries of
-- the log that the core has seen and its own waiting stores left in memory; in the fetch cache it is the image's.
use Rattle.std.specs.Prelude.{ℕ, ◌++◌, List}
use Rattle.core_parts.specs.CoreValue.{CoreValue}
use Rattle.core_parts.specs.PortState.{PortState}
use Rattle.lf_model.specs.Start.{initial_byte}
use Rattle.lf_model.specs.Value.{stored}
use Rattle.lf_model.specs.declared.bus.Entry.{Entry}
use Rattle.parity_cache.specs.Resident.{Holds, IsWellFormed}

-- the caches of a core that sees these entries, over these bytes at the start
pub record PortLines (initial : ℕ → ℕ) (entries : List Entry) (s : PortState) : Type 0 where
  pub data_formed : IsWellFormed s.data_cache
  pub fetch_formed : IsWellFormed s.fetch_cache
  pub data_lines : Holds (λ a. stored a entries (initial a)) s.data_cache
  pub fetch_lines : Holds initial s.fetch_cache

-- a core that has seen these entries of the log, and whose own stores wait after them
abbrev pub LinesAre : CoreValue → List Entry → List Entry → Type 0
LinesAre v log buffer = PortLines (initial_byte v.setup.image) (log ++ buffer) v.ports
