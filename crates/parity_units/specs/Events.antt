-- What befalls several bytes of an array at once.
use Rattle.std.specs.Prelude.{◌≡◌, ℕ, ◌+◌, ◌<◌, nat_lt, false, List, length, slice_index_or, if◌then◌else◌}
use Rattle.lf_model.specs.Caches.Slot.{written, checked_byte}
use Rattle.lf_model.specs.Flips.{Moment, is_struck_byte}
use Rattle.lf_model.specs.Flips.How.{Whole}
use Rattle.lf_model.specs.Flips.Moment.{Written, Found}
use Rattle.parity_units.specs.declared.byte.ParityByte.{ParityByte}
use Rattle.parity_units.specs.declared.events.Event.{Event}
use Rattle.parity_units.specs.declared.events.Event.TheVariants.{Write, Check}

-- the moment that an event is for a byte in which a flip stands
abbrev pub moment_of : Event → Moment
moment_of Write = Written Whole
moment_of Check = Found

-- what becomes of a byte's history
abbrev pub befallen : Event → List Moment → List Moment
befallen Write h = written h
befallen Check h = checked_byte h

-- the histories of an array, where this happens to so many units from the first on
abbrev pub over : ℕ → ℕ → (List Moment → List Moment) → (ℕ → List Moment) → ℕ → List Moment
over first count happen h unit = if nat_lt unit first then h unit else if nat_lt unit (first + count) then happen (h unit) else h unit

-- byte number i
abbrev pub no_byte : ParityByte
no_byte = record { bits = 0; struck = false }

abbrev pub byte_at : List ParityByte → ℕ → ParityByte
byte_at bytes i = slice_index_or bytes i no_byte

-- these bytes are units of an array, from the first on: those in which a flip stands are struck by their histories
abbrev pub AreUnits : ℕ → List ParityByte → (ℕ → List Moment) → Type 0
AreUnits first bytes h = (i : ℕ) → i < length bytes → (byte_at bytes i).struck ≡ is_struck_byte (h (first + i))
