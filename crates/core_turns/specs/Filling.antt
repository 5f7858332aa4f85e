-- A fill of a line: its transfer, and what it leaves of the bus and of the core's parts.
use Rattle.std.specs.Prelude.{ℕ, []}
use Rattle.ahb_bus.specs.BusState.{BusState, answered, after_turn}
use Rattle.ahb_bus.specs.declared.record.Who.{Who}
use Rattle.core_parts.specs.declared.parts.Parts.{Parts}
use Rattle.lf_model.specs.Caches.Slot.{line_of}
use Rattle.lf_model.specs.declared.bus.Transfer.{Transfer}
use Rattle.lf_model.specs.declared.bus.TurnKind.{TurnKind}
use Rattle.lf_model.specs.declared.bus.TurnKind.TheVariants.{Fetch, Load}
use Rattle.lf_model.specs.declared.bus.Why.{Why}
use Rattle.lf_model.specs.declared.image.Image.{Image}
use Rattle.parity_cache.specs.CacheState.{CacheState, filled_cache}
use Rattle.core_turns.specs.AfterTurn.{text_valid, data_valid}
use Rattle.core_turns.specs.AskedTurn.{asked_fill}
use Rattle.core_turns.specs.MakesTurn.{words_at}

-- its transfer, as memory answers it
abbrev pub fill_of : BusState → Who → TurnKind → Why → ℕ → CacheState → Transfer
fill_of bus who kind why line c = answered bus (asked_fill bus who kind why line c.cache)

-- the bus after it: no entry, and no word of memory changes
abbrev pub bus_filled : BusState → Who → TurnKind → Why → ℕ → CacheState → BusState
bus_filled bus who kind why line c = after_turn (asked_fill bus who kind why line c.cache) [] bus.values bus

-- ---- the caches

abbrev pub text_filled : BusState → Who → Why → ℕ → Image → CacheState → CacheState
text_filled bus who why line image c = filled_cache line (text_valid image (fill_of bus who Fetch why line c)) (words_at bus line) c

abbrev pub data_filled : BusState → Who → Why → ℕ → CacheState → CacheState
data_filled bus who why line c = filled_cache line (data_valid (fill_of bus who Load why line c)) (words_at bus line) c

-- ---- the parts of the core

-- the line of the instruction at this address is filled into its fetch cache
abbrev pub fetch_filled : BusState → Who → Why → ℕ → Parts → Parts
fetch_filled bus who why pc p = record p {
  arrays = record p.arrays { fetch_cache = text_filled bus who why (line_of pc) p.site.image p.arrays.fetch_cache };
}

-- the line of a load at this address into its data cache
abbrev pub load_filled : BusState → Who → Why → ℕ → Parts → Parts
load_filled bus who why addr p = record p { arrays = record p.arrays { data_cache = data_filled bus who why (line_of addr) p.arrays.data_cache } }
