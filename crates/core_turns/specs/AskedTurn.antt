-- The transfer that a core asks the bus for once it has caught up, and what the core comes to by what memory answers.
use Rattle.std.specs.Prelude.{ℕ, ◌+◌, ◌*◌, ◌/◌, ◌%◌, List, [], ◌∷◌, find, slice_index, Option, Some, None, Result, Ok, Err}
use Rattle.ahb_bus.specs.BusState.{BusState, asked_by, answered}
use Rattle.ahb_bus.specs.declared.record.Who.{Who}
use Rattle.core_parts.specs.CoreValue.{CoreValue}
use Rattle.core_parts.specs.PortState.{Waiting}
use Rattle.lf_model.specs.Bus.Words.{word_of}
use Rattle.lf_model.specs.Caches.Cache.{Cache, way_of}
use Rattle.lf_model.specs.Caches.Change.{victim}
use Rattle.lf_model.specs.Caches.Slot.{line_of, wanted_words}
use Rattle.lf_model.specs.Course.Syndromes.{syndromes_of, met_bad}
use Rattle.lf_model.specs.declared.bus.Bad.{Bad}
use Rattle.lf_model.specs.declared.bus.Transfer.{Transfer}
use Rattle.lf_model.specs.declared.bus.TurnKind.{TurnKind}
use Rattle.lf_model.specs.declared.bus.TurnKind.TheVariants as kinds
use Rattle.lf_model.specs.declared.bus.Why.{Why}
use Rattle.lf_model.specs.declared.bus.Why.TheVariants as whys
use Rattle.lf_model.specs.declared.step.Did.{Did}
use Rattle.lf_model.specs.declared.step.Did.TheVariants.{Retired, Turned}
use Rattle.lf_model.specs.declared.step.Turn.{Turn}
use Rattle.lf_model.specs.declared.step.Turn.TheVariants.{Fetch, Load, Atomic, Drain, Snoop}

-- ---- the transfer

-- the core, in the step after those that it made
abbrev pub who_of : CoreValue → Who
who_of v = record { master = v.arch.core; step = v.steps }

-- the way that a fill of this line takes
abbrev pub way_for : ℕ → Cache → ℕ
way_for line cache = way_of (victim line cache) cache

-- a fill of this line, of the fetch cache or the data cache
abbrev pub asked_fill : BusState → Who → TurnKind → Why → ℕ → Cache → Transfer
asked_fill bus who kind why line cache = asked_by bus who kind why line (way_for line cache) 0

-- the drain of the first of these stores
abbrev pub asked_drain : BusState → Who → Why → List Waiting → Transfer
asked_drain bus who why [] = asked_by bus who kinds.Store why 0 0 0
asked_drain bus who why (p ∷ ps) = asked_by bus who kinds.Store why p.addr 0 p.len

abbrev pub asked_for : CoreValue → BusState → Turn → Transfer
asked_for v bus (Fetch line why) = asked_fill bus (who_of v) kinds.Fetch why line v.ports.fetch_cache.cache
asked_for v bus (Load addr len why) = asked_fill bus (who_of v) kinds.Load why (line_of addr) v.ports.data_cache.cache
asked_for v bus (Atomic addr len new rd) = asked_by bus (who_of v) kinds.Atomic whys.None addr 0 len
asked_for v bus (Drain why) = asked_drain bus (who_of v) why v.ports.waiting
asked_for v bus Snoop = asked_by bus (who_of v) kinds.Snoop whys.Window 0 0 0

-- as memory answers it
abbrev pub transfer_of : CoreValue → BusState → Turn → Transfer
transfer_of v bus turn = answered bus (asked_for v bus turn)

-- ---- what the core comes to

-- the words that the turn wants, by their numbers among those that it reads, the lowest first; pc: of the instruction
abbrev pub wants : ℕ → Turn → List ℕ
wants pc (Fetch line why) = pc / 4 % 8 ∷ []
wants pc (Load addr len why) = wanted_words addr len
wants pc (Atomic addr len new rd) = 0 ∷ []
wants pc (Drain why) = 0 ∷ []
wants pc Snoop = []

-- an atomic retires its instruction
abbrev pub made_good : Turn → Did
made_good (Fetch line why) = Turned
made_good (Load addr len why) = Turned
made_good (Atomic addr len new rd) = Retired
made_good (Drain why) = Turned
made_good Snoop = Turned

-- word j of a transfer, which is bad
abbrev pub bad_word : Transfer → ℕ → Bad
bad_word t j = record { addr = word_of t.addr + 4 * j; syn = slice_index (syndromes_of t) j }

abbrev pub comes_to : Turn → Transfer → Option ℕ → Result Did Bad
comes_to turn t None = Ok (made_good turn)
comes_to turn t (Some j) = Err (bad_word t j)

-- the lowest bad word of those that it wants, if there is one
abbrev pub turn_answer : ℕ → Turn → Transfer → Result Did Bad
turn_answer pc turn t = comes_to turn t (find (met_bad t) (wants pc turn))
