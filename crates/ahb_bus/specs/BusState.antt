-- The bus as its users see it.
use Rattle.std.specs.Prelude.{ℕ, ◌+◌, ◌-◌, ◌*◌, ◌/◌, ◌%◌, ◌^◌, ◌&&◌, nat_lt, Bool, false, List, [], ◌∷◌, ◌++◌, length, Result, Ok, Err, if◌then◌else◌}
use Rattle.bus_memory.specs.MemoryState.{MemoryState, words_met, is_bad_at, value_at, stored, merged_in}
use Rattle.lf_model.specs.Bus.Status.{AhbStatus, status_by}
use Rattle.lf_model.specs.Bus.Words.{word_of}
use Rattle.lf_model.specs.Records.BusMemory.{with_answer}
use Rattle.lf_model.specs.declared.bus.Bad.{Bad}
use Rattle.lf_model.specs.declared.bus.Entry.{Entry}
use Rattle.lf_model.specs.declared.bus.OpKind.TheVariants as ops
use Rattle.lf_model.specs.declared.bus.Pending.{Pending}
use Rattle.lf_model.specs.declared.bus.Transfer.{Transfer}
use Rattle.lf_model.specs.declared.bus.TurnKind.{TurnKind}
use Rattle.lf_model.specs.declared.bus.TurnKind.TheVariants as kinds
use Rattle.lf_model.specs.declared.bus.Why.{Why}
use Rattle.lf_model.specs.declared.bus.Why.TheVariants as whys
use Rattle.lf_model.specs.declared.config.Config.{Config}
use Rattle.lf_model.specs.declared.setup.Setup.{Setup}
use Rattle.ram_words.specs.declared.answer.Got.{Got}
use Rattle.ahb_bus.specs.declared.record.Who.{Who}

pub record BusState : Type 0 where
  pub setup : Setup
  -- the stores and atomics that reached memory
  pub log : List Entry
  -- the transfers so far, with what memory answered
  pub transfers : List Transfer
  -- a turn is begun: its flips struck, and its transfer is still to come
  pub begun : Bool
  -- of each word of RAM, from the first address on, the number last written
  pub values : List ℕ
  -- AHBSTAT
  pub status : AhbStatus

-- ---- shares

-- the transfers that all masters may make: each core its steps and eight more, the scrubber its turns
abbrev pub most_transfers : Config → ℕ
most_transfers config = config.cores * (config.steps + 8) + config.scrub_turns

-- the stores and atomics that all cores may make
abbrev pub most_entries : Config → ℕ
most_entries config = config.cores * config.steps

-- ---- memory behind it

abbrev pub memory_of : BusState → MemoryState
memory_of bus = record {
  script = bus.setup.flips;
  transfers = bus.transfers;
  begun = bus.begun;
  values = bus.values;
  room = most_transfers bus.setup.config;
}

-- ---- turns

-- the transfer that a master asks for, before memory answers
abbrev pub asked_by : BusState → Who → TurnKind → Why → ℕ → ℕ → ℕ → Transfer
asked_by bus who kind why addr way len = record {
  syn = 0;
  turn = length bus.transfers;
  master = who.master;
  step = who.step;
  addr = addr;
  kind = kind;
  why = why;
  way = way;
  words = 0;
  len = len;
}

-- as memory answers it
abbrev pub answered : BusState → Transfer → Transfer
answered bus asked = with_answer (words_met (memory_of bus)) asked

-- the bus after a turn: its transfer is made, with these entries of the log, memory has these numbers, and AHBSTAT has noted a word
-- that was read not clean
abbrev pub after_turn : Transfer → List Entry → List ℕ → BusState → BusState
after_turn asked entries values bus = record bus {
  log = bus.log ++ entries;
  transfers = bus.transfers ++ answered bus asked ∷ [];
  begun = false;
  values = values;
  status = status_by bus.status (answered bus asked);
}

-- the word that an address lies in reads bad
abbrev pub meets_bad : BusState → ℕ → Bool
meets_bad bus addr = is_bad_at (memory_of bus) (word_of addr)

-- a store is lost where it has to read its word first, being of a byte or half, and the word is bad
abbrev pub is_lost : BusState → ℕ → ℕ → Bool
is_lost bus addr len = nat_lt len 4 && meets_bad bus addr

-- the entry of a store
abbrev pub store_entry : Who → Pending → Entry
store_entry who p = record { got = 0; put = p.value; core = who.master; k = p.k; addr = p.addr; kind = ops.Store; len = p.len }

-- the bytes of a word from an address on, as a number
abbrev pub part_of : ℕ → ℕ → ℕ → ℕ
part_of word addr len = word / 2 ^ (8 * (4 - addr % 4 - len)) % 2 ^ (8 * len)

-- the word that an atomic read, 0 where it was bad
abbrev pub word_of_answer : Result Got Bad → ℕ
word_of_answer (Ok got) = got.value
word_of_answer (Err bad) = 0

-- the entry of an atomic, which reads this word
abbrev pub atomic_entry : Who → Pending → ℕ → Entry
atomic_entry who p word =
    record { got = part_of word p.addr p.len; put = p.value; core = who.master; k = p.k; addr = p.addr; kind = ops.Atomic; len = p.len }

-- the bus after a store
abbrev pub stored_by : Who → Why → Pending → BusState → BusState
stored_by who why p bus =
    after_turn (asked_by bus who kinds.Store why p.addr 0 p.len) (if is_lost bus p.addr p.len then [] else store_entry who p ∷ [])
    (stored p.addr p.len p.value (memory_of bus)).values bus

-- and after an atomic
abbrev pub exchanged_by : Who → Pending → BusState → BusState
exchanged_by who p bus =
    after_turn (asked_by bus who kinds.Atomic whys.None p.addr 0 p.len)
    (if meets_bad bus p.addr then [] else atomic_entry who p (value_at (memory_of bus) (word_of p.addr)) ∷ [])
    (merged_in p.addr p.len p.value (memory_of bus)).values bus
