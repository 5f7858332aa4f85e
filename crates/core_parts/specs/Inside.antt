-- What the parts of a core show an instruction: their state, what it reads of them, and how much they can still record.
use Rattle.std.specs.Prelude.{ℕ, ◌≡◌, ◌-◌, [], List, map, length, min}
use Rattle.std.specs.Vec.{vec_capacity}
use Rattle.core_parts.specs.CoreValue.{CoreValue}
use Rattle.core_parts.specs.PortState.{PortState}
use Rattle.core_parts.specs.RecordState.{reset_record}
use Rattle.core_parts.specs.Reset.{reset_registers}
use Rattle.core_parts.specs.Work.{WorkState, waiting_in}
use Rattle.core_parts.specs.declared.parts.Parts.{Parts}
use Rattle.core_parts.specs.declared.phase.Phase.{Phase}
use Rattle.lf_model.specs.Operation.{made}
use Rattle.lf_model.specs.Run.{site_of}
use Rattle.lf_model.specs.Step.{Seen}
use Rattle.lf_model.specs.declared.control.Arch.{Arch}
use Rattle.lf_model.specs.declared.setup.Setup.{Setup}
use Rattle.lf_model.specs.declared.trace.Word2.{Word2}
use Rattle.parity_cache.specs.CacheState.{CacheState, reset_cache}

-- the arrays, and the stores that wait
abbrev pub ports_of : Parts → PortState
ports_of p = record {
  cells = p.arrays.registers.histories;
  fetch_cache = p.arrays.fetch_cache;
  data_cache = p.arrays.data_cache;
  waiting = map waiting_in p.buffer.waiting;
  depth = p.buffer.depth;
}

-- all that an instruction works on but the values of registers and the output
abbrev pub state_in : Parts → WorkState
state_in p = record { setup = p.site; ports = ports_of p; pending = p.buffer.waiting; made = p.record; flips = p.arrays.registers.flips }

abbrev pub seen_in : Parts → Seen
seen_in p = record {
  site = site_of p.site p.record.core;
  cells = p.arrays.registers.values;
  out = p.out.items;
  ops = map made p.record.ops;
}

-- how often the slots of a cache can still be used
abbrev pub uses_left : CacheState → ℕ
uses_left c = 4294967295 - c.cache.uses

-- the operations, the bytes of output, and the uses of the data cache, for which there is still room
abbrev pub room_in : Parts → ℕ
room_in p = min (p.record.room - length p.record.ops) (min (vec_capacity p.out - length p.out.items) (uses_left p.arrays.data_cache))

-- a core as its users see it
abbrev pub value_of : Arch → Parts → ℕ → List Word2 → Phase → CoreValue
value_of arch p quiet named phase = record {
  setup = p.site;
  arch = arch;
  values = p.arrays.registers.values;
  out = p.out.items;
  ports = ports_of p;
  ops = p.record.ops;
  seen_by = p.record.seen_by;
  steps = p.record.steps;
  quiet = quiet;
  log_seen = p.record.seen;
  turns_seen = p.record.turns;
  named = named;
  phase = phase;
}

-- the parts of a core at reset, with room for what its steps may record
pub record StartsAt (setup : Setup) (core : ℕ) (p : Parts) : Type 0 where
  pub registers : p.arrays.registers ≡ reset_registers core (length setup.flips)
  pub fetch_cache : p.arrays.fetch_cache ≡ reset_cache setup.config.fetch_cache (length setup.flips)
  pub data_cache : p.arrays.data_cache ≡ reset_cache setup.config.load_cache (length setup.flips)
  pub buffer : p.buffer ≡ record { waiting = []; depth = setup.config.buffer }
  pub made : p.record ≡ reset_record core setup.config.steps
  pub out : p.out.items ≡ []
  pub out_room : vec_capacity p.out ≡ setup.config.steps
  pub site : p.site ≡ setup
