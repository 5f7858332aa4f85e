-- A core after its turn on the bus: it catches up with the log, the transfer changes it by its kind, and the turn ends.
use Rattle.std.specs.Prelude.{ℕ, ◌+◌, ◌*◌, ◌&&◌, not, nat_le, List, [], ◌∷◌, ◌++◌, length, map, fold, drop, if◌then◌else◌}
use Rattle.core_laws.specs.SeenSoFar.{losing}
use Rattle.core_parts.specs.CoreValue.{CoreValue, seen_of}
use Rattle.core_parts.specs.declared.phase.Phase.{Phase}
use Rattle.lf_model.specs.Caches.Slot.{befalls_each, written}
use Rattle.lf_model.specs.Caches.Change.{snooped}
use Rattle.lf_model.specs.Course.Syndromes.{met_bad, enters_log}
use Rattle.lf_model.specs.Course.Turned.{valid_by}
use Rattle.lf_model.specs.Effect.{cell_written}
use Rattle.lf_model.specs.Start.{is_text_word}
use Rattle.lf_model.specs.State.{State, advanced, with_register}
use Rattle.lf_model.specs.Step.{state_of}
use Rattle.lf_model.specs.declared.bus.Entry.{Entry}
use Rattle.lf_model.specs.declared.bus.OpKind.TheVariants as ops
use Rattle.lf_model.specs.declared.bus.Transfer.{Transfer}
use Rattle.lf_model.specs.declared.image.Image.{Image}
use Rattle.lf_model.specs.declared.step.Turn.{Turn}
use Rattle.lf_model.specs.declared.step.Turn.TheVariants.{Fetch, Load, Atomic, Drain, Snoop}
use Rattle.lf_model.specs.declared.trace.Op.{Op}
use Rattle.lf_model.specs.declared.trace.Word2.{Word2}
use Rattle.parity_cache.specs.CacheState.{with_cache, filled_cache}
use Rattle.snoop.specs.Snooping.{address_of}

-- ---- before the transfer

-- the addresses at which others stored since its last turn
abbrev pub unseen_in : List Entry → CoreValue → List ℕ
unseen_in log v = map address_of (drop v.log_seen log)

-- the core catches up with the log: its data cache snoops these addresses, in order
abbrev pub snooping : List Entry → CoreValue → CoreValue
snooping log v = record v {
  ports = record v.ports { data_cache = with_cache (fold snooped v.ports.data_cache.cache (unseen_in log v)) v.ports.data_cache };
  log_seen = length log;
}

-- ---- fills

-- the valid bits of a line in the fetch cache: of the words that memory read clean or corrected, and that are text
unfoldable pub text_valid : Image → Transfer → ℕ
text_valid image t = valid_by (λ j. not (met_bad t j) && is_text_word image.text (t.addr + 4 * j))

-- and in the data cache: of those that it read clean or corrected
unfoldable pub data_valid : Transfer → ℕ
data_valid t = valid_by (λ j. not (met_bad t j))

-- the line that memory read goes into the fetch cache
abbrev pub fetched : Transfer → List ℕ → CoreValue → CoreValue
fetched t words v = record v {
  ports = record v.ports {
    fetch_cache = filled_cache t.addr (text_valid v.setup.image t) words v.ports.fetch_cache;
  };
}

-- and into the data cache
abbrev pub loaded : Transfer → List ℕ → CoreValue → CoreValue
loaded t words v = record v {
  ports = record v.ports { data_cache = filled_cache t.addr (data_valid t) words v.ports.data_cache };
}

-- ---- LDSTUB and SWAP

abbrev pub state_in : CoreValue → State
state_in v = state_of v.arch (seen_of v)

-- the state once register rd has the number that was read
abbrev pub state_read : ℕ → ℕ → CoreValue → State
state_read rd got v = advanced (with_register rd got (state_in v))

-- its operation
abbrev pub atomic_op : ℕ → ℕ → ℕ → ℕ → CoreValue → Op
atomic_op addr len new got v =
    record { got = got; put = new; core = v.arch.core; k = length v.ops; step = v.steps; addr = addr; kind = ops.Atomic; len = len; way = 0 }

-- the core sees its own entry and drops the line, its register is written, and the operation retires
abbrev pub exchanged : ℕ → ℕ → ℕ → ℕ → ℕ → CoreValue → CoreValue
exchanged addr len new rd got v = record v {
  arch = record { ctl = (state_read rd got v).ctl; wim = (state_read rd got v).wim; y = (state_read rd got v).y; core = v.arch.core; n = v.arch.n + 1; k = v.arch.k + 1 };
  values = (state_read rd got v).cells;
  out = (state_read rd got v).out;
  ports = record v.ports {
    cells = befalls_each written (cell_written (state_in v) rd) v.ports.cells;
    data_cache = with_cache (snooped v.ports.data_cache.cache addr) v.ports.data_cache;
  };
  ops = v.ops ++ atomic_op addr len new got v ∷ [];
  seen_by = v.seen_by ++ (v.log_seen + 1) ∷ [];
  log_seen = v.log_seen + 1;
}

-- ---- a drain

-- the store that has waited longest has reached memory
abbrev pub drained : CoreValue → CoreValue
drained v = record v { ports = record v.ports { waiting = drop 1 v.ports.waiting }; log_seen = v.log_seen + 1 }

-- the stores that wait, the first of which is operation n, never reach memory
abbrev pub stores_lost : ℕ → CoreValue → CoreValue
stores_lost n v = record v { ports = record v.ports { waiting = [] }; ops = losing n v.ops }

-- ---- the transfer, by its kind

-- a core that has caught up, after this transfer. words: those of the line that a fill read; got: the number that an atomic read;
-- n: the number of the operation that drains
abbrev pub transferred : Transfer → List ℕ → ℕ → ℕ → Turn → CoreValue → CoreValue
transferred t words got n (Fetch line why) v = fetched t words v
transferred t words got n (Load addr len why) v = loaded t words v
transferred t words got n (Atomic addr len new rd) v = if enters_log t then exchanged addr len new rd got v else v
transferred t words got n (Drain why) v = if enters_log t then drained v else stores_lost n v
transferred t words got n Snoop v = v

-- ---- the end of the turn

-- the bus has made so many transfers. The step that is begun ends, unless all steps were made.
abbrev pub turn_ended : Phase → List Word2 → ℕ → CoreValue → CoreValue
turn_ended phase named turns v = record v {
  steps = if nat_le v.setup.config.steps v.steps then v.steps else v.steps + 1;
  quiet = 0;
  turns_seen = turns;
  named = named;
  phase = phase;
}
