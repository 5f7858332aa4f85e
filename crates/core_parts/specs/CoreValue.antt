-- A core as its users see it.
use Rattle.std.specs.Prelude.{ℕ, List, [], length, map, replicate}
use Rattle.core_parts.specs.PortState.{PortState}
use Rattle.core_parts.specs.declared.phase.Phase.{Phase}
use Rattle.core_parts.specs.declared.phase.Phase.TheVariants.{Between}
use Rattle.lf_model.specs.Course.Arrays.{register_cells}
use Rattle.lf_model.specs.Operation.{made}
use Rattle.lf_model.specs.Run.{site_of}
use Rattle.lf_model.specs.State.{reset}
use Rattle.lf_model.specs.Step.{Seen}
use Rattle.lf_model.specs.declared.control.Arch.{Arch}
use Rattle.lf_model.specs.declared.setup.Setup.{Setup}
use Rattle.lf_model.specs.declared.trace.Op.{Op}
use Rattle.lf_model.specs.declared.trace.Word2.{Word2}
use Rattle.parity_cache.specs.CacheState.{reset_cache}

-- arch: its state registers, its number, and how many instructions it counted; values: of its register cells; out: the bytes written to the
-- output word; ports: its arrays and the stores that wait; ops and seen_by: its operations in program order, and the entries of
-- the log that it had seen as each of them retired; steps: those that it made; quiet: those since its last turn; log_seen and
-- turns_seen: how many entries the log had, and how many transfers the bus had made, as its last turn ended; named: the word
-- that its stop names
pub record CoreValue : Type 0 where
  pub setup : Setup
  pub arch : Arch
  pub values : List ℕ
  pub out : List ℕ
  pub ports : PortState
  pub ops : List Op
  pub seen_by : List ℕ
  pub steps : ℕ
  pub quiet : ℕ
  pub log_seen : ℕ
  pub turns_seen : ℕ
  pub named : List Word2
  pub phase : Phase

-- what it shows an instruction
abbrev pub seen_of : CoreValue → Seen
seen_of v = record { site = site_of v.setup v.arch.core; cells = v.values; out = v.out; ops = map made v.ops }

-- at reset
abbrev pub start_value : Setup → ℕ → CoreValue
start_value setup core = let s = reset setup.image.entry core in record {
  setup = setup;
  arch = record { ctl = s.ctl; wim = s.wim; y = s.y; core = core; n = 0; k = 0 };
  values = s.cells;
  out = [];
  ports = record {
    cells = replicate register_cells [];
    fetch_cache = reset_cache setup.config.fetch_cache (length setup.flips);
    data_cache = reset_cache setup.config.load_cache (length setup.flips);
    waiting = [];
    depth = setup.config.buffer;
  };
  ops = [];
  seen_by = [];
  steps = 0;
  quiet = 0;
  log_seen = 0;
  turns_seen = 0;
  named = [];
  phase = Between;
}
