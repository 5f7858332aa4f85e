-- The headline: a trace is an upset-free execution of the image's code in total store order, it reports the results of that
-- execution, and an error trap stopped a core only where a word or a register cell with two turned bits was met.
use Rattle.std.specs.Prelude.{ℕ, ◌≡◌, length, map, is_none, IfSome, slice_get}
use Rattle.lf_model.specs.Bus.Replay.{Core}
use Rattle.lf_model.specs.Ledger.Account.{replay_of, is_bad_at}
use Rattle.lf_model.specs.Ledger.CoreAccount.{blank_registers, errors_reported}
use Rattle.lf_model.specs.Ledger.Steps.{own_transfers}
use Rattle.lf_model.specs.Once.{OnceAtCore, OnceAtOrder, OnceAtTransfer, OnceAtFinal}
use Rattle.lf_model.specs.Order.{LoadOpAt, StoreStoreAt}
use Rattle.lf_model.specs.Places.{FailsNowhere, FailsNowhereIn}
use Rattle.lf_model.specs.Records.CoreRules.{ThreadAt, ResultAt}
use Rattle.lf_model.specs.Results.{ResultAtFinal}
use Rattle.lf_model.specs.Start.{initial_byte}
use Rattle.lf_model.specs.Value.{ValueAt}
use Rattle.lf_model.specs.declared.setup.Setup.{Setup}
use Rattle.lf_model.specs.declared.trace.CoreResult.{CoreResult}
use Rattle.lf_model.specs.declared.trace.Trace.{Trace}
use Rattle.lf_model.specs.declared.trace.Word2.{Word2}

-- the error traps that a core met are just the one that its end names, with its type, its place and its syndrome; it came with
-- the core's last step and, unless a register cell gave it, with its last transfer
pub record HasStopCause (c : ℕ) (trace : Trace) (r : CoreResult) (k : Core) : Type 0 where
  pub met : k.progress.errors ≡ errors_reported r.end r.steps (length (own_transfers c trace.transfers))

abbrev pub StopCauseAt : Setup → Trace → ℕ → Type 0
StopCauseAt setup trace c = IfSome (slice_get trace.cores c) (λ r. IfSome (slice_get (replay_of setup trace).cores c) (HasStopCause c trace r))

-- the registers that are reported without a value are those of its window whose cells are bad at its end
pub record HasBlanks (r : CoreResult) (k : Core) : Type 0 where
  pub registers : map is_none r.regs ≡ blank_registers k.progress

abbrev pub BlankAt : Setup → Trace → ℕ → Type 0
BlankAt setup trace c = IfSome (slice_get trace.cores c) (λ r. IfSome (slice_get (replay_of setup trace).cores c) (HasBlanks r))

-- a watched word is reported without a value exactly where it is bad at the end
abbrev pub WatchAt : Setup → Trace → ℕ → Type 0
WatchAt setup trace i = IfSome (slice_get trace.watch i) (λ (word : Word2). is_none word.value ≡ is_bad_at (replay_of setup trace).words word.addr)

-- a total-store-order execution of the image's code: the rules Once, LoadOp, StoreStore, Thread and Value fail nowhere
pub record IsTsoExecution (setup : Setup) (trace : Trace) : Type 0 where
  pub once_cores : FailsNowhere setup.config.cores (OnceAtCore trace.order)
  pub once_order : FailsNowhereIn (OnceAtOrder setup.config.cores) trace.order
  pub once_transfers : FailsNowhere (length trace.transfers) (OnceAtTransfer setup.config.cores trace.transfers)
  pub once_final : OnceAtFinal setup trace
  pub load_op : FailsNowhereIn LoadOpAt trace.order
  pub store_store : FailsNowhereIn StoreStoreAt trace.order
  pub thread : FailsNowhere setup.config.cores (ThreadAt setup trace)
  pub value : FailsNowhereIn (ValueAt (initial_byte setup.image)) trace.order

-- the execution, the results of each core and of the watched words, the causes of stops, and what has no value
pub record Headline (setup : Setup) (trace : Trace) : Type 0 where
  pub execution : IsTsoExecution setup trace
  pub results : FailsNowhere setup.config.cores (ResultAt setup trace)
  pub words : FailsNowhere (length trace.watch) (ResultAtFinal setup trace)
  pub stops : FailsNowhere setup.config.cores (StopCauseAt setup trace)
  pub blanks : FailsNowhere setup.config.cores (BlankAt setup trace)
  pub watched : FailsNowhere (length trace.watch) (WatchAt setup trace)
