-- The first place at which each rule of the audit fails, none where it fails nowhere.
use Rattle.std.specs.Prelude.{ℕ, ◌<◌, ◌≤◌, List, length, Option, All, IsTrue}
use Rattle.lf_model.specs.Ledger.Rule.{TriedBefore, NoneLeft}
use Rattle.lf_model.specs.Once.{OnceAtCore, OnceAtOrder, OnceAtTransfer, OnceAtFinal}
use Rattle.lf_model.specs.Order.{LoadOpAt, StoreStoreAt}
use Rattle.lf_model.specs.Places.{AtPlace, FailsNowhere}
use Rattle.lf_model.specs.Records.CoreRules.{ThreadAt, ResultAt}
use Rattle.lf_model.specs.Results.{ResultAtFinal}
use Rattle.lf_model.specs.Start.{initial_byte, is_in_ram}
use Rattle.lf_model.specs.Value.{ValueAt}
use Rattle.lf_model.specs.declared.place.Place.{Place}
use Rattle.lf_model.specs.declared.place.Place.TheVariants.{Core, Order, Transfer, Final}
use Rattle.lf_model.specs.declared.setup.Setup.{Setup}
use Rattle.lf_model.specs.declared.trace.Op.{Op}
use Rattle.lf_model.specs.declared.trace.Trace.{Trace}
use Rattle.lf_model.specs.declared.trace.Word2.{Word2}

-- each operation is of one of this many cores
abbrev pub HasCoresBelow : ℕ → List Op → Type 0
HasCoresBelow cores order = All (λ o. o.core < cores) order

-- each operation lies in RAM of this size
abbrev pub LieInRam : ℕ → List Op → Type 0
LieInRam ram order = All (λ o. IsTrue (is_in_ram ram o.addr o.len)) order

-- each watched word lies in RAM of this size
abbrev pub WatchRam : ℕ → List Word2 → Type 0
WatchRam ram watch = All (λ word. IsTrue (is_in_ram ram word.addr 4)) watch

-- each operation has 8 bytes at most
abbrev pub HaveEightBytes : List Op → Type 0
HaveEightBytes order = All (λ o. o.len ≤ 8) order

-- Once is tried at the cores, the operations, the transfers, and last at the counts of the trace
abbrev pub OnceFailsFirst : Setup → Trace → Option Place → Type 0
OnceFailsFirst setup trace =
    TriedBefore setup.config.cores (OnceAtCore trace.order) Core
    (TriedBefore (length trace.order) (AtPlace (OnceAtOrder setup.config.cores) trace.order) Order
    (TriedBefore (length trace.transfers) (OnceAtTransfer setup.config.cores trace.transfers) Transfer
    (TriedBefore 1 (λ i. OnceAtFinal setup trace) (λ i. Final) NoneLeft)))

-- a rule about the operations of the order, and about nothing else
abbrev pub OrderFailsFirst : (List Op → Op → List Op → Type 0) → Trace → Option Place → Type 0
OrderFailsFirst Rule trace = TriedBefore (length trace.order) (AtPlace Rule trace.order) Order NoneLeft

abbrev pub LoadOpFailsFirst : Trace → Option Place → Type 0
LoadOpFailsFirst = OrderFailsFirst LoadOpAt

abbrev pub StoreStoreFailsFirst : Trace → Option Place → Type 0
StoreStoreFailsFirst = OrderFailsFirst StoreStoreAt

abbrev pub ValueFailsFirst : Setup → Trace → Option Place → Type 0
ValueFailsFirst setup = OrderFailsFirst (ValueAt (initial_byte setup.image))

abbrev pub ThreadFailsFirst : Setup → Trace → Option Place → Type 0
ThreadFailsFirst setup trace = TriedBefore setup.config.cores (ThreadAt setup trace) Core NoneLeft

-- Result is tried at the cores, and then at the watched words, all of them at once
abbrev pub ResultFailsFirst : Setup → Trace → Option Place → Type 0
ResultFailsFirst setup trace =
    TriedBefore setup.config.cores (ResultAt setup trace) Core
    (TriedBefore 1 (λ i. FailsNowhere (length trace.watch) (ResultAtFinal setup trace)) (λ i. Final) NoneLeft)
