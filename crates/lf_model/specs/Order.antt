-- Total store order: the rules LoadOp and StoreStore about the places of a core's operations
-- (after SPARC V8, appendix K, formal specification of the memory model), over one order that holds loads and
-- stores. Atomicity is that an atomic is one operation.
use Rattle.std.specs.Prelude.{◌≡◌, ◌≤◌, List, true}
use Rattle.std.specs.List.{AllByRecursion}
use Rattle.lf_model.specs.Operation.{reads, stores}
use Rattle.lf_model.specs.declared.trace.Op.{Op}

-- LoadOp: before a load or an atomic stands no operation of its core that the program makes after it
abbrev pub LoadOpAt : List Op → Op → List Op → Type 0
LoadOpAt earlier r later = reads r ≡ true → AllByRecursion (λ o. o.core ≡ r.core → o.k ≤ r.k) earlier

-- StoreStore: before a store or an atomic stands no store or atomic of its core that the program makes after it
abbrev pub StoreStoreAt : List Op → Op → List Op → Type 0
StoreStoreAt earlier r later = stores r ≡ true → AllByRecursion (λ o. stores o ≡ true → o.core ≡ r.core → o.k ≤ r.k) earlier
