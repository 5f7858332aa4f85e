-- Whether a trace is an execution of its setup's code, by a test that computes, rule by rule.
use Rattle.std.proofs.Common.{ℕ, ◌≡◌, ◌≤◌, ◌+◌, ◌-◌, ◌&&◌, nat_le, nat_lt, Bool, true, false, subst, arith, List, length, map, take, drop, slice_get, Option, Some, None}
use Rattle.std.specs.Prelude.{◌==◌, count_by, IsSomeAnd}
use Rattle.std.specs.List.{list_all}
use Rattle.std.specs.Option.{option_map_or}
use Rattle.std.proofs.lemmas.Bool.{eqb-true, eq-eqb, and_parts, leb-true, ltb-true, false≢true}
use Rattle.lf_model.specs.Start.{initial_byte}
use Rattle.lf_model.specs.Operation.{of_core, reads, stores, made, byte_got}
use Rattle.lf_model.specs.Places.{FailsNowhereIn}
use Rattle.lf_model.specs.Order.{LoadOpAt, StoreStoreAt}
use Rattle.lf_model.specs.Value.{ValueAt, Reads, stored, candidates}
use Rattle.lf_model.specs.Once.{is_number, HasMaster, OnceAtCore, OnceAtTransfer, OnceAtFinal, address_of}
use Rattle.lf_model.specs.Run.{Run, run}
use Rattle.lf_model.specs.ProgramOrder.{answers_of}
use Rattle.lf_model.specs.Promise.Headline.{IsTsoExecution}
use Rattle.lf_model.specs.Records.CoreRules.{EndedCore, HasThread, ThreadAt, core_in_trace}
use Rattle.lf_model.specs.declared.bus.Entry.{Entry}
use Rattle.lf_model.specs.declared.bus.Transfer.{Transfer}
use Rattle.lf_model.specs.declared.bus.TurnKind.{TurnKind}
use Rattle.lf_model.specs.declared.bus.TurnKind.TheVariants.{Fetch, Load, Store, Atomic, Snoop, Look, Fix}
use Rattle.lf_model.specs.declared.setup.Setup.{Setup}
use Rattle.lf_model.specs.declared.trace.CoreResult.{CoreResult}
use Rattle.lf_model.specs.declared.trace.Op.{Op}
use Rattle.lf_model.specs.declared.trace.Trace.{Trace}
use Rattle.lf_worked.proofs.Numerals.{passes_below, passes_at}
use Rattle.lf_worked.proofs.Tests.{implies, implied, holds_in, holds_if_some, same_numbers, is_same_numbers}
use Rattle.lf_worked.proofs.OperationTests.{same_entries, is_same_entries}

-- ---- a rule about operations, at each place of an order

abbrev Test : Type 0
Test = List Op → Op → List Op → Bool

abbrev passes_place : Test → List Op → ℕ → Bool
passes_place test order i = option_map_or (λ o. test (take i order) o (drop (i + 1) order)) (slice_get order i) true

abbrev passes_order : Test → List Op → Bool
passes_order test order = passes_below (passes_place test order) (length order)

passes_nowhere_fails : (test : Test) (Rule : List Op → Op → List Op → Type 0)
    → ((earlier : List Op) (o : Op) (later : List Op) → test earlier o later ≡ true → Rule earlier o later)
    → (order : List Op) → passes_order test order ≡ true → FailsNowhereIn Rule order
passes_nowhere_fails test Rule sound order passes i within =
    holds_if_some (λ o. test (take i order) o (drop (i + 1) order)) (λ o. Rule (take i order) o (drop (i + 1) order))
    (λ o. sound (take i order) o (drop (i + 1) order)) (slice_get order i)
    (passes_at (passes_place test order) (length order) passes i within)

-- ---- LoadOp and StoreStore

abbrev is_earlier : Op → Op → Bool
is_earlier r o = implies (o.core == r.core) (nat_le o.k r.k)

is_earlier-sound : (r o : Op) → is_earlier r o ≡ true → o.core ≡ r.core → o.k ≤ r.k
is_earlier-sound r o passes same = leb-true o.k r.k (implied (o.core == r.core) (nat_le o.k r.k) passes (eq-eqb o.core r.core same))

abbrev load_op : Test
load_op earlier r later = implies (reads r) (list_all (is_earlier r) earlier)

load_op-sound : (earlier : List Op) (r : Op) (later : List Op) → load_op earlier r later ≡ true → LoadOpAt earlier r later
load_op-sound earlier r later passes reading =
    holds_in (is_earlier r) (λ o. o.core ≡ r.core → o.k ≤ r.k) (is_earlier-sound r) earlier (implied (reads r) _ passes reading)

abbrev is_earlier_store : Op → Op → Bool
is_earlier_store r o = implies (stores o) (is_earlier r o)

abbrev store_store : Test
store_store earlier r later = implies (stores r) (list_all (is_earlier_store r) earlier)

store_store-sound : (earlier : List Op) (r : Op) (later : List Op) → store_store earlier r later ≡ true → StoreStoreAt earlier r later
store_store-sound earlier r later passes storing =
    holds_in (is_earlier_store r) (λ o. stores o ≡ true → o.core ≡ r.core → o.k ≤ r.k)
    (λ o earlier_store is_store. is_earlier-sound r o (implied (stores o) (is_earlier r o) earlier_store is_store))
    earlier (implied (stores r) _ passes storing)

-- ---- Value: byte by byte, over the bytes that a reader reads

abbrev pub reads_byte : (ℕ → ℕ) → Entry → List Entry → ℕ → Bool
reads_byte initial r es j = byte_got (r.addr + j) r == stored (r.addr + j) es (initial (r.addr + j))

pub reads_byte-sound : (initial : ℕ → ℕ) (r : Entry) (es : List Entry) → passes_below (reads_byte initial r es) r.len ≡ true → Reads initial r es
reads_byte-sound initial r es passes a touched =
    let parts = and_parts (nat_le r.addr a) (nat_lt a (r.addr + r.len)) touched in
    let least = leb-true r.addr a parts.0 in
    let most = ltb-true a (r.addr + r.len) parts.1 in
    let place : r.addr + (a - r.addr) ≡ a = omega (arith, least) in
    let here = passes_at (reads_byte initial r es) r.len passes (a - r.addr) (omega (arith, least, most)) in
    subst (λ b. byte_got b r ≡ stored b es (initial b)) place (eqb-true _ _ here)

abbrev value : (ℕ → ℕ) → Test
value initial earlier r later = implies (reads r) (passes_below (reads_byte initial (made r) (map made (candidates earlier r later))) r.len)

value-sound : (initial : ℕ → ℕ) (earlier : List Op) (r : Op) (later : List Op) → value initial earlier r later ≡ true → ValueAt initial earlier r later
value-sound initial earlier r later passes reading =
    reads_byte-sound initial (made r) (map made (candidates earlier r later)) (implied (reads r) _ passes reading)

-- ---- Once

abbrev once_core : List Op → ℕ → Bool
once_core order c = passes_below (λ k. count_by (is_number c k) order == 1) (count_by (of_core c) order)

once_core-sound : (order : List Op) (c : ℕ) → once_core order c ≡ true → OnceAtCore order c
once_core-sound order c passes k within = eqb-true _ _ (passes_at (λ k. count_by (is_number c k) order == 1) (count_by (of_core c) order) passes k within)

abbrev once_order : ℕ → Test
once_order cores earlier o later = nat_lt o.core cores

abbrev has_master : ℕ → ℕ → TurnKind → Bool
has_master cores master Fetch = nat_lt master cores
has_master cores master Load = nat_lt master cores
has_master cores master Store = nat_lt master cores
has_master cores master Atomic = nat_lt master cores
has_master cores master Snoop = nat_lt master cores
has_master cores master Look = master == 8
has_master cores master Fix = master == 8

has_master-sound : (cores master : ℕ) (kind : TurnKind) → has_master cores master kind ≡ true → HasMaster cores master kind
has_master-sound cores master Fetch passes = ltb-true master cores passes
has_master-sound cores master Load passes = ltb-true master cores passes
has_master-sound cores master Store passes = ltb-true master cores passes
has_master-sound cores master Atomic passes = ltb-true master cores passes
has_master-sound cores master Snoop passes = ltb-true master cores passes
has_master-sound cores master Look passes = eqb-true master 8 passes
has_master-sound cores master Fix passes = eqb-true master 8 passes

abbrev pub once_transfer : ℕ → List Transfer → ℕ → Bool
once_transfer cores transfers i = option_map_or (λ t. has_master cores t.master t.kind) (slice_get transfers i) true

pub once_transfer-sound : (cores : ℕ) (transfers : List Transfer) (i : ℕ) → once_transfer cores transfers i ≡ true → OnceAtTransfer cores transfers i
once_transfer-sound cores transfers i passes =
    holds_if_some (λ t. has_master cores t.master t.kind) (λ t. HasMaster cores t.master t.kind)
    (λ t. has_master-sound cores t.master t.kind) (slice_get transfers i) passes

abbrev once_final : Setup → Trace → Bool
once_final setup trace = (length trace.cores == setup.config.cores) && ((length trace.fates == length setup.flips)
    && same_numbers (map address_of trace.watch) setup.config.watch)

once_final-sound : (setup : Setup) (trace : Trace) → once_final setup trace ≡ true → OnceAtFinal setup trace
once_final-sound setup trace passes =
    let cores = and_parts (length trace.cores == setup.config.cores) _ passes in
    let fates = and_parts (length trace.fates == length setup.flips) _ cores.1 in
    record {
      cores_shown = eqb-true _ _ cores.0;
      fates_shown = eqb-true _ _ fates.0;
      words_shown = is_same_numbers _ _ fates.1;
    }

-- ---- Thread

abbrev has_made : List Entry → Run → Bool
has_made es q = same_entries q.ops es

abbrev pub has_thread : Setup → EndedCore → Bool
has_thread setup c = nat_le c.result.n setup.config.steps
    && option_map_or (has_made (map made c.ops)) (run setup c.core (answers_of c.ops) c.result.n) false

comes_so_far : (es : List Entry) (q : Option Run) → option_map_or (has_made es) q false ≡ true → IsSomeAnd q (λ q. q.ops ≡ es)
comes_so_far es None passes = absurd (false≢true passes)
comes_so_far es (Some q) passes = is_same_entries q.ops es passes

pub has_thread-sound : (setup : Setup) (c : EndedCore) → has_thread setup c ≡ true → HasThread setup c
has_thread-sound setup c passes = let parts = and_parts (nat_le c.result.n setup.config.steps) _ passes in
    record { within = leb-true _ _ parts.0; same = comes_so_far _ (run setup c.core (answers_of c.ops) c.result.n) parts.1 }

abbrev thread : Setup → Trace → ℕ → Bool
thread setup trace c = option_map_or (λ r. has_thread setup (core_in_trace trace c r)) (slice_get trace.cores c) true

thread-sound : (setup : Setup) (trace : Trace) (c : ℕ) → thread setup trace c ≡ true → ThreadAt setup trace c
thread-sound setup trace c passes = holds_if_some (λ r. has_thread setup (core_in_trace trace c r))
    (λ r. HasThread setup (core_in_trace trace c r)) (λ r. has_thread-sound setup (core_in_trace trace c r)) (slice_get trace.cores c) passes

-- ---- all rules

abbrev pub is_execution : Setup → Trace → Bool
is_execution setup trace = passes_below (once_core trace.order) setup.config.cores
    && (passes_order (once_order setup.config.cores) trace.order
    && (passes_below (once_transfer setup.config.cores trace.transfers) (length trace.transfers)
    && (once_final setup trace
    && (passes_order load_op trace.order
    && (passes_order store_store trace.order
    && (passes_below (thread setup trace) setup.config.cores
    && passes_order (value (initial_byte setup.image)) trace.order))))))

pub execution : (setup : Setup) (trace : Trace) → is_execution setup trace ≡ true → IsTsoExecution setup trace
execution setup trace passes =
    let cores = and_parts (passes_below (once_core trace.order) setup.config.cores) _ passes in
    let order = and_parts (passes_order (once_order setup.config.cores) trace.order) _ cores.1 in
    let transfers = and_parts (passes_below (once_transfer setup.config.cores trace.transfers) (length trace.transfers)) _ order.1 in
    let final = and_parts (once_final setup trace) _ transfers.1 in
    let loads = and_parts (passes_order load_op trace.order) _ final.1 in
    let stores = and_parts (passes_order store_store trace.order) _ loads.1 in
    let threads = and_parts (passes_below (thread setup trace) setup.config.cores) _ stores.1 in
    record {
      once_cores = λ c within. once_core-sound trace.order c (passes_at (once_core trace.order) setup.config.cores cores.0 c within);
      once_order = passes_nowhere_fails (once_order setup.config.cores) _ (λ earlier o later passes. ltb-true o.core setup.config.cores passes) trace.order order.0;
      once_transfers = λ i within. once_transfer-sound setup.config.cores trace.transfers i
          (passes_at (once_transfer setup.config.cores trace.transfers) (length trace.transfers) transfers.0 i within);
      once_final = once_final-sound setup trace final.0;
      load_op = passes_nowhere_fails load_op _ load_op-sound trace.order loads.0;
      store_store = passes_nowhere_fails store_store _ store_store-sound trace.order stores.0;
      thread = λ c within. thread-sound setup trace c (passes_at (thread setup trace) setup.config.cores threads.0 c within);
      value = passes_nowhere_fails (value (initial_byte setup.image)) _ (value-sound (initial_byte setup.image)) trace.order threads.1;
    }
