-- The records that the cores and the bus of a worked report leave, and whether they are right, by tests that compute.
use Rattle.std.proofs.Common.{ℕ, zero, suc, ◌≡◌, ◌≤◌, ◌<◌, ◌+◌, ◌++◌, ◌&&◌, nat_le, nat_lt, Bool, true, false, refl, subst, sym, ap, ap₂, ◌∙◌, arith, List, [], ◌∷◌, length, map, take, filter, slice_get, slice_index, slice_index_or, Option, Some, None, IfSome}
use Rattle.std.specs.Prelude.{◌==◌, option_map, option_and_then}
use Rattle.std.specs.List.{list_all, filter_map, flat_map, AllByRecursion}
use Rattle.std.specs.Option.{option_map_or}
use Rattle.std.proofs.lemmas.Bool.{eqb-true, eq-eqb, leb-true, ltb-true, and_parts, false≢true}
use Rattle.lf_model.proofs.SameNames.{kinds_same, whys_same}
use Rattle.lf_model.specs.Bus.Replay.{Core, LogEntry, Made, core_start}
use Rattle.lf_model.specs.Course.Core.{Ground}
use Rattle.lf_model.specs.Course.Outcome.{Need}
use Rattle.lf_model.specs.Course.Outcome.Need.{NoTurn, Turn, RegisterStop}
use Rattle.lf_model.specs.Course.Progress.{Completion, Progress}
use Rattle.lf_model.specs.Course.Turn.{turn_attempt, turn_needs, addressed}
use Rattle.lf_model.specs.ProgramOrder.{program_order}
use Rattle.lf_model.specs.Ledger.Account.{replay_of, ground_in, transfer_made, completions_of, arrays_of}
use Rattle.lf_model.specs.Ledger.FlipFate.{flip_fates}
use Rattle.lf_model.specs.Ledger.Same.{same_need, same_transfer}
use Rattle.lf_model.specs.Ledger.Steps.{own_transfers}
use Rattle.lf_model.specs.Operation.{enters, is_lost, kind_reads, made}
use Rattle.lf_model.specs.Names.{same_kind}
use Rattle.lf_model.specs.Promise.Regular.{is_regular_core, is_regular_op}
use Rattle.lf_model.specs.Records.CoreRecord.{of_core_alone, core_of_record}
use Rattle.lf_model.specs.Records.CoreRules.{ground_of_ended}
use Rattle.lf_model.specs.Records.OwnTurns.{before_turn, next_effect, with_word_count, IsRightTurn, OwnTurnAt, words_named}
use Rattle.lf_model.specs.Records.SeenOrder.{is_load, is_entry_of, front, waiting, LoadReads, AtomicReads, SeenAreEarlier, AtomicIsSeen, LostIsLast, HasSeen}
use Rattle.lf_model.specs.Start.{initial_byte}
use Rattle.lf_model.specs.declared.bus.Entry.{Entry}
use Rattle.lf_model.specs.declared.bus.Transfer.{Transfer}
use Rattle.lf_model.specs.declared.record.CoreRecord.{CoreRecord}
use Rattle.lf_model.specs.declared.setup.Setup.{Setup}
use Rattle.lf_model.specs.declared.trace.CoreEnd.TheVariants.{Limit}
use Rattle.lf_model.specs.declared.trace.CoreResult.{CoreResult}
use Rattle.lf_model.specs.declared.trace.Op.{Op}
use Rattle.lf_model.specs.declared.trace.Trace.{Trace}
use Rattle.lf_model.specs.declared.trace.Word2.{Word2}
use Rattle.lf_worked.proofs.ExecutionTest.{reads_byte, reads_byte-sound}
use Rattle.lf_worked.proofs.LedgerTest.{is_same_transfer}
use Rattle.lf_worked.proofs.Numerals.{passes_below, passes_at}
use Rattle.lf_worked.proofs.OperationTests.{same_entries, is_same_entries}
use Rattle.lf_worked.proofs.Tests.{implies, implied, holds_in, holds_if_some}

-- ---- the records

-- the transfers as the bus records them, with their lengths
abbrev pub on_bus : Setup → Trace → List Transfer
on_bus setup trace = map transfer_made (replay_of setup trace).made

abbrev operation_of : Trace → LogEntry → Option Entry
operation_of trace e = option_map made (slice_get (program_order e.core trace.order) e.number)

abbrev entry_of : Trace → Made → Option Entry
entry_of trace m = option_and_then (operation_of trace) m.entry

-- the log
abbrev pub log_of : Setup → Trace → List Entry
log_of setup trace = filter_map (entry_of trace) (replay_of setup trace).made

abbrev seen_of : Completion → ℕ
seen_of c = c.seen

-- the record of a core with this result, by its replay
abbrev pub kept_by : Setup → Trace → ℕ → CoreResult → Core → CoreRecord
kept_by setup trace c r k = record {
  result = r;
  ops = program_order c trace.order;
  seen = map seen_of (completions_of k);
  named = words_named k.on (on_bus setup trace);
  fates = flip_fates setup.flips [] (of_core_alone c (arrays_of k));
}

-- a result of nothing
abbrev no_result : CoreResult
no_result = record {
  end = Limit;
  n = 0;
  steps = 0;
  out = [];
  regs = [];
  psr = 0;
  wim = 0;
  tbr = 0;
  y = 0;
  pc = 0;
  npc = 0;
  parity = record { fetch_tag = 0; fetch_byte = 0; data_tag = 0; data_byte = 0 };
}

-- the record of core c
abbrev pub kept_of : Setup → Trace → ℕ → CoreRecord
kept_of setup trace c = kept_by setup trace c (slice_index_or trace.cores c no_result)
    (slice_index_or (replay_of setup trace).cores c (core_start (ground_in setup trace c no_result)))

-- the words that the stops of all cores name
abbrev pub named_by_all : Setup → Trace → List Word2
named_by_all setup trace = flat_map (λ (k : Core). words_named k.on (on_bus setup trace)) (replay_of setup trace).cores

-- ---- what a core saw

abbrev numbered_from : ℕ → List Op → Bool
numbered_from n [] = true
numbered_from n (o ∷ os) = (o.k == n) && numbered_from (n + 1) os

numbered_from-sound : (n : ℕ) (os : List Op) → numbered_from n os ≡ true → (k : ℕ) → IfSome (slice_get os k) (λ o. o.k ≡ n + k)
numbered_from-sound n [] passes k = tt
numbered_from-sound n (o ∷ os) passes zero = let parts = and_parts (o.k == n) _ passes in eqb-true o.k n parts.0 ∙ omega arith
numbered_from-sound n (o ∷ os) passes (suc k) = let parts = and_parts (o.k == n) _ passes in
    subst (λ m. IfSome (slice_get os k) (λ o. o.k ≡ m)) (omega arith) (numbered_from-sound (n + 1) os parts.1 k)

from_zero : (k : ℕ) → 0 + k ≡ k
from_zero k = omega arith

abbrev rises_to : List ℕ → ℕ → Bool
rises_to seen j = passes_below (λ i. nat_le (slice_index seen i) (slice_index seen j)) (j + 1)

abbrev in_log_at : List ℕ → List Entry → ℕ → Bool
in_log_at seen log i = nat_le (slice_index seen i) (length log)

abbrev load_reads : (ℕ → ℕ) → ℕ → List Op → List ℕ → List Entry → ℕ → Op → Bool
load_reads initial c ops seen log k o = implies (is_load o)
    (passes_below (reads_byte initial (made o) (front log seen k ++ waiting c ops k (front log seen k))) o.len)

abbrev load_reads_at : (ℕ → ℕ) → ℕ → List Op → List ℕ → List Entry → ℕ → Bool
load_reads_at initial c ops seen log k = option_map_or (load_reads initial c ops seen log k) (slice_get ops k) true

load_reads_at-sound : (initial : ℕ → ℕ) (c : ℕ) (ops : List Op) (seen : List ℕ) (log : List Entry) (k : ℕ)
    → load_reads_at initial c ops seen log k ≡ true → LoadReads initial c ops seen log k
load_reads_at-sound initial c ops seen log k passes = holds_if_some (load_reads initial c ops seen log k) _
    (λ o holds loading. reads_byte-sound initial (made o) (front log seen k ++ waiting c ops k (front log seen k)) (implied (is_load o) _ holds loading)) (slice_get ops k) passes

abbrev atomic_reads : (ℕ → ℕ) → ℕ → List Entry → ℕ → Entry → Bool
atomic_reads initial c log p e = implies (e.core == c) (implies (kind_reads e.kind) (passes_below (reads_byte initial e (take p log)) e.len))

abbrev atomic_reads_at : (ℕ → ℕ) → ℕ → List Entry → ℕ → Bool
atomic_reads_at initial c log p = option_map_or (atomic_reads initial c log p) (slice_get log p) true

atomic_reads_at-sound : (initial : ℕ → ℕ) (c : ℕ) (log : List Entry) (p : ℕ) → atomic_reads_at initial c log p ≡ true → AtomicReads initial c log p
atomic_reads_at-sound initial c log p passes = holds_if_some (atomic_reads initial c log p) _
    (λ e holds own reading. reads_byte-sound initial e (take p log)
    (implied (kind_reads e.kind) _ (implied (e.core == c) _ holds (eq-eqb e.core c own)) reading)) (slice_get log p) passes

abbrev no_later : ℕ → ℕ → Entry → Bool
no_later c k e = implies (e.core == c) (nat_le e.k k)

abbrev seen_are_earlier : ℕ → List ℕ → List Entry → ℕ → Bool
seen_are_earlier c seen log k = list_all (no_later c k) (front log seen k)

seen_are_earlier-sound : (c : ℕ) (seen : List ℕ) (log : List Entry) (k : ℕ) → seen_are_earlier c seen log k ≡ true → SeenAreEarlier c seen log k
seen_are_earlier-sound c seen log k passes = holds_in (no_later c k) _
    (λ e holds own. leb-true e.k k (implied (e.core == c) _ holds (eq-eqb e.core c own))) (front log seen k) passes

abbrev atomic_seen : ℕ → List ℕ → ℕ → Entry → Bool
atomic_seen c seen p e = implies (e.core == c) (implies (kind_reads e.kind) (nat_lt p (slice_index seen e.k)))

abbrev atomic_seen_at : ℕ → List ℕ → List Entry → ℕ → Bool
atomic_seen_at c seen log p = option_map_or (atomic_seen c seen p) (slice_get log p) true

atomic_seen_at-sound : (c : ℕ) (seen : List ℕ) (log : List Entry) (p : ℕ) → atomic_seen_at c seen log p ≡ true → AtomicIsSeen c seen log p
atomic_seen_at-sound c seen log p passes = holds_if_some (atomic_seen c seen p) _
    (λ e holds own reading. ltb-true p (slice_index seen e.k)
    (implied (kind_reads e.kind) _ (implied (e.core == c) _ holds (eq-eqb e.core c own)) reading)) (slice_get log p) passes

abbrev is_later : Op → Op → Bool
is_later x o = implies (enters o) (nat_lt o.k x.k)

abbrev lost_is_last : List Op → Op → Bool
lost_is_last ops x = implies (is_lost x) (list_all (is_later x) ops)

lost_is_last-sound : (ops : List Op) (x : Op) → lost_is_last ops x ≡ true → LostIsLast ops x
lost_is_last-sound ops x passes lost = holds_in (is_later x) _
    (λ o holds entered. ltb-true o.k x.k (implied (enters o) _ holds entered)) ops (implied (is_lost x) _ passes lost)

abbrev is_of : ℕ → Op → Bool
is_of c o = o.core == c

abbrev pub has_seen : (ℕ → ℕ) → ℕ → List Op → List ℕ → List Entry → Bool
has_seen initial c ops seen log = list_all (is_of c) ops
    && (numbered_from 0 ops
    && ((length seen == length ops)
    && (passes_below (rises_to seen) (length seen)
    && (passes_below (in_log_at seen log) (length seen)
    && (passes_below (load_reads_at initial c ops seen log) (length ops)
    && (passes_below (atomic_reads_at initial c log) (length log)
    && (same_entries (filter (is_entry_of c) log) (map made (filter enters ops))
    && (passes_below (seen_are_earlier c seen log) (length ops)
    && (passes_below (atomic_seen_at c seen log) (length log)
    && list_all (lost_is_last ops) ops)))))))))

pub has_seen-sound : (initial : ℕ → ℕ) (c : ℕ) (ops : List Op) (seen : List ℕ) (log : List Entry) → has_seen initial c ops seen log ≡ true
    → HasSeen initial c ops seen log
has_seen-sound initial c ops seen log passes =
    let cores = and_parts (list_all (is_of c) ops) _ passes in
    let numbers = and_parts (numbered_from 0 ops) _ cores.1 in
    let one_each = and_parts (length seen == length ops) _ numbers.1 in
    let rises = and_parts (passes_below (rises_to seen) (length seen)) _ one_each.1 in
    let in_log = and_parts (passes_below (in_log_at seen log) (length seen)) _ rises.1 in
    let loads = and_parts (passes_below (load_reads_at initial c ops seen log) (length ops)) _ in_log.1 in
    let atomics = and_parts (passes_below (atomic_reads_at initial c log) (length log)) _ loads.1 in
    let entries = and_parts (same_entries (filter (is_entry_of c) log) (map made (filter enters ops))) _ atomics.1 in
    let earlier = and_parts (passes_below (seen_are_earlier c seen log) (length ops)) _ entries.1 in
    let atomics_seen = and_parts (passes_below (atomic_seen_at c seen log) (length log)) _ earlier.1 in
    record {
      of_core = holds_in (is_of c) (λ o. o.core ≡ c) (λ o. eqb-true o.core c) ops cores.0;
      numbered = λ k. subst (λ n. IfSome (slice_get ops k) (λ o. o.k ≡ n)) (from_zero k) (numbered_from-sound 0 ops numbers.0 k);
      one_each = eqb-true _ _ one_each.0;
      rises = λ i j least within. leb-true _ _ (passes_at (λ i. nat_le (slice_index seen i) (slice_index seen j)) (j + 1)
          (passes_at (rises_to seen) (length seen) rises.0 j within) i (omega (arith, least)));
      in_log = λ i within. leb-true _ _ (passes_at (in_log_at seen log) (length seen) in_log.0 i within);
      loads = λ k within. load_reads_at-sound initial c ops seen log k (passes_at (load_reads_at initial c ops seen log) (length ops) loads.0 k within);
      atomics = λ p within. atomic_reads_at-sound initial c log p (passes_at (atomic_reads_at initial c log) (length log) atomics.0 p within);
      entries = is_same_entries _ _ entries.0;
      earlier = λ k within. seen_are_earlier-sound c seen log k (passes_at (seen_are_earlier c seen log) (length ops) earlier.0 k within);
      atomics_seen = λ p within. atomic_seen_at-sound c seen log p (passes_at (atomic_seen_at c seen log) (length log) atomics_seen.0 p within);
      lost_last = holds_in (lost_is_last ops) (LostIsLast ops) (lost_is_last-sound ops) ops atomics_seen.1;
    }

-- ---- a core's own turns

is_same_need : (a b : Need) → same_need a b ≡ true → a ≡ b
is_same_need NoTurn NoTurn passes = refl
is_same_need (Turn kind why) (Turn other cause) passes = let parts = and_parts (same_kind kind other) _ passes in
    ap₂ Turn (kinds_same kind other parts.0) (whys_same why cause parts.1)
is_same_need (RegisterStop cell) (RegisterStop other) passes = ap RegisterStop (eqb-true cell other passes)
is_same_need NoTurn (Turn kind why) passes = absurd (false≢true passes)
is_same_need NoTurn (RegisterStop cell) passes = absurd (false≢true passes)
is_same_need (Turn kind why) NoTurn passes = absurd (false≢true passes)
is_same_need (Turn kind why) (RegisterStop cell) passes = absurd (false≢true passes)
is_same_need (RegisterStop cell) NoTurn passes = absurd (false≢true passes)
is_same_need (RegisterStop cell) (Turn kind why) passes = absurd (false≢true passes)

abbrev is_right_turn : Ground → Transfer → Progress → Bool
is_right_turn g t k = same_need (turn_needs g t.why (turn_attempt g t.why (next_effect g k) k) k) (Turn t.kind t.why)
    && same_transfer (record (with_word_count (addressed g (next_effect g k) k t)) { syn = t.syn }) t

is_right_turn-sound : (g : Ground) (t : Transfer) (k : Progress) → is_right_turn g t k ≡ true → IsRightTurn g t k
is_right_turn-sound g t k passes =
    let parts = and_parts (same_need (turn_needs g t.why (turn_attempt g t.why (next_effect g k) k) k) (Turn t.kind t.why)) _ passes in
    record { needed = is_same_need _ _ parts.0; placed = is_same_transfer _ t parts.1 }

abbrev own_turn : Ground → List Transfer → ℕ → Transfer → Bool
own_turn g transfers turn t = implies (g.core == t.master) (is_right_turn g t (before_turn g transfers turn t))

abbrev pub own_turn_at : Ground → List Transfer → ℕ → Bool
own_turn_at g transfers turn = option_map_or (own_turn g transfers turn) (slice_get transfers turn) true

pub own_turn_at-sound : (g : Ground) (transfers : List Transfer) (turn : ℕ) → own_turn_at g transfers turn ≡ true → OwnTurnAt g transfers turn
own_turn_at-sound g transfers turn passes = holds_if_some (own_turn g transfers turn) _
    (λ t holds own. is_right_turn-sound g t (before_turn g transfers turn t) (implied (g.core == t.master) _ holds (eq-eqb g.core t.master own)))
    (slice_get transfers turn) passes
