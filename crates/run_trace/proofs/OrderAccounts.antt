-- What the order reports at each of its places is what the courses of its cores, and the entries that the run makes, give.
use Rattle.std.proofs.Common.{◌≡◌, ◌∙◌, ◌+◌, ◌<◌, ◌≤◌, ◌==◌, ◌++◌, ℕ, zero, suc, Bool, true, false, List, [], ◌∷◌, length, filter, map, slice_get, slice_index, Option, Some, None, IsSomeAnd, refl, ap, sym, subst, inl, inr, arith, add-one, if◌then◌else◌}
use Rattle.std.proofs.lemmas.Bool.{eq-eqb, eqb-true, and_parts}
use Rattle.std.proofs.lemmas.List.{append-nil}
use Rattle.std.proofs.lemmas.List.Elements.{filter-append}
use Rattle.std.proofs.lemmas.List.Sums.{fold-append}
use Rattle.std.proofs.lemmas.Option.{slice_get-map, same_Some}
use Rattle.std.specs.List.{AllByRecursion as Each}
use Rattle.std.specs.List.{filter_map, list_all, zip}
use Rattle.std.specs.Option.{option_map, option_and_then}
use Rattle.ahb_bus.specs.declared.record.BusRecord.{BusRecord}
use Rattle.lf_model.proofs.EachLemmas.{each_append, each_both, each_first, each_second, each_weaker, filter_none}
use Rattle.lf_model.specs.Bus.Replay.{LogEntry}
use Rattle.lf_model.specs.Bus.Status.{AhbStatus}
use Rattle.lf_model.specs.Course.Progress.{Completion}
use Rattle.lf_model.specs.Ledger.Account.{replay_of, entry_made, completions_of}
use Rattle.lf_model.specs.Ledger.OrderAccount.{OrderAccount, Before, before_all, after_kind, along, shown, entry_in_log, completion_of, place_by_course, comes_before, sorted_by, reported_by, place_as_reported}
use Rattle.lf_model.specs.Operation.{of_core, kind_enters, enters, kind_is_lost, is_lost, made}
use Rattle.lf_model.specs.Records.CoreRecord.{completion_reported}
use Rattle.lf_model.specs.Records.SeenOrder.{is_load_kind, is_load}
use Rattle.lf_model.specs.Start.{initial_byte}
use Rattle.lf_model.specs.declared.bus.Entry.{Entry}
use Rattle.lf_model.specs.declared.bus.OpKind.{OpKind}
use Rattle.lf_model.specs.declared.bus.OpKind.TheVariants.{Load, Store, Atomic, Lost}
use Rattle.lf_model.specs.declared.record.CoreRecord.{CoreRecord}
use Rattle.lf_model.specs.declared.setup.Setup.{Setup}
use Rattle.lf_model.specs.declared.trace.Op.{Op}
use Rattle.lf_model.specs.declared.trace.Trace.{Trace}
use Rattle.lf_model.specs.declared.trace.Word2.{Word2}
use Rattle.run_trace.specs.Gathered.{IsGatherable}
use Rattle.run_trace.specs.Order.{chosen, is_load_at, is_lost_in, loads_at, operation_of, woven}
use Rattle.run_trace.proofs.AlongOrder.{past, along_same, past_entries, past_loads, past_lost, past_woven, before_by_core}
use Rattle.run_trace.proofs.Cores.{OwnFrom, above, is_chosen}
use Rattle.run_trace.proofs.Lists.{each_filter, each_of, filter_all, split_append}
use Rattle.run_trace.proofs.Members.{AreTogether, of_core_found, load_enters_not}
use Rattle.run_trace.proofs.Numbers.{Rising, rising_filter, smaller_before}
use Rattle.run_trace.proofs.ReadsOfOrder.{loads_load, lost_lost, none_of_loads}
use Rattle.run_trace.proofs.Placing.{woven_before}
use Rattle.run_trace.proofs.Regularity.{from_some, each_operation}
use Rattle.run_trace.proofs.Replayed.{seam}
use Rattle.run_trace.proofs.Results.{order_enters}
use Rattle.run_trace.proofs.Together.{numbers, log_made, together}
use Rattle.run_trace.proofs.TraceReplay.{trace, status, record_kept, core_of, core_found}
use Rattle.run_trace.proofs.Woven.{AtAPlace, IsEntry, filter_before, split_woven, each_woven}

-- the core and the number of an entry
abbrev pub entry_named : Entry → LogEntry
entry_named e = record { core = e.core; number = e.k }

load_kind : (kind : OpKind) → is_load_kind kind ≡ true → kind ≡ Load
load_kind Load e = refl
load_kind Store e = absurd (cc)
load_kind Atomic e = absurd (cc)
load_kind Lost e = absurd (cc)

lost_kind : (kind : OpKind) → kind_is_lost kind ≡ true → kind ≡ Lost
lost_kind Load e = absurd (cc)
lost_kind Store e = absurd (cc)
lost_kind Atomic e = absurd (cc)
lost_kind Lost e = refl

load_not_lost : (kind : OpKind) → is_load_kind kind ≡ true → kind_is_lost kind ≡ false
load_not_lost Load e = refl
load_not_lost Store e = absurd (cc)
load_not_lost Atomic e = absurd (cc)
load_not_lost Lost e = absurd (cc)

enters_not_lost : (kind : OpKind) → kind_enters kind ≡ true → kind_is_lost kind ≡ false
enters_not_lost Load e = absurd (cc)
enters_not_lost Store e = refl
enters_not_lost Atomic e = refl
enters_not_lost Lost e = absurd (cc)

true_or : {b : Bool} → b ≡ false → b ≡ true → ⊥
true_or p q = cc

all_hold : {X : Type 0} (p : X → Bool) (xs : List X) → Each (λ x. p x ≡ true) xs → list_all p xs ≡ true
all_hold p [] h = refl
all_hold p (x ∷ xs) h = rw h.0 (all_hold p xs h.1)

zip_at : (os : List Op) (ns : List ℕ) (k : ℕ) (o : Op) → length ns ≡ length os → slice_get os k ≡ Some o → slice_get (zip os ns) k ≡ Some (o, slice_index ns k)
zip_at [] ns k o e found = absurd (cc)
zip_at (x ∷ os) [] k o e found = absurd (omega (arith, e, add-one (length os)))
zip_at (x ∷ os) (n ∷ ns) zero o e found = ap (λ (y : Op). Some (y, n)) (same_Some _ _ found)
zip_at (x ∷ os) (n ∷ ns) (suc k) o e found = zip_at os ns k o (omega (arith, e, add-one (length os), add-one (length ns))) found

-- ---- what is chosen is sorted

module _ (test : CoreRecord → Op → Bool) where
  lower_cores : (n : ℕ) (records : List CoreRecord) → OwnFrom n records → (left right : List Op) (r : Op) → chosen test records ≡ left ++ (r ∷ right) → Each (λ (o : Op). o.core ≤ r.core) left
  lower_cores n [] own [] right r e = tt
  lower_cores n [] own (x ∷ left) right r e = absurd (cc)
  lower_cores n (kept ∷ records) own left right r e = elim (split_append (filter (test kept) kept.ops) (chosen test records) left r right e) [
    | inl first ↦
        let here = subst (λ (os : List Op). Each (λ (o : Op). o.core ≡ n) os) first.first (each_filter (λ (o : Op). o.core ≡ n) (test kept) kept.ops own.0) in
        let at = each_second (λ (o : Op). o.core ≡ n) left (r ∷ first.mid) here in
        each_weaker (λ (o : Op). o.core ≡ n) (λ (o : Op). o.core ≤ r.core) left (λ o same. omega (arith, same, at.0)) (each_first (λ (o : Op). o.core ≡ n) left (r ∷ first.mid) here)
    | inr second ↦
        let later = subst (λ (os : List Op). Each (λ (o : Op). n + 1 ≤ o.core) os) second.second (above test (n + 1) records own.1) in
        let at = each_second (λ (o : Op). n + 1 ≤ o.core) second.mid (r ∷ right) later in
        subst (λ (os : List Op). Each (λ (o : Op). o.core ≤ r.core) os) (sym second.before)
        (each_append (λ (o : Op). o.core ≤ r.core) (filter (test kept) kept.ops) second.mid
        (each_weaker (λ (o : Op). o.core ≡ n) (λ (o : Op). o.core ≤ r.core) (filter (test kept) kept.ops) (λ o same. omega (arith, same, at.0)) (each_filter (λ (o : Op). o.core ≡ n) (test kept) kept.ops own.0))
        (lower_cores (n + 1) records own.1 second.mid right r second.second))
  ]

  module _ (initial : ℕ → ℕ) (records : List CoreRecord) (log : List Op) (h : AreTogether initial records log) where
    -- those before an operation come before it by core and program order
    pub sorted_chosen : (left right : List Op) (r : Op) → chosen test records ≡ left ++ (r ∷ right) → Each (λ (o : Op). comes_before r o ≡ true) left
    sorted_chosen left right r e =
        let own = is_chosen test records h.own r left right e in
        let m = of_core_found initial records log h r own.kept own.found in
        let smaller = smaller_before 0 (filter (of_core r.core) left) r (filter (of_core r.core) right)
        (subst (λ (os : List Op). Rising 0 os) own.parts (rising_filter (test own.kept) 0 0 own.kept.ops (omega arith) m.numbered)) in
        each_both (λ (o : Op). o.core ≤ r.core) (λ (o : Op). of_core r.core o ≡ true → o.k < r.k) (λ (o : Op). comes_before r o ≡ true) left
        (λ o le low. before_by_core o r le (λ same. let below = low (eq-eqb o.core r.core same) in omega (arith, below)))
        (lower_cores 0 records h.own left right r e)
        (each_of (λ (o : Op). o.k < r.k) (of_core r.core) left smaller)

module _ (setup : Setup) (records : List CoreRecord) (bus : BusRecord) (watch : List Word2) (ok : IsGatherable setup records bus watch) where
  abbrev reported : Trace
  reported = trace setup records bus watch ok

  abbrev log : List Entry
  log = bus.log.entries

  abbrev at : AhbStatus
  at = status setup records bus watch ok

  abbrev entered : List Op
  entered = map (operation_of records) log

  abbrev all : AreTogether (initial_byte setup.image) records entered
  all = together setup records log bus.transfers at bus.fates watch ok.right

  abbrev completions : List (List Completion)
  completions = map completions_of (replay_of setup reported).cores

  -- ---- an operation and its record

  abbrev IsOwn : Op → Type 0
  IsOwn o = IsSomeAnd (slice_get records o.core) (λ kept. slice_get kept.ops o.k ≡ Some o)

  own_ops : Each IsOwn reported.order
  own_ops = each_operation setup records bus watch ok IsOwn (λ c kept found.
      let r = record_kept setup records bus watch ok c kept found in
      each_both (λ (o : Op). o.core ≡ c) (λ (o : Op). slice_get kept.ops o.k ≡ Some o) IsOwn kept.ops
      (λ o own is. subst (λ f. IsSomeAnd f (λ (k : CoreRecord). slice_get k.ops o.k ≡ Some o)) (sym (ap (λ n. slice_get records n) own ∙ found)) is)
      r.seen.of_core (numbers setup records log bus.transfers at bus.fates watch ok.right kept c r))

  -- its completion, by the course of its core
  completed : (o : Op) (kept : CoreRecord) → slice_get records o.core ≡ Some kept → slice_get kept.ops o.k ≡ Some o
      → completion_of completions o.core o.k ≡ Some (completion_reported o (slice_index kept.seen o.k))
  completed o kept found is =
      let r = record_kept setup records bus watch ok o.core kept found in
      ap (λ (f : Option (List Completion)). option_and_then (λ cs. slice_get cs o.k) f)
      (slice_get-map completions_of (replay_of setup reported).cores o.core ∙ ap (option_map completions_of) (core_found setup records bus watch ok o.core ∙ ap (option_map (core_of setup records bus watch ok o.core)) found))
      ∙ (ap (λ (cs : List Completion). slice_get cs o.k) r.completed
      ∙ (slice_get-map (λ (x : Op × ℕ). completion_reported x.0 x.1) (zip kept.ops kept.seen) o.k
      ∙ ap (option_map (λ (x : Op × ℕ). completion_reported x.0 x.1)) (zip_at kept.ops kept.seen o.k o r.seen.one_each is)))

  -- ---- where an operation stands in the order

  -- sorted: it comes right among its like; seen: a load is after as many entries as its core had seen
  record Standing (kept : CoreRecord) (pre : List Op) (o : Op) (later : List Op) : Type 0 where
    sorted : sorted_by (past before_all pre) o later o.kind ≡ true
    seen : is_load o ≡ true → slice_index kept.seen o.k ≡ length (filter enters pre)

  abbrev places : ℕ → List Op
  places = loads_at records

  abbrev lost : List Op
  lost = chosen is_lost_in records

  -- before a load of a place
  entries_before : (front left : List Op) → Each (λ (o : Op). enters o ≡ true) front → Each (λ (o : Op). is_load o ≡ true) left
      → length (filter enters (woven_before places 0 front ++ left)) ≡ length front
  entries_before front left enter loads = ap (λ (os : List Op). length os) (
      filter-append enters (woven_before places 0 front) left
      ∙ (ap (λ (os : List Op). filter enters (woven_before places 0 front) ++ os)
      (filter_none enters left (each_weaker (λ (o : Op). is_load o ≡ true) (λ (o : Op). enters o ≡ false) left load_enters_not loads))
      ∙ (append-nil (filter enters (woven_before places 0 front))
      ∙ (filter_before places enters (none_of_loads (initial_byte setup.image) records entered all enters load_enters_not) 0 front ∙ filter_all enters front enter))))

  sorted_load : (o : Op) (b : Before) (later : List Op) → is_load o ≡ true → Each (λ (x : Op). comes_before o x ≡ true) b.loads → sorted_by b o later o.kind ≡ true
  sorted_load o b later load each = rw (load_kind o.kind load) (all_hold (comes_before o) b.loads each)

  sorted_entry : (o : Op) (b : Before) (later : List Op) (kind : OpKind) → o.kind ≡ kind → enters o ≡ true → sorted_by b o later o.kind ≡ true
  sorted_entry o b later Load e is = absurd (true_or (ap kind_enters e) is)
  sorted_entry o b later Store e is = rw e refl
  sorted_entry o b later Atomic e is = rw e refl
  sorted_entry o b later Lost e is = absurd (true_or (ap kind_enters e) is)

  sorted_lost : (o : Op) (b : Before) (later : List Op) → is_lost o ≡ true → Each (λ (x : Op). is_lost x ≡ true) later → Each (λ (x : Op). comes_before o x ≡ true) b.lost
      → sorted_by b o later o.kind ≡ true
  sorted_lost o b later is last each = rw (lost_kind o.kind is, all_hold is_lost later last, all_hold (comes_before o) b.lost each) refl

  -- a load
  load_stands : (kept : CoreRecord) (pre mid later : List Op) (o : Op) → slice_get records o.core ≡ Some kept → AtAPlace places 0 entered pre o mid → Standing kept pre o later
  load_stands kept pre mid later o found p =
      let own = is_chosen (is_load_at p.n) records all.own o p.left p.right p.here in
      let passes = and_parts (is_load o) (slice_index own.kept.seen o.k == p.n) own.passes in
      let loads = each_first (λ (x : Op). is_load x ≡ true) p.left (o ∷ p.right)
      (subst (λ (os : List Op). Each (λ (x : Op). is_load x ≡ true) os) p.here (loads_load (initial_byte setup.image) records entered all p.n)) in
      let enter = each_first (λ (x : Op). enters x ≡ true) p.front p.back (subst (λ (os : List Op). Each (λ (x : Op). enters x ≡ true) os) p.parts all.enter) in
      let start = past before_all (woven_before places 0 p.front) in
      let none : start.loads ≡ [] = past_woven places before_all 0 p.front enter refl in
      let same : own.kept ≡ kept = same_Some _ _ (sym own.found ∙ found) in
      record {
        sorted = sorted_load o (past before_all pre) later passes.0
            (subst (λ (os : List Op). Each (λ (x : Op). comes_before o x ≡ true) (past before_all os).loads) (sym p.pre_is)
            (subst (λ (b : Before). Each (λ (x : Op). comes_before o x ≡ true) b.loads) (sym (fold-append (λ (x : Before) (y : Op). after_kind y x y.kind) before_all (woven_before places 0 p.front) p.left))
            (past_loads (λ (x : Op). comes_before o x ≡ true) start p.left
            (sorted_chosen (is_load_at p.n) (initial_byte setup.image) records entered all p.left p.right o p.here)
            (subst (λ (os : List Op). Each (λ (x : Op). comes_before o x ≡ true) os) (sym none) tt))));
        seen = λ load.
            ap (λ (k : CoreRecord). slice_index k.seen o.k) (sym same)
            ∙ (eqb-true (slice_index own.kept.seen o.k) p.n passes.1
            ∙ (p.n_is
            ∙ (plain (length p.front)
            ∙ (sym (entries_before p.front p.left enter loads) ∙ ap (λ (os : List Op). length (filter enters os)) (sym p.pre_is)))));
      }
    where
      plain : (n : ℕ) → 0 + n ≡ n
      plain n = omega arith

  entry_stands : (kept : CoreRecord) (pre mid later : List Op) (o : Op) → IsEntry places 0 entered pre o mid → Standing kept pre o later
  entry_stands kept pre mid later o p =
      let here = (each_second (λ (x : Op). enters x ≡ true) p.front (o ∷ p.back) (subst (λ (os : List Op). Each (λ (x : Op). enters x ≡ true) os) p.parts all.enter)).0 in
      record { sorted = sorted_entry o (past before_all pre) later o.kind refl here; seen = λ load. absurd (true_or (load_enters_not o load) here) }

  abbrev NotLost : Op → Type 0
  NotLost o = is_lost o ≡ false

  woven_not_lost : Each NotLost (woven places 0 entered)
  woven_not_lost = each_woven places NotLost 0 entered
      (λ i. each_weaker (λ (o : Op). is_load o ≡ true) NotLost (places i) (λ o load. load_not_lost o.kind load) (loads_load (initial_byte setup.image) records entered all i))
      (each_weaker (λ (o : Op). enters o ≡ true) NotLost entered (λ o is. enters_not_lost o.kind is) all.enter)

  lost_stands : (kept : CoreRecord) (pre mid later : List Op) (o : Op) → pre ≡ woven places 0 entered ++ mid → lost ≡ mid ++ (o ∷ later) → Standing kept pre o later
  lost_stands kept pre mid later o before here =
      let each = each_second (λ (x : Op). is_lost x ≡ true) mid (o ∷ later) (subst (λ (os : List Op). Each (λ (x : Op). is_lost x ≡ true) os) here (lost_lost (initial_byte setup.image) records entered all)) in
      record {
        sorted = sorted_lost o (past before_all pre) later each.0 each.1
            (past_lost (λ (x : Op). comes_before o x ≡ true) before_all pre
            (subst (λ (os : List Op). Each (λ (x : Op). is_lost x ≡ true → comes_before o x ≡ true) os) (sym before)
            (each_append (λ (x : Op). is_lost x ≡ true → comes_before o x ≡ true) (woven places 0 entered) mid
            (each_weaker NotLost (λ (x : Op). is_lost x ≡ true → comes_before o x ≡ true) (woven places 0 entered) (λ x not is. absurd (true_or not is)) woven_not_lost)
            (each_weaker (λ (x : Op). comes_before o x ≡ true) (λ (x : Op). is_lost x ≡ true → comes_before o x ≡ true) mid (λ x f is. f)
            (sorted_chosen is_lost_in (initial_byte setup.image) records entered all mid later o here)))) tt);
        seen = λ load. absurd (true_or (load_not_lost o.kind load) each.0);
      }

  stands : (kept : CoreRecord) (pre later : List Op) (o : Op) → slice_get records o.core ≡ Some kept → reported.order ≡ pre ++ (o ∷ later) → Standing kept pre o later
  stands kept pre later o found split = elim (split_append (woven places 0 entered) lost pre o later split) [
    | inl first ↦ elim (split_woven places 0 entered pre o first.mid first.first) [
      | inl place ↦ load_stands kept pre first.mid later o found place
      | inr entry ↦ entry_stands kept pre first.mid later o entry
    ]
    | inr second ↦ lost_stands kept pre second.mid later o second.before second.second
  ]

  -- ---- the account of an operation

  retired_by : (o : Op) (b : Before) (n : ℕ) (kind : OpKind) → o.kind ≡ kind → (is_load o ≡ true → n ≡ b.entries)
      → option_map (shown o.kind) (Some (completion_reported o n)) ≡ Some (reported_by b o o.kind)
  retired_by o b n Load e seen = rw (e, seen (ap is_load_kind e)) refl
  retired_by o b n Store e seen = rw e refl
  retired_by o b n Atomic e seen = rw e refl
  retired_by o b n Lost e seen = rw e refl

  three : {e e' : Option LogEntry} {r r' : Option Completion} {s s' : Bool} → e ≡ e' → r ≡ r' → s ≡ s'
      → ◌≡◌ {A = OrderAccount} (record { entry = e; retired = r; sorted = s }) (record { entry = e'; retired = r'; sorted = s' })
  three p q r = rw (p, q, r) refl

  -- logged: the entries that the run makes are those of the log
  module _ (logged : filter_map entry_made (replay_of setup reported).made ≡ map entry_named log) where
    abbrev made_entries : List LogEntry
    made_entries = filter_map entry_made (replay_of setup reported).made

    logged_ops : made_entries ≡ map entry_named (map made (filter enters reported.order))
    logged_ops = logged ∙ ap (map entry_named) (sym (
        ap (map made) (order_enters setup records log bus.transfers at bus.fates watch ok.right reported refl) ∙ log_made setup records log bus.transfers at bus.fates watch ok.right))

    entry_part : (pre later : List Op) (o : Op) (n : ℕ) → reported.order ≡ pre ++ (o ∷ later) → n ≡ length (filter enters pre) → enters o ≡ true
        → slice_get made_entries n ≡ Some (entry_named (made o))
    entry_part pre later o n split count is =
        ap (λ (es : List LogEntry). slice_get es n) logged_ops
        ∙ (slice_get-map entry_named (map made (filter enters reported.order)) n
        ∙ ap (option_map entry_named) (slice_get-map made (filter enters reported.order) n
        ∙ ap (option_map made) (
        ap (λ (os : List Op). slice_get (filter enters os) n) split
        ∙ (ap (λ (os : List Op). slice_get os n) (filter-append enters pre (o ∷ later) ∙ here)
        ∙ seam (filter enters pre) o (filter enters later) n count))))
      where
        here : filter enters pre ++ filter enters (o ∷ later) ≡ filter enters pre ++ (o ∷ filter enters later)
        here = rw is refl

    entry_same : (pre later : List Op) (o : Op) (b : Before) (is : Bool) → enters o ≡ is → reported.order ≡ pre ++ (o ∷ later) → b.entries ≡ length (filter enters pre)
        → entry_in_log made_entries b o ≡ (if enters o then Some (record { core = o.core; number = o.k }) else None)
    entry_same pre later o b true e split count = rw e (entry_part pre later o b.entries split count e)
    entry_same pre later o b false e split count = rw e refl

    place_same : (pre later : List Op) (o : Op) → reported.order ≡ pre ++ (o ∷ later)
        → place_by_course made_entries completions (past before_all pre) o later ≡ place_as_reported (past before_all pre) o later
    place_same pre later o split =
        let count : (past before_all pre).entries ≡ length (filter enters pre) = past_entries before_all pre ∙ omega arith in
        let own = (each_second IsOwn pre (o ∷ later) (subst (λ (os : List Op). Each IsOwn os) split own_ops)).0 in
        from_some (λ (kept : CoreRecord). slice_get kept.ops o.k ≡ Some o) (slice_get records o.core) own (λ kept found is.
        let stand = stands kept pre later o found split in
        three (entry_same pre later o (past before_all pre) (enters o) refl split count)
        (ap (option_map (shown o.kind)) (completed o kept found is)
        ∙ retired_by o (past before_all pre) (slice_index kept.seen o.k) o.kind refl (λ load. stand.seen load ∙ sym count))
        (sym stand.sorted))

    pub order_right : along (place_by_course made_entries completions) before_all reported.order ≡ along place_as_reported before_all reported.order
    order_right = along_same (place_by_course made_entries completions) place_as_reported before_all reported.order place_same
