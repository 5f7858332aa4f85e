-- The trace that is gathered is one that a report can show.
use Rattle.std.proofs.Common.{◌≡◌, ◌∙◌, ◌+◌, ◌<◌, ◌≤◌, ◌==◌, ℕ, zero, suc, Bool, true, false, not, List, [], ◌∷◌, length, filter, map, slice_get, Option, Some, None, IsSomeAnd, refl, ap, sym, subst, arith, add-one}
use Rattle.std.proofs.Math.Nat.{mul-add, mul-le-mul_left}
use Rattle.std.proofs.lemmas.Bool.{and_parts, le-leb, eqb-true, eqb-false}
use Rattle.std.proofs.lemmas.List.{length-append, length-map}
use Rattle.std.proofs.lemmas.List.Filters.{length-filter_both}
use Rattle.std.proofs.lemmas.List.Sums.{length-filter}
use Rattle.std.proofs.lemmas.Option.{option_and_then_some, same_Some}
use Rattle.std.proofs.lemmas.Simd.{map-map}
use Rattle.std.specs.List.{AllByRecursion as Each}
use Rattle.std.specs.List.{list_all, range_with_len}
use Rattle.std.specs.Option.{is_some}
use Rattle.ahb_bus.specs.declared.record.BusRecord.{BusRecord}
use Rattle.lf_model.proofs.EachLemmas.{each_append, each_both, each_weaker}
use Rattle.lf_model.specs.Bus.Status.{AhbStatus}
use Rattle.lf_model.specs.Bus.Walk.{scrubber}
use Rattle.lf_model.specs.Effect.{Access}
use Rattle.lf_model.specs.ProgramOrder.{answers_of}
use Rattle.lf_model.specs.Ledger.Account.{without_length}
use Rattle.lf_model.specs.Ledger.Steps.{own_transfers}
use Rattle.lf_model.specs.Once.{HasMaster}
use Rattle.lf_model.specs.Operation.{of_core, enters, made}
use Rattle.lf_model.specs.Promise.Regular.{IsRegular, is_regular_core, is_regular_op, is_regular_word, steps_fit, turn_of}
use Rattle.lf_model.specs.Promise.RegularTransfer.{fits_word, is_regular_on_bus, is_regular_transfer}
use Rattle.lf_model.specs.Records.AllRecords.{watched_word, words_named_by_all}
use Rattle.lf_model.specs.Records.BusMemory.{memory_after}
use Rattle.lf_model.specs.Records.CoreRecord.{core_of_record}
use Rattle.lf_model.specs.Records.CoreRules.{ShowsState}
use Rattle.lf_model.specs.Run.{Run, operation, with_access, effect_at_pc, answered, onward, run}
use Rattle.lf_model.specs.Start.{initial_byte}
use Rattle.lf_model.specs.declared.bus.Entry.{Entry}
use Rattle.lf_model.specs.declared.bus.Transfer.{Transfer}
use Rattle.lf_model.specs.declared.record.CoreRecord.{CoreRecord}
use Rattle.lf_model.specs.declared.setup.Setup.{Setup}
use Rattle.lf_model.specs.declared.trace.CoreResult.{CoreResult}
use Rattle.lf_model.specs.declared.trace.Op.{Op}
use Rattle.lf_model.specs.declared.trace.Trace.{Trace}
use Rattle.lf_model.specs.declared.trace.Word2.{Word2}
use Rattle.run_trace.specs.Gathered.{result_kept, IsGatherable}
use Rattle.run_trace.specs.Order.{chosen, is_load_at, is_lost_in, loads_at, operation_of, woven}
use Rattle.run_trace.proofs.Cores.{some_at}
use Rattle.run_trace.proofs.Counts.{core_number}
use Rattle.run_trace.proofs.Execution.{all_within, core_at, of_number}
use Rattle.run_trace.proofs.Headlines.{fates_count}
use Rattle.run_trace.proofs.Lists.{filter_swap, each_filter, each_of, each_pass}
use Rattle.run_trace.proofs.Replayed.{core_master}
use Rattle.run_trace.proofs.Shares.{shared, fewer, not_true}
use Rattle.run_trace.proofs.Together.{each_by_place, each_map, each_core_op, own_entries, cores_kept, together}
use Rattle.run_trace.proofs.TraceReplay.{trace, status, record_kept}
use Rattle.run_trace.proofs.Woven.{each_woven}

-- ---- lists

pub each_true : {X : Type 0} (p : X → Bool) (xs : List X) → list_all p xs ≡ true → Each (λ x. p x ≡ true) xs
each_true p [] h = tt
each_true p (x ∷ xs) h = let both = and_parts (p x) (list_all p xs) h in (both.0, each_true p xs both.1)

all_true : {X : Type 0} (p : X → Bool) (xs : List X) → Each (λ x. p x ≡ true) xs → list_all p xs ≡ true
all_true p [] h = refl
all_true p (x ∷ xs) h = rw h.0 (all_true p xs h.1)

each_some : {X : Type 0} (P : X → Type 0) (xs : List X) → ((i : ℕ) (x : X) → slice_get xs i ≡ Some x → P x) → Each P xs
each_some P [] h = tt
each_some P (x ∷ xs) h = (h 0 x refl, each_some P xs (λ i y found. h (suc i) y found))

pub from_some : {X P : Type 0} (Q : X → Type 0) (o : Option X) → IsSomeAnd o Q → ((x : X) → o ≡ Some x → Q x → P) → P
from_some Q None h f = absurd h
from_some Q (Some x) h f = f x refl h

-- ---- a run makes an operation for each instruction at most

one_more : (core got : ℕ) (x : Option Access) (ops : List Entry) → length (with_access core got x ops) ≤ length ops + 1
one_more core got None ops = omega arith
one_more core got (Some a) ops = omega (arith, length-append ops (operation core (length ops) got a ∷ []))

module _ (setup : Setup) (core : ℕ) (answers : List ℕ) where
  onward_few : (q r : Run) (halted : Bool) → is_some q.state.halt ≡ halted → onward setup core answers q ≡ Some r → length r.ops ≤ length q.ops + 1
  onward_few q r true e step = absurd (let no_step = rw e at step in cc)
  onward_few q r false e step =
      let here : answered core answers q (effect_at_pc setup core q.state) ≡ r = same_Some _ _ (rw e at step) in
      subst (λ (x : Run). length x.ops ≤ length q.ops + 1) here (one_more core _ (effect_at_pc setup core q.state).access q.ops)

  ops_few : (n : ℕ) (r : Run) → run setup core answers n ≡ Some r → length r.ops ≤ n
  unfolding run
  ops_few zero r h = omega (arith, ap (λ (x : Run). length x.ops) (same_Some _ _ h))
  ops_few (suc n) r h = option_and_then_some (onward setup core answers) (run setup core answers n) r h (λ q before step.
      omega (arith, ops_few n q before, onward_few q r (is_some q.state.halt) refl step, add-one n))

module _ (setup : Setup) (records : List CoreRecord) (bus : BusRecord) (watch : List Word2) (ok : IsGatherable setup records bus watch) where
  abbrev reported : Trace
  reported = trace setup records bus watch ok

  abbrev log : List Entry
  log = bus.log.entries

  abbrev at : AhbStatus
  at = status setup records bus watch ok

  -- ---- cores

  core_steps : (c : ℕ) (kept : CoreRecord) → slice_get records c ≡ Some kept → kept.result.steps ≤ setup.config.steps
  core_steps c kept found =
      let r = record_kept setup records bus watch ok c kept found in
      from_some (λ (q : Run). ShowsState setup (core_of_record c kept bus.transfers) q.state) (run setup c (answers_of kept.ops) kept.result.n) r.result (λ q is shows. shows.within)

  cores_count : length reported.cores ≡ setup.config.cores
  cores_count = length-map records result_kept ∙ ok.right.one_each

  few_steps : list_all (steps_fit (length reported.cores)) reported.cores ≡ true
  few_steps = all_true (steps_fit (length reported.cores)) reported.cores
      (each_map (λ (r : CoreResult). steps_fit (length reported.cores) r ≡ true) result_kept records
      (each_some (λ (kept : CoreRecord). steps_fit (length reported.cores) kept.result ≡ true) records (λ c kept found.
      rw cores_count (le-leb _ _ (omega (arith, mul-le-mul_left setup.config.cores (core_steps c kept found), ok.limits.few_steps))))))

  -- ---- operations

  core_ops : (c : ℕ) (kept : CoreRecord) → slice_get records c ≡ Some kept → length kept.ops ≤ setup.config.steps
  core_ops c kept found =
      let r = record_kept setup records bus watch ok c kept found in
      from_some (λ (q : Run). q.ops ≡ map made kept.ops) (run setup c (answers_of kept.ops) kept.result.n) r.thread.same (λ q is same.
      omega (arith, ops_few setup c (answers_of kept.ops) kept.result.n q is, ap (λ (es : List Entry). length es) same, length-map kept.ops made, r.thread.within))

  few_operations : length reported.order ≤ 4000000
  few_operations = omega (
    arith,
    shared (λ (o : Op). o.core) setup.config.steps setup.config.cores reported.order (all_within setup records log bus.transfers at bus.fates watch ok.right)
        (λ c within. let found = some_at records c (omega (arith, within, ok.right.one_each)) in
        omega (
          arith,
          length-filter (of_core c) reported.order,
          core_ops c found.0 found.1,
          core_number (initial_byte setup.image) records (map (operation_of records) log) (together setup records log bus.transfers at bus.fates watch ok.right)
              (of_number setup records log bus.transfers at bus.fates watch ok.right c) found.0 (core_at setup records log bus.transfers at bus.fates watch ok.right c found.0 found.1),
        )),
    ok.limits.few_steps,
  )

  -- what holds of all operations of the records holds of those of the order
  module _ (P : Op → Type 0) (each : (c : ℕ) (kept : CoreRecord) → slice_get records c ≡ Some kept → Each P kept.ops) where
    each_chosen : (test : CoreRecord → Op → Bool) (rs : List CoreRecord) → Each (λ (kept : CoreRecord). Each P kept.ops) rs → Each P (chosen test rs)
    each_chosen test [] h = tt
    each_chosen test (kept ∷ rs) h = each_append P (filter (test kept) kept.ops) (chosen test rs) (each_filter P (test kept) kept.ops h.0) (each_chosen test rs h.1)

    all_chosen : (test : CoreRecord → Op → Bool) → Each P (chosen test records)
    all_chosen test = each_chosen test records (each_some (λ (kept : CoreRecord). Each P kept.ops) records each)

    each_entered : Each P (map (operation_of records) log)
    each_entered = each_core_op P (map (operation_of records) log) (λ c. of_core_c c (slice_get records c) refl)
      where
        of_core_c : (c : ℕ) (found : Option CoreRecord) → slice_get records c ≡ found → Each (λ (o : Op). of_core c o ≡ true → P o) (map (operation_of records) log)
        of_core_c c None e = each_weaker (λ (o : Op). o.core < length records) (λ (o : Op). of_core c o ≡ true → P o) (map (operation_of records) log)
            (λ o within own. absurd (no_record (sym e ∙ (some_at records c (omega (arith, within, eqb-true o.core c own))).1)))
            (cores_kept setup records log bus.transfers at bus.fates watch ok.right)
          where
            no_record : {k : CoreRecord} → None ≡ Some k → ⊥
            no_record q = cc
        of_core_c c (Some kept) e = each_of P (of_core c) (map (operation_of records) log)
            (subst (λ (os : List Op). Each P os) (sym (own_entries setup records log bus.transfers at bus.fates watch ok.right c kept e (record_kept setup records bus watch ok c kept e)))
            (each_filter P enters kept.ops (each c kept e)))

    pub each_operation : Each P reported.order
    each_operation = each_append P (woven (loads_at records) 0 (map (operation_of records) log)) (chosen is_lost_in records)
        (each_woven (loads_at records) P 0 (map (operation_of records) log) (λ i. all_chosen (is_load_at i)) each_entered) (all_chosen is_lost_in)

  -- ---- transfers

  abbrev is_walks : Transfer → Bool
  is_walks t = t.master == scrubber

  abbrev cores_transfers : List Transfer
  cores_transfers = filter (λ t. not (is_walks t)) bus.transfers

  masters : Each (λ (t : Transfer). t.master < setup.config.cores) cores_transfers
  masters = each_both (λ (t : Transfer). HasMaster setup.config.cores t.master t.kind) (λ (t : Transfer). not (is_walks t) ≡ true) (λ (t : Transfer). t.master < setup.config.cores) cores_transfers
      (λ t has other. core_master setup.config.cores t.master t.kind has (eqb-false t.master scrubber (not_true (is_walks t) other)))
      (each_filter (λ (t : Transfer). HasMaster setup.config.cores t.master t.kind) (λ t. not (is_walks t)) bus.transfers
      (each_by_place (λ (t : Transfer). HasMaster setup.config.cores t.master t.kind) bus.transfers ok.right.bus.masters))
      (each_pass (λ t. not (is_walks t)) bus.transfers)

  few_transfers : length reported.transfers ≤ 5000064
  few_transfers =
      let parts = length-filter_both is_walks (λ t. not (is_walks t)) (λ t. refl) bus.transfers in
      let shares = shared (λ (t : Transfer). t.master) (setup.config.steps + 8) setup.config.cores cores_transfers masters (λ c within.
      omega (
        arith,
        ap (λ (ts : List Transfer). length ts) (filter_swap (λ (t : Transfer). t.master == c) (λ t. not (is_walks t)) bus.transfers),
        fewer (λ t. not (is_walks t)) (own_transfers c bus.transfers),
        ok.right.bus.core_share c within,
      )) in
      omega (arith, length-map bus.transfers without_length, parts, shares, ok.right.bus.scrub_share, mul-add setup.config.cores setup.config.steps 8, ok.limits.few_cores, ok.limits.few_steps, ok.limits.few_scrub_turns)

  transfers_fit : list_all is_regular_transfer reported.transfers ≡ true
  transfers_fit = all_true is_regular_transfer reported.transfers
      (each_map (λ (t : Transfer). is_regular_transfer t ≡ true) without_length bus.transfers
      (each_weaker (λ (t : Transfer). is_regular_on_bus t ≡ true) (λ (t : Transfer). is_regular_transfer (without_length t) ≡ true) bus.transfers
      (λ t fits. rw fits refl) (each_true is_regular_on_bus bus.transfers ok.right.bus.regular)))

  -- ---- all of it

  pub regular : fits_word bus.ahb_addr ≡ true → fits_word bus.ahb_status ≡ true → list_all is_regular_word watch ≡ true → IsRegular reported
  regular addr_fits status_fits words_are_regular = record {
    some_core = omega (arith, cores_count, ok.limits.some_core);
    few_cores = omega (arith, cores_count, ok.limits.few_cores);
    few_steps = few_steps;
    few_transfers = few_transfers;
    few_operations = few_operations;
    few_fates = omega (arith, fates_count records bus.fates 0 setup.flips, ok.limits.few_flips);
    few_words = omega (arith, ap (λ (ws : List Word2). length ws) ok.right.watch_is, length-map setup.config.watch (watched_word setup.image log (memory_after setup.flips (words_named_by_all records) bus.transfers).words), ok.limits.few_words);
    cores = all_true is_regular_core reported.cores
        (each_map (λ (r : CoreResult). is_regular_core r ≡ true) result_kept records
        (each_some (λ (kept : CoreRecord). is_regular_core kept.result ≡ true) records (λ c kept found. (record_kept setup records bus watch ok c kept found).core_fits)));
    status = rw (addr_fits, status_fits) refl;
    turns = map-map turn_of without_length bus.transfers ∙ (ok.right.bus.turns ∙ ap (range_with_len 0) (sym (length-map bus.transfers without_length)));
    transfers = transfers_fit;
    operations = all_true is_regular_op reported.order
        (each_operation (λ (o : Op). is_regular_op o ≡ true) (λ c kept found. each_true is_regular_op kept.ops (record_kept setup records bus watch ok c kept found).ops_fit));
    words = words_are_regular;
  }
