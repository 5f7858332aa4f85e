-- The trace that is gathered is a total-store-order execution: the rules Once, LoadOp, StoreStore, Thread and Value about its cores
-- and its order.
use Rattle.std.proofs.Common.{◌≡◌, ◌∙◌, ◌+◌, ◌<◌, ℕ, List, ◌∷◌, length, map, slice_get, Option, Some, None, IfSome, refl, ap, sym, subst, arith}
use Rattle.std.proofs.lemmas.Option.{slice_get-map}
use Rattle.std.specs.List.{AllByRecursion as Each}
use Rattle.std.specs.Option.{option_map}
use Rattle.lf_model.proofs.EachLemmas.{each_append, each_second, each_weaker}
use Rattle.lf_model.proofs.SplitLemmas.{nowhere}
use Rattle.lf_model.specs.Bus.Status.{AhbStatus}
use Rattle.lf_model.specs.ProgramOrder.{program_order}
use Rattle.lf_model.specs.Once.{OnceAtCore, OnceAtOrder}
use Rattle.lf_model.specs.Places.{FailsNowhere, FailsNowhereIn}
use Rattle.lf_model.specs.Records.AllRecords.{AreRecordsOk}
use Rattle.lf_model.specs.Records.CoreRecord.{RecordOk}
use Rattle.lf_model.specs.Records.CoreRules.{HasThread, ThreadAt, core_in_trace}
use Rattle.lf_model.specs.Start.{initial_byte}
use Rattle.lf_model.specs.declared.bus.Entry.{Entry}
use Rattle.lf_model.specs.declared.bus.Transfer.{Transfer}
use Rattle.lf_model.specs.declared.record.CoreRecord.{CoreRecord}
use Rattle.lf_model.specs.declared.setup.Setup.{Setup}
use Rattle.lf_model.specs.declared.trace.CoreResult.{CoreResult}
use Rattle.lf_model.specs.declared.trace.Fate.{Fate}
use Rattle.lf_model.specs.declared.trace.Op.{Op}
use Rattle.lf_model.specs.declared.trace.Trace.{Trace}
use Rattle.lf_model.specs.declared.trace.Word2.{Word2}
use Rattle.run_trace.specs.Gathered.{result_kept}
use Rattle.run_trace.specs.Order.{chosen, is_load_at, is_lost_in, loads_at, no_operation, operation_of, order_of, woven}
use Rattle.run_trace.proofs.Counts.{once_at}
use Rattle.run_trace.proofs.Cores.{chosen_within, some_at}
use Rattle.run_trace.proofs.Members.{OfCore, of_core_found}
use Rattle.run_trace.proofs.ProgramOrder.{program_order_kept}
use Rattle.run_trace.proofs.Together.{record_at, together}
use Rattle.run_trace.proofs.Woven.{each_woven}

module _ (setup : Setup) (records : List CoreRecord) (log : List Entry) (transfers : List Transfer) (status : AhbStatus) (fates : List Fate) (watch : List Word2)
    (ok : AreRecordsOk setup records log transfers status fates watch) where
  abbrev entered : List Op
  entered = map (operation_of records) log

  -- an operation of a core with this number
  abbrev pub of_number : ℕ → Op
  of_number c = record no_operation { core = c }

  pub core_at : (c : ℕ) (kept : CoreRecord) → slice_get records c ≡ Some kept
      → OfCore (initial_byte setup.image) records (map (operation_of records) log) (together setup records log transfers status fates watch ok) (of_number c) kept
  core_at c kept found = of_core_found (initial_byte setup.image) records (map (operation_of records) log) (together setup records log transfers status fates watch ok) (of_number c) kept found

  pub order_of_core : (c : ℕ) (kept : CoreRecord) → slice_get records c ≡ Some kept → program_order c (order_of records log) ≡ kept.ops
  order_of_core c kept found = program_order_kept (initial_byte setup.image) records (map (operation_of records) log) (together setup records log transfers status fates watch ok) (of_number c) kept (core_at c kept found)

  pub once_cores : FailsNowhere setup.config.cores (OnceAtCore (order_of records log))
  once_cores c within =
      let at = some_at records c (omega (arith, within, ok.one_each)) in
      once_at (initial_byte setup.image) records (map (operation_of records) log) (together setup records log transfers status fates watch ok) (of_number c) at.0 (core_at c at.0 at.1)

  pub all_within : Each (λ (o : Op). o.core < setup.config.cores) (order_of records log)
  all_within =
      let all = together setup records log transfers status fates watch ok in
      each_weaker (λ (o : Op). o.core < 0 + length records) (λ (o : Op). o.core < setup.config.cores) (order_of records log) (λ o e. omega (arith, e, ok.one_each))
      (each_append (λ (o : Op). o.core < 0 + length records) (woven (loads_at records) 0 (map (operation_of records) log)) (chosen is_lost_in records)
      (each_woven (loads_at records) (λ (o : Op). o.core < 0 + length records) 0 (map (operation_of records) log) (λ i. chosen_within (is_load_at i) 0 records all.own)
      (each_weaker (λ (o : Op). o.core < length records) (λ (o : Op). o.core < 0 + length records) (map (operation_of records) log) (λ o e. omega (arith, e)) all.cores))
      (chosen_within is_lost_in 0 records all.own))

  pub once_order : FailsNowhereIn (OnceAtOrder setup.config.cores) (order_of records log)
  once_order = nowhere (OnceAtOrder setup.config.cores) (order_of records log)
      (λ earlier later o e. (each_second (λ (x : Op). x.core < setup.config.cores) earlier (o ∷ later) (subst (λ (os : List Op). Each (λ (x : Op). x.core < setup.config.cores) os) e all_within)).0)

  -- ---- threads

  module _ (trace : Trace) (cores_are : trace.cores ≡ map result_kept records) (order_is : trace.order ≡ order_of records log) where
    thread_of : (c : ℕ) (found : Option CoreRecord) → slice_get records c ≡ found → IfSome found (λ kept. RecordOk setup c kept log transfers)
        → IfSome (option_map result_kept found) (λ r. HasThread setup (core_in_trace trace c r))
    thread_of c None e r = tt
    thread_of c (Some kept) e r =
        let ops : program_order c trace.order ≡ kept.ops = ap (program_order c) order_is ∙ order_of_core c kept e in
        let thread : HasThread setup (record { core = c; result = kept.result; ops = kept.ops; transfers = trace.transfers }) = record { within = r.thread.within; same = r.thread.same } in
        subst (λ (os : List Op). HasThread setup (record { core = c; result = kept.result; ops = os; transfers = trace.transfers })) (sym ops) thread

    pub threads : FailsNowhere setup.config.cores (ThreadAt setup trace)
    threads c within = subst (λ (o : Option CoreResult). IfSome o (λ r. HasThread setup (core_in_trace trace c r)))
        (sym (ap (λ (rs : List CoreResult). slice_get rs c) cores_are ∙ slice_get-map result_kept records c))
        (thread_of c (slice_get records c) refl (record_at setup records log transfers status fates watch ok c))
