-- What the trace that is gathered reports of each core and each watched word is that of its execution, and its parts are the setup's.
use Rattle.std.proofs.Common.{◌≡◌, ◌∙◌, ◌+◌, ◌++◌, ℕ, zero, suc, Bool, true, false, if◌then◌else◌, List, length, filter, map, count_by, slice_get, Option, Some, None, IfSome, IsSomeAnd, refl, ap, sym, subst, arith}
use Rattle.std.proofs.lemmas.List.{append-nil, length-map}
use Rattle.std.proofs.lemmas.List.Elements.{filter-append}
use Rattle.std.proofs.lemmas.List.Sums.{length-filter}
use Rattle.std.proofs.lemmas.Option.{slice_get-map}
use Rattle.std.proofs.lemmas.Simd.{map-map}
use Rattle.std.specs.Option.{option_map}
use Rattle.lf_model.proofs.EachLemmas.{each_weaker, filter_map_same, filter_none}
use Rattle.lf_model.specs.Bus.Status.{AhbStatus}
use Rattle.lf_model.specs.Bus.Words.{word_history}
use Rattle.lf_model.specs.ProgramOrder.{answers_of, program_order}
use Rattle.lf_model.specs.Flips.{is_bad_word}
use Rattle.lf_model.specs.Ledger.Account.{without_length}
use Rattle.lf_model.specs.Once.{HasMaster, OnceAtTransfer, address_of}
use Rattle.lf_model.specs.Operation.{kind_enters, enters, is_lost, made}
use Rattle.lf_model.specs.declared.bus.OpKind.{OpKind}
use Rattle.lf_model.specs.declared.bus.OpKind.TheVariants.{Load, Store, Atomic, Lost}
use Rattle.lf_model.specs.Places.{FailsNowhere}
use Rattle.lf_model.specs.Records.AllRecords.{AreRecordsOk, watched_word, number_left, words_named_by_all}
use Rattle.lf_model.specs.Records.BusMemory.{memory_after}
use Rattle.lf_model.specs.Records.CoreRecord.{RecordOk}
use Rattle.lf_model.specs.Records.CoreRules.{ShowsState, ShowsResult, ResultAt, core_in_trace}
use Rattle.lf_model.specs.Results.{is_in_steps, ShowsWord, ResultAtFinal, final_byte}
use Rattle.lf_model.specs.Run.{Run, run}
use Rattle.lf_model.specs.Start.{initial_byte, number_at}
use Rattle.lf_model.specs.State.{State}
use Rattle.lf_model.specs.Value.{stored}
use Rattle.lf_model.specs.declared.bus.Entry.{Entry}
use Rattle.lf_model.specs.declared.bus.Transfer.{Transfer}
use Rattle.lf_model.specs.declared.record.CoreRecord.{CoreRecord}
use Rattle.lf_model.specs.declared.setup.Setup.{Setup}
use Rattle.lf_model.specs.declared.trace.CoreResult.{CoreResult}
use Rattle.lf_model.specs.declared.trace.Fate.{Fate}
use Rattle.lf_model.specs.declared.trace.Op.{Op}
use Rattle.lf_model.specs.declared.trace.Trace.{Trace}
use Rattle.lf_model.specs.declared.trace.Word2.{Word2}
use Rattle.run_trace.specs.Gathered.{result_kept}
use Rattle.run_trace.specs.Order.{chosen, is_lost_in, loads_at, operation_of, order_of, woven}
use Rattle.run_trace.proofs.Execution.{order_of_core}
use Rattle.run_trace.proofs.Lists.{filter_all, each_all}
use Rattle.run_trace.proofs.Members.{load_enters_not}
use Rattle.run_trace.proofs.ReadsOfOrder.{lost_lost, none_of_loads}
use Rattle.run_trace.proofs.Together.{map_same, record_at, together, log_made}
use Rattle.run_trace.proofs.Woven.{filter_woven}

lost_kinds : (kind : OpKind) (o : Op) → o.kind ≡ kind → is_lost o ≡ true → enters o ≡ false
lost_kinds Load o e h = ap kind_enters e
lost_kinds Store o e h = let k = rw e at h in absurd cc
lost_kinds Atomic o e h = let k = rw e at h in absurd cc
lost_kinds Lost o e h = ap kind_enters e

-- a count doesn't look at the lengths of transfers
count_without : (c steps : ℕ) (ts : List Transfer) → count_by (is_in_steps c steps) (map without_length ts) ≡ count_by (is_in_steps c steps) ts
count_without c steps ts =
    sym (length-filter (is_in_steps c steps) (map without_length ts))
    ∙ (ap (λ (us : List Transfer). length us) (sym (filter_map_same (is_in_steps c steps) (is_in_steps c steps) without_length ts (each_all (λ (t : Transfer). is_in_steps c steps t ≡ is_in_steps c steps (without_length t)) ts (λ t. refl))))
    ∙ (length-map (filter (is_in_steps c steps) ts) without_length ∙ length-filter (is_in_steps c steps) ts))

shows_without : (setup : Setup) (c : ℕ) (result : CoreResult) (ops : List Op) (ts : List Transfer) (s : State)
    → ShowsState setup (record { core = c; result = result; ops = ops; transfers = ts }) s → ShowsState setup (record { core = c; result = result; ops = ops; transfers = map without_length ts }) s
shows_without setup c result ops ts s h = record {
  out = h.out;
  psr = h.psr;
  wim = h.wim;
  tbr = h.tbr;
  y = h.y;
  pc = h.pc;
  npc = h.npc;
  registers = h.registers;
  halt = h.halt;
  ends = h.ends;
  within = h.within;
  bound = omega (arith, h.bound, count_without c result.steps ts);
  lost = h.lost;
}

some_weaker : {X : Type 0} (P Q : X → Type 0) (o : Option X) → ((x : X) → P x → Q x) → IsSomeAnd o P → IsSomeAnd o Q
some_weaker P Q None f h = h
some_weaker P Q (Some x) f h = f x h

number_same : (f g : ℕ → ℕ) (addr n : ℕ) → ((a : ℕ) → f a ≡ g a) → number_at f addr n ≡ number_at g addr n
unfolding number_at
number_same f g addr zero same = refl
number_same f g addr (suc n) same = rw (number_same f g addr n same, same (addr + n)) refl

-- without a word it is missing; with one it is the number
shows_if : (setup : Setup) (trace : Trace) (addr n : ℕ) (bad : Bool) → n ≡ number_at (final_byte setup trace) addr 4 → ShowsWord setup trace (record { addr = addr; value = if bad then None else Some n })
shows_if setup trace addr n true e = tt
shows_if setup trace addr n false e = e

module _ (setup : Setup) (records : List CoreRecord) (log : List Entry) (transfers : List Transfer) (status : AhbStatus) (fates : List Fate) (watch : List Word2)
    (ok : AreRecordsOk setup records log transfers status fates watch) (trace : Trace) (order_is : trace.order ≡ order_of records log) where
  module _ (cores_are : trace.cores ≡ map result_kept records) (transfers_are : trace.transfers ≡ map without_length transfers) where
    result_of : (c : ℕ) (found : Option CoreRecord) → slice_get records c ≡ found → IfSome found (λ kept. RecordOk setup c kept log transfers)
        → IfSome (option_map result_kept found) (λ r. ShowsResult setup (core_in_trace trace c r))
    result_of c None e r = tt
    result_of c (Some kept) e r =
        let ops : program_order c trace.order ≡ kept.ops = ap (program_order c) order_is ∙ order_of_core setup records log transfers status fates watch ok c kept e in
        let shows = some_weaker (λ (q : Run). ShowsState setup (record { core = c; result = kept.result; ops = kept.ops; transfers = transfers }) q.state)
        (λ (q : Run). ShowsState setup (record { core = c; result = kept.result; ops = kept.ops; transfers = map without_length transfers }) q.state)
        (run setup c (answers_of kept.ops) kept.result.n) (λ q h. shows_without setup c kept.result kept.ops transfers q.state h) r.result in
        subst (λ (os : List Op). ShowsResult setup (record { core = c; result = kept.result; ops = os; transfers = trace.transfers })) (sym ops)
        (subst (λ (ts : List Transfer). ShowsResult setup (record { core = c; result = kept.result; ops = kept.ops; transfers = ts })) (sym transfers_are) shows)

    pub results : FailsNowhere setup.config.cores (ResultAt setup trace)
    results c within = subst (λ (o : Option CoreResult). IfSome o (λ r. ShowsResult setup (core_in_trace trace c r)))
        (sym (ap (λ (rs : List CoreResult). slice_get rs c) cores_are ∙ slice_get-map result_kept records c))
        (result_of c (slice_get records c) refl (record_at setup records log transfers status fates watch ok c))

  -- ---- the watched words

  -- what reached memory, in its order, is the log
  pub order_enters : filter enters (order_of records log) ≡ map (operation_of records) log
  order_enters =
      let all = together setup records log transfers status fates watch ok in
      let initial = initial_byte setup.image in
      let entered = map (operation_of records) log in
      filter-append enters (woven (loads_at records) 0 entered) (chosen is_lost_in records)
      ∙ (ap (λ (os : List Op). filter enters (woven (loads_at records) 0 entered) ++ os)
      (filter_none enters (chosen is_lost_in records) (each_weaker (λ (o : Op). is_lost o ≡ true) (λ (o : Op). enters o ≡ false) (chosen is_lost_in records) (λ o is. lost_kinds o.kind o refl is) (lost_lost initial records entered all)))
      ∙ (append-nil (filter enters (woven (loads_at records) 0 entered))
      ∙ (filter_woven (loads_at records) enters (none_of_loads initial records entered all enters load_enters_not) 0 entered
      ∙ filter_all enters entered all.enter)))

  final_is : (a : ℕ) → final_byte setup trace a ≡ stored a log (initial_byte setup.image a)
  final_is a = ap (λ (es : List Entry). stored a es (initial_byte setup.image a))
      (ap (λ (os : List Op). map made (filter enters os)) order_is ∙ (ap (map made) order_enters ∙ log_made setup records log transfers status fates watch ok))

  word_shown : (addr : ℕ) → ShowsWord setup trace (watched_word setup.image log (memory_after setup.flips (words_named_by_all records) transfers).words addr)
  word_shown addr =
      shows_if setup trace addr (number_left setup.image log addr) (is_bad_word (word_history (memory_after setup.flips (words_named_by_all records) transfers).words addr))
      (number_same (λ a. stored a log (initial_byte setup.image a)) (final_byte setup trace) addr 4 (λ a. sym (final_is a)))

  shown_at : (found : Option ℕ) → IfSome (option_map (watched_word setup.image log (memory_after setup.flips (words_named_by_all records) transfers).words) found) (ShowsWord setup trace)
  shown_at None = tt
  shown_at (Some addr) = word_shown addr

  pub words : trace.watch ≡ watch → FailsNowhere (length trace.watch) (ResultAtFinal setup trace)
  words watch_is i within = subst (λ (o : Option Word2). IfSome o (ShowsWord setup trace))
      (sym (ap (λ (ws : List Word2). slice_get ws i) (watch_is ∙ ok.watch_is) ∙ slice_get-map (watched_word setup.image log (memory_after setup.flips (words_named_by_all records) transfers).words) setup.config.watch i))
      (shown_at (slice_get setup.config.watch i))

  pub words_shown : trace.watch ≡ watch → map address_of trace.watch ≡ setup.config.watch
  words_shown watch_is =
      ap (map address_of) (watch_is ∙ ok.watch_is)
      ∙ (map-map address_of (watched_word setup.image log (memory_after setup.flips (words_named_by_all records) transfers).words) setup.config.watch
      ∙ map_same (λ (addr : ℕ). addr) setup.config.watch (each_all (λ (addr : ℕ). addr ≡ addr) setup.config.watch (λ addr. refl)))

  -- ---- the masters of transfers

  master_at : (found : Option Transfer) → IfSome found (λ t. HasMaster setup.config.cores t.master t.kind) → IfSome (option_map without_length found) (λ t. HasMaster setup.config.cores t.master t.kind)
  master_at None h = tt
  master_at (Some t) h = h

  pub once_transfers : trace.transfers ≡ map without_length transfers → FailsNowhere (length trace.transfers) (OnceAtTransfer setup.config.cores trace.transfers)
  once_transfers transfers_are i within = subst (λ (o : Option Transfer). IfSome o (λ t. HasMaster setup.config.cores t.master t.kind))
      (sym (ap (λ (ts : List Transfer). slice_get ts i) transfers_are ∙ slice_get-map without_length transfers i))
      (master_at (slice_get transfers i) (ok.bus.masters i (omega (arith, within, ap (λ (ts : List Transfer). length ts) transfers_are, length-map transfers without_length))))
