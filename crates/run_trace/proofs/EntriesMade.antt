-- The entries that the run of all masters makes are those of the log.
use Rattle.std.proofs.Common.{◌≡◌, ◌∙◌, ◌+◌, ◌-◌, ◌<◌, ◌≤◌, ◌==◌, ◌&&◌, ◌++◌, ℕ, Bool, true, false, not, List, [], ◌∷◌, length, take, drop, filter, map, slice_get, slice_index, Option, Some, None, IfSome, IsSomeAnd, refl, ap, sym, subst, inl, inr, arith, add-one, nat_lt, if◌then◌else◌}
use Rattle.std.proofs.lemmas.Bool.{cases_Bool, cases_lt, and_parts, eq-eqb, ne_eqb, eqb-false}
use Rattle.std.proofs.lemmas.List.{append_assoc, append-nil, length-append, length-map, map-append, take-map, take_at, take_all, take_more}
use Rattle.std.proofs.lemmas.List.Elements.{filter-append, filter_map-append}
use Rattle.std.proofs.lemmas.List.Sums.{fold-append}
use Rattle.std.proofs.lemmas.Option.{slice_get-map, slice_get_within, same_Some, get_or_from_slice_get}
use Rattle.std.specs.Int.{from_bool}
use Rattle.std.specs.List.{AllByRecursion as Each}
use Rattle.std.specs.List.{filter_map, list_all, list_any}
use Rattle.std.specs.Option.{option_map, option_to_list}
use Rattle.ahb_bus.specs.declared.record.BusRecord.{BusRecord}
use Rattle.lf_model.proofs.CourseLemmas.{observe_own}
use Rattle.lf_model.proofs.EachLemmas.{each_second, each_weaker, filter_map_same, filter_same}
use Rattle.lf_model.proofs.SplitLemmas.{split_at}
use Rattle.lf_model.specs.Bus.Replay.{Core, LogEntry, Made, Replay, entry_at, made_by_none, made_by_walk, made_turn, replay_start, replay_turn}
use Rattle.lf_model.specs.Bus.Status.{AhbStatus}
use Rattle.lf_model.proofs.ReplayLemmas.{core_after_all}
use Rattle.lf_model.specs.Bus.Walk.{scrubber, next_transfer}
use Rattle.lf_model.specs.Bus.Words.{Word, words_begun}
use Rattle.lf_model.specs.Course.Core.{Ground, is_store_kind, is_store, is_stop_at}
use Rattle.lf_model.specs.Course.Course.{up_to, observe, course, finished}
use Rattle.lf_model.specs.Course.Progress.{Completion, ErrorTrap, Progress, completed}
use Rattle.lf_model.specs.Course.Syndromes.{is_bad_syndrome, syndromes_of, has_address, enters_log}
use Rattle.lf_model.specs.Course.Turn.{Target, store_target, target_of, addressed_at}
use Rattle.lf_model.specs.Course.Turned.{retires_by, own_turn}
use Rattle.lf_model.specs.Effect.{Access, Effect}
use Rattle.lf_model.specs.Ledger.Account.{replay_of, entry_made}
use Rattle.lf_model.specs.Ledger.CoreAccount.{CoreAccount, errors_reported}
use Rattle.lf_model.specs.Ledger.Steps.{own_transfers}
use Rattle.lf_model.specs.Names.{same_kind}
use Rattle.lf_model.specs.Once.{HasMaster}
use Rattle.lf_model.specs.Operation.{kind_reads, enters, stores, is_lost, made}
use Rattle.lf_model.specs.Promise.RegularTransfer.{is_regular_on_bus}
use Rattle.lf_model.specs.Records.AllRecords.{words_named_by_all}
use Rattle.lf_model.specs.Records.BusRecord.{Placed, is_successful, entry_placed, kind_entered, transfer_placed, is_in_memory}
use Rattle.lf_model.specs.Records.CoreRecord.{RecordOk, completions_reported}
use Rattle.lf_model.specs.Records.OwnTurns.{next_effect}
use Rattle.lf_model.specs.Records.SeenOrder.{is_entry_of}
use Rattle.lf_model.specs.TransferLines.{makes_entry}
use Rattle.lf_model.specs.declared.bus.Entry.{Entry}
use Rattle.lf_model.specs.declared.bus.Transfer.{Transfer}
use Rattle.lf_model.specs.declared.bus.TurnKind.{TurnKind}
use Rattle.lf_model.specs.declared.bus.TurnKind.TheVariants.{Fetch, Load, Store, Atomic, Snoop, Look, Fix}
use Rattle.lf_model.specs.declared.record.CoreRecord.{CoreRecord}
use Rattle.lf_model.specs.declared.setup.Setup.{Setup}
use Rattle.lf_model.specs.declared.trace.Op.{Op}
use Rattle.lf_model.specs.declared.trace.Word2.{Word2}
use Rattle.run_trace.specs.Gathered.{IsGatherable}
use Rattle.run_trace.proofs.Accounts.{each_right}
use Rattle.lf_model.proofs.RecordsCompose.{Along, after, along_all, along_start, along_cores, transfer_made_right}
use Rattle.run_trace.proofs.CourseKept.{count_one, IsFailedAt, is_turns, is_own, is_drain, is_entered_drain, Keeps, IsSound, Grown, keeps_course, keeps_local_steps, grown_through, grown_own_turn, grown_finished}
use Rattle.run_trace.proofs.EntryNumbers.{get_in_first, filter_here, count_within, store_entered, store_made, store_stores, none_yet, failed_stop, seen_of, seen_reported, index_most, index_in_first, index_at_seam, atomic_is}
use Rattle.run_trace.proofs.Cores.{some_at}
use Rattle.run_trace.proofs.Execution.{core_at}
use Rattle.run_trace.proofs.Lists.{each_all, filter_by, filter_filter}
use Rattle.run_trace.proofs.NamedWords.{same_both_ways}
use Rattle.run_trace.proofs.Numbers.{stores_parts}
use Rattle.run_trace.proofs.OrderAccounts.{entry_named}
use Rattle.run_trace.proofs.Regularity.{each_true}
use Rattle.run_trace.proofs.Replayed.{seam, all_at, core_master, ground_at, ground_found, own_right}
use Rattle.run_trace.proofs.Sound.{enters_successful, enters_good, store_fails}
use Rattle.run_trace.proofs.Together.{entry_by_core}
use Rattle.run_trace.proofs.TraceReplay.{trace, status, kept_grounds, course_kept, record_kept, replay_is}

-- an entry of the log that is at this place, and of this transfer
record EntryAt (log : List Entry) (n : ℕ) (t : Transfer) : Type 0 where
  entry : Entry
  found : slice_get log n ≡ Some entry
  placed : entry_placed entry ≡ transfer_placed t

entry_from : (found : Option Entry) (t : Transfer) (log : List Entry) (n : ℕ) → slice_get log n ≡ found → option_map entry_placed found ≡ Some (transfer_placed t) → EntryAt log n t
entry_from None t log n e h = absurd (cc)
entry_from (Some entry) t log n e h = record { entry = entry; found = e; placed = same_Some _ _ h }

store_kind : (kind : TurnKind) → same_kind kind Store ≡ true → kind ≡ Store
store_kind Fetch e = absurd (cc)
store_kind Load e = absurd (cc)
store_kind Store e = refl
store_kind Atomic e = absurd (cc)
store_kind Snoop e = absurd (cc)
store_kind Look e = absurd (cc)
store_kind Fix e = absurd (cc)

other_kind : (kind : TurnKind) → makes_entry kind ≡ true → same_kind kind Store ≡ false → kind ≡ Atomic
other_kind Fetch e f = absurd (cc)
other_kind Load e f = absurd (cc)
other_kind Store e f = absurd (cc)
other_kind Atomic e f = refl
other_kind Snoop e f = absurd (cc)
other_kind Look e f = absurd (cc)
other_kind Fix e f = absurd (cc)

module _ (setup : Setup) (records : List CoreRecord) (bus : BusRecord) (watch : List Word2) (ok : IsGatherable setup records bus watch) where
  abbrev log : List Entry
  log = bus.log.entries

  abbrev transfers : List Transfer
  transfers = bus.transfers

  abbrev at : AhbStatus
  at = status setup records bus watch ok

  abbrev gs : List Ground
  gs = kept_grounds setup records bus watch ok

  abbrev named : List Word2
  named = words_named_by_all records

  abbrev ground : ℕ → CoreRecord → Ground
  ground c kept = ground_at setup ok.limits.few_cores records log transfers at bus.fates watch ok.right c kept

  -- ---- the entries and their transfers

  entered_all : map entry_placed log ≡ map transfer_placed (filter enters_log transfers)
  entered_all = ok.right.bus.log_is ∙ ap (map transfer_placed) (filter_same is_successful enters_log transfers
      (each_weaker (λ (t : Transfer). is_in_memory setup.config.ram t ≡ true) (λ (t : Transfer). is_successful t ≡ enters_log t) transfers
      (λ t inside. enters_successful setup.config.ram t inside) (each_true (is_in_memory setup.config.ram) transfers ok.right.bus.in_memory)))

  sound_at : (us vs : List Transfer) (t : Transfer) → transfers ≡ us ++ t ∷ vs → (g : Ground) → IsSound g us t
  sound_at us vs t split g = record {
    turn = (each_right setup records bus watch ok us vs t split).1.turn;
    fails = store_fails setup.config.ram t
        (all_at (is_in_memory setup.config.ram) us vs t (subst (λ (ts : List Transfer). list_all (is_in_memory setup.config.ram) ts ≡ true) split ok.right.bus.in_memory))
        (all_at is_regular_on_bus us vs t (subst (λ (ts : List Transfer). list_all is_regular_on_bus ts ≡ true) split ok.right.bus.regular));
  }

  keeps_at : (g : Ground) (us vs : List Transfer) → transfers ≡ us ++ vs → Keeps g us (course g us)
  keeps_at g us vs split = keeps_course g us (λ ws xs t s. sound_at ws (xs ++ vs) t (split ∙ (ap (λ (ts : List Transfer). ts ++ vs) s ∙ append_assoc ws (t ∷ xs) vs)) g)

  module _ (pre post : List Transfer) (t : Transfer) (split : transfers ≡ pre ++ t ∷ post) (entering : enters_log t ≡ true) where
    abbrev n : ℕ
    n = length (filter enters_log pre)

    shape : filter enters_log transfers ≡ filter enters_log pre ++ t ∷ filter enters_log post
    shape = ap (filter enters_log) split ∙ filter_here enters_log pre t post entering

    entry_here : EntryAt log n t
    entry_here = entry_from (slice_get log n) t log n refl (
        sym (slice_get-map entry_placed log n)
        ∙ (ap (λ (ps : List Placed). slice_get ps n) (entered_all ∙ ap (map transfer_placed) shape)
        ∙ (slice_get-map transfer_placed (filter enters_log pre ++ t ∷ filter enters_log post) n
        ∙ ap (option_map transfer_placed) (seam (filter enters_log pre) t (filter enters_log post) n refl))))

    within : n < length log
    within = slice_get_within log n entry_here.entry entry_here.found

    front_placed : map entry_placed (take n log) ≡ map transfer_placed (filter enters_log pre)
    front_placed =
        sym (take-map entry_placed n log)
        ∙ (ap (λ (ps : List Placed). take n ps) (entered_all ∙ (ap (map transfer_placed) shape ∙ map-append transfer_placed (filter enters_log pre) (t ∷ filter enters_log post)))
        ∙ take_at (map transfer_placed (filter enters_log pre)) (map transfer_placed (t ∷ filter enters_log post)) n (length-map (filter enters_log pre) transfer_placed))

    log_parts : log ≡ take n log ++ entry_here.entry ∷ drop (n + 1) log
    log_parts = split_at log n entry_here.entry entry_here.found

    core_is : entry_here.entry.core ≡ t.master
    core_is = ap (λ (p : Placed). p.core) entry_here.placed

    front_more : take (n + 1) log ≡ take n log ++ entry_here.entry ∷ []
    front_more = take_more log n entry_here.entry within ∙ ap (λ (x : Entry). take n log ++ x ∷ []) (get_or_from_slice_get log n entry_here.entry entry_here.entry entry_here.found)

    -- ---- the core whose turn it is

    module _ (kept : CoreRecord) (found : slice_get records t.master ≡ Some kept) where
      abbrev c : ℕ
      c = t.master

      abbrev g : Ground
      g = ground t.master kept

      abbrev k : Progress
      k = up_to g t (course g pre)

      abbrev r : RecordOk setup t.master kept log transfers
      r = record_kept setup records bus watch ok t.master kept found

      keeps_here : Keeps g pre k
      keeps_here = keeps_local_steps g (t.step - (course g pre).steps) pre (course g pre) (keeps_at g pre (t ∷ post) split)

      own : is_own g t ≡ true
      own = eq-eqb t.master t.master refl

      -- its course after the turn, and to its end
      after_turn : course g (pre ++ t ∷ []) ≡ own_turn g t k
      after_turn = fold-append (observe g) _ pre (t ∷ []) ∙ observe_own g t (course g pre) own

      to_end : Grown g (own_turn g t k) (course_kept setup records bus watch ok t.master kept)
      to_end = subst (λ (ts : List Transfer). Grown g (own_turn g t k) (finished g (course g ts))) (append_assoc pre (t ∷ []) post ∙ sym split)
          (subst (λ (j : Progress). Grown g j (finished g (course g ((pre ++ t ∷ []) ++ post)))) after_turn (grown_finished g (pre ++ t ∷ []) post))

      total : ℕ
      total = length (own_transfers t.master transfers)

      turns_left : k.turns < length (own_transfers t.master transfers)
      turns_left = omega (
        arith,
        keeps_here.turns,
        ap (λ (ts : List Transfer). length ts) (filter_by (λ (u : Transfer). u.master == t.master) (is_own g) transfers (λ u. same_both_ways u.master t.master)),
        ap (λ (ts : List Transfer). length (filter (is_own g) ts)) split,
        ap (λ (ts : List Transfer). length ts) (filter_here (is_own g) pre t post own),
        length-append (filter (is_own g) pre) (t ∷ filter (is_own g) post),
        add-one (length (filter (is_own g) post)),
      )

      errors_end : (course_kept setup records bus watch ok t.master kept).errors ≡ errors_reported kept.result.end kept.result.steps (length (own_transfers t.master transfers))
      errors_end = ap (λ (a : CoreAccount). a.errors) r.account

      -- it met no error at a turn before
      no_error : filter is_turns k.errors ≡ []
      no_error =
          let all = grown_through g k (own_turn g t k) (course_kept setup records bus watch ok t.master kept) (grown_own_turn g t k) to_end in
          none_yet kept.result.end kept.result.steps (length (own_transfers t.master transfers)) k.turns k.errors all.met (sym all.errors ∙ errors_end) turns_left keeps_here.numbers

      -- ---- a store

      abbrev own_store : Entry → Bool
      own_store e = is_entry_of t.master e && is_store_kind e.kind

      abbrev placed_store : Placed → Bool
      placed_store p = p.core == t.master && is_store_kind p.kind

      drained : k.drained ≡ length (filter (is_entered_drain g) pre)
      drained = omega (arith, keeps_here.drained, keeps_here.failed, ap (λ (xs : List ErrorTrap). length xs) no_error, count_within (is_drain g) enters_log pre)

      counted : (es : List Entry) → length (filter own_store es) ≡ length (filter placed_store (map entry_placed es))
      counted es = sym (length-map (filter own_store es) entry_placed)
          ∙ ap (λ (ps : List Placed). length ps) (filter_map_same own_store placed_store entry_placed es (each_all (λ (e : Entry). own_store e ≡ placed_store (entry_placed e)) es (λ e. refl)))

      drain_test : (u : Transfer) → (enters_log u && placed_store (transfer_placed u)) ≡ is_entered_drain g u
      drain_test u = rw (store_entered u.kind, same_both_ways u.master t.master) (turn (enters_log u) (t.master == u.master) (same_kind u.kind Store))
        where
          turn : (a b d : Bool) → (a && (b && d)) ≡ ((b && d) && a)
          turn true true true = refl
          turn true true false = refl
          turn true false d = refl
          turn false true true = refl
          turn false true false = refl
          turn false false d = refl

      front_count : length (filter own_store (take n log)) ≡ k.drained
      front_count =
          counted (take n log)
          ∙ (ap (λ (ps : List Placed). length (filter placed_store ps)) front_placed
          ∙ (ap (λ (ps : List Placed). length ps) (sym (filter_map_same (λ u. placed_store (transfer_placed u)) placed_store transfer_placed (filter enters_log pre)
          (each_all (λ (u : Transfer). placed_store (transfer_placed u) ≡ placed_store (transfer_placed u)) (filter enters_log pre) (λ u. refl))))
          ∙ (length-map (filter (λ u. placed_store (transfer_placed u)) (filter enters_log pre)) transfer_placed
          ∙ (ap (λ (us : List Transfer). length us) (filter_filter (λ u. placed_store (transfer_placed u)) enters_log pre
          ∙ filter_by (λ u. enters_log u && placed_store (transfer_placed u)) (is_entered_drain g) pre drain_test)
          ∙ sym drained))))

      own_stores : filter own_store log ≡ map made (filter is_store (filter enters kept.ops))
      own_stores =
          sym (filter_filter (λ (e : Entry). is_store_kind e.kind) (is_entry_of t.master) log)
          ∙ (ap (filter (λ (e : Entry). is_store_kind e.kind)) r.seen.entries
          ∙ sym (filter_map_same is_store (λ (e : Entry). is_store_kind e.kind) made (filter enters kept.ops)
          (each_all (λ (o : Op). is_store o ≡ is_store_kind (made o).kind) (filter enters kept.ops) (λ o. store_made o.kind o refl))))

      stores_split : filter is_store kept.ops ≡ filter is_store (filter enters kept.ops) ++ filter is_store (filter is_lost kept.ops)
      stores_split =
          sym (filter_filter is_store stores kept.ops ∙ filter_by (λ o. stores o && is_store o) is_store kept.ops (λ o. store_stores o.kind o refl))
          ∙ (ap (filter is_store) (stores_parts kept.ops (core_at setup records log transfers at bus.fates watch ok.right t.master kept found).lost_last)
          ∙ filter-append is_store (filter enters kept.ops) (filter is_lost kept.ops))

      store_is : same_kind t.kind Store ≡ true → target_of g k (next_effect g k) t.kind ≡ Some (store_target entry_here.entry)
      store_is store =
          let here : own_store entry_here.entry ≡ true = rw (ap (λ (p : Placed). p.kind) entry_here.placed, store_entered t.kind, store, eq-eqb entry_here.entry.core t.master core_is) refl in
          let listed : slice_get (filter own_store log) k.drained ≡ Some entry_here.entry =
          ap (λ (es : List Entry). slice_get (filter own_store es) k.drained) log_parts
          ∙ (ap (λ (es : List Entry). slice_get es k.drained) (filter_here own_store (take n log) entry_here.entry (drop (n + 1) log) here)
          ∙ seam (filter own_store (take n log)) entry_here.entry (filter own_store (drop (n + 1) log)) k.drained (sym front_count)) in
          let given : slice_get (map made (filter is_store kept.ops)) k.drained ≡ Some entry_here.entry =
          ap (λ (es : List Entry). slice_get es k.drained) (ap (map made) stores_split ∙ map-append made (filter is_store (filter enters kept.ops)) (filter is_store (filter is_lost kept.ops)))
          ∙ get_in_first (map made (filter is_store (filter enters kept.ops))) (map made (filter is_store (filter is_lost kept.ops))) k.drained entry_here.entry
          (ap (λ (es : List Entry). slice_get es k.drained) (sym own_stores) ∙ listed) in
          ap (target_of g k (next_effect g k)) (store_kind t.kind store) ∙ ap (option_map store_target) given

      -- ---- an atomic

      abbrev e : Effect
      e = next_effect g k

      no_stop : is_stop_at t.turn kept.result.end ≡ false
      no_stop = elim (cases_Bool (is_stop_at t.turn kept.result.end)) [
        | inr none ↦ none
        | inl stop ↦ absurd (good_bad (enters_good t entering) (failed_here (failed_stop transfers kept.result.end kept.result.steps (length (own_transfers t.master transfers)) t.turn stop places)))
      ]
        where
          good_bad : list_any is_bad_syndrome (syndromes_of t) ≡ false → list_any is_bad_syndrome (syndromes_of t) ≡ true → ⊥
          good_bad p q = cc

          places : Each (λ (x : ErrorTrap). is_turns x ≡ true → IsFailedAt transfers x.place) (errors_reported kept.result.end kept.result.steps (length (own_transfers t.master transfers)))
          places = subst (Each (λ (x : ErrorTrap). is_turns x ≡ true → IsFailedAt transfers x.place)) errors_end
              (keeps_local_steps g (g.steps - (course g transfers).steps) transfers (course g transfers) (keeps_at g transfers [] (sym (append-nil transfers)))).places

          failed_here : IsFailedAt transfers t.turn → list_any is_bad_syndrome (syndromes_of t) ≡ true
          failed_here h = subst (λ o. IsSomeAnd o (λ (u : Transfer). list_any is_bad_syndrome (syndromes_of u) ≡ true))
              (ap (λ i. slice_get transfers i) ((each_right setup records bus watch ok pre post t split).1.turn)
              ∙ (ap (λ (ts : List Transfer). slice_get ts (length pre)) split ∙ seam pre t post (length pre) refl)) h

      retires : t.kind ≡ Atomic → retires_by g t ≡ true
      retires kind = rw (no_stop, kind) refl

      turn_completions : (u : Transfer) → retires_by g u ≡ true → (own_turn g u k).completions ≡ k.completions ++ completed k.steps None (k.seen + length k.unseen + from_bool (enters_log u)) e.access
      unfolding own_turn
      turn_completions u is = rw is refl

      abbrev m : ℕ
      m = length k.completions

      seen_all : map seen_of (completions_reported kept) ≡ kept.seen
      seen_all = seen_reported kept.ops kept.seen r.seen.one_each

      -- what the core had seen, at each of its operations
      seen_parts : (a : Access) → t.kind ≡ Atomic → e.access ≡ Some a → kept.seen ≡ map seen_of k.completions ++ (n + 1) ∷ map seen_of to_end.later
      seen_parts a kind is =
          sym seen_all
          ∙ (ap (map seen_of) (sym r.completed ∙ to_end.completions)
          ∙ (ap (λ (cs : List Completion). map seen_of (cs ++ to_end.later))
          (turn_completions t (retires kind) ∙ ap (λ x. k.completions ++ completed k.steps None (k.seen + length k.unseen + from_bool (enters_log t)) x) is)
          ∙ (map-append seen_of (k.completions ++ one ∷ []) to_end.later
          ∙ (ap (λ (ns : List ℕ). ns ++ map seen_of to_end.later) (map-append seen_of k.completions (one ∷ []))
          ∙ (append_assoc (map seen_of k.completions) (one.seen ∷ []) (map seen_of to_end.later)
          ∙ ap (λ i. map seen_of k.completions ++ i ∷ map seen_of to_end.later) seen_one)))))
        where
          one : Completion
          one = record { step = k.steps; way = None; seen = k.seen + length k.unseen + from_bool (enters_log t) }

          entered_one : from_bool (enters_log t) ≡ 1
          entered_one = rw entering refl

          seen_one : k.seen + length k.unseen + from_bool (enters_log t) ≡ n + 1
          seen_one = omega (arith, keeps_here.seen, entered_one)

      -- the entry is of the operation that retires with the turn: an earlier one had not seen it, and a later one isn't seen yet
      atomic_number : (a : Access) → t.kind ≡ Atomic → e.access ≡ Some a → entry_here.entry.k ≡ m
      atomic_number a kind is =
          let parts = seen_parts a kind is in
          let count : length kept.seen ≡ m + (1 + length (map seen_of to_end.later)) =
          ap (λ (ns : List ℕ). length ns) parts ∙ (length-append (map seen_of k.completions) ((n + 1) ∷ map seen_of to_end.later)
          ∙ omega (arith, length-map k.completions seen_of, add-one (length (map seen_of to_end.later)))) in
          let here : slice_index kept.seen m ≡ n + 1 =
          ap (λ (ns : List ℕ). slice_index ns m) parts ∙ index_at_seam (map seen_of k.completions) (n + 1) (map seen_of to_end.later) m (sym (length-map k.completions seen_of)) in
          let seen : Each (λ (x : Entry). x.core ≡ t.master → x.k ≤ m) (take (n + 1) log) =
          subst (λ i. Each (λ (x : Entry). x.core ≡ t.master → x.k ≤ m) (take i log)) here (r.seen.earlier m (omega (arith, count, r.seen.one_each))) in
          let low : entry_here.entry.k ≤ m = (each_second (λ (x : Entry). x.core ≡ t.master → x.k ≤ m) (take n log) (entry_here.entry ∷ [])
          (subst (λ (es : List Entry). Each (λ (x : Entry). x.core ≡ t.master → x.k ≤ m) es) front_more seen)).0 core_is in
          elim (cases_lt entry_here.entry.k m) [
            | inr high ↦ omega (arith, low, high)
            | inl less ↦
                let old : slice_index kept.seen entry_here.entry.k ≤ k.seen =
                subst (λ i. i ≤ k.seen)
                (sym (ap (λ (ns : List ℕ). slice_index ns entry_here.entry.k) parts
                ∙ index_in_first (map seen_of k.completions) ((n + 1) ∷ map seen_of to_end.later) entry_here.entry.k (omega (arith, less, length-map k.completions seen_of))))
                (index_most k.seen k.completions entry_here.entry.k keeps_here.seen_most less) in
                absurd (omega (arith, old, now_seen, keeps_here.seen))
          ]
        where
          reads : kind_reads entry_here.entry.kind ≡ true
          reads = ap kind_reads (ap (λ (p : Placed). p.kind) entry_here.placed ∙ ap kind_entered kind)

          now_seen : n < slice_index kept.seen entry_here.entry.k
          now_seen = subst (λ o. IfSome o (λ (x : Entry). x.core ≡ t.master → kind_reads x.kind ≡ true → n < slice_index kept.seen x.k)) entry_here.found (r.seen.atomics_seen n within) core_is reads

      -- ---- the entry that the turn makes

      makes : makes_entry t.kind ≡ true
      makes = (and_parts (makes_entry t.kind) (has_address t) (and_parts (makes_entry t.kind && has_address t) (not (list_any is_bad_syndrome (syndromes_of t))) entering).0).0

      addressed_it : has_address t ≡ true
      addressed_it = (and_parts (makes_entry t.kind) (has_address t) (and_parts (makes_entry t.kind && has_address t) (not (list_any is_bad_syndrome (syndromes_of t))) entering).0).1

      no_target : target_of g k e t.kind ≡ None → ⊥
      no_target q =
          let right = own_right setup ok.limits.few_cores records log transfers at bus.fates watch ok.right pre post t split kept found in
          let none : 0 ≡ t.addr = ap (λ o. (addressed_at g e k t o).addr) (sym q) ∙ ap (λ (u : Transfer). u.addr) right.placed in
          let no_address = rw (eq-eqb t.addr 0 (sym none)) at addressed_it in
          absurd cc

      number_is : (p : Target) → target_of g k e t.kind ≡ Some p → p.number ≡ entry_here.entry.k
      number_is p q = elim (cases_Bool (same_kind t.kind Store)) [
        | inl store ↦ ap (λ (u : Target). u.number) (same_Some _ _ (sym q ∙ store_is store))
        | inr other ↦
            let kind = other_kind t.kind makes other in
            let target = atomic_is (length k.run.ops) e.access p (ap (target_of g k e) (sym kind) ∙ q) in
            target.number ∙ (sym keeps_here.completed ∙ sym (atomic_number target.access kind target.is))
      ]

      entry_by : (found_target : Option Target) → target_of g k e t.kind ≡ found_target → entry_at g t found_target ≡ Some (entry_named entry_here.entry)
      entry_by None q = absurd (no_target q)
      entry_by (Some p) q = rw (entering, number_is p q, core_is) refl

      entry_right : entry_at g t (target_of g k e t.kind) ≡ Some (entry_named entry_here.entry)
      entry_right = entry_by (target_of g k e t.kind) refl

  -- ---- what a turn makes

  made_scrubber : (q : Replay) (words : List Word) (t : Transfer) → (t.master == scrubber) ≡ true → (made_turn setup q words t).entry ≡ None
  unfolding made_turn
  made_scrubber q words t own = rw own (by (nat_lt q.walk.turns setup.config.scrub_turns))
    where
      by : (b : Bool) → (if b then made_by_walk words (next_transfer q.turns q.walk q.walk.noted) else made_by_none t).entry ≡ None
      by true = refl
      by false = refl

  made_core : (q : Replay) (words : List Word) (t : Transfer) (c : Core) → (t.master == scrubber) ≡ false → slice_get q.cores t.master ≡ Some c
      → (made_turn setup q words t).entry ≡ entry_at c.on (made_turn setup q words t).transfer (target_of c.on (up_to c.on t c.progress) (next_effect c.on (up_to c.on t c.progress)) (made_turn setup q words t).transfer.kind)
  unfolding made_turn
  made_core q words t c other found = rw (other, found) refl

  abbrev turn_at : List Transfer → Transfer → Made
  turn_at pre t = let q = after setup gs named pre in made_turn setup q (words_begun setup.flips q.turns q.words) t

  made_more : (pre : List Transfer) (t : Transfer) → (after setup gs named (pre ++ t ∷ [])).made ≡ (after setup gs named pre).made ++ turn_at pre t ∷ []
  unfolding replay_turn
  made_more pre t = ap (λ (q : Replay). q.made) (fold-append (replay_turn setup) (replay_start setup gs) pre (t ∷ []))

  abbrev entries_of : List Transfer → List LogEntry
  entries_of ts = filter_map entry_made (after setup gs named ts).made

  one_entry : (m : Made) (found : Option LogEntry) → m.entry ≡ found → filter_map entry_made (m ∷ []) ≡ option_to_list found
  one_entry m None q = rw q refl
  one_entry m (Some x) q = rw q refl

  entries_more : (pre : List Transfer) (t : Transfer) (found : Option LogEntry) → (turn_at pre t).entry ≡ found → entries_of (pre ++ t ∷ []) ≡ entries_of pre ++ option_to_list found
  entries_more pre t found q =
      ap (filter_map entry_made) (made_more pre t)
      ∙ (filter_map-append entry_made (after setup gs named pre).made (turn_at pre t ∷ [])
      ∙ ap (λ (xs : List LogEntry). entries_of pre ++ xs) (one_entry (turn_at pre t) found q))

  module _ (pre post : List Transfer) (t : Transfer) (split : transfers ≡ pre ++ t ∷ post) where
    along_here : Along setup gs named pre
    along_here = along_all setup gs named [] pre (along_start setup gs named)
        (λ us vs u s. each_right setup records bus watch ok us (vs ++ t ∷ post) u (split ∙ (ap (λ (ts : List Transfer). ts ++ t ∷ post) s ∙ append_assoc us (u ∷ vs) (t ∷ post))))

    transfer_here : (turn_at pre t).transfer ≡ t
    transfer_here = let right = each_right setup records bus watch ok pre post t split in transfer_made_right setup gs named pre t along_here right.0 right.1

    core_here : (kept : CoreRecord) → slice_get records t.master ≡ Some kept → slice_get (after setup gs named pre).cores t.master ≡ Some (core_after_all setup pre (ground t.master kept))
    core_here kept found =
        ap (λ cores. slice_get cores t.master) (along_cores setup gs named pre along_here)
        ∙ (slice_get-map (core_after_all setup pre) gs t.master
        ∙ ap (option_map (core_after_all setup pre)) (ground_found setup ok.limits.few_cores records log transfers at bus.fates watch ok.right t.master kept found))

    abbrev entry_of_turn : Ground → Option LogEntry
    entry_of_turn g = let k = up_to g t (course g pre) in entry_at g t (target_of g k (next_effect g k) t.kind)

    by_core : (kept : CoreRecord) → slice_get records t.master ≡ Some kept → (t.master == scrubber) ≡ false → (turn_at pre t).entry ≡ entry_of_turn (ground t.master kept)
    by_core kept found other =
        let g = ground t.master kept in
        let k = up_to g t (course g pre) in
        made_core (after setup gs named pre) _ t (core_after_all setup pre g) other (core_here kept found)
        ∙ ap (λ (u : Transfer). entry_at g u (target_of g k (next_effect g k) u.kind)) transfer_here

    no_entry : (g : Ground) (target : Option Target) → enters_log t ≡ false → entry_at g t target ≡ None
    no_entry g None none = refl
    no_entry g (Some p) none = rw none refl

    master_here : HasMaster setup.config.cores t.master t.kind
    master_here = subst (λ o. IfSome o (λ (u : Transfer). HasMaster setup.config.cores u.master u.kind))
        (ap (λ (ts : List Transfer). slice_get ts (length pre)) split ∙ seam pre t post (length pre) refl)
        (ok.right.bus.masters (length pre) (slice_get_within transfers (length pre) t (ap (λ (ts : List Transfer). slice_get ts (length pre)) split ∙ seam pre t post (length pre) refl)))

    none_here : enters_log t ≡ false → (turn_at pre t).entry ≡ None
    none_here none = elim (cases_Bool (t.master == scrubber)) [
      | inl walks ↦ made_scrubber (after setup gs named pre) _ t walks
      | inr other ↦
          let inside = core_master setup.config.cores t.master t.kind master_here (eqb-false t.master scrubber other) in
          let kept = some_at records t.master (omega (arith, inside, ok.right.one_each)) in
          by_core kept.0 kept.1 other ∙ no_entry (ground t.master kept.0) _ none
    ]

    Holds : List Transfer → Type 0
    Holds ts = entries_of ts ≡ map entry_named (take (length (filter enters_log ts)) log)

    step : entries_of pre ≡ map entry_named (take (length (filter enters_log pre)) log)
        → entries_of (pre ++ t ∷ []) ≡ map entry_named (take (length (filter enters_log (pre ++ t ∷ []))) log)
    step h = elim (cases_Bool (enters_log t)) [
      | inl entering ↦ with_entry entering
      | inr none ↦
          entries_more pre t None (none_here none)
          ∙ (append-nil (entries_of pre)
          ∙ (h ∙ ap (λ n. map entry_named (take n log)) (omega (arith, count_one enters_log pre t, not_counted none))))
    ]
      where
        not_counted : enters_log t ≡ false → from_bool (enters_log t) ≡ 0
        not_counted none = rw none refl

        with_entry : enters_log t ≡ true → entries_of (pre ++ t ∷ []) ≡ map entry_named (take (length (filter enters_log (pre ++ t ∷ []))) log)
        with_entry entering =
            let makes = (and_parts (makes_entry t.kind) (has_address t) (and_parts (makes_entry t.kind && has_address t) (not (list_any is_bad_syndrome (syndromes_of t))) entering).0).0 in
            let inside = entry_by_core setup.config.cores t.master t.kind makes master_here in
            let kept = some_at records t.master (omega (arith, inside, ok.right.one_each)) in
            let here = entry_here pre post t split entering in
            let counted : from_bool (enters_log t) ≡ 1 = rw entering refl in
            entries_more pre t (Some (entry_named here.entry))
            (by_core kept.0 kept.1 (ne_eqb t.master scrubber (λ q. absurd (omega (arith, q, inside, ok.limits.few_cores)))) ∙ entry_right pre post t split entering kept.0 kept.1)
            ∙ (ap (λ (xs : List LogEntry). xs ++ entry_named here.entry ∷ []) h
            ∙ (sym (map-append entry_named (take (length (filter enters_log pre)) log) (here.entry ∷ []))
            ∙ (ap (map entry_named) (sym (front_more pre post t split entering))
            ∙ ap (λ n. map entry_named (take n log)) (omega (arith, count_one enters_log pre t, counted)))))

  entries_from : (pre ts : List Transfer) → transfers ≡ pre ++ ts → entries_of pre ≡ map entry_named (take (length (filter enters_log pre)) log)
      → entries_of (pre ++ ts) ≡ map entry_named (take (length (filter enters_log (pre ++ ts))) log)
  entries_from pre [] split h = subst (λ us. entries_of us ≡ map entry_named (take (length (filter enters_log us)) log)) (sym (append-nil pre)) h
  entries_from pre (t ∷ ts) split h =
      subst (λ us. entries_of us ≡ map entry_named (take (length (filter enters_log us)) log)) (append_assoc pre (t ∷ []) ts)
      (entries_from (pre ++ t ∷ []) ts (split ∙ sym (append_assoc pre (t ∷ []) ts)) (step pre ts t split h))

  pub logged : filter_map entry_made (replay_of setup (trace setup records bus watch ok)).made ≡ map entry_named log
  logged =
      ap (λ (q : Replay). filter_map entry_made q.made) (replay_is setup records bus watch ok)
      ∙ (entries_from [] transfers refl refl
      ∙ ap (map entry_named) (take_all (length (filter enters_log transfers)) log
      (omega (arith, ap (λ (ps : List Placed). length ps) entered_all, length-map log entry_placed, length-map (filter enters_log transfers) transfer_placed))))
