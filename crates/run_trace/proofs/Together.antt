-- Right records of cores and bus fit together: each entry of the log is an operation of its core.
use Rattle.std.proofs.Common.{◌≡◌, ◌∙◌, ◌+◌, ◌<◌, ℕ, suc, true, List, [], ◌∷◌, length, filter, map, slice_get, slice_index_or, Option, Some, None, IfSome, refl, ap, sym, subst, arith, add-one}
use Rattle.std.proofs.lemmas.Bool.{and_parts, eq-eqb, eqb-true}
use Rattle.std.proofs.lemmas.Option.{get_or_from_slice_get, slice_get_within}
use Rattle.std.proofs.lemmas.Simd.{map-map}
use Rattle.std.specs.List.{AllByRecursion as Each}
use Rattle.std.specs.Option.{option_map_or}
use Rattle.lf_model.proofs.EachLemmas.{each_weaker, each_both, each_unmap, filter_map_same}
use Rattle.lf_model.proofs.SplitLemmas.{nowhere}
use Rattle.lf_model.specs.Bus.Status.{AhbStatus}
use Rattle.lf_model.specs.Once.{HasMaster}
use Rattle.lf_model.specs.Operation.{of_core, enters, made}
use Rattle.lf_model.specs.Order.{LoadOpAt, StoreStoreAt}
use Rattle.lf_model.specs.Places.{FailsNowhereIn}
use Rattle.lf_model.specs.Records.AllRecords.{AreRecordsOk}
use Rattle.lf_model.specs.Records.BusRecord.{Placed, is_successful, entry_placed, transfer_placed}
use Rattle.lf_model.specs.Records.CoreRecord.{RecordOk}
use Rattle.lf_model.specs.Records.SeenOrder.{is_entry_of, HasSeen}
use Rattle.lf_model.specs.Start.{initial_byte}
use Rattle.lf_model.specs.TransferLines.{makes_entry}
use Rattle.lf_model.specs.Value.{ValueAt}
use Rattle.lf_model.specs.declared.bus.Entry.{Entry}
use Rattle.lf_model.specs.declared.bus.Transfer.{Transfer}
use Rattle.lf_model.specs.declared.bus.TurnKind.{TurnKind}
use Rattle.lf_model.specs.declared.bus.TurnKind.TheVariants.{Fetch, Load, Store, Atomic, Snoop, Look, Fix}
use Rattle.lf_model.specs.declared.record.CoreRecord.{CoreRecord}
use Rattle.lf_model.specs.declared.setup.Setup.{Setup}
use Rattle.lf_model.specs.declared.trace.Fate.{Fate}
use Rattle.lf_model.specs.declared.trace.Op.{Op}
use Rattle.lf_model.specs.declared.trace.Word2.{Word2}
use Rattle.run_trace.specs.Order.{no_operation, operation_of, order_of}
use Rattle.run_trace.proofs.Lists.{each_pass, each_filter, each_of}
use Rattle.run_trace.proofs.Numbers.{numbered_by, at_number}
use Rattle.run_trace.proofs.Cores.{some_at, own_from}
use Rattle.run_trace.proofs.Members.{AreTogether}
use Rattle.run_trace.proofs.ReadsOfOrder.{value_at}
use Rattle.run_trace.proofs.Sequence.{load_op_at, store_store_at}

-- ---- lists

pub each_by_place : {X : Type 0} (P : X → Type 0) (xs : List X) → ((i : ℕ) → i < length xs → IfSome (slice_get xs i) P) → Each P xs
each_by_place P [] h = tt
each_by_place P (x ∷ xs) h = (h 0 (omega (arith, add-one (length xs))), each_by_place P xs (λ i within. h (suc i) (omega (arith, within, add-one i, add-one (length xs)))))

pub each_map : {X Y : Type 0} (P : Y → Type 0) (f : X → Y) (xs : List X) → Each (λ x. P (f x)) xs → Each P (map f xs)
each_map P f [] h = tt
each_map P f (x ∷ xs) h = (h.0, each_map P f xs h.1)

pub map_same : {X : Type 0} (f : X → X) (xs : List X) → Each (λ x. f x ≡ x) xs → map f xs ≡ xs
map_same f [] h = refl
map_same f (x ∷ xs) h = rw (h.0, map_same f xs h.1) refl

-- what holds of the entries of each core holds of all
pub each_core : (P : Entry → Type 0) (es : List Entry) → ((c : ℕ) → Each (λ (e : Entry). is_entry_of c e ≡ true → P e) es) → Each P es
each_core P [] h = tt
each_core P (e ∷ es) h = ((h e.core).0 (eq-eqb e.core e.core refl), each_core P es (λ c. (h c).1))

pub each_core_op : (P : Op → Type 0) (os : List Op) → ((c : ℕ) → Each (λ (o : Op). of_core c o ≡ true → P o) os) → Each P os
each_core_op P [] h = tt
each_core_op P (o ∷ os) h = ((h o.core).0 (eq-eqb o.core o.core refl), each_core_op P os (λ c. (h c).1))

-- ---- masters

pub entry_by_core : (cores master : ℕ) (kind : TurnKind) → makes_entry kind ≡ true → HasMaster cores master kind → master < cores
entry_by_core cores master Fetch e h = absurd cc
entry_by_core cores master Load e h = absurd cc
entry_by_core cores master Store e h = h
entry_by_core cores master Atomic e h = h
entry_by_core cores master Snoop e h = absurd cc
entry_by_core cores master Look e h = absurd cc
entry_by_core cores master Fix e h = absurd cc

module _ (setup : Setup) (records : List CoreRecord) (log : List Entry) (transfers : List Transfer) (status : AhbStatus) (fates : List Fate) (watch : List Word2)
    (ok : AreRecordsOk setup records log transfers status fates watch) where
  pub record_at : (c : ℕ) → IfSome (slice_get records c) (λ kept. RecordOk setup c kept log transfers)
  record_at c = at (slice_get records c) refl
    where
      at : (found : Option CoreRecord) → slice_get records c ≡ found → IfSome found (λ kept. RecordOk setup c kept log transfers)
      at None e = tt
      at (Some kept) e = subst (λ o. IfSome o (λ (k : CoreRecord). RecordOk setup c k log transfers)) e (ok.cores c (omega (arith, slice_get_within records c kept e, ok.one_each)))

  -- the log has entries of the setup's cores alone
  pub log_cores : Each (λ (e : Entry). e.core < setup.config.cores) log
  log_cores = each_unmap (λ (p : Placed). p.core < setup.config.cores) entry_placed log
      (subst (λ (ps : List Placed). Each (λ (p : Placed). p.core < setup.config.cores) ps) (sym ok.bus.log_is)
      (each_map (λ (p : Placed). p.core < setup.config.cores) transfer_placed (filter is_successful transfers)
      (each_both (λ (t : Transfer). HasMaster setup.config.cores t.master t.kind) (λ (t : Transfer). is_successful t ≡ true) (λ (t : Transfer). t.master < setup.config.cores) (filter is_successful transfers)
      (λ t has is. entry_by_core setup.config.cores t.master t.kind (and_parts (makes_entry t.kind) _ is).0 has)
      (each_filter (λ (t : Transfer). HasMaster setup.config.cores t.master t.kind) is_successful transfers (each_by_place (λ (t : Transfer). HasMaster setup.config.cores t.master t.kind) transfers ok.bus.masters))
      (each_pass is_successful transfers))))

  -- ---- the operation of an entry

  pub numbers : (kept : CoreRecord) (c : ℕ) → RecordOk setup c kept log transfers → Each (λ (o : Op). slice_get kept.ops o.k ≡ Some o) kept.ops
  numbers kept c r = at_number kept.ops (numbered_by 0 kept.ops (λ j. zero_plus j (slice_get kept.ops j) (r.seen.numbered j)))
    where
      zero_plus : (j : ℕ) (o : Option Op) → IfSome o (λ x. x.k ≡ j) → IfSome o (λ x. x.k ≡ 0 + j)
      zero_plus j None k = tt
      zero_plus j (Some x) k = omega (arith, k)

  -- that of an operation made is the operation itself
  operation_made : (c : ℕ) (kept : CoreRecord) → slice_get records c ≡ Some kept → (o : Op) → o.core ≡ c → slice_get kept.ops o.k ≡ Some o → operation_of records (made o) ≡ o
  operation_made c kept found o own at =
      ap (λ (q : Option CoreRecord). slice_index_or (option_map_or (λ (k : CoreRecord). k.ops) q []) o.k no_operation) (ap (λ n. slice_get records n) own ∙ found)
      ∙ get_or_from_slice_get kept.ops o.k o no_operation at

  own_operations : (c : ℕ) (kept : CoreRecord) → slice_get records c ≡ Some kept → RecordOk setup c kept log transfers → Each (λ (o : Op). operation_of records (made o) ≡ o) (filter enters kept.ops)
  own_operations c kept found r = each_filter (λ (o : Op). operation_of records (made o) ≡ o) enters kept.ops
      (each_both (λ (o : Op). o.core ≡ c) (λ (o : Op). slice_get kept.ops o.k ≡ Some o) (λ (o : Op). operation_of records (made o) ≡ o) kept.ops (operation_made c kept found) r.seen.of_core (numbers kept c r))

  -- an entry is its operation as the program made it
  looked_up : Each (λ (e : Entry). made (operation_of records e) ≡ e) log
  looked_up = each_core (λ (e : Entry). made (operation_of records e) ≡ e) log (λ c. of_core_c c (slice_get records c) refl (record_at c))
    where
      of_core_c : (c : ℕ) (found : Option CoreRecord) → slice_get records c ≡ found → IfSome found (λ kept. RecordOk setup c kept log transfers)
          → Each (λ (e : Entry). is_entry_of c e ≡ true → made (operation_of records e) ≡ e) log
      of_core_c c None e r = each_weaker (λ (x : Entry). x.core < setup.config.cores) (λ (x : Entry). is_entry_of c x ≡ true → made (operation_of records x) ≡ x) log
          (λ x within own. absurd (no_record (sym e ∙ (some_at records c (omega (arith, within, eqb-true x.core c own, ok.one_each))).1))) log_cores
        where
          no_record : {k : CoreRecord} → None ≡ Some k → ⊥
          no_record q = cc
      of_core_c c (Some kept) e r = each_of (λ (x : Entry). made (operation_of records x) ≡ x) (is_entry_of c) log
          (subst (λ (es : List Entry). Each (λ (x : Entry). made (operation_of records x) ≡ x) es) (sym r.seen.entries)
          (each_map (λ (x : Entry). made (operation_of records x) ≡ x) made (filter enters kept.ops)
          (each_weaker (λ (o : Op). operation_of records (made o) ≡ o) (λ (o : Op). made (operation_of records (made o)) ≡ made o) (filter enters kept.ops) (λ o same. ap made same) (own_operations c kept e r))))

  pub log_made : map made (map (operation_of records) log) ≡ log
  log_made = map-map made (operation_of records) log ∙ map_same (λ (e : Entry). made (operation_of records e)) log looked_up

  -- the entries of a core are its operations that reached memory
  pub own_entries : (c : ℕ) (kept : CoreRecord) → slice_get records c ≡ Some kept → RecordOk setup c kept log transfers → filter (of_core c) (map (operation_of records) log) ≡ filter enters kept.ops
  own_entries c kept found r =
      sym (filter_map_same (is_entry_of c) (of_core c) (operation_of records) log
      (each_weaker (λ (e : Entry). made (operation_of records e) ≡ e) (λ (e : Entry). is_entry_of c e ≡ of_core c (operation_of records e)) log (λ e same. ap (is_entry_of c) (sym same)) looked_up))
      ∙ (ap (map (operation_of records)) r.seen.entries
      ∙ (map-map (operation_of records) made (filter enters kept.ops)
      ∙ map_same (λ (o : Op). operation_of records (made o)) (filter enters kept.ops) (own_operations c kept found r)))

  entries_at : (c : ℕ) (found : Option CoreRecord) → slice_get records c ≡ found → IfSome found (λ kept. RecordOk setup c kept log transfers)
      → IfSome found (λ kept. filter (of_core c) (map (operation_of records) log) ≡ filter enters kept.ops)
  entries_at c None e r = tt
  entries_at c (Some kept) e r = own_entries c kept e r

  seen_at : (c : ℕ) (found : Option CoreRecord) → IfSome found (λ kept. RecordOk setup c kept log transfers)
      → IfSome found (λ kept. HasSeen (initial_byte setup.image) c kept.ops kept.seen (map made (map (operation_of records) log)))
  seen_at c None r = tt
  seen_at c (Some kept) r = subst (λ (es : List Entry). HasSeen (initial_byte setup.image) c kept.ops kept.seen es) (sym log_made) r.seen

  own_at : (c : ℕ) (found : Option CoreRecord) → IfSome found (λ kept. RecordOk setup c kept log transfers) → IfSome found (λ kept. Each (λ (o : Op). o.core ≡ 0 + c) kept.ops)
  own_at c None r = tt
  own_at c (Some kept) r = each_weaker (λ (o : Op). o.core ≡ c) (λ (o : Op). o.core ≡ 0 + c) kept.ops (λ o e. omega (arith, e)) r.seen.of_core

  pub cores_kept : Each (λ (o : Op). o.core < length records) (map (operation_of records) log)
  cores_kept = each_map (λ (o : Op). o.core < length records) (operation_of records) log
      (each_both (λ (e : Entry). made (operation_of records e) ≡ e) (λ (e : Entry). e.core < setup.config.cores) (λ (e : Entry). (operation_of records e).core < length records) log
      (λ e same within. omega (arith, within, ok.one_each, ap (λ (x : Entry). x.core) same)) looked_up log_cores)

  all_enter : Each (λ (o : Op). enters o ≡ true) (map (operation_of records) log)
  all_enter = each_core_op (λ (o : Op). enters o ≡ true) (map (operation_of records) log) (λ c. of_core_c c (slice_get records c) refl (record_at c))
    where
      of_core_c : (c : ℕ) (found : Option CoreRecord) → slice_get records c ≡ found → IfSome found (λ kept. RecordOk setup c kept log transfers)
          → Each (λ (o : Op). of_core c o ≡ true → enters o ≡ true) (map (operation_of records) log)
      of_core_c c None e r = each_weaker (λ (o : Op). o.core < length records) (λ (o : Op). of_core c o ≡ true → enters o ≡ true) (map (operation_of records) log)
          (λ o within own. absurd (no_record (sym e ∙ (some_at records c (omega (arith, within, eqb-true o.core c own))).1))) cores_kept
        where
          no_record : {k : CoreRecord} → None ≡ Some k → ⊥
          no_record q = cc
      of_core_c c (Some kept) e r = each_of (λ (o : Op). enters o ≡ true) (of_core c) (map (operation_of records) log)
          (subst (λ (os : List Op). Each (λ (o : Op). enters o ≡ true) os) (sym (own_entries c kept e r)) (each_pass enters kept.ops))

  pub together : AreTogether (initial_byte setup.image) records (map (operation_of records) log)
  together = record {
    own = own_from 0 records (λ c. own_at c (slice_get records c) (record_at c));
    seen = λ c. seen_at c (slice_get records c) (record_at c);
    entries = λ c. entries_at c (slice_get records c) refl (record_at c);
    enter = all_enter;
    cores = cores_kept;
  }

  -- ---- the rules of total store order about the order

  pub order_loads : FailsNowhereIn LoadOpAt (order_of records log)
  order_loads = nowhere LoadOpAt (order_of records log) (λ earlier later o e. load_op_at (initial_byte setup.image) records (map (operation_of records) log) together earlier later o e)

  pub order_stores : FailsNowhereIn StoreStoreAt (order_of records log)
  order_stores = nowhere StoreStoreAt (order_of records log) (λ earlier later o e. store_store_at (initial_byte setup.image) records (map (operation_of records) log) together earlier later o e)

  pub order_values : FailsNowhereIn (ValueAt (initial_byte setup.image)) (order_of records log)
  order_values = nowhere (ValueAt (initial_byte setup.image)) (order_of records log) (λ earlier later o e. value_at (initial_byte setup.image) records (map (operation_of records) log) together earlier later o e)
