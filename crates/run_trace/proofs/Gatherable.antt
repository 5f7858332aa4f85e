-- What the order is read from in right records: operations by their numbers, what was seen, entries that each are of a core's operation,
-- and a log within the limits.
use Rattle.std.proofs.Common.{◌≡◌, ◌∙◌, ◌*◌, ◌<◌, ◌≤◌, ℕ, zero, suc, true, List, [], ◌∷◌, length, filter, slice_get, Option, Some, None, IfSome, IsSomeAnd, refl, ap, sym, subst, arith}
use Rattle.std.proofs.lemmas.Bool.{eqb-true}
use Rattle.std.proofs.lemmas.List.Sums.{length-filter}
use Rattle.std.proofs.lemmas.Option.{slice_get_within}
use Rattle.std.specs.List.{AllByRecursion as Each}
use Rattle.lf_model.proofs.EachLemmas.{each_both, each_weaker}
use Rattle.lf_model.specs.Bus.Status.{AhbStatus}
use Rattle.lf_model.specs.Operation.{enters, made}
use Rattle.lf_model.specs.Records.AllRecords.{AreRecordsOk}
use Rattle.lf_model.specs.Records.CoreRecord.{RecordOk}
use Rattle.lf_model.specs.Records.SeenOrder.{is_entry_of}
use Rattle.lf_model.specs.declared.bus.Entry.{Entry}
use Rattle.lf_model.specs.declared.bus.Transfer.{Transfer}
use Rattle.lf_model.specs.declared.record.CoreRecord.{CoreRecord}
use Rattle.lf_model.specs.declared.setup.Setup.{Setup}
use Rattle.lf_model.specs.declared.trace.Fate.{Fate}
use Rattle.lf_model.specs.declared.trace.Op.{Op}
use Rattle.lf_model.specs.declared.trace.Word2.{Word2}
use Rattle.run_trace.specs.Cursors.{IsReadable, AreReadable, IsListed}
use Rattle.run_trace.proofs.Cores.{some_at}
use Rattle.run_trace.proofs.Lists.{each_of, each_filter}
use Rattle.run_trace.proofs.Shares.{shared}
use Rattle.run_trace.proofs.Together.{each_map, each_core, record_at, log_cores, numbers}

each_found : {X : Type 0} (P : X → Type 0) (xs : List X) → Each P xs → (i : ℕ) → IfSome (slice_get xs i) P
each_found P [] h i = tt
each_found P (x ∷ xs) h zero = h.0
each_found P (x ∷ xs) h (suc i) = each_found P xs h.1 i

module _ (setup : Setup) (records : List CoreRecord) (log : List Entry) (transfers : List Transfer) (status : AhbStatus) (fates : List Fate) (watch : List Word2)
    (ok : AreRecordsOk setup records log transfers status fates watch) where
  pub readable : AreReadable records
  readable c = at (slice_get records c) (record_at setup records log transfers status fates watch ok c)
    where
      at : (found : Option CoreRecord) → IfSome found (λ kept. RecordOk setup c kept log transfers) → IfSome found IsReadable
      at None r = tt
      at (Some kept) r = record { numbered = r.seen.numbered; one_each = r.seen.one_each; rises = r.seen.rises }

  abbrev IsMade : Entry → Type 0
  IsMade e = IsSomeAnd (slice_get records e.core) (λ kept. e.k < length kept.ops)

  made_of_core : (c : ℕ) (kept : CoreRecord) → slice_get records c ≡ Some kept → RecordOk setup c kept log transfers → Each (λ (e : Entry). is_entry_of c e ≡ true → IsMade e) log
  made_of_core c kept found r = each_of IsMade (is_entry_of c) log (subst (λ (es : List Entry). Each IsMade es) (sym r.seen.entries)
      (each_map IsMade made (filter enters kept.ops) (each_filter (λ (o : Op). IsMade (made o)) enters kept.ops
      (each_both (λ (o : Op). o.core ≡ c) (λ (o : Op). slice_get kept.ops o.k ≡ Some o) (λ (o : Op). IsMade (made o)) kept.ops
      (λ o own at. subst (λ f. IsSomeAnd f (λ (k : CoreRecord). o.k < length k.ops)) (sym (ap (λ n. slice_get records n) own ∙ found)) (slice_get_within kept.ops o.k o at))
      r.seen.of_core (numbers setup records log transfers status fates watch ok kept c r)))))

  all_made : Each IsMade log
  all_made = each_core IsMade log (λ c. at c (slice_get records c) refl (record_at setup records log transfers status fates watch ok c))
    where
      at : (c : ℕ) (found : Option CoreRecord) → slice_get records c ≡ found → IfSome found (λ kept. RecordOk setup c kept log transfers)
          → Each (λ (e : Entry). is_entry_of c e ≡ true → IsMade e) log
      at c None e r = each_weaker (λ (x : Entry). x.core < setup.config.cores) (λ (x : Entry). is_entry_of c x ≡ true → IsMade x) log
          (λ x within own. absurd (no_record (sym e ∙ (some_at records c (omega (arith, within, eqb-true x.core c own, ok.one_each))).1)))
          (log_cores setup records log transfers status fates watch ok)
        where
          no_record : {k : CoreRecord} → None ≡ Some k → ⊥
          no_record q = cc
      at c (Some kept) e r = made_of_core c kept e r

  -- each entry of the log is an operation of a core
  pub listed : (place : ℕ) → place < length log → IsListed records log place
  listed place within = each_found IsMade log all_made place

  -- the log has no more entries than the steps of all cores
  pub few_entries : length log ≤ setup.config.cores * setup.config.steps
  few_entries = shared (λ (e : Entry). e.core) setup.config.steps setup.config.cores log (log_cores setup records log transfers status fates watch ok)
      (λ c within. omega (arith, length-filter (is_entry_of c) log, ok.bus.entries_share c within))
