-- A core joins the log and the transfers of the bus: as its own turn ends, after its step without a turn, and through the turns of others.
use Rattle.std.proofs.Common.{◌≡◌, ◌∙◌, ◌≤◌, ◌==◌, ◌++◌, ℕ, true, false, List, [], ◌∷◌, length, take, drop, refl, sym, subst, arith}
use Rattle.std.proofs.lemmas.Bool.{and_from}
use Rattle.std.proofs.lemmas.List.{length-take, take_all, drop_all, take-append-le, drop-append-le}
use Rattle.std.proofs.lemmas.List.Folds.{list_all-append}
use Rattle.std.specs.List.{AllByRecursion as Each, list_all}
use Rattle.core_course.specs.Calls.{Joins}
use Rattle.core_course.specs.CoreOk.{CoreOk}
use Rattle.core_parts.specs.Completes.{Keeps}
use Rattle.core_parts.specs.CoreValue.{CoreValue}
use Rattle.lf_model.proofs.EachLemmas.{each_append}
use Rattle.lf_model.specs.Records.BusRecord.{is_in_memory}
use Rattle.lf_model.specs.Records.SeenOrder.{is_entry_of}
use Rattle.lf_model.specs.declared.bus.Entry.{Entry}
use Rattle.lf_model.specs.declared.bus.Transfer.{Transfer}
use Rattle.lf_model.specs.declared.setup.Setup.{Setup}

abbrev IsOthersEntry : ℕ → Entry → Type 0
IsOthersEntry c e = is_entry_of c e ≡ false

abbrev IsOthersTransfer : ℕ → Transfer → Type 0
IsOthersTransfer c t = (c == t.master) ≡ false

-- as its own turn ends it has seen all of both
pub joins_whole : (v : CoreValue) (log : List Entry) (ts : List Transfer) → CoreOk v log ts → Joins v log ts
joins_whole v log ts ok = record {
  ok =
      subst (λ us. CoreOk v (take v.log_seen log) us) (sym (take_all v.turns_seen ts (omega (arith, ok.turns))))
      (subst (λ es. CoreOk v es ts) (sym (take_all v.log_seen log (omega (arith, ok.log_length)))) ok);
  in_memory = ok.in_memory;
  entries = subst (Each (IsOthersEntry v.arch.core)) (sym (drop_all v.log_seen log (omega (arith, ok.log_length)))) tt;
  others = subst (Each (IsOthersTransfer v.arch.core)) (sym (drop_all v.turns_seen ts (omega (arith, ok.turns)))) tt;
}

-- the lists are no shorter than what it had seen
seen_within : {X : Type 0} (n : ℕ) (xs : List X) → length (take n xs) ≡ n → n ≤ length xs
seen_within n xs e = omega (arith, e, length-take n xs)

module _ (v : CoreValue) (log : List Entry) (ts : List Transfer) (j : Joins v log ts) where
  -- ---- after a turn of another

  pub joins_later : (es : List Entry) (t : Transfer) → Each (λ e. is_entry_of v.arch.core e ≡ false) es → (v.arch.core == t.master) ≡ false → is_in_memory v.setup.config.ram t ≡ true
      → Joins v (log ++ es) (ts ++ t ∷ [])
  joins_later es t entries other lies =
      let log_within = seen_within v.log_seen log j.ok.log_length in
      let turns_within = seen_within v.turns_seen ts j.ok.turns in
      record {
        ok =
            subst (λ us. CoreOk v (take v.log_seen (log ++ es)) us) (sym (take-append-le v.turns_seen ts (t ∷ []) turns_within))
            (subst (λ ds. CoreOk v ds (take v.turns_seen ts)) (sym (take-append-le v.log_seen log es log_within)) j.ok);
        in_memory = list_all-append (is_in_memory v.setup.config.ram) ts (t ∷ []) ∙ and_from _ _ j.in_memory (and_from _ true lies refl);
        entries = subst (Each (IsOthersEntry v.arch.core)) (sym (drop-append-le v.log_seen log es log_within))
            (each_append (IsOthersEntry v.arch.core) (drop v.log_seen log) es j.entries entries);
        others = subst (Each (IsOthersTransfer v.arch.core)) (sym (drop-append-le v.turns_seen ts (t ∷ []) turns_within))
            (each_append (IsOthersTransfer v.arch.core) (drop v.turns_seen ts) (t ∷ []) j.others (other, tt));
      }

  -- ---- after its step without a turn, which keeps what holds of it

  pub joins_kept : (w : CoreValue) → Keeps v w → ((es : List Entry) (us : List Transfer) → CoreOk v es us → CoreOk w es us) → Joins w log ts
  joins_kept w keeps kept =
      let ok = kept (take v.log_seen log) (take v.turns_seen ts) j.ok in
      let log_seen : w.log_seen ≡ v.log_seen = sym ok.log_length ∙ j.ok.log_length in
      let turns_seen : w.turns_seen ≡ v.turns_seen = sym ok.turns ∙ j.ok.turns in
      record {
        ok = subst (λ (n : ℕ). CoreOk w (take n log) (take w.turns_seen ts)) (sym log_seen) (subst (λ (n : ℕ). CoreOk w (take v.log_seen log) (take n ts)) (sym turns_seen) ok);
        in_memory = subst (λ (s : Setup). list_all (is_in_memory s.config.ram) ts ≡ true) (sym keeps.setup) j.in_memory;
        entries = subst (λ (n : ℕ). Each (IsOthersEntry n) (drop w.log_seen log)) (sym keeps.core) (subst (λ (n : ℕ). Each (IsOthersEntry v.arch.core) (drop n log)) (sym log_seen) j.entries);
        others = subst (λ (n : ℕ). Each (IsOthersTransfer n) (drop w.turns_seen ts)) (sym keeps.core) (subst (λ (n : ℕ). Each (IsOthersTransfer v.arch.core) (drop n ts)) (sym turns_seen) j.others);
      }
