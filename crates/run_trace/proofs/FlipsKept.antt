-- The fates that the trace reports are those of the units' histories in the run of all masters.
use Rattle.std.proofs.Common.{◌≡◌, ◌∙◌, ◌+◌, ℕ, zero, suc, List, [], ◌∷◌, length, map, slice_get, slice_index_or, Option, Some, None, refl, ap, sym, subst, arith, add-one}
use Rattle.std.proofs.lemmas.Bool.{eq-eqb}
use Rattle.std.proofs.lemmas.Option.{same_Some}
use Rattle.std.specs.List.{range_with_len, zip}
use Rattle.std.specs.Option.{option_map, option_map_or}
use Rattle.ahb_bus.specs.declared.record.BusRecord.{BusRecord}
use Rattle.lf_model.specs.Bus.Replay.{Core}
use Rattle.lf_model.specs.Bus.Words.{Word}
use Rattle.lf_model.specs.Caches.Slot.{history_at}
use Rattle.lf_model.specs.Course.Arrays.{Arrays}
use Rattle.lf_model.specs.Fates.{fate_of}
use Rattle.lf_model.specs.Flips.{Moment}
use Rattle.lf_model.specs.Ledger.Account.{replay_of, arrays_of, arrays_at}
use Rattle.lf_model.specs.Ledger.FlipFate.{cache_in, slot_in, history_in, unit_history, budget_of, flip_fates}
use Rattle.lf_model.specs.Records.AllRecords.{words_named_by_all}
use Rattle.lf_model.specs.Records.BusMemory.{memory_after}
use Rattle.lf_model.specs.Records.BusRecord.{no_arrays}
use Rattle.lf_model.specs.Records.CoreRecord.{of_core_alone}
use Rattle.lf_model.specs.declared.flip.Flip.{Flip}
use Rattle.lf_model.specs.declared.flip.Flip.TheVariants.{Mem, Reg, Tag, Line}
use Rattle.lf_model.specs.declared.record.CoreRecord.{CoreRecord}
use Rattle.lf_model.specs.declared.setup.Setup.{Setup}
use Rattle.lf_model.specs.declared.trace.Fate.{Fate}
use Rattle.lf_model.specs.declared.trace.Fate.TheVariants.{Late}
use Rattle.lf_model.specs.declared.trace.Word2.{Word2}
use Rattle.run_trace.specs.Fates.{core_fate, fate_recorded, fates_recorded}
use Rattle.run_trace.specs.Gathered.{IsGatherable}
use Rattle.run_trace.proofs.TraceReplay.{trace, record_kept, course_kept, core_of, core_found, words_at_end}

-- ---- a list made of the flips and their numbers

module _ (of : ℕ × Flip → Fate) where
  abbrev from_number : ℕ → List Flip → List Fate
  from_number n xs = map of (zip (range_with_len n (length xs)) xs)

  fate_from : (n : ℕ) (xs : List Flip) (i m : ℕ) (flip : Flip) → m ≡ n + i → slice_get xs i ≡ Some flip → slice_index_or (from_number n xs) i Late ≡ of (m, flip)
  fate_from n [] i m flip e found = absurd (none_is_some found)
    where
      none_is_some : None ≡ Some flip → ⊥
      none_is_some q = cc
  fate_from n (x ∷ xs) zero m flip e found = ap (λ (f : Flip). of (n, f)) (same_Some _ _ found) ∙ ap (λ j. of (j, flip)) (omega (arith, e))
  fate_from n (x ∷ xs) (suc i) m flip e found = fate_from (n + 1) xs i m flip (omega (arith, e, add-one i)) found

  all_from : (records : List CoreRecord) (bus : List Fate) (n : ℕ) (xs : List Flip)
      → ((i m : ℕ) (flip : Flip) → m ≡ n + i → slice_get xs i ≡ Some flip → of (m, flip) ≡ fate_recorded records bus m flip) → from_number n xs ≡ fates_recorded records bus n xs
  all_from records bus n [] each = refl
  all_from records bus n (x ∷ xs) each =
      rw (each 0 n x (omega arith) refl, all_from records bus (n + 1) xs (λ i m flip e found. each (suc i) m flip (omega (arith, e, add-one i)) found)) refl

abbrev fate_by : List Word → (ℕ → Option Arrays) → ℕ × Flip → Fate
fate_by words cores flip = fate_of (budget_of flip.1) flip.0 (unit_history words cores flip.1)

module _ (setup : Setup) (records : List CoreRecord) (bus : BusRecord) (watch : List Word2) (ok : IsGatherable setup records bus watch) where
  abbrev words_left : List Word
  words_left = (memory_after setup.flips (words_named_by_all records) bus.transfers).words

  abbrev cores : List Core
  cores = (replay_of setup (trace setup records bus watch ok)).cores

  arrays_found : (core : ℕ) → arrays_at cores core ≡ option_map (λ (kept : CoreRecord). (course_kept setup records bus watch ok core kept).arrays) (slice_get records core)
  arrays_found core = ap (option_map arrays_of) (core_found setup records bus watch ok core) ∙ both (slice_get records core)
    where
      both : (found : Option CoreRecord) → option_map arrays_of (option_map (core_of setup records bus watch ok core) found)
          ≡ option_map (λ (kept : CoreRecord). (course_kept setup records bus watch ok core kept).arrays) found
      both None = refl
      both (Some kept) = refl

  -- a flip of a core's unit, whose history in the core's arrays this is
  core_flip : (i core : ℕ) (flip : Flip) (history : Arrays → List Moment) → slice_get setup.flips i ≡ Some flip
      → ((words : List Word) (of : ℕ → Option Arrays) → unit_history words of flip ≡ history_in history (of core))
      → fate_by words_left (arrays_at cores) (i, flip) ≡ core_fate records core i
  core_flip i core flip history at by =
      ap (fate_of (budget_of flip) i) (by words_left (arrays_at cores))
      ∙ (ap (λ arrays. fate_of (budget_of flip) i (history_in history arrays)) (arrays_found core)
      ∙ by_record (slice_get records core) refl)
    where
      by_record : (found : Option CoreRecord) → slice_get records core ≡ found
          → fate_of (budget_of flip) i (history_in history (option_map (λ (kept : CoreRecord). (course_kept setup records bus watch ok core kept).arrays) found))
          ≡ slice_index_or (option_map_or (λ (kept : CoreRecord). kept.fates) found []) i Late
      by_record None e = refl
      by_record (Some kept) e =
          let arrays = (course_kept setup records bus watch ok core kept).arrays in
          sym (
          ap (λ (fs : List Fate). slice_index_or fs i Late) (record_kept setup records bus watch ok core kept e).fates
          ∙ (fate_from (fate_by [] (of_core_alone core arrays)) 0 setup.flips i i flip (omega arith) at
          ∙ (ap (fate_of (budget_of flip) i) (by [] (of_core_alone core arrays))
          ∙ rw (eq-eqb core core refl) refl)))

  one_flip : (i : ℕ) (flip : Flip) → slice_get setup.flips i ≡ Some flip → fate_by words_left (arrays_at cores) (i, flip) ≡ fate_recorded records bus.fates i flip
  one_flip i (Mem turn addr bit) at = sym (
      ap (λ (fs : List Fate). slice_index_or fs i Late) ok.right.bus.fates_are
      ∙ fate_from (fate_by words_left no_arrays) 0 setup.flips i i (Mem turn addr bit) (omega arith) at)
  one_flip i (Reg core step cell bit) at = core_flip i core (Reg core step cell bit) (λ a. history_at cell a.cells) at (λ words of. refl)
  one_flip i (Tag core step fetch way set byte bit) at =
      core_flip i core (Tag core step fetch way set byte bit) (λ a. history_at byte (slot_in way set (cache_in fetch a)).tag_histories) at (λ words of. refl)
  one_flip i (Line core step fetch way set byte bit) at =
      core_flip i core (Line core step fetch way set byte bit) (λ a. history_at byte (slot_in way set (cache_in fetch a)).line_histories) at (λ words of. refl)

  pub fates_kept : flip_fates setup.flips (replay_of setup (trace setup records bus watch ok)).words (arrays_at cores) ≡ fates_recorded records bus.fates 0 setup.flips
  fates_kept =
      ap (λ ws. flip_fates setup.flips ws (arrays_at cores)) (words_at_end setup records bus watch ok)
      ∙ all_from (fate_by words_left (arrays_at cores)) records bus.fates 0 setup.flips (λ i m flip e at.
      subst (λ j. fate_by words_left (arrays_at cores) (j, flip) ≡ fate_recorded records bus.fates j flip) (sym (plain i m e)) (one_flip i flip at))
    where
      plain : (i m : ℕ) → m ≡ 0 + i → m ≡ i
      plain i m e = omega (arith, e)
