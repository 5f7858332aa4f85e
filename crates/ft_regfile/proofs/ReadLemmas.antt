-- What a read of a cell answers, and what it leaves.
use Rattle.std.proofs.Common.{◌≡◌, ℕ, Bool, true, false, cond, List, [], ◌∷◌, slice_index, slice_set, Some, None, Ok, Err, sym, ap, ◌∙◌}
use Rattle.std.proofs.lemmas.List.{set-get_or}
use Rattle.lf_model.specs.Caches.Slot.{history_at, befalls}
use Rattle.lf_model.specs.Course.Arrays.{read_back}
use Rattle.lf_model.specs.Flips.{Moment, is_bad_word, is_fixed_word, syndrome}
use Rattle.lf_model.specs.Flips.How.{ByReadBack}
use Rattle.lf_model.specs.Flips.Moment.{Written}
use Rattle.ft_regfile.specs.Registers.{Registers, answer_of_read, value_shown}

module _ (r : Registers) (cell : ℕ) where
  -- a cell that is not bad
  pub good_answer : (v : ℕ) → v ≡ slice_index r.values cell → is_bad_word (history_at cell r.histories) ≡ false → Ok v ≡ answer_of_read r cell
  unfolding answer_of_read
  good_answer v value good =
      ap Ok value
      ∙ sym (ap (λ (bad : Bool). cond bad (Err (record { cell = cell; syn = syndrome (history_at cell r.histories) })) (Ok (slice_index r.values cell))) good)

  pub good_shown : (v : ℕ) → v ≡ slice_index r.values cell → is_bad_word (history_at cell r.histories) ≡ false → Some v ≡ value_shown r cell
  unfolding value_shown
  good_shown v value good = ap Some value ∙ sym (ap (λ (bad : Bool). cond bad None (Some (slice_index r.values cell))) good)

  -- one that is
  pub bad_answer : (syn : ℕ) → syn ≡ syndrome (history_at cell r.histories) → is_bad_word (history_at cell r.histories) ≡ true → Err (record { cell = cell; syn = syn }) ≡ answer_of_read r cell
  unfolding answer_of_read
  bad_answer syn is bad =
      ap (λ (s : ℕ). Err (record { cell = cell; syn = s })) is
      ∙ sym (ap (λ (b : Bool). cond b (Err (record { cell = cell; syn = syndrome (history_at cell r.histories) })) (Ok (slice_index r.values cell))) bad)

  pub bad_shown : is_bad_word (history_at cell r.histories) ≡ true → None ≡ value_shown r cell
  unfolding value_shown
  bad_shown bad = sym (ap (λ (b : Bool). cond b None (Some (slice_index r.values cell))) bad)

  -- nothing is written back where no bit was corrected
  pub not_written_back : is_fixed_word (history_at cell r.histories) ≡ false → r ≡ record r { histories = befalls read_back cell r.histories }
  not_written_back not_fixed =
      let h : List Moment = history_at cell r.histories in
      ap (λ (hs : List (List Moment)). record r { histories = hs })
      (sym (ap (λ (b : Bool). slice_set r.histories cell (cond b (Written ByReadBack ∷ h) h)) not_fixed ∙ set-get_or r.histories cell []))

  pub written_back : (v : ℕ) → v ≡ slice_index r.values cell → is_fixed_word (history_at cell r.histories) ≡ true
      → ◌≡◌ {A = Registers} (record { values = slice_set r.values cell v; histories = befalls (λ h. Written ByReadBack ∷ h) cell r.histories; flips = r.flips })
      (record r { histories = befalls read_back cell r.histories })
  written_back v value fixed =
      let h : List Moment = history_at cell r.histories in
      ap (λ (vs : List ℕ). record { values = vs; histories = befalls (λ h. Written ByReadBack ∷ h) cell r.histories; flips = r.flips })
      (ap (slice_set r.values cell) value ∙ set-get_or r.values cell 0)
      ∙ ap (λ (hs : List (List Moment)). record r { histories = hs })
      (sym (ap (λ (b : Bool). slice_set r.histories cell (cond b (Written ByReadBack ∷ h) h)) fixed))
