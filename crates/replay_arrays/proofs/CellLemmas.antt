-- Register cells as they are read and written, one after the other.
use Rattle.std.proofs.Common.{◌≡◌, ℕ, ◌+◌, ◌<◌, Bool, true, false, cond, List, [], ◌∷◌, length, drop, take, slice_index, slice_set, Some, sym, ap, ◌∙◌}
use Rattle.std.proofs.lemmas.List.{set-get_or, drop_more, take_more}
use Rattle.std.proofs.lemmas.List.Sums.{fold_push}
use Rattle.lf_model.specs.Caches.Slot.{history_at, befalls, befalls_each, written}
use Rattle.lf_model.specs.Course.Arrays.{read_back, read_then, read_cells}
use Rattle.lf_model.specs.Flips.{Moment, is_fixed_word, is_bad_word}
use Rattle.lf_model.specs.Flips.How.{ByReadBack}
use Rattle.lf_model.specs.Flips.Moment.{Written}

module _ (hs : List (List Moment)) (cell : ℕ) where
  abbrev here : List Moment
  here = history_at cell hs

  -- a read puts a cell right, or leaves it
  pub put_right : is_fixed_word (history_at cell hs) ≡ true → befalls (λ h. Written ByReadBack ∷ h) cell hs ≡ befalls read_back cell hs
  put_right fixed = ap (slice_set hs cell) (sym (ap (λ (b : Bool). cond b (Written ByReadBack ∷ here) here) fixed))

  pub left_alone : is_fixed_word (history_at cell hs) ≡ false → hs ≡ befalls read_back cell hs
  left_alone not_it = sym (set-get_or hs cell []) ∙ ap (slice_set hs cell) (sym (ap (λ (b : Bool). cond b (Written ByReadBack ∷ here) here) not_it))

module _ (cells : List ℕ) (i : ℕ) (within : i < length cells) (hs : List (List Moment)) where
  abbrev now : ℕ
  now = slice_index cells i

  -- the read of the cells from the next one on
  read_on : (b : Bool) → b ≡ is_bad_word (history_at now hs)
      → read_cells (drop i cells) hs ≡ read_then now b (befalls read_back now hs) (read_cells (drop (i + 1) cells) (befalls read_back now hs))
  read_on b is =
      ap (λ (rest : List ℕ). read_cells rest hs) (drop_more cells i 0 within)
      ∙ ap (λ (bad : Bool). read_then now bad (befalls read_back now hs) (read_cells (drop (i + 1) cells) (befalls read_back now hs))) (sym is)

  pub read_bad : {b : Bool} → b ≡ true → b ≡ is_bad_word (history_at now hs) → read_cells (drop i cells) hs ≡ record { bad = Some now; cells = befalls read_back now hs }
  read_bad {b} bad is = read_on b is ∙ ap (λ (x : Bool). read_then now x (befalls read_back now hs) (read_cells (drop (i + 1) cells) (befalls read_back now hs))) bad

  pub read_good : {b : Bool} → b ≡ false → b ≡ is_bad_word (history_at now hs) → read_cells (drop i cells) hs ≡ read_cells (drop (i + 1) cells) (befalls read_back now hs)
  read_good {b} good is = read_on b is ∙ ap (λ (x : Bool). read_then now x (befalls read_back now hs) (read_cells (drop (i + 1) cells) (befalls read_back now hs))) good

  pub written_more : befalls written now (befalls_each written (take i cells) hs) ≡ befalls_each written (take (i + 1) cells) hs
  written_more = sym (ap (λ (cs : List ℕ). befalls_each written cs hs) (take_more cells i 0 within) ∙ fold_push (λ (h : List (List Moment)) (c : ℕ). befalls written c h) hs (take i cells) now)
