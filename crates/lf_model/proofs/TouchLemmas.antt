-- The arrays of an instruction that read its registers, and of one that retired, are those after its touches.
use Rattle.std.proofs.Common.{◌≡◌, ◌∙◌, ◌++◌, ℕ, Bool, true, false, List, [], ◌∷◌, Option, Some, None, fold, refl, ap, inl, inr}
use Rattle.std.proofs.lemmas.Bool.{cases_Bool}
use Rattle.std.proofs.lemmas.List.Sums.{fold-append}
use Rattle.lf_model.specs.Caches.Slot.{history_at, befalls}
use Rattle.lf_model.specs.Course.Arrays.{Arrays, read_back, read_then, read_cells, write_cells}
use Rattle.lf_model.specs.Course.Core.{is_store_kind}
use Rattle.lf_model.specs.Course.LocalStep.{store_by, flush_by, retired_arrays}
use Rattle.lf_model.specs.Course.Touches.{touched, unless_bad, read_touches, access_touches, barrier_touches, write_touches, retire_touches}
use Rattle.lf_model.specs.Effect.{Access, operation_kind, Effect}
use Rattle.lf_model.specs.Flips.{is_bad_word}
use Rattle.lf_model.specs.Names.{same_why}
use Rattle.lf_model.specs.declared.bus.Why.{Why}
use Rattle.lf_model.specs.declared.bus.Why.TheVariants.{Flush}
use Rattle.lf_model.specs.declared.flip.Flip.{Flip}
use Rattle.lf_model.specs.declared.touch.Touch.TheVariants.{ReadCell}

module _ (flips : List (ℕ × Flip)) where
  Reads : List ℕ → Type 0
  Reads cells = (a : Arrays) → fold (touched flips) a (read_touches cells a.cells) ≡ record a { cells = (read_cells cells a.cells).cells }

  read_one : (bad : Bool) (c : ℕ) (cells : List ℕ) → Reads cells → (a : Arrays)
      → fold (touched flips) a (ReadCell c ∷ unless_bad bad (read_touches cells (befalls read_back c a.cells)))
      ≡ record a { cells = (read_then c bad (befalls read_back c a.cells) (read_cells cells (befalls read_back c a.cells))).cells }
  unfolding Reads
  read_one true c cells later a = refl
  read_one false c cells later a = later (record a { cells = befalls read_back c a.cells })

  pub read : (cells : List ℕ) (a : Arrays) → fold (touched flips) a (read_touches cells a.cells) ≡ record a { cells = (read_cells cells a.cells).cells }
  unfolding Reads
  read [] a = refl
  read (c ∷ cells) a = read_one (is_bad_word (history_at c a.cells)) c cells (read cells) a

  write : (cells : List ℕ) (a : Arrays) → fold (touched flips) a (write_touches cells) ≡ write_cells cells a
  write [] a = refl
  write (c ∷ cells) a = write cells _

  flush : (why : Option Why) (a : Arrays) → fold (touched flips) a (barrier_touches why) ≡ flush_by why a
  flush None a = refl
  flush (Some why) a = elim (cases_Bool (same_why why Flush)) [
    | inl is_so ↦ rw is_so refl
    | inr not_so ↦ rw not_so refl
  ]

  update : (x : Option Access) (a : Arrays) → fold (touched flips) a (access_touches x) ≡ store_by x a
  update None a = refl
  update (Some x) a = elim (cases_Bool (is_store_kind (operation_kind x.kind))) [
    | inl is_so ↦ rw is_so refl
    | inr not_so ↦ rw not_so refl
  ]

  pub retire : (e : Effect) (a : Arrays) → fold (touched flips) a (retire_touches e) ≡ retired_arrays e a
  retire e a =
      fold-append (touched flips) a (access_touches e.access) (barrier_touches e.barrier ++ write_touches e.writes)
      ∙ (ap (λ b. fold (touched flips) b (barrier_touches e.barrier ++ write_touches e.writes)) (update e.access a)
      ∙ (fold-append (touched flips) (store_by e.access a) (barrier_touches e.barrier) (write_touches e.writes)
      ∙ (ap (λ b. fold (touched flips) b (write_touches e.writes)) (flush e.barrier (store_by e.access a))
      ∙ write e.writes (flush_by e.barrier (store_by e.access a)))))
