-- An operation is reported as it is given where its entry, its completion and its sorting are, and the entries after it.
use Rattle.std.proofs.Common.{◌≡◌, ◌∙◌, ◌+◌, ◌<◌, ℕ, true, false, List, length, drop, get_or, ap, sym, refl, inl, inr, Option, Some, None, slice_get, if◌then◌else◌}
use Rattle.std.specs.Option.{option_map}
use Rattle.std.proofs.lemmas.Bool.{cases_Bool, false≢true}
use Rattle.std.proofs.lemmas.Option.{same_Some}
use Rattle.lf_model.specs.Bus.Replay.{LogEntry}
use Rattle.lf_model.specs.Course.Progress.{Completion}
use Rattle.lf_model.specs.Ledger.OrderAccount.{OrderAccount, Before, before_all, after_kind, along, completion_of, entry_in_log, place_by_course, place_as_reported, reported_by, shown, sorted_by}
use Rattle.lf_model.specs.Operation.{kind_enters, enters}
use Rattle.lf_model.specs.declared.bus.OpKind.{OpKind}
use Rattle.lf_model.specs.declared.bus.OpKind.TheVariants.{Load, Store, Atomic, Lost}
use Rattle.lf_model.specs.declared.trace.Op.{Op}
use Rattle.ledger_audit.proofs.Along.{before_at, along_at, before_more}
use Rattle.ledger_audit.specs.Entries.{entry_of, after_entries, HasEntry, HasOther}
use Rattle.ledger_audit.specs.FirstPlaces.{SameOrderAt}

entries_by : (o : Op) (b : Before) (k : OpKind) → (after_kind o b k).entries ≡ (if kind_enters k then b.entries + 1 else b.entries)
entries_by o b Load = refl
entries_by o b Store = refl
entries_by o b Atomic = refl
entries_by o b Lost = refl

-- of what came before, only the entries are reported
reported_after : (o : Op) (b : Before) (k : OpKind) → reported_by (after_entries b.entries) o k ≡ reported_by b o k
reported_after o b Load = refl
reported_after o b Store = refl
reported_after o b Atomic = refl
reported_after o b Lost = refl

module _ (log : List LogEntry) (cores : List (List Completion)) (order : List Op) (i : ℕ) (d : Op) (within : i < length order) where
  abbrev o : Op
  o = get_or order i d

  abbrev b : Before
  b = before_at order i

  abbrev later : List Op
  later = drop (i + 1) order

  abbrev completed : Option Completion
  completed = option_map (shown o.kind) (completion_of cores o.core o.k)

  given_at : slice_get (along (place_by_course log cores) before_all order) i ≡ Some (place_by_course log cores b o later)
  given_at = along_at (place_by_course log cores) order i d within

  told_at : slice_get (along place_as_reported before_all order) i ≡ Some (place_as_reported b o later)
  told_at = along_at place_as_reported order i d within

  parts : SameOrderAt log cores order i → place_by_course log cores b o later ≡ place_as_reported b o later
  parts h = same_Some _ _ (sym given_at ∙ (h ∙ told_at))

  entry_same : (next : ℕ) → HasEntry log b.entries o next → entry_in_log log b o ≡ (if enters o then Some (entry_of o) else None)
  entry_same next h = elim (cases_Bool (enters o)) [
    | inl is ↦ rw is (h.here is)
    | inr not ↦ rw not refl
  ]

  -- ---- the same

  pub is_same : (next : ℕ) → HasEntry log b.entries o next → completed ≡ Some (reported_by (after_entries b.entries) o o.kind) → sorted_by b o later o.kind ≡ true
      → SameOrderAt log cores order i
  is_same next h retired sorted =
      let entry = entry_same next h in
      let told : completed ≡ Some (reported_by b o o.kind) = retired ∙ ap (λ (c : Completion). Some c) (reported_after o b o.kind) in
      let same : place_by_course log cores b o later ≡ place_as_reported b o later = cc in
      given_at ∙ (ap (λ (a : OrderAccount). Some a) same ∙ sym told_at)

  pub next_entries : (next : ℕ) → HasEntry log b.entries o next → next ≡ (before_at order (i + 1)).entries
  next_entries next h = h.next_is ∙ (sym (entries_by o b o.kind) ∙ ap (λ (c : Before). c.entries) (before_more order i d within))

  -- ---- other than is given

  pub other_completion : (completed ≡ Some (reported_by (after_entries b.entries) o o.kind) → ⊥) → SameOrderAt log cores order i → ⊥
  other_completion other h = other (ap (λ (a : OrderAccount). a.retired) (parts h) ∙ ap (λ (c : Completion). Some c) (sym (reported_after o b o.kind)))

  pub other_entry : HasOther log b.entries o → SameOrderAt log cores order i → ⊥
  other_entry h same = h.other (rw h.has at (ap (λ (a : OrderAccount). a.entry) (parts same)))

  pub is_unsorted : sorted_by b o later o.kind ≡ false → SameOrderAt log cores order i → ⊥
  is_unsorted unsorted same = false≢true (sym unsorted ∙ sym (ap (λ (a : OrderAccount). a.sorted) (parts same)))
