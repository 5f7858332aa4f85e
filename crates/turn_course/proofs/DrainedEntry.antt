-- The store that has waited longest enters the log as the operation that the core made.
use Rattle.std.proofs.Common.{◌≡◌, ◌∙◌, ◌==◌, ◌++◌, ℕ, Bool, true, false, List, [], ◌∷◌, length, map, drop, filter, refl, ap, sym, subst, arith}
use Rattle.std.proofs.lemmas.Bool.{and_parts, eqb-true}
use Rattle.std.proofs.lemmas.List.{drop_at, length-append, length-map, map-append}
use Rattle.std.specs.List.{AllByRecursion as Each, list_all}
use Rattle.ahb_bus.specs.BusState.{store_entry}
use Rattle.core_course.proofs.Running.{RunsOn}
use Rattle.core_course.specs.CoreOk.{buffer_of, waiting_of}
use Rattle.core_laws.proofs.ListLemmas.{each_filter, each_passes}
use Rattle.core_parts.specs.CoreValue.{CoreValue}
use Rattle.core_parts.specs.IsCore.{pending_of, Waits}
use Rattle.core_parts.specs.Work.{waiting_in}
use Rattle.core_turns.specs.AskedTurn.{who_of}
use Rattle.lf_model.proofs.EachLemmas.{each_second}
use Rattle.lf_model.specs.Operation.{kind_reads, kind_stores, kind_made, entry_reads, stores, made}
use Rattle.lf_model.specs.Promise.Regular.{numbers_fit, is_length, is_regular_op}
use Rattle.lf_model.specs.Promise.RegularTransfer.{fits_word}
use Rattle.lf_model.specs.Records.SeenOrder.{is_entry_of}
use Rattle.lf_model.specs.declared.bus.Entry.{Entry}
use Rattle.lf_model.specs.declared.bus.OpKind.{OpKind}
use Rattle.lf_model.specs.declared.bus.OpKind.TheVariants as ops
use Rattle.lf_model.specs.declared.bus.Pending.{Pending}
use Rattle.lf_model.specs.declared.bus.Transfer.{Transfer}
use Rattle.lf_model.specs.declared.trace.Op.{Op}

-- ---- an operation that stores and doesn't read

each_true : {X : Type 0} (p : X → Bool) (xs : List X) → list_all p xs ≡ true → Each (λ y. p y ≡ true) xs
each_true p [] all = tt
each_true p (y ∷ ys) all = let parts = and_parts (p y) (list_all p ys) all in (parts.0, each_true p ys parts.1)

kind_is : (kind : OpKind) → kind_stores kind ≡ true → kind_reads (kind_made kind) ≡ false → kind_made kind ≡ ops.Store
kind_is ops.Load stores_ none = absurd cc
kind_is ops.Store stores_ none = refl
kind_is ops.Atomic stores_ none = absurd cc
kind_is ops.Lost stores_ none = refl

got_by : (o : Op) (kind : OpKind) → kind_stores kind ≡ true → kind_reads (kind_made kind) ≡ false → numbers_fit o kind ≡ true → o.got ≡ 0
got_by o ops.Load stores_ none fit = absurd cc
got_by o ops.Store stores_ none fit = eqb-true o.got 0 (and_parts (o.got == 0) _ fit).0
got_by o ops.Atomic stores_ none fit = absurd cc
got_by o ops.Lost stores_ none fit = eqb-true o.got 0 (and_parts (o.got == 0) _ fit).0

numbers : (o : Op) → is_regular_op o ≡ true → numbers_fit o o.kind ≡ true
numbers o is =
    let a = (and_parts (fits_word o.core) _ is).1 in
    let b = (and_parts (fits_word o.k) _ a).1 in
    let c = (and_parts (fits_word o.step) _ b).1 in
    let d = (and_parts (fits_word o.addr) _ c).1 in
    (and_parts (is_length o.len) _ d).1

entry_as : (o : Op) (core : ℕ) → o.got ≡ 0 → o.core ≡ core → kind_made o.kind ≡ ops.Store
    → ◌≡◌ {A = Entry} (made o) (record { got = 0; put = o.put; core = core; k = o.k; addr = o.addr; kind = ops.Store; len = o.len })
entry_as o core got of_core kind = rw (got, of_core, kind) refl

-- ---- the stores that wait

module _ (v : CoreValue) (seen : List Entry) (known : List Transfer) (here : RunsOn v seen known) (fit : list_all is_regular_op v.ops ≡ true) where
  module _ (sent kept : List Op) (split : filter stores v.ops ≡ sent ++ kept) (many : length v.ports.waiting ≡ length kept) where
    abbrev front : List Entry
    front = filter (is_entry_of v.arch.core) seen

    whole : front ++ buffer_of v ≡ map made sent ++ map made kept
    whole = here.goes_on.has_seen.entries ∙ (ap (map made) split ∙ map-append made sent kept)

    as_long : length (map made sent) ≡ length front
    as_long = omega (arith, ap length whole, length-append front (buffer_of v), length-append (map made sent) (map made kept), length-map kept made, many, ap length here.goes_on.waits, length-map (buffer_of v) waiting_of)

    pub buffer_kept : buffer_of v ≡ map made kept
    buffer_kept = sym (drop_at front (buffer_of v) (length front) refl) ∙ (ap (drop (length front)) whole ∙ drop_at (map made sent) (map made kept) (length front) as_long)

    -- of each of them
    all_of_core : Each (λ (o : Op). o.core ≡ v.arch.core) kept
    all_of_core = each_second (λ (o : Op). o.core ≡ v.arch.core) sent kept (subst (Each (λ (o : Op). o.core ≡ v.arch.core)) split (each_filter (λ (o : Op). o.core ≡ v.arch.core) stores v.ops here.goes_on.has_seen.of_core))

    all_fit : Each (λ (o : Op). is_regular_op o ≡ true) kept
    all_fit = each_second (λ (o : Op). is_regular_op o ≡ true) sent kept (subst (Each (λ (o : Op). is_regular_op o ≡ true)) split (each_filter (λ (o : Op). is_regular_op o ≡ true) stores v.ops (each_true is_regular_op v.ops fit)))

    all_store : Each (λ (o : Op). stores o ≡ true) kept
    all_store = each_second (λ (o : Op). stores o ≡ true) sent kept (subst (Each (λ (o : Op). stores o ≡ true)) split (each_passes stores v.ops))

    none_read : Each (λ (e : Entry). entry_reads e ≡ false) (map made kept)
    none_read = subst (Each (λ (e : Entry). entry_reads e ≡ false)) buffer_kept here.goes_on.has_seen.stores_wait

  -- the first of them
  first_of : (sent kept : List Op) (split : filter stores v.ops ≡ sent ++ kept) (many : length v.ports.waiting ≡ length kept) (p : Pending) (ps : List Pending) → p ∷ ps ≡ map pending_of kept
      → (later : List Entry) × (buffer_of v ≡ store_entry (who_of v) p ∷ later)
  first_of sent [] split many p ps are = absurd cc
  first_of sent (o ∷ os) split many p ps are =
      let store = (all_store sent (o ∷ os) split many).0 in
      let reads = (none_read sent (o ∷ os) split many).0 in
      let entry : made o ≡ store_entry (who_of v) (pending_of o) =
      entry_as o v.arch.core (got_by o o.kind store reads (numbers o (all_fit sent (o ∷ os) split many).0)) (all_of_core sent (o ∷ os) split many).0 (kind_is o.kind store reads) in
      let same : p ≡ pending_of o = cc in
      (map made os, buffer_kept sent (o ∷ os) split many ∙ ap (λ e. e ∷ map made os) (entry ∙ ap (store_entry (who_of v)) (sym same)))

  pub first_waits : (p : Pending) (ps : List Pending) → Waits v.ops (p ∷ ps) → v.ports.waiting ≡ map waiting_in (p ∷ ps)
      → (later : List Entry) × (buffer_of v ≡ store_entry (who_of v) p ∷ later)
  first_waits p ps w waiting = first_of w.sent w.kept w.split
      (ap length waiting ∙ (length-map (p ∷ ps) waiting_in ∙ (ap length w.waiting_are ∙ length-map w.kept pending_of))) p ps w.waiting_are
