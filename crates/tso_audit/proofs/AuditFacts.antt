-- What a regular trace and the rules that were tried say of later ones.
use Rattle.std.proofs.Common.{◌≡◌, ◌∙◌, ◌==◌, ◌<◌, ◌≤◌, ◌*◌, ◌^◌, ℕ, zero, suc, Bool, true, false, List, [], ◌∷◌, length, get_or, Option, Some, None, inl, inr, ◌⊎◌, refl, sym, ap, subst, arith}
use Rattle.std.specs.Prelude.{All, IsTrue, ◌&&◌, ◌||◌}
use Rattle.std.specs.List.{list_all}
use Rattle.std.proofs.lemmas.Bool.{and_parts, eqb-true, ltb-true}
use Rattle.std.proofs.lemmas.List.{get_or-map, length-map}
use Rattle.std.proofs.lemmas.Nat.{pow_pos}
use Rattle.lf_model.specs.Ledger.Rule.{TriedBefore, NoneLeft}
use Rattle.lf_model.specs.Once.{OnceAtCore, OnceAtOrder, OnceAtTransfer, OnceAtFinal, address_of}
use Rattle.lf_model.specs.Places.{FailsNowhere, AtPlace}
use Rattle.lf_model.specs.Promise.Regular.{IsRegular, is_regular_op, is_length, number_fits, numbers_fit}
use Rattle.lf_model.specs.Promise.RegularTransfer.{fits_word, fits_byte}
use Rattle.lf_model.specs.Records.CoreRules.{ThreadAt}
use Rattle.lf_model.specs.Start.{is_in_ram}
use Rattle.lf_model.specs.declared.bus.OpKind.{OpKind}
use Rattle.lf_model.specs.declared.bus.OpKind.TheVariants.{Load, Store, Atomic, Lost}
use Rattle.lf_model.specs.declared.place.Place.{Place}
use Rattle.lf_model.specs.declared.place.Place.TheVariants.{Core, Order, Transfer, Final}
use Rattle.lf_model.specs.declared.setup.Setup.{Setup}
use Rattle.lf_model.specs.declared.trace.Op.{Op}
use Rattle.lf_model.specs.declared.trace.Trace.{Trace}
use Rattle.lf_num.proofs.ShiftLemmas.{pow256}
use Rattle.tso_audit.proofs.Places.{from_place}
use Rattle.tso_audit.specs.FirstPlaces.{HasCoresBelow, LieInRam, HaveEightBytes, WatchRam, OnceFailsFirst, ThreadFailsFirst}
use Rattle.tso_thread.proofs.OpsInRam.{all_in_ram}
use Rattle.tso_thread.specs.ReplayState.{ReadsFit}

-- ---- regular operations

each_passes : (p : Op → Bool) (xs : List Op) → list_all p xs ≡ true → All (λ o. p o ≡ true) xs
each_passes p [] all i d low = absurd (omega (arith, low))
each_passes p (o ∷ xs) all zero d low = (and_parts (p o) (list_all p xs) all).0
each_passes p (o ∷ xs) all (suc i) d low = each_passes p xs (and_parts (p o) (list_all p xs) all).1 i d (omega (arith, low))

either_true : (a b : Bool) → (a || b) ≡ true → (a ≡ true) ⊎ (b ≡ true)
either_true true b is = inl refl
either_true false b is = inr is

short : (len : ℕ) → is_length len ≡ true → len ≤ 8
short len is = elim (either_true (len == 1) (len == 2 || (len == 4 || len == 8)) is) [
  | inl one ↦ let e = eqb-true len 1 one in omega (arith, e)
  | inr more ↦ elim (either_true (len == 2) (len == 4 || len == 8) more) [
    | inl two ↦ let e = eqb-true len 2 two in omega (arith, e)
    | inr longer ↦ elim (either_true (len == 4) (len == 8) longer) [
      | inl four ↦ let e = eqb-true len 4 four in omega (arith, e)
      | inr eight ↦ let e = eqb-true len 8 eight in omega (arith, e)
    ]
  ]
]

small_read : (len got : ℕ) → number_fits len got ≡ true → got < 2 ^ (8 * len)
small_read len got is = subst (λ (p : ℕ). got < p) (sym (pow256 len)) (ltb-true got (256 ^ len) is)

no_read : (len got : ℕ) → (got == 0) ≡ true → got < 2 ^ (8 * len)
no_read len got is = let e = eqb-true got 0 is in subst (λ (n : ℕ). n < 2 ^ (8 * len)) (sym e) (pow_pos (8 * len))

read_fits : (o : Op) (kind : OpKind) → numbers_fit o kind ≡ true → o.got < 2 ^ (8 * o.len)
read_fits o Load is = small_read o.len o.got (and_parts (number_fits o.len o.got) (o.put == 0 && fits_byte o.way) is).0
read_fits o Store is = no_read o.len o.got (and_parts (o.got == 0) (number_fits o.len o.put && o.way == 0) is).0
read_fits o Atomic is = small_read o.len o.got (and_parts (number_fits o.len o.got) (number_fits o.len o.put && o.way == 0) is).0
read_fits o Lost is = no_read o.len o.got (and_parts (o.got == 0) (number_fits o.len o.put && o.way == 0) is).0

record IsRegularOp (o : Op) : Type 0 where
  size : is_length o.len ≡ true
  numbers : numbers_fit o o.kind ≡ true

regular_op : (o : Op) → is_regular_op o ≡ true → IsRegularOp o
regular_op o is =
    let k = and_parts (fits_word o.core) (fits_word o.k && (fits_word o.step && (fits_word o.addr && (is_length o.len && numbers_fit o o.kind)))) is in
    let step = and_parts (fits_word o.k) (fits_word o.step && (fits_word o.addr && (is_length o.len && numbers_fit o o.kind))) k.1 in
    let addr = and_parts (fits_word o.step) (fits_word o.addr && (is_length o.len && numbers_fit o o.kind)) step.1 in
    let len = and_parts (fits_word o.addr) (is_length o.len && numbers_fit o o.kind) addr.1 in
    let both = and_parts (is_length o.len) (numbers_fit o o.kind) len.1 in
    record { size = both.0; numbers = both.1 }

module _ (trace : Trace) (regular : IsRegular trace) where
  pub regular_reads : ReadsFit trace.order
  regular_reads i d low = let o = get_or trace.order i d in read_fits o o.kind (regular_op o (each_passes is_regular_op trace.order regular.operations i d low)).numbers

  pub regular_lengths : HaveEightBytes trace.order
  regular_lengths i d low = let o = get_or trace.order i d in short o.len (regular_op o (each_passes is_regular_op trace.order regular.operations i d low)).size

-- ---- rules that fail nowhere

pub tried_none : (n : ℕ) (Holds : ℕ → Type 0) (place : ℕ → Place) (Later : Option Place → Type 0) → TriedBefore n Holds place Later None → FailsNowhere n Holds × Later None
tried_none n Holds place Later (inl both) = both
tried_none n Holds place Later (inr some) = absurd (not_some (place some.0) some.2)
  where
    not_some : (p : Place) → ◌≡◌ {A = Option Place} None (Some p) → ⊥
    not_some p e = cc

pub thread_none : (setup : Setup) (trace : Trace) → ThreadFailsFirst setup trace None → FailsNowhere setup.config.cores (ThreadAt setup trace)
thread_none setup trace h = (tried_none setup.config.cores (ThreadAt setup trace) Core NoneLeft h).0

module _ (setup : Setup) (trace : Trace) (once : OnceFailsFirst setup trace None) where
  abbrev AtLast : Option Place → Type 0
  AtLast = TriedBefore 1 (λ i. OnceAtFinal setup trace) (λ i. Final) NoneLeft

  abbrev AtTransfers : Option Place → Type 0
  AtTransfers = TriedBefore (length trace.transfers) (OnceAtTransfer setup.config.cores trace.transfers) Transfer AtLast

  abbrev AtOperations : Option Place → Type 0
  AtOperations = TriedBefore (length trace.order) (AtPlace (OnceAtOrder setup.config.cores) trace.order) Order AtTransfers

  at_cores : FailsNowhere setup.config.cores (OnceAtCore trace.order) × AtOperations None
  at_cores = tried_none setup.config.cores (OnceAtCore trace.order) Core AtOperations once

  pub at_operations : FailsNowhere (length trace.order) (AtPlace (OnceAtOrder setup.config.cores) trace.order) × AtTransfers None
  at_operations = tried_none (length trace.order) (AtPlace (OnceAtOrder setup.config.cores) trace.order) Order AtTransfers at_cores.1

  pub at_transfers : FailsNowhere (length trace.transfers) (OnceAtTransfer setup.config.cores trace.transfers) × AtLast None
  at_transfers = tried_none (length trace.transfers) (OnceAtTransfer setup.config.cores trace.transfers) Transfer AtLast at_operations.1

  pub once_numbered : FailsNowhere setup.config.cores (OnceAtCore trace.order)
  once_numbered = at_cores.0

  pub once_below : HasCoresBelow setup.config.cores trace.order
  once_below i d low = from_place (λ (o : Op). o.core < setup.config.cores) trace.order i d low (at_operations.0 i low)

  pub once_whole : OnceAtFinal setup trace
  once_whole = (tried_none 1 (λ i. OnceAtFinal setup trace) (λ i. Final) NoneLeft at_transfers.1).0 0 (omega arith)

  pub watched_in_ram : All (λ addr. IsTrue (is_in_ram setup.config.ram addr 4)) setup.config.watch → WatchRam setup.config.ram trace.watch
  watched_in_ram all i d low =
      let words = once_whole.words_shown in
      let long : length trace.watch ≡ length setup.config.watch = sym (length-map trace.watch address_of) ∙ ap length words in
      let same : get_or setup.config.watch i (address_of d) ≡ (get_or trace.watch i d).addr =
      ap (λ (xs : List ℕ). get_or xs i (address_of d)) (sym words) ∙ get_or-map address_of trace.watch i d (address_of d) low in
      subst (λ (addr : ℕ). IsTrue (is_in_ram setup.config.ram addr 4)) same (all i (address_of d) (omega (arith, low, long)))

  -- every operation lies in RAM, since an instruction makes it
  pub ops_in_ram : ThreadFailsFirst setup trace None → LieInRam setup.config.ram trace.order
  ops_in_ram thread = all_in_ram setup trace once_numbered once_below once_whole.cores_shown (thread_none setup trace thread)
