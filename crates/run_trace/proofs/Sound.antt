-- Transfers that the record of the bus says are right: which of them enter the log, and which stores met a bad word.
use Rattle.std.proofs.Common.{◌≡◌, ◌+◌, ◌<◌, ◌&&◌, ◌||◌, ℕ, zero, suc, Bool, true, false, not, nat_lt, nat_le, map, slice_index, refl, arith, add-one}
use Rattle.std.proofs.lemmas.Bool.{and_parts, ne_eqb, leb-true, ltb-true}
use Rattle.std.specs.List.{list_any, range_with_len}
use Rattle.lf_model.specs.Course.Syndromes.{is_bad_syndrome, syndromes_of, met_bad, has_address, enters_log}
use Rattle.lf_model.specs.Names.{same_kind}
use Rattle.lf_model.specs.Promise.RegularTransfer.{fits_word, has_cause, address_fits, way_fits, words_fit, syndromes_fit, is_regular_on_bus}
use Rattle.lf_model.specs.Records.BusRecord.{is_successful, is_in_memory}
use Rattle.lf_model.specs.Start.{is_in_ram, ram_first}
use Rattle.lf_model.specs.TransferLines.{makes_entry}
use Rattle.lf_model.specs.declared.bus.Transfer.{Transfer}
use Rattle.lf_model.specs.declared.bus.TurnKind.{TurnKind}
use Rattle.lf_model.specs.declared.bus.TurnKind.TheVariants.{Fetch, Load, Store, Atomic, Snoop, Look, Fix}

entry_not_snoop : (kind : TurnKind) → makes_entry kind ≡ true → same_kind kind Snoop ≡ false
entry_not_snoop Fetch e = absurd (cc)
entry_not_snoop Load e = absurd (cc)
entry_not_snoop Store e = refl
entry_not_snoop Atomic e = refl
entry_not_snoop Snoop e = absurd (cc)
entry_not_snoop Look e = absurd (cc)
entry_not_snoop Fix e = absurd (cc)

module _ (ram : ℕ) (t : Transfer) (inside : is_in_memory ram t ≡ true) where
  -- a store or an atomic has an address
  pub addressed_entry : makes_entry t.kind ≡ true → has_address t ≡ true
  addressed_entry e =
      let at : is_in_ram ram t.addr 1 ≡ true = rw (entry_not_snoop t.kind e) at inside in
      let low = leb-true ram_first t.addr (and_parts (nat_le ram_first t.addr) (nat_le (t.addr + 1) (ram_first + ram)) at).0 in
      rw (ne_eqb t.addr 0 (λ q. absurd (omega (arith, q, low)))) refl

  pub enters_successful : is_successful t ≡ enters_log t
  enters_successful = by (makes_entry t.kind) refl
    where
      by : (b : Bool) → makes_entry t.kind ≡ b → is_successful t ≡ enters_log t
      by true e = rw (e, addressed_entry e) refl
      by false e = rw e refl

store_enters : (kind : TurnKind) → same_kind kind Store ≡ true → makes_entry kind ≡ true
store_enters Fetch e = absurd (cc)
store_enters Load e = absurd (cc)
store_enters Store e = refl
store_enters Atomic e = absurd (cc)
store_enters Snoop e = absurd (cc)
store_enters Look e = absurd (cc)
store_enters Fix e = absurd (cc)

store_words : (words : ℕ) (kind : TurnKind) → same_kind kind Store ≡ true → words_fit words kind ≡ true → nat_lt words 2 ≡ true
store_words words Fetch e h = absurd (cc)
store_words words Load e h = absurd (cc)
store_words words Store e h = h
store_words words Atomic e h = absurd (cc)
store_words words Snoop e h = absurd (cc)
store_words words Look e h = absurd (cc)
store_words words Fix e h = absurd (cc)

-- the words of a regular transfer fit its kind
words_of : (t : Transfer) → is_regular_on_bus t ≡ true → words_fit t.words t.kind ≡ true
words_of t h =
    let a = (and_parts (fits_word t.turn) _ h).1 in
    let b = (and_parts (fits_word t.master) _ a).1 in
    let c = (and_parts (fits_word t.step) _ b).1 in
    let d = (and_parts (has_cause t) _ c).1 in
    let e = (and_parts (address_fits t.addr t.kind) _ d).1 in
    let f = (and_parts (way_fits t.way t.kind) _ e).1 in
    (and_parts (words_fit t.words t.kind) (syndromes_fit t) f).0

first_bad : (f : ℕ → ℕ) (n : ℕ) → n < 2 → list_any is_bad_syndrome (map f (range_with_len 0 n)) ≡ true → is_bad_syndrome (slice_index (map f (range_with_len 0 n)) 0) ≡ true
first_bad f zero few h = absurd (cc)
first_bad f (suc zero) few h = one (is_bad_syndrome (f 0)) h
  where
    one : (b : Bool) → (b || false) ≡ true → b ≡ true
    one true e = refl
    one false e = e
first_bad f (suc (suc n)) few h = absurd (omega (arith, few, add-one n, add-one (suc n)))

not_false : (b : Bool) → not b ≡ false → b ≡ true
not_false true e = refl
not_false false e = absurd (cc)

-- a store that enters no log met its word bad
pub store_fails : (ram : ℕ) (t : Transfer) → is_in_memory ram t ≡ true → is_regular_on_bus t ≡ true → same_kind t.kind Store ≡ true → enters_log t ≡ false → met_bad t 0 ≡ true
store_fails ram t inside fits store none =
    let makes = store_enters t.kind store in
    let few = ltb-true t.words 2 (store_words t.words t.kind store (words_of t fits)) in
    first_bad _ t.words few (not_false (list_any is_bad_syndrome (syndromes_of t)) (rw (makes, addressed_entry ram t inside makes) at none))

-- one that enters the log met no bad word
pub enters_good : (t : Transfer) → enters_log t ≡ true → list_any is_bad_syndrome (syndromes_of t) ≡ false
enters_good t h = by (list_any is_bad_syndrome (syndromes_of t)) (and_parts (makes_entry t.kind && has_address t) (not (list_any is_bad_syndrome (syndromes_of t))) h).1
  where
    by : (b : Bool) → not b ≡ true → b ≡ false
    by true e = absurd (cc)
    by false e = refl
