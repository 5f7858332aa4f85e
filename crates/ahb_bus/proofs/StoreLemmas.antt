-- What a store or an atomic leaves: where it reached memory, its entry of the log and its bytes; where it was lost, neither.
use Rattle.std.proofs.Common.{◌≡◌, ℕ, ◌+◌, ◌*◌, ◌/◌, ◌%◌, ◌^◌, ◌<◌, ◌≤◌, ◌&&◌, ◌||◌, Bool, true, false, not, nat_lt, nat_le, nat_eq, cond, IsTrue, List, [], ◌∷◌, ◌++◌, length, length-set, slice_set, refl, sym, ap, ◌∙◌, subst, arith, map}
use Rattle.std.specs.Prelude.{filter, count_by}
use Rattle.std.specs.List.{list_all}
use Rattle.std.proofs.lemmas.Bool.{and_parts, leb-true}
use Rattle.std.proofs.lemmas.Bool.Decides.{nat_tests}
use Rattle.std.proofs.lemmas.List.{append-nil}
use Rattle.bus_memory.specs.MemoryState.{MemoryState, words_met, stored, merged_in, is_bad_at, value_at}
use Rattle.lf_model.specs.Bus.Words.{word_of}
use Rattle.lf_model.specs.Promise.Regular.{is_length}
use Rattle.lf_model.specs.Records.BusRecord.{is_successful, entry_placed, transfer_placed, leaves_text}
use Rattle.lf_model.specs.Records.SeenOrder.{is_entry_of}
use Rattle.lf_model.specs.Start.{ram_first, is_in_ram, touches_text}
use Rattle.lf_model.specs.declared.bus.Entry.{Entry}
use Rattle.lf_model.specs.declared.bus.Pending.{Pending}
use Rattle.lf_model.specs.declared.bus.Transfer.{Transfer}
use Rattle.lf_model.specs.declared.bus.TurnKind.TheVariants.{Store, Atomic}
use Rattle.lf_model.specs.declared.bus.Why.{Why}
use Rattle.lf_model.specs.declared.bus.Why.TheVariants as whys
use Rattle.lf_model.specs.declared.config.Config.{Config}
use Rattle.ram_words.specs.Parts.{merged}
use Rattle.ram_words.specs.Ram.{place_of}
use Rattle.ahb_bus.specs.Asks.{IsCoreTurn, HasEntryLeft, IsTaken}
use Rattle.ahb_bus.specs.BusOk.{AreLeft, AreShared, BusOk}
use Rattle.ahb_bus.specs.BusState.{BusState, memory_of, asked_by, answered, is_lost, meets_bad, store_entry, atomic_entry}
use Rattle.ahb_bus.specs.declared.record.Who.{Who}
use Rattle.ahb_bus.proofs.AnsweredLemmas.{store_successful, atomic_successful}
use Rattle.ahb_bus.proofs.LogLeft.{IsAt, store_left, atomic_left, lost_left, merged_bad}
use Rattle.ahb_bus.proofs.OkLemmas.{Leaves, shares_made}
use Rattle.ahb_bus.proofs.ShareLemmas.{shared_entered}

-- ---- as many words as before

values_merged : (m : MemoryState) (addr len value : ℕ) → length (merged_in addr len value m).values ≡ length m.values
values_merged m addr len value = by (is_bad_at m (word_of addr))
  where
    by : (bad : Bool) → length (cond bad m (record m { values = slice_set m.values (place_of addr) (merged (value_at m addr) addr len value) })).values ≡ length m.values
    by true = refl
    by false = length-set m.values (place_of addr) (merged (value_at m addr) addr len value)

values_stored : (m : MemoryState) (addr len value : ℕ) → length (stored addr len value m).values ≡ length m.values
values_stored m addr len value = by (nat_lt len 4) (nat_eq len 4)
  where
    by : (short whole : Bool) → length (cond short (merged_in addr len value m) (cond whole (record m { values = slice_set m.values (place_of addr) value })
        (record m { values = slice_set (slice_set m.values (place_of addr) (value / 2 ^ 32)) (place_of (addr + 4)) (value % 2 ^ 32) }))).values ≡ length m.values
    by true whole = values_merged m addr len value
    by false true = length-set m.values (place_of addr) value
    by false false =
        length-set (slice_set m.values (place_of addr) (value / 2 ^ 32)) (place_of (addr + 4)) (value % 2 ^ 32)
        ∙ length-set m.values (place_of addr) (value / 2 ^ 32)

-- ---- where its bytes lie

pub bytes_at : (bus : BusState) (e : Entry) → BusOk bus → IsTrue (is_in_ram bus.setup.config.ram e.addr e.len) → e.addr % e.len ≡ 0 → IsAt e (length bus.values)
bytes_at bus e ok inside aligned =
    let tests = and_parts (nat_le ram_first e.addr) (nat_le (e.addr + e.len) (ram_first + bus.setup.config.ram)) inside in
    let high = leb-true (e.addr + e.len) (ram_first + bus.setup.config.ram) tests.1 in
    record {
      low = leb-true ram_first e.addr tests.0;
      high = omega (arith, high, ok.size);
      aligned = aligned;
    }

-- ---- what holds of both

-- the entry of a successful one takes none of its core's share that is not left
shared_with : (config : Config) (ts : List Transfer) (log : List Entry) (lost : Bool) (e : Entry) → config.cores ≤ 8 → AreShared config ts log → e.core < config.cores
    → count_by (is_entry_of e.core) log < config.steps → AreShared config ts (log ++ cond lost [] (e ∷ []))
shared_with config ts log true e cores shared within less = subst (AreShared config ts) (sym (append-nil log)) shared
shared_with config ts log false e cores shared within less = shared_entered config ts log cores shared e within less

-- a store of a part is of a byte or half
part_length : (len : ℕ) → is_length len ≡ true → nat_lt len 4 ≡ true → (nat_eq len 1 || nat_eq len 2) ≡ true
part_length len is short = grind (arith, nat_tests)

-- the log goes on to have the entries of the successful stores and atomics
entered : (t : Transfer) (e : Entry) (lost : Bool) → is_successful t ≡ not lost → entry_placed e ≡ transfer_placed t
    → map entry_placed (cond lost [] (e ∷ [])) ≡ map transfer_placed (filter is_successful (t ∷ []))
entered t e true kept same = ap (λ (b : Bool). map transfer_placed (cond b (t ∷ []) [])) (sym kept)
entered t e false kept same = ap (λ p. p ∷ []) same ∙ ap (λ (b : Bool). map transfer_placed (cond b (t ∷ []) [])) (sym kept)

leaves : (bus : BusState) (e : Entry) (lost : Bool) → touches_text bus.setup.image.text e.addr e.len ≡ false → list_all (leaves_text bus.setup.image.text) (cond lost [] (e ∷ [])) ≡ true
leaves bus e true text = refl
leaves bus e false text = ap (λ (b : Bool). not b && true) text

module _ (bus : BusState) (ok : BusOk bus) (w : Who) (p : Pending) (turn : IsCoreTurn w bus) (entry : HasEntryLeft w bus)
    (inside : IsTrue (is_in_ram bus.setup.config.ram p.addr p.len)) (aligned : p.addr % p.len ≡ 0) (fits : p.value < 2 ^ (8 * p.len))
    (text : touches_text bus.setup.image.text p.addr p.len ≡ false) where
  kept_values : (values : List ℕ) → values ≡ bus.values → AreLeft bus.setup.image (bus.log ++ []) values
  kept_values values same =
      subst (AreLeft bus.setup.image (bus.log ++ [])) (sym same) (subst (λ (log : List Entry). AreLeft bus.setup.image log bus.values) (sym (append-nil bus.log)) ok.memory_is)

  -- ---- a store

  module _ (why : Why) (size : is_length p.len ≡ true) (taken : IsTaken bus (asked_by bus w Store why p.addr 0 p.len)) where
    abbrev asked : Transfer
    asked = asked_by bus w Store why p.addr 0 p.len

    abbrev made : Transfer
    made = answered bus (asked_by bus w Store why p.addr 0 p.len)

    abbrev e : Entry
    e = store_entry w p

    pub leaves_store : Leaves bus (asked_by bus w Store why p.addr 0 p.len) (cond (is_lost bus p.addr p.len) [] (store_entry w p ∷ [])) (stored p.addr p.len p.value (memory_of bus)).values
    leaves_store = record {
      log = entered made e (is_lost bus p.addr p.len) successful refl;
      text = leaves bus e (is_lost bus p.addr p.len) text;
      length_is = long (is_lost bus p.addr p.len) refl;
      count = values_stored (memory_of bus) p.addr p.len p.value;
      left = left (is_lost bus p.addr p.len) refl;
      shares = shared_with bus.setup.config (bus.transfers ++ made ∷ []) bus.log (is_lost bus p.addr p.len) e ok.cores (shares_made bus asked ok taken) turn.master entry;
    }
      where
        successful : is_successful made ≡ not (is_lost bus p.addr p.len)
        successful = store_successful (words_met (memory_of bus)) asked refl

        long : (lost : Bool) → is_lost bus p.addr p.len ≡ lost → cond (is_successful made) (is_length p.len) (nat_eq p.len 1 || nat_eq p.len 2) ≡ true
        long true is =
            ap (λ (b : Bool). cond b (is_length p.len) (nat_eq p.len 1 || nat_eq p.len 2)) (successful ∙ ap not is)
            ∙ part_length p.len size (and_parts (nat_lt p.len 4) (meets_bad bus p.addr) is).0
        long false is = ap (λ (b : Bool). cond b (is_length p.len) (nat_eq p.len 1 || nat_eq p.len 2)) (successful ∙ ap not is) ∙ size

        left : (lost : Bool) → is_lost bus p.addr p.len ≡ lost → AreLeft bus.setup.image (bus.log ++ cond lost [] (store_entry w p ∷ [])) (stored p.addr p.len p.value (memory_of bus)).values
        left true is =
            kept_values (stored p.addr p.len p.value (memory_of bus)).values
            (ap (λ (s : MemoryState). s.values) (lost_left bus.setup.image ok.bytes bus.log e (memory_of bus) ok.memory_is (bytes_at bus e ok inside aligned) size is))
        left false is = store_left bus.setup.image ok.bytes bus.log e (memory_of bus) ok.memory_is (bytes_at bus e ok inside aligned) size fits is

  -- ---- an atomic

  module _ (size : IsTrue (nat_eq p.len 1 || nat_eq p.len 4)) (word : ℕ) (taken : IsTaken bus (asked_by bus w Atomic whys.None p.addr 0 p.len)) where
    abbrev atomic_asked : Transfer
    atomic_asked = asked_by bus w Atomic whys.None p.addr 0 p.len

    abbrev atomic_made : Transfer
    atomic_made = answered bus (asked_by bus w Atomic whys.None p.addr 0 p.len)

    abbrev swapped : Entry
    swapped = atomic_entry w p word

    pub leaves_atomic : Leaves bus (asked_by bus w Atomic whys.None p.addr 0 p.len) (cond (meets_bad bus p.addr) [] (atomic_entry w p word ∷ [])) (merged_in p.addr p.len p.value (memory_of bus)).values
    leaves_atomic = record {
      log = entered atomic_made swapped (meets_bad bus p.addr) (atomic_successful (words_met (memory_of bus)) atomic_asked refl) refl;
      text = leaves bus swapped (meets_bad bus p.addr) text;
      length_is = size;
      count = values_merged (memory_of bus) p.addr p.len p.value;
      left = left (meets_bad bus p.addr) refl;
      shares = shared_with bus.setup.config (bus.transfers ++ atomic_made ∷ []) bus.log (meets_bad bus p.addr) swapped ok.cores (shares_made bus atomic_asked ok taken) turn.master entry;
    }
      where
        left : (lost : Bool) → meets_bad bus p.addr ≡ lost → AreLeft bus.setup.image (bus.log ++ cond lost [] (atomic_entry w p word ∷ [])) (merged_in p.addr p.len p.value (memory_of bus)).values
        left true is =
            kept_values (merged_in p.addr p.len p.value (memory_of bus)).values
            (ap (λ (s : MemoryState). s.values) (merged_bad bus.setup.image ok.bytes bus.log swapped (memory_of bus) ok.memory_is (bytes_at bus swapped ok inside aligned) is))
        left false is = atomic_left bus.setup.image ok.bytes bus.log swapped (memory_of bus) ok.memory_is (bytes_at bus swapped ok inside aligned) size fits is
