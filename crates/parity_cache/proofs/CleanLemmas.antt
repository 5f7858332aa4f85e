-- Tags in which no flip stands stay so, whatever is done to a cache but a flip.
use Rattle.std.proofs.Common.{◌≡◌, ℕ, ◌+◌, ◌*◌, ◌/◌, ◌%◌, ◌<◌, Bool, true, false, cond, length, sym, ap, ◌∙◌, subst, inl, inr}
use Rattle.std.specs.Prelude.{not}
use Rattle.std.proofs.lemmas.Bool.{cases_eq}
use Rattle.std.proofs.lemmas.List.{get_or-set_same, get_or-set_other}
use Rattle.lf_model.specs.Caches.Cache.{Cache, slot_at, with_slot, used, raised}
use Rattle.lf_model.specs.Caches.Look.{Looked, check_way, look_in}
use Rattle.lf_model.specs.Caches.Look.LookUp.{Hit as Hits, Miss as Misses}
use Rattle.lf_model.specs.Caches.Slot.{Slot, empty_slot, dropped, dropped_by_byte, has_struck_tag, has_wanted_words, has_struck_byte}
use Rattle.lf_model.specs.declared.bus.Why.TheVariants as whys
use Rattle.lf_model.specs.declared.config.Shape.{Shape}
use Rattle.parity_cache.specs.CacheState.{CacheState, IsCleanSet}
use Rattle.parity_cache.specs.Keeps.{Keeps, StaysClean}
use Rattle.parity_cache.proofs.SetLemmas.{written_tag, way_clean, way_others}

module _ (cache : Cache) (i : ℕ) (within : i < length cache.slots) where
  -- one slot becomes another
  pub slot_clean : (change : Slot → Slot) → (has_struck_tag (slot_at i cache) ≡ false → has_struck_tag (change (slot_at i cache)) ≡ false) → StaysClean cache (with_slot change i cache)
  slot_clean change keeps j clean = elim (cases_eq j i) [
    | inl here ↦
        subst (λ (k : ℕ). has_struck_tag (slot_at k (with_slot change i cache)) ≡ false) (sym here)
        (ap has_struck_tag (get_or-set_same cache.slots i (change (slot_at i cache)) empty_slot within) ∙ keeps (subst (λ (k : ℕ). has_struck_tag (slot_at k cache) ≡ false) here clean))
    | inr other ↦ ap has_struck_tag (get_or-set_other cache.slots i j (change (slot_at i cache)) empty_slot other) ∙ clean
  ]

  pub way_stays : StaysClean cache (check_way (record { dropped = false; cache = cache }) i).cache
  way_stays j clean = elim (cases_eq j i) [
    | inl here ↦ subst (λ (k : ℕ). has_struck_tag (slot_at k (check_way (record { dropped = false; cache = cache }) i).cache) ≡ false) (sym here) (way_clean cache i within)
    | inr other ↦ ap has_struck_tag (way_others cache i within j other) ∙ clean
  ]

  pub drop_stays : StaysClean cache (with_slot dropped i cache)
  drop_stays = slot_clean dropped (λ clean. written_tag (slot_at i cache).tag_histories)

  pub look_stays : (addr len : ℕ) → StaysClean cache (look_in addr len i cache).cache
  look_stays addr len j clean = go (not (has_wanted_words addr len (slot_at i cache))) (has_struck_byte addr len (slot_at i cache))
    where
      go : (invalid struck : Bool) → has_struck_tag (slot_at j (cond {A = Looked} invalid (record { answer = Misses whys.Word; cache = cache })
          (cond struck (record { answer = Misses whys.Byte; cache = record (with_slot (dropped_by_byte addr len) i cache) { byte_errors = raised cache.byte_errors } })
          (record { answer = Hits i; cache = used i cache }))).cache) ≡ false
      go true struck = clean
      go false true = slot_clean (dropped_by_byte addr len) (λ c. written_tag (slot_at i cache).tag_histories) j clean
      go false false = slot_clean (λ slot. record slot { used = cache.uses + 1 }) (λ c. c) j clean

-- a set of which no tag is struck stays so
pub set_stays : (addr n : ℕ) (old new : CacheState) → Keeps n old new → StaysClean old.cache new.cache → IsCleanSet addr old.cache → IsCleanSet addr new.cache
set_stays addr n old new keeps stays clean way lt =
    let fits : way < old.cache.shape.ways = subst (λ (shape : Shape). way < shape.ways) keeps.shape lt in
    subst (λ (shape : Shape). has_struck_tag (slot_at (addr / 32 % shape.sets * shape.ways + way) new.cache) ≡ false) (sym keeps.shape)
    (stays (addr / 32 % old.cache.shape.sets * old.cache.shape.ways + way) (clean way fits))
