-- What each touch leaves of the bytes of a core's caches.
use Rattle.std.proofs.Common.{◌≡◌, ◌⊎◌, ◌&&◌, ℕ, ◌+◌, ◌*◌, ◌/◌, ◌%◌, ◌^◌, ◌<◌, ◌≤◌, nat_le, nat_lt, Bool, true, false, cond, List, [], ◌∷◌, ◌++◌, length, replicate, refl, sym, ap, ap₂, ◌∙◌, subst, arith, inl, inr}
use Rattle.std.specs.Prelude.{◌==◌}
use Rattle.std.proofs.lemmas.Bool.{cases_Bool, ltb-true}
use Rattle.std.proofs.lemmas.List.{get_or-replicate, length-replicate}
use Rattle.lf_model.proofs.HitLemmas.{both}
use Rattle.lf_model.proofs.TagLemmas.{tag_empty}
use Rattle.lf_model.proofs.ResidenceLaw.{has_tag}
use Rattle.lf_model.specs.Caches.Cache.{Cache, slot_at, IsCacheShape}
use Rattle.lf_model.specs.Caches.Slot.{empty_slot, holds}
use Rattle.lf_model.specs.Course.Arrays.{Arrays, with_cache as with_cache_of, struck_tag, struck_line, strike, begun}
use Rattle.lf_model.specs.Course.Touches.{touched}
use Rattle.lf_model.specs.Operation.{touches, byte_put}
use Rattle.lf_model.specs.Value.{stored}
use Rattle.lf_model.specs.declared.bus.Entry.{Entry}
use Rattle.lf_model.specs.declared.config.Shape.{Shape}
use Rattle.lf_model.specs.declared.flip.Flip.{Flip}
use Rattle.lf_model.specs.declared.flip.Flip.TheVariants.{Mem, Reg, Tag, Line}
use Rattle.lf_model.specs.declared.touch.Touch.{Touch}
use Rattle.lf_model.specs.declared.touch.Touch.TheVariants.{StartStep, LookFetch, ReadCell, WriteCell, LookData, StoreData, FlushCaches, SnoopData, FillFetch, FillData}
use Rattle.parity_slots.specs.SlotState.{IsAccess}
use Rattle.parity_slots.proofs.AccessLemmas.{lies}
use Rattle.parity_cache.specs.CacheState.{CacheState, reset_cache, stored_cache}
use Rattle.parity_cache.specs.Resident.{Holds, IsWellFormed}
use Rattle.parity_cache.proofs.LessResident.{IsLess, less_as, less_then, less_look, less_flushed, less_snooped, less_struck_tag, less_struck_line}
use Rattle.parity_cache.proofs.OwnStore.{holds_stored}

-- ---- at reset

module _ (shape : Shape) (flips : ℕ) (is : IsCacheShape shape) where
  none_held : (addr i : ℕ) → holds addr (slot_at i (reset_cache shape flips).cache) ≡ true → ⊥
  none_held addr i h = nothing (sym (ap (has_tag addr) (tag_empty i shape)) ∙ h)
    where
      nothing : false ≡ true → ⊥
      nothing e = cc

  pub formed_reset : IsWellFormed (reset_cache shape flips)
  formed_reset = record {
    shape = is;
    slots = length-replicate (shape.ways * shape.sets) empty_slot;
    lines = length-replicate (shape.ways * shape.sets) (replicate 32 0) ∙ sym (length-replicate (shape.ways * shape.sets) empty_slot);
    bytes = λ slot lt.
        let within : slot < shape.ways * shape.sets = subst (λ (n : ℕ). slot < n) (length-replicate (shape.ways * shape.sets) (replicate 32 0)) lt in
        ap length (get_or-replicate (shape.ways * shape.sets) slot (replicate 32 0) [] within) ∙ length-replicate {A = ℕ} 32 0;
    apart = λ addr i j of_i of_j at_i at_j. absurd (none_held addr i at_i);
  }

  pub holds_reset : (byte : ℕ → ℕ) → Holds byte (reset_cache shape flips)
  holds_reset byte slot addr lt res = absurd (none_held addr slot res.held)

-- ---- flips, as a step begins

record IsLessBoth (old new : Arrays) : Type 0 where
  pub of_fetch : IsLess old.fetch_cache new.fetch_cache
  pub of_data : IsLess old.data_cache new.data_cache

both_as : (a : Arrays) → IsLessBoth a a
both_as a = record { of_fetch = less_as a.fetch_cache; of_data = less_as a.data_cache }

one_cache : (change : Cache → Cache) → ((c : Cache) → IsLess c (change c)) → (fetch : Bool) (a : Arrays) → IsLessBoth a (with_cache_of change fetch a)
one_cache change less true a = record { of_fetch = less a.fetch_cache; of_data = less_as a.data_cache }
one_cache change less false a = record { of_fetch = less_as a.fetch_cache; of_data = less a.data_cache }

if_now : (a b : Arrays) (now : Bool) → IsLessBoth a b → IsLessBoth a (cond now b a)
if_now a b true less = less
if_now a b false less = both_as a

less_strike : (at number : ℕ) (a : Arrays) (flip : Flip) → IsLessBoth a (strike at number a flip)
less_strike at number a (Mem turn addr bit) = both_as a
less_strike at number a (Reg core step cell bit) = if_now a _ (step == at) (record { of_fetch = less_as a.fetch_cache; of_data = less_as a.data_cache })
less_strike at number a (Tag core step fetch way set byte bit) = if_now a (with_cache_of (struck_tag number bit way set byte) fetch a) (step == at) (one_cache (struck_tag number bit way set byte) (less_struck_tag number bit way set byte) fetch a)
less_strike at number a (Line core step fetch way set byte bit) = if_now a (with_cache_of (struck_line number bit way set byte) fetch a) (step == at) (one_cache (struck_line number bit way set byte) (less_struck_line number bit way set byte) fetch a)

less_begun : (flips : List (ℕ × Flip)) (step : ℕ) (a : Arrays) → IsLessBoth a (begun flips step a)
less_begun [] step a = both_as a
less_begun (flip ∷ flips) step a =
    let first = less_strike step flip.0 a flip.1 in
    let later = less_begun flips step (strike step flip.0 a flip.1) in
    record {
      of_fetch = less_then a.fetch_cache (strike step flip.0 a flip.1).fetch_cache (begun flips step (strike step flip.0 a flip.1)).fetch_cache first.of_fetch later.of_fetch;
      of_data = less_then a.data_cache (strike step flip.0 a flip.1).data_cache (begun flips step (strike step flip.0 a flip.1)).data_cache first.of_data later.of_data;
    }

-- ---- the touches that put no byte into a cache

abbrev pub puts_data : Touch → Bool
puts_data (StoreData addr len value) = true
puts_data (FillData addr valid) = true
puts_data (StartStep step) = false
puts_data (LookFetch addr) = false
puts_data (ReadCell cell) = false
puts_data (WriteCell cell) = false
puts_data (LookData addr len) = false
puts_data FlushCaches = false
puts_data (SnoopData addr) = false
puts_data (FillFetch addr valid) = false

abbrev pub puts_fetch : Touch → Bool
puts_fetch (FillFetch addr valid) = true
puts_fetch (StoreData addr len value) = false
puts_fetch (FillData addr valid) = false
puts_fetch (StartStep step) = false
puts_fetch (LookFetch addr) = false
puts_fetch (ReadCell cell) = false
puts_fetch (WriteCell cell) = false
puts_fetch (LookData addr len) = false
puts_fetch FlushCaches = false
puts_fetch (SnoopData addr) = false

true_not : true ≡ false → ⊥
true_not e = absurd cc

module _ (flips : List (ℕ × Flip)) (a : Arrays) where
  pub less_data : (t : Touch) → puts_data t ≡ false → IsLess a.data_cache (touched flips a t).data_cache
  less_data (StartStep step) e = (less_begun flips step a).of_data
  less_data (LookFetch addr) e = less_as a.data_cache
  less_data (ReadCell cell) e = less_as a.data_cache
  less_data (WriteCell cell) e = less_as a.data_cache
  less_data (LookData addr len) e = less_look addr len a.data_cache
  less_data (StoreData addr len value) e = absurd (true_not e)
  less_data FlushCaches e = less_flushed a.data_cache
  less_data (SnoopData addr) e = less_snooped addr a.data_cache
  less_data (FillFetch addr valid) e = less_as a.data_cache
  less_data (FillData addr valid) e = absurd (true_not e)

  pub less_fetch : (t : Touch) → puts_fetch t ≡ false → IsLess a.fetch_cache (touched flips a t).fetch_cache
  less_fetch (StartStep step) e = (less_begun flips step a).of_fetch
  less_fetch (LookFetch addr) e = less_look addr 4 a.fetch_cache
  less_fetch (ReadCell cell) e = less_as a.fetch_cache
  less_fetch (WriteCell cell) e = less_as a.fetch_cache
  less_fetch (LookData addr len) e = less_as a.fetch_cache
  less_fetch (StoreData addr len value) e = less_as a.fetch_cache
  less_fetch FlushCaches e = less_flushed a.fetch_cache
  less_fetch (SnoopData addr) e = less_as a.fetch_cache
  less_fetch (FillFetch addr valid) e = absurd (true_not e)
  less_fetch (FillData addr valid) e = less_as a.fetch_cache

-- ---- an own store, which will enter the log

-- the byte after some stores and then others
pub stored_then : (a : ℕ) (first later : List Entry) (byte : ℕ) → stored a (first ++ later) byte ≡ stored a later (stored a first byte)
stored_then a [] later byte = refl
stored_then a (e ∷ first) later byte = stored_then a first later (cond (touches a e) (byte_put a e) byte)

pub touched_from : (a : ℕ) (e : Entry) → touches a e ≡ true → (e.addr ≤ a) × (a < e.addr + e.len)
touched_from a e is =
    let h = both (nat_le e.addr a) (nat_lt a (e.addr + e.len)) is in
    (grind (arith, h.0), ltb-true a (e.addr + e.len) h.1)

pub touches_in : (a : ℕ) (e : Entry) → e.addr ≤ a → a < e.addr + e.len → touches a e ≡ true
touches_in a e from below =
    let first : nat_le e.addr a ≡ true = grind (arith, from) in
    let last : nat_lt a (e.addr + e.len) ≡ true = grind (arith, below) in
    ap₂ (λ (x y : Bool). x && y) first last

-- an aligned access is in its line
pub in_its_line : (e : Entry) → IsAccess e.addr e.len → (a : ℕ) → touches a e ≡ true → a / 32 ≡ e.addr / 32
in_its_line e access a is =
    let l = lies e.addr e.len access in
    let h = touched_from a e is in
    let fits : e.addr % 32 + e.len ≤ 32 = omega (arith, l.ends, l.bytes_fit) in
    omega (arith, h.0, h.1, fits)

pub untouched : (a : ℕ) (e : Entry) (byte : ℕ) → (touches a e ≡ true → ⊥) → cond (touches a e) (byte_put a e) byte ≡ byte
untouched a e byte out = elim (cases_Bool (touches a e)) [
  | inl is ↦ absurd (out is)
  | inr none ↦ ap (λ (b : Bool). cond b (byte_put a e) byte) none
]

module _ (e : Entry) (access : IsAccess e.addr e.len) (bound : e.addr < 2 ^ 32) (c : CacheState) (formed : IsWellFormed c) (initial : ℕ → ℕ) (es : List Entry) where
  pub holds_own_store : Holds (λ a. stored a es (initial a)) c → Holds (λ a. stored a (es ++ e ∷ []) (initial a)) (stored_cache e.addr e.len e.put c)
  holds_own_store held =
      holds_stored e.addr e.len e.put access c formed bound (λ a. stored a es (initial a)) (λ a. stored a (es ++ e ∷ []) (initial a))
      (λ a from below. stored_then a es (e ∷ []) (initial a) ∙ ap (λ (b : Bool). cond b (byte_put a e) (stored a es (initial a))) (touches_in a e from below))
      (λ a out. stored_then a es (e ∷ []) (initial a) ∙ untouched a e (stored a es (initial a)) (λ is. outside a out (touched_from a e is)))
      held
    where
      outside : (a : ℕ) → (a < e.addr) ⊎ (e.addr + e.len ≤ a) → (e.addr ≤ a) × (a < e.addr + e.len) → ⊥
      outside a (inl under) h = omega (arith, h.0, under)
      outside a (inr past) h = omega (arith, h.1, past)
