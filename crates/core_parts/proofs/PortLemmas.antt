-- What the parts of a core answer an instruction, and what each call of it leaves of them.
use Rattle.std.proofs.Common.{◌≡◌, ℕ, ◌+◌, Bool, true, false, cond, List, [], ◌∷◌, ◌++◌, length, map, slice_index, slice_index_or, Option, Some, None, Ok, Err, refl, sym, ap, ◌∙◌, arith}
use Rattle.std.specs.Prelude.{◌-◌, ◌≤◌, fold, not, min}
use Rattle.std.proofs.Math.ListN.{get_or-map}
use Rattle.std.proofs.lemmas.List.{map-append, length-map, length-append}
use Rattle.core_parts.specs.PortState.{bad_syndrome}
use Rattle.core_parts.specs.RecordState.{RecordState, op_by}
use Rattle.core_parts.specs.Work.{waiting_in, with_operation, load_made}
use Rattle.core_parts.specs.declared.record.Operation.{Operation}
use Rattle.ft_regfile.specs.Registers.{Registers, answer_of_read}
use Rattle.lf_model.specs.Caches.Cache.{Cache, raised, slot_at, with_slot, set_of, matching, used}
use Rattle.lf_model.specs.Caches.Change.{updated, update_by}
use Rattle.lf_model.specs.Caches.Look.{Checked, check_way, checked, Looked, LookUp, look, look_in, look_by}
use Rattle.lf_model.specs.Caches.Look.LookUp.{Hit as Hits, Miss as Misses}
use Rattle.lf_model.specs.Caches.Slot.{history_at, has_struck_tag, has_wanted_words, has_struck_byte, dropped_by_tag, dropped_by_byte}
use Rattle.lf_model.specs.Flips.{is_bad_word, syndrome}
use Rattle.lf_model.specs.Operation.{made}
use Rattle.lf_model.specs.Step.{read_by}
use Rattle.lf_model.specs.declared.bus.Pending.{Pending}
use Rattle.lf_model.specs.declared.bus.Why.TheVariants as whys
use Rattle.lf_model.specs.declared.step.Look.{Look}
use Rattle.lf_model.specs.declared.step.Look.TheVariants.{Hit, Miss}
use Rattle.lf_model.specs.declared.trace.Op.{Op}
use Rattle.parity_cache.specs.CacheState.{CacheState, answer_of, with_cache}
use Rattle.v8_exec.specs.Calls.{spent_by_look}

-- ---- a register cell

read_cell : (bad : Bool) (syn : ℕ) (values : List ℕ) (c : ℕ) → cond bad (Err (record { cell = c; syn = syn })) (Ok (slice_index values c)) ≡ read_by (cond bad (Some syn) None) values c
read_cell true syn values c = refl
read_cell false syn values c = refl

-- a cell reads as the parts answer
pub read_answer : (r : Registers) (c : ℕ) → answer_of_read r c ≡ read_by (slice_index_or (map bad_syndrome r.histories) c None) r.values c
unfolding answer_of_read
read_answer r c =
    read_cell (is_bad_word (history_at c r.histories)) (syndrome (history_at c r.histories)) r.values c
    ∙ ap (λ (bad : Option ℕ). read_by bad r.values c) (sym (get_or-map bad_syndrome r.histories c []))

-- ---- a look-up

-- how many uses of a slot it is
abbrev pub uses_of : LookUp → ℕ
uses_of (Hits slot) = 1
uses_of (Misses why) = 0

way_uses : (k : Checked) (i : ℕ) → (check_way k i).cache.uses ≡ k.cache.uses
way_uses k i = go (has_struck_tag (slot_at i k.cache))
  where
    go : (b : Bool) → (cond b (record { dropped = true; cache = record (with_slot dropped_by_tag i k.cache) { tag_errors = raised k.cache.tag_errors } }) k).cache.uses ≡ k.cache.uses
    go true = refl
    go false = refl

ways_uses : (slots : List ℕ) (k : Checked) → (fold check_way k slots).cache.uses ≡ k.cache.uses
ways_uses [] k = refl
ways_uses (i ∷ slots) k = ways_uses slots (check_way k i) ∙ way_uses k i

pub checked_uses : (addr : ℕ) (cache : Cache) → (checked addr cache).cache.uses ≡ cache.uses
checked_uses addr cache = ways_uses (set_of addr cache) (record { dropped = false; cache = cache })

abbrev pub UsesOnce : Cache → Looked → Type 0
UsesOnce before l = l.cache.uses ≡ before.uses + uses_of l.answer

in_uses : (addr len i : ℕ) (cache : Cache) → UsesOnce cache (look_in addr len i cache)
in_uses addr len i cache = go (not (has_wanted_words addr len (slot_at i cache))) (has_struck_byte addr len (slot_at i cache))
  where
    go : (lacks struck : Bool) → UsesOnce cache (cond lacks (record { answer = Misses whys.Word; cache = cache })
        (cond struck (record { answer = Misses whys.Byte; cache = record (with_slot (dropped_by_byte addr len) i cache) { byte_errors = raised cache.byte_errors } })
        (record { answer = Hits i; cache = used i cache })))
    go true struck = omega arith
    go false true = omega arith
    go false false = omega arith

by_uses : (addr len : ℕ) (k : Checked) (found : Option ℕ) → UsesOnce k.cache (look_by addr len k found)
by_uses addr len k None = omega arith
by_uses addr len k (Some i) = in_uses addr len i k.cache

-- a look-up uses a slot exactly where it hits
pub look_uses : (addr len : ℕ) (cache : Cache) → UsesOnce cache (look addr len cache)
unfolding look
look_uses addr len cache = omega (arith, by_uses addr len (checked addr cache) (matching addr (checked addr cache).cache), checked_uses addr cache)

pub spent_is : (addr len : ℕ) (c : CacheState) (answer : LookUp) → spent_by_look (answer_of addr len c answer) ≡ uses_of answer
spent_is addr len c (Hits slot) = refl
spent_is addr len c (Misses why) = refl

-- ---- operations

pub made_more : (r : RecordState) (o : Operation) → map made (with_operation o r).ops ≡ map made r.ops ++ made (op_by r o) ∷ []
made_more r o = map-append made r.ops (op_by r o ∷ [])

pub count_made : (ops : List Op) → length ops ≡ length (map made ops)
count_made ops = sym (length-map ops made)

pub waits_more : (stores : List Pending) (p : Pending) → map waiting_in (stores ++ p ∷ []) ≡ map waiting_in stores ++ waiting_in p ∷ []
waits_more stores p = map-append waiting_in stores (p ∷ [])

-- ---- room

-- an operation takes its place, and a use of the cache its number
pub room_taken : (ops ops' room room' out capacity uses uses' most spent : ℕ) → room' ≡ room → ops' ≡ ops + spent → uses' ≤ uses + spent
    → min (room - ops) (min (capacity - out) (most - uses)) ≤ min (room' - ops') (min (capacity - out) (most - uses')) + spent
room_taken ops ops' room room' out capacity uses uses' most spent same more used = omega arith

pub room_after_look : (addr len : ℕ) (answer : Look) (r : RecordState) → (load_made addr len answer r).room ≡ r.room
room_after_look addr len (Hit value way) r = refl
room_after_look addr len (Miss why) r = refl

pub ops_after_look : (addr len : ℕ) (answer : Look) (r : RecordState) → length (load_made addr len answer r).ops ≡ length r.ops + spent_by_look answer
ops_after_look addr len (Hit value way) r = length-append r.ops _
ops_after_look addr len (Miss why) r = omega arith

pub uses_after_look : (addr len : ℕ) (old new : CacheState) (answer : Look) → answer ≡ answer_of addr len old (look addr len old.cache).answer → new ≡ with_cache (look addr len old.cache).cache old
    → new.cache.uses ≤ old.cache.uses + spent_by_look answer
uses_after_look addr len old new answer is looked =
    let e : new.cache.uses ≡ old.cache.uses + spent_by_look answer =
    ap (λ (s : CacheState). s.cache.uses) looked
    ∙ look_uses addr len old.cache
    ∙ ap (λ (n : ℕ). old.cache.uses + n) (sym (ap spent_by_look is ∙ spent_is addr len old (look addr len old.cache).answer)) in
    omega (arith, e)

update_uses : (addr len : ℕ) (cache : Cache) (found : Option ℕ) → (update_by addr len cache found).uses ≤ cache.uses + 1
update_uses addr len cache None = omega arith
update_uses addr len cache (Some i) = omega arith

-- an own store uses a slot at most once
pub uses_after_store : (addr len : ℕ) (cache : Cache) → (updated addr len cache).uses ≤ cache.uses + 1
unfolding updated
uses_after_store addr len cache = omega (arith, update_uses addr len (checked addr cache).cache (matching addr (checked addr cache).cache), checked_uses addr cache)
