-- The stores that wait stay the last of those that the core made, and stores that can reach memory: as operations retire, as the first of
-- them drains, and as they are lost.
use Rattle.std.proofs.Common.{◌≡◌, ℕ, ◌++◌, true, false, List, [], ◌∷◌, map, filter, drop, refl, sym, ap, ◌∙◌, subst}
use Rattle.std.specs.List.{AllByRecursion as Each}
use Rattle.std.specs.Prelude.{fold}
use Rattle.std.proofs.lemmas.List.{map-append, append_assoc, append-nil}
use Rattle.std.proofs.lemmas.List.Elements.{filter-append}
use Rattle.core_parts.specs.IsCore.{CanStore, pending_of, Waits}
use Rattle.core_parts.specs.PortState.{answers}
use Rattle.core_parts.specs.Work.{WorkState, work_touch, load_made, next_pending}
use Rattle.lf_model.proofs.EachLemmas.{each_append}
use Rattle.lf_model.specs.Operation.{stores}
use Rattle.lf_model.specs.declared.bus.Pending.{Pending}
use Rattle.lf_model.specs.declared.setup.Setup.{Setup}
use Rattle.lf_model.specs.declared.step.Look.{Look}
use Rattle.lf_model.specs.declared.step.Look.TheVariants.{Hit, Miss}
use Rattle.lf_model.specs.declared.touch.Touch.{Touch}
use Rattle.lf_model.specs.declared.touch.Touch.TheVariants.{StartStep, LookFetch, ReadCell, WriteCell, LookData, StoreData, FlushCaches, SnoopData, FillFetch, FillData}
use Rattle.lf_model.specs.declared.trace.Op.{Op}

-- ---- the last of those that the core made

-- none waits
pub waits_none : (ops : List Op) → Waits ops []
waits_none ops = record { sent = filter stores ops; kept = []; split = sym (append-nil (filter stores ops)); waiting_are = refl }

filter_none : (o : Op) → stores o ≡ false → filter stores (o ∷ []) ≡ []
filter_none o e = rw e refl

filter_one : (o : Op) → stores o ≡ true → filter stores (o ∷ []) ≡ o ∷ []
filter_one o e = rw e refl

-- a load retires
pub waits_loaded : (ops : List Op) (waiting : List Pending) (o : Op) → stores o ≡ false → Waits ops waiting → Waits (ops ++ o ∷ []) waiting
waits_loaded ops waiting o none w = record {
  sent = w.sent;
  kept = w.kept;
  split = filter-append stores ops (o ∷ []) ∙ ap (λ (more : List Op). filter stores ops ++ more) (filter_none o none) ∙ append-nil (filter stores ops) ∙ w.split;
  waiting_are = w.waiting_are;
}

-- a store retires, and waits as the last
pub waits_pushed : (ops : List Op) (waiting : List Pending) (o : Op) → stores o ≡ true → Waits ops waiting → Waits (ops ++ o ∷ []) (waiting ++ pending_of o ∷ [])
waits_pushed ops waiting o one w = record {
  sent = w.sent;
  kept = w.kept ++ o ∷ [];
  split =
      filter-append stores ops (o ∷ [])
      ∙ ap (λ (more : List Op). filter stores ops ++ more) (filter_one o one)
      ∙ ap (λ (before : List Op). before ++ o ∷ []) w.split
      ∙ append_assoc w.sent w.kept (o ∷ []);
  waiting_are = ap (λ (ps : List Pending). ps ++ pending_of o ∷ []) w.waiting_are ∙ sym (map-append pending_of w.kept (o ∷ []));
}

-- the first of them drains
pub waits_drained : (ops : List Op) (waiting : List Pending) → Waits ops waiting → Waits ops (drop 1 waiting)
waits_drained ops waiting w = by w.kept w.split w.waiting_are
  where
    by : (kept : List Op) → filter stores ops ≡ w.sent ++ kept → waiting ≡ map pending_of kept → Waits ops (drop 1 waiting)
    by [] split are = subst (λ (ps : List Pending). Waits ops (drop 1 ps)) (sym are) (waits_none ops)
    by (o ∷ kept) split are = record {
      sent = w.sent ++ o ∷ [];
      kept = kept;
      split = split ∙ sym (append_assoc w.sent (o ∷ []) kept);
      waiting_are = ap (λ (ps : List Pending). drop 1 ps) are;
    }

-- ---- as an instruction works

waits_looked : (s : WorkState) (addr len : ℕ) (answer : Look) → Waits s.made.ops s.pending → Waits (load_made addr len answer s.made).ops s.pending
waits_looked s addr len (Hit value way) w = waits_loaded s.made.ops s.pending _ refl w
waits_looked s addr len (Miss why) w = w

waits_touched : (t : Touch) (s : WorkState) → Waits s.made.ops s.pending → Waits (work_touch s t).made.ops (work_touch s t).pending
waits_touched (LookData addr len) s w = waits_looked s addr len ((answers s.ports).look addr len) w
waits_touched (StoreData addr len value) s w = waits_pushed s.made.ops s.pending _ refl w
waits_touched (StartStep step) s w = w
waits_touched (LookFetch addr) s w = w
waits_touched (ReadCell cell) s w = w
waits_touched (WriteCell cell) s w = w
waits_touched FlushCaches s w = w
waits_touched (SnoopData addr) s w = w
waits_touched (FillFetch addr valid) s w = w
waits_touched (FillData addr valid) s w = w

pub waits_worked : (ts : List Touch) (s : WorkState) → Waits s.made.ops s.pending → Waits (fold work_touch s ts).made.ops (fold work_touch s ts).pending
waits_worked [] s w = w
waits_worked (t ∷ ts) s w = waits_worked ts (work_touch s t) (waits_touched t s w)

-- ---- stores that can reach memory

-- an own store is one, whatever its number and its step
abbrev pub StoresRight : Setup → Touch → Type 0
StoresRight setup (StoreData addr len value) = (k step : ℕ) → CanStore setup (record { value = value; addr = addr; k = k; step = step; len = len })
StoresRight setup (StartStep step) = Unit {0}
StoresRight setup (LookFetch addr) = Unit {0}
StoresRight setup (ReadCell cell) = Unit {0}
StoresRight setup (WriteCell cell) = Unit {0}
StoresRight setup (LookData addr len) = Unit {0}
StoresRight setup FlushCaches = Unit {0}
StoresRight setup (SnoopData addr) = Unit {0}
StoresRight setup (FillFetch addr valid) = Unit {0}
StoresRight setup (FillData addr valid) = Unit {0}

module _ (setup : Setup) where
  can_store_touched : (t : Touch) (s : WorkState) → StoresRight setup t → Each (CanStore setup) s.pending → Each (CanStore setup) (work_touch s t).pending
  can_store_touched (StoreData addr len value) s right each = each_append (CanStore setup) s.pending (next_pending addr len value s.made ∷ []) each (right _ _, tt)
  can_store_touched (LookData addr len) s right each = each
  can_store_touched (StartStep step) s right each = each
  can_store_touched (LookFetch addr) s right each = each
  can_store_touched (ReadCell cell) s right each = each
  can_store_touched (WriteCell cell) s right each = each
  can_store_touched FlushCaches s right each = each
  can_store_touched (SnoopData addr) s right each = each
  can_store_touched (FillFetch addr valid) s right each = each
  can_store_touched (FillData addr valid) s right each = each

  pub can_store_worked : (ts : List Touch) (s : WorkState) → Each (StoresRight setup) ts → Each (CanStore setup) s.pending → Each (CanStore setup) (fold work_touch s ts).pending
  can_store_worked [] s right each = each
  can_store_worked (t ∷ ts) s right each = can_store_worked ts (work_touch s t) right.1 (can_store_touched t s right.0 each)

  -- the first of them drains
  pub can_store_drained : (waiting : List Pending) → Each (CanStore setup) waiting → Each (CanStore setup) (drop 1 waiting)
  can_store_drained [] each = each
  can_store_drained (p ∷ waiting) each = each.1
