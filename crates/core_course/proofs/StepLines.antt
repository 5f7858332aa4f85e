-- What an instruction that retires leaves of the lines of its core's caches: of its touches only an own store puts bytes into them.
use Rattle.std.proofs.Common.{◌≡◌, ◌<◌, ◌++◌, ◌^◌, ℕ, Bool, true, false, List, [], ◌∷◌, Option, Some, None, fold, refl, sym, subst, if◌then◌else◌}
use Rattle.std.specs.List.{AllByRecursion as Each}
use Rattle.core_laws.specs.StepTouches.{access_looks, operation_looks, trap_looks, register_looks, fetched_touches, attempt_touches}
use Rattle.core_parts.specs.PortState.{PortState, touch}
use Rattle.core_parts.proofs.FormsKept.{PutNone, rest_none}
use Rattle.core_course.proofs.PortLines.{keeps_all, stores_line}
use Rattle.core_course.specs.Lines.{PortLines}
use Rattle.lf_model.proofs.EachLemmas.{each_append}
use Rattle.lf_model.specs.Caches.Look.{LookUp, look}
use Rattle.lf_model.specs.Caches.Look.LookUp.{Hit, Miss}
use Rattle.lf_model.specs.Caches.Slot.{history_at, befalls}
use Rattle.lf_model.specs.Course.Arrays.{Arrays, cells_of, read_cells, read_back}
use Rattle.lf_model.specs.Course.Touches.{unless_bad, read_touches, access_touches, barrier_touches, write_touches, retire_touches}
use Rattle.lf_model.specs.Effect.{AccessKind, Access, Effect}
use Rattle.lf_model.specs.Flips.{Moment, is_bad_word}
use Rattle.lf_model.specs.Names.{same_why}
use Rattle.lf_model.specs.Start.{is_text_word}
use Rattle.lf_model.specs.State.{State}
use Rattle.lf_model.specs.declared.bus.Entry.{Entry}
use Rattle.lf_model.specs.declared.bus.Why.{Why}
use Rattle.lf_model.specs.declared.bus.Why.TheVariants.{Flush}
use Rattle.lf_model.specs.declared.flip.Flip.{Flip}
use Rattle.lf_model.specs.declared.image.Image.{Image}
use Rattle.lf_model.specs.declared.touch.Touch.{Touch}
use Rattle.lf_model.specs.declared.touch.Touch.TheVariants.{StartStep, LookFetch, StoreData, FlushCaches}
use Rattle.parity_slots.specs.SlotState.{IsAccess}

module _ (initial : ℕ → ℕ) (entries : List Entry) (flips : List (ℕ × Flip)) (e : Effect) (s : PortState) (h : PortLines initial entries s) where
  -- one that stores nothing leaves the lines
  pub retires_plain : access_touches e.access ≡ [] → PortLines initial entries (fold (touch flips) s (retire_touches e))
  retires_plain none = keeps_all initial entries flips (retire_touches e) s (subst (λ ts. PutNone (ts ++ (barrier_touches e.barrier ++ write_touches e.writes))) (sym none) (rest_none e)) h

  -- one that stores puts its bytes
  pub retires_store : (o : Entry) → access_touches e.access ≡ StoreData o.addr o.len o.put ∷ [] → IsAccess o.addr o.len → o.addr < 2 ^ 32
      → PortLines initial (entries ++ o ∷ []) (fold (touch flips) s (retire_touches e))
  retires_store o one access bound = subst (λ ts. PortLines initial (entries ++ o ∷ []) (fold (touch flips) s (ts ++ (barrier_touches e.barrier ++ write_touches e.writes)))) (sym one)
      (keeps_all initial (entries ++ o ∷ []) flips (barrier_touches e.barrier ++ write_touches e.writes) (touch flips s (StoreData o.addr o.len o.put)) (rest_none e)
      (stores_line initial entries flips s o access bound h))
