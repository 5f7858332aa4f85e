-- What each touch leaves of the lines of a core's caches: only an own store and fills put bytes into them.
use Rattle.std.proofs.Common.{◌≡◌, ◌<◌, ◌++◌, ◌^◌, ℕ, false, List, [], ◌∷◌, fold, refl, ap, sym, subst}
use Rattle.std.specs.List.{AllByRecursion as Each}
use Rattle.core_parts.proofs.FormsKept.{PutsNone, PutNone, data_is}
use Rattle.core_parts.specs.PortState.{PortState, arrays_in, touch}
use Rattle.core_course.specs.Lines.{PortLines}
use Rattle.lf_model.specs.Course.Touches.{touched}
use Rattle.lf_model.specs.Value.{stored}
use Rattle.lf_model.specs.declared.bus.Entry.{Entry}
use Rattle.lf_model.specs.declared.flip.Flip.{Flip}
use Rattle.lf_model.specs.declared.touch.Touch.{Touch}
use Rattle.lf_model.specs.declared.touch.Touch.TheVariants.{StoreData}
use Rattle.parity_cache.proofs.Bytes.{puts_data, puts_fetch, less_data, less_fetch, holds_own_store}
use Rattle.parity_cache.proofs.LessResident.{formed_less, holds_less}
use Rattle.parity_cache.proofs.OwnStore.{formed_stored}
use Rattle.parity_cache.specs.CacheState.{with_cache}
use Rattle.parity_cache.specs.Resident.{Holds, IsWellFormed}
use Rattle.parity_slots.specs.SlotState.{IsAccess}

module _ (initial : ℕ → ℕ) (entries : List Entry) (flips : List (ℕ × Flip)) where
  -- it leaves what they hold
  pub keeps_lines : (s : PortState) (t : Touch) → PutsNone t → PortLines initial entries s → PortLines initial entries (touch flips s t)
  keeps_lines s t none h =
      let load = (touched flips (arrays_in s) t).data_cache in
      let fetch = (touched flips (arrays_in s) t).fetch_cache in
      let less = less_data flips (arrays_in s) t none.0 in
      let less_f = less_fetch flips (arrays_in s) t none.1 in
      record {
        data_formed = subst IsWellFormed (data_is initial flips s t none.0) (formed_less s.data_cache load less h.data_formed);
        fetch_formed = formed_less s.fetch_cache fetch less_f h.fetch_formed;
        data_lines = subst (Holds (λ a. stored a entries (initial a))) (data_is initial flips s t none.0)
            (holds_less s.data_cache load less (λ a. stored a entries (initial a)) (λ a. stored a entries (initial a)) h.data_lines (λ slot a lt is. refl));
        fetch_lines = holds_less s.fetch_cache fetch less_f initial initial h.fetch_lines (λ slot a lt is. refl);
      }

  pub keeps_all : (ts : List Touch) (s : PortState) → PutNone ts → PortLines initial entries s → PortLines initial entries (fold (touch flips) s ts)
  keeps_all [] s none h = h
  keeps_all (t ∷ ts) s none h = keeps_all ts (touch flips s t) none.1 (keeps_lines s t none.0 h)

  -- an own store puts its bytes, as its entry will put them into memory
  pub stores_line : (s : PortState) (e : Entry) → IsAccess e.addr e.len → e.addr < 2 ^ 32 → PortLines initial entries s
      → PortLines initial (entries ++ e ∷ []) (touch flips s (StoreData e.addr e.len e.put))
  stores_line s e access bound h = record {
    data_formed = formed_stored e.addr e.len e.put access s.data_cache h.data_formed;
    fetch_formed = h.fetch_formed;
    data_lines = holds_own_store e access bound s.data_cache h.data_formed initial entries h.data_lines;
    fetch_lines = h.fetch_lines;
  }
