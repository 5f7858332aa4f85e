-- What a turn leaves of the lines of a core's caches: the data cache catches up with the log, and the transfer fills a line, drains a
-- store, or exchanges a number.
use Rattle.std.proofs.Common.{◌≡◌, ◌∙◌, ◌<◌, ◌++◌, ◌^◌, ℕ, List, [], ◌∷◌, fold, map, take, drop, ap, sym, subst}
use Rattle.std.proofs.lemmas.List.{append_assoc, take-append-drop}
use Rattle.std.specs.List.{AllByRecursion as Each}
use Rattle.core_parts.specs.PortState.{PortState}
use Rattle.core_course.specs.Lines.{PortLines}
use Rattle.core_turns.proofs.TextLine.{HasLine}
use Rattle.lf_model.specs.Caches.Change.{snooped}
use Rattle.lf_model.specs.Value.{stored}
use Rattle.lf_model.specs.declared.bus.Entry.{Entry}
use Rattle.order_log.specs.LogState.{IsLogEntry}
use Rattle.parity_cache.proofs.Bytes.{stored_then, in_its_line, untouched}
use Rattle.parity_cache.proofs.FilledBytes.{formed_filled, holds_filled}
use Rattle.parity_cache.proofs.LessResident.{formed_snooped, holds_snooped}
use Rattle.parity_cache.specs.CacheState.{with_cache, filled_cache}
use Rattle.parity_slots.specs.SlotState.{IsAccess}
use Rattle.snoop.proofs.CaughtUp.{formed_caught, holds_caught}
use Rattle.snoop.specs.Snooping.{address_of}

module _ (initial : ℕ → ℕ) where
  -- ---- before the transfer

  -- the data cache snoops the entries that came since: the core sees the whole log then
  pub lines_caught : (log buffer : List Entry) (n : ℕ) (s : PortState) → Each IsLogEntry (drop n log) → PortLines initial (take n log ++ buffer) s
      → PortLines initial (log ++ buffer) (record s { data_cache = with_cache (fold snooped s.data_cache.cache (map address_of (drop n log))) s.data_cache })
  lines_caught log buffer n s entries h = record {
    data_formed = formed_caught (drop n log) s.data_cache h.data_formed;
    fetch_formed = h.fetch_formed;
    data_lines = holds_caught buffer log n initial s.data_cache entries h.data_formed h.data_lines;
    fetch_lines = h.fetch_lines;
  }

  -- ---- the transfer

  module _ (entries : List Entry) (s : PortState) (h : PortLines initial entries s) where
    -- a line of the fetch cache is filled with the image's bytes
    pub lines_fetched : (addr valid : ℕ) (words : List ℕ) → addr < 2 ^ 32 → HasLine initial addr valid words
        → PortLines initial entries (record s { fetch_cache = filled_cache addr valid words s.fetch_cache })
    lines_fetched addr valid words bound right = record {
      data_formed = h.data_formed;
      fetch_formed = formed_filled addr valid words s.fetch_cache h.fetch_formed;
      data_lines = h.data_lines;
      fetch_lines = holds_filled addr valid words s.fetch_cache h.fetch_formed initial bound right h.fetch_lines;
    }

    -- a line of the data cache with those of memory
    pub lines_loaded : (addr valid : ℕ) (words : List ℕ) → addr < 2 ^ 32 → HasLine (λ a. stored a entries (initial a)) addr valid words
        → PortLines initial entries (record s { data_cache = filled_cache addr valid words s.data_cache })
    lines_loaded addr valid words bound right = record {
      data_formed = formed_filled addr valid words s.data_cache h.data_formed;
      fetch_formed = h.fetch_formed;
      data_lines = holds_filled addr valid words s.data_cache h.data_formed (λ a. stored a entries (initial a)) bound right h.data_lines;
      fetch_lines = h.fetch_lines;
    }

    -- an atomic drops its own line
    pub lines_exchanged : (e : Entry) → IsAccess e.addr e.len → PortLines initial (entries ++ e ∷ []) (record s { data_cache = with_cache (snooped s.data_cache.cache e.addr) s.data_cache })
    lines_exchanged e access = record {
      data_formed = formed_snooped s.data_cache e.addr h.data_formed;
      fetch_formed = h.fetch_formed;
      data_lines = holds_snooped s.data_cache e.addr h.data_formed (λ a. stored a entries (initial a)) (λ a. stored a (entries ++ e ∷ []) (initial a)) h.data_lines
          (λ a other. stored_then a entries (e ∷ []) (initial a) ∙ untouched a e (stored a entries (initial a)) (λ is. other (in_its_line e access a is)));
      fetch_lines = h.fetch_lines;
    }

  -- a drain moves a store from those that wait to the log, and the core sees the same
  pub lines_drained : (log buffer : List Entry) (s : PortState) → PortLines initial (log ++ buffer) s → PortLines initial ((log ++ take 1 buffer) ++ drop 1 buffer) s
  lines_drained log buffer s h = subst (λ es. PortLines initial es s)
      (ap (λ es. log ++ es) (sym (take-append-drop 1 buffer)) ∙ sym (append_assoc log (take 1 buffer) (drop 1 buffer))) h

-- ports with the same caches have the same lines
pub same_lines : (initial : ℕ → ℕ) (entries : List Entry) (s u : PortState) → u.fetch_cache ≡ s.fetch_cache → u.data_cache ≡ s.data_cache → PortLines initial entries s → PortLines initial entries u
same_lines initial entries s u fetch data_ h = record {
  data_formed = rw data_ h.data_formed;
  fetch_formed = rw fetch h.fetch_formed;
  data_lines = rw data_ h.data_lines;
  fetch_lines = rw fetch h.fetch_lines;
}
