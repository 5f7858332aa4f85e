-- After catching up, no line that was stored to since is resident: so what is resident is what the whole log left.
use Rattle.std.proofs.Common.{◌≡◌, ℕ, List, [], ◌∷◌, ◌++◌, map, take, drop, cond, sym, ap, ◌∙◌}
use Rattle.std.specs.Prelude.{fold}
use Rattle.std.specs.List.{AllByRecursion}
use Rattle.std.proofs.lemmas.List.{take-append-drop}
use Rattle.lf_model.specs.Caches.Change.{snooped}
use Rattle.lf_model.specs.Operation.{touches, byte_put}
use Rattle.lf_model.specs.Value.{stored}
use Rattle.lf_model.specs.declared.bus.Entry.{Entry}
use Rattle.order_log.specs.LogState.{IsLogEntry}
use Rattle.parity_cache.specs.CacheState.{CacheState, with_cache}
use Rattle.parity_cache.specs.Resident.{Holds, IsWellFormed}
use Rattle.parity_cache.proofs.Bytes.{stored_then, in_its_line, untouched}
use Rattle.parity_cache.proofs.LessResident.{holds_snooped, formed_snooped}
use Rattle.snoop.specs.Snooping.{address_of}

pub formed_caught : (es : List Entry) (c : CacheState) → IsWellFormed c → IsWellFormed (with_cache (fold snooped c.cache (map address_of es)) c)
formed_caught [] c formed = formed
formed_caught (e ∷ es) c formed = formed_caught es (with_cache (snooped c.cache e.addr) c) (formed_snooped c e.addr formed)

-- own: the stores of this core that wait
module _ (own : List Entry) where
  caught : (es : List Entry) → AllByRecursion IsLogEntry es → (byte : ℕ → ℕ) (c : CacheState) → IsWellFormed c → Holds (λ a. stored a own (byte a)) c
      → Holds (λ a. stored a own (stored a es (byte a))) (with_cache (fold snooped c.cache (map address_of es)) c)
  caught [] entries byte c formed held = held
  caught (e ∷ es) entries byte c formed held =
      caught es entries.1 (λ a. cond (touches a e) (byte_put a e) (byte a)) (with_cache (snooped c.cache e.addr) c) (formed_snooped c e.addr formed)
      (holds_snooped c e.addr formed (λ a. stored a own (byte a)) (λ a. stored a own (cond (touches a e) (byte_put a e) (byte a))) held
      (λ a other. ap (stored a own) (untouched a e (byte a) (λ is. other (in_its_line e (record { size = entries.0.len; aligned = entries.0.aligned }) a is)))))

  module _ (log : List Entry) (seen : ℕ) (initial : ℕ → ℕ) (c : CacheState) where
    seen_stored : (a : ℕ) → stored a (take seen log ++ own) (initial a) ≡ stored a own (stored a (take seen log) (initial a))
    seen_stored a = stored_then a (take seen log) own (initial a)

    all_stored : (a : ℕ) → stored a (log ++ own) (initial a) ≡ stored a own (stored a (drop seen log) (stored a (take seen log) (initial a)))
    all_stored a =
        stored_then a log own (initial a)
        ∙ ap (stored a own) (ap (λ (es : List Entry). stored a es (initial a)) (sym (take-append-drop seen log)) ∙ stored_then a (take seen log) (drop seen log) (initial a))

    -- what was resident was as the log up to what was seen left it, with the waiting stores: now it is as the whole log did
    pub holds_caught : AllByRecursion IsLogEntry (drop seen log) → IsWellFormed c → Holds (λ a. stored a (take seen log ++ own) (initial a)) c
        → Holds (λ a. stored a (log ++ own) (initial a)) (with_cache (fold snooped c.cache (map address_of (drop seen log))) c)
    holds_caught entries formed held slot a lt is =
        caught (drop seen log) entries (λ b. stored b (take seen log) (initial b)) c formed (λ s b below res. held s b below res ∙ seen_stored b) slot a lt is
        ∙ sym (all_stored a)
