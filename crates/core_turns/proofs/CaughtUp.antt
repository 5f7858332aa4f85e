-- A core catches up with the log: its parts are those of the definitions, and what its turn asks of it still holds.
use Rattle.std.proofs.Common.{◌≡◌, ◌∙◌, ◌≤◌, ℕ, List, length, map, drop, fold, ap, arith}
use Rattle.core_parts.specs.RecordState.{RecordState}
use Rattle.core_parts.specs.declared.parts.Parts.{Parts}
use Rattle.lf_model.specs.Caches.Change.{snooped}
use Rattle.lf_model.specs.Caches.Slot.{line_of}
use Rattle.lf_model.specs.declared.bus.Entry.{Entry}
use Rattle.lf_model.specs.declared.control.Arch.{Arch}
use Rattle.lf_model.specs.declared.step.Turn.{Turn}
use Rattle.lf_model.specs.declared.step.Turn.TheVariants.{Fetch, Load, Atomic, Drain, Snoop}
use Rattle.parity_cache.specs.CacheState.{CacheState, with_cache, IsCleanSet}
use Rattle.parity_cache.specs.Keeps.{Keeps}
use Rattle.snoop.specs.Snooping.{address_of}
use Rattle.core_turns.specs.CanTurn.{CanTurn}
use Rattle.core_turns.specs.CatchingUp.{caught_up_parts}

-- its data cache snooped the entries from number n on, and it has seen m of them
pub is_caught : (log : List Entry) (p : Parts) (cache : CacheState) (r : RecordState) (n m : ℕ) → n ≡ p.«record».seen
    → cache ≡ with_cache (fold snooped p.arrays.data_cache.cache (map address_of (drop n log))) p.arrays.data_cache → m ≡ length log → r ≡ record p.«record» { seen = m }
    → record p { arrays = record p.arrays { data_cache = cache }; «record» = r } ≡ caught_up_parts log p
is_caught log p cache r n m from snoops all sees =
    ap (λ (c : CacheState). record p { arrays = record p.arrays { data_cache = c }; «record» = r })
    (snoops ∙ ap (λ k. with_cache (fold snooped p.arrays.data_cache.cache (map address_of (drop k log))) p.arrays.data_cache) from)
    ∙ ap (λ (s : RecordState). record (caught_up_parts log p) { «record» = s }) (sees ∙ ap (λ k. record p.«record» { seen = k }) all)

pub can_caught : (log : List Entry) (p : Parts) → ((addr : ℕ) → IsCleanSet addr p.arrays.data_cache.cache → IsCleanSet addr (caught_up_parts log p).arrays.data_cache.cache)
    → (turn : Turn) (arch : Arch) → CanTurn turn arch p → CanTurn turn arch (caught_up_parts log p)
can_caught log p clean (Fetch line why) arch can = record { left = can.left; at_pc = can.at_pc; fill = can.fill }
can_caught log p clean (Load addr len why) arch can = record {
  left = can.left;
  access = can.access;
  fill = record { cause = can.fill.cause; in_ram = can.fill.in_ram; clean = clean (line_of addr) can.fill.clean };
}
can_caught log p clean (Atomic addr len new rd) arch can =
    record { left = can.left; exchange = can.exchange; none_waits = can.none_waits; instructions = can.instructions; operations = can.operations }
can_caught log p clean (Drain why) arch can = record { cause = can.cause; some = can.some }
can_caught log p clean Snoop arch can = tt

-- a cache that is kept by a call that uses none, and is this one
pub fewer_uses : (old new is : CacheState) → new ≡ is → Keeps 0 old new → is.cache.uses ≤ old.cache.uses
fewer_uses old new is same keeps = let used = keeps.uses_at_most in let at : new.cache.uses ≡ is.cache.uses = ap (λ (c : CacheState). c.cache.uses) same in omega (arith, used, at)
