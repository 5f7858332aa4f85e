-- A flip that has struck no word, or no unit of a cache, so far is late, and no other is.
use Rattle.std.proofs.Common.{◌≡◌, ◌+◌, ◌*◌, ◌%◌, ◌<◌, ℕ, IsTrue, Bool, true, false, List, length, refl, sym, subst, ◌∙◌, arith}
use Rattle.std.proofs.lemmas.Bool.Decides.{nat_tests}
use Rattle.coded_words.specs.Words.{Words, IsToCome}
use Rattle.flip_ledger.specs.Follows.{has_struck}
use Rattle.flip_ledger.proofs.FateRule.{fate_struck}
use Rattle.ft_memory.specs.Memory.{ram_of, history_of}
use Rattle.lf_model.specs.Caches.Slot.{history_at}
use Rattle.lf_model.specs.Fates.{fate_of}
use Rattle.lf_model.specs.Caches.Cache.{Cache}
use Rattle.lf_model.specs.Flips.{Moment, word_budget, byte_budget}
use Rattle.lf_model.specs.Start.{ram_first, is_in_ram}
use Rattle.lf_model.specs.declared.trace.Fate.{Fate}
use Rattle.lf_model.specs.declared.trace.Fate.TheVariants.{Late}
use Rattle.parity_cache.specs.CacheUnits as units
use Rattle.parity_cache.specs.CacheUnits.{IsUnit, history_of_unit}
use Rattle.parity_cache.specs.declared.unit.Unit.{Unit}
use Rattle.ram_words.specs.Ram.{place_of}

not_true : (b : Bool) → (b ≡ true → ⊥) → b ≡ false
not_true true never = absurd (never refl)
not_true false never = refl

pub late_to_come : (number : ℕ) (histories : List (List Moment)) (fate : Fate) → fate ≡ Late
    → ((place : ℕ) → place < length histories → has_struck number (history_at place histories) ≡ true → fate ≡ fate_of word_budget number (history_at place histories))
    → IsToCome number histories
late_to_come number histories fate late struck =
    λ place within.
    not_true (has_struck number (history_at place histories)) (λ has. fate_struck word_budget number (history_at place histories) has (sym (struck place within has) ∙ late))

-- the address of the word at a place
address_in : (m : Words) (place : ℕ) → place < length m.histories → IsTrue (is_in_ram (ram_of m) (ram_first + 4 * place) 4)
address_in m place within = grind (arith, nat_tests)

pub late_to_come-memory : (number : ℕ) (m : Words) (fate : Fate) → fate ≡ Late
    → ((addr : ℕ) → IsTrue (is_in_ram (ram_of m) addr 4) → addr % 4 ≡ 0 → has_struck number (history_of m addr) ≡ true → fate ≡ fate_of word_budget number (history_of m addr))
    → IsToCome number m.histories
late_to_come-memory number m fate late struck =
    late_to_come number m.histories fate late (λ place within has.
    let there : place_of (ram_first + 4 * place) ≡ place = omega arith in
    subst (λ (p : ℕ). has_struck number (history_at p m.histories) ≡ true → fate ≡ fate_of word_budget number (history_at p m.histories)) there
    (struck (ram_first + 4 * place) (address_in m place within) (omega arith)) has)

-- the same of the units of a cache
pub late_to_come-cache : (number : ℕ) (cache : Cache) (fate : Fate) → fate ≡ Late
    → ((at : Unit) → IsUnit at cache → has_struck number (history_of_unit at cache) ≡ true → fate ≡ fate_of byte_budget number (history_of_unit at cache))
    → units.IsToCome number cache
late_to_come-cache number cache fate late struck =
    λ at is.
    not_true (has_struck number (history_of_unit at cache)) (λ has. fate_struck byte_budget number (history_of_unit at cache) has (sym (struck at is has) ∙ late))
