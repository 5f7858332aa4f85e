-- A cache, as the replay has it.
use Rattle.std.specs.Prelude.{ℕ, Option, None, not, find, fold, unwrap_or}
use Rattle.std.specs.Option.{option_or}
use Rattle.lf_model.specs.Caches.Cache.{Cache, slot_at, set_of}
use Rattle.lf_model.specs.Caches.Change.{older}
use Rattle.lf_model.specs.Caches.Look.{LookUp as Found}
use Rattle.lf_model.specs.Caches.Look.LookUp.{Hit as Hits, Miss as Misses}
use Rattle.lf_model.specs.Caches.Slot.{is_present}
use Rattle.replay_caches.specs.declared.answer.LookUp.{LookUp}
use Rattle.replay_caches.specs.declared.answer.LookUp.TheVariants.{Hit, Miss}

-- flips: how many the script has
pub record CacheState : Type 0 where
  pub cache : Cache
  pub flips : ℕ

abbrev pub with_cache : Cache → CacheState → CacheState
with_cache cache s = record s { cache = cache }

-- a byte has nine bits, with its parity
abbrev pub byte_bits : ℕ
byte_bits = 9

-- what a look-up answers
abbrev pub answer_of : Found → LookUp
answer_of (Hits slot) = Hit slot
answer_of (Misses why) = Miss why

-- the slot that a fill takes, by that in which its line is present
abbrev pub victim_by : ℕ → Cache → Option ℕ → ℕ
victim_by addr cache found = unwrap_or (option_or found
    (option_or (find (λ i. not (is_present (slot_at i cache))) (set_of addr cache)) (fold (older cache) None (set_of addr cache)))) 0
