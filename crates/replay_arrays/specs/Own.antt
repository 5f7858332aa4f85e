-- A flip of the script struck its own unit and no other.
use Rattle.std.specs.Prelude.{◌≡◌, ℕ, ◌+◌, ◌*◌, true, false, Bool}
use Rattle.flip_ledger.specs.Follows.{has_struck}
use Rattle.flip_ledger.specs.declared.plan.Target.{Target}
use Rattle.flip_ledger.specs.declared.plan.Target.TheVariants.{Word, Register, Tag, Line}
use Rattle.lf_model.specs.Caches.Cache.{Cache, slot_at}
use Rattle.lf_model.specs.Caches.Slot.{history_at}
use Rattle.replay_arrays.specs.declared.parts.Parts.{Parts}

-- the target is this cell
abbrev pub IsCellAt : ℕ → Target → Type 0
IsCellAt cell (Word addr) = ⊥
IsCellAt cell (Register c) = c ≡ cell
IsCellAt cell (Tag fetch way set byte) = ⊥
IsCellAt cell (Line fetch way set byte) = ⊥

-- it is this tag byte, or this byte of the line, of a slot of a cache with so many ways
abbrev pub IsTagAt : Bool → ℕ → ℕ → ℕ → Target → Type 0
IsTagAt in_fetch ways slot byte (Word addr) = ⊥
IsTagAt in_fetch ways slot byte (Register cell) = ⊥
IsTagAt in_fetch ways slot byte (Tag fetch way set b) = (fetch ≡ in_fetch) × ((set * ways + way ≡ slot) × (b ≡ byte))
IsTagAt in_fetch ways slot byte (Line fetch way set b) = ⊥

abbrev pub IsLineAt : Bool → ℕ → ℕ → ℕ → Target → Type 0
IsLineAt in_fetch ways slot byte (Word addr) = ⊥
IsLineAt in_fetch ways slot byte (Register cell) = ⊥
IsLineAt in_fetch ways slot byte (Tag fetch way set b) = ⊥
IsLineAt in_fetch ways slot byte (Line fetch way set b) = (fetch ≡ in_fetch) × ((set * ways + way ≡ slot) × (b ≡ byte))

-- a flip with this number and target struck no other byte of a cache
pub record IsOnlyIn (number : ℕ) (target : Target) (in_fetch : Bool) (cache : Cache) : Type 0 where
  pub tags : (slot byte : ℕ) → has_struck number (history_at byte (slot_at slot cache).tag_histories) ≡ true → IsTagAt in_fetch cache.shape.ways slot byte target
  pub lines : (slot byte : ℕ) → has_struck number (history_at byte (slot_at slot cache).line_histories) ≡ true → IsLineAt in_fetch cache.shape.ways slot byte target

-- nor another unit of the arrays
pub record IsOnlyAt (number : ℕ) (target : Target) (p : Parts) : Type 0 where
  pub cells : (cell : ℕ) → has_struck number (history_at cell p.cells.histories) ≡ true → IsCellAt cell target
  pub fetch_cache : IsOnlyIn number target true p.fetch_cache.cache
  pub data_cache : IsOnlyIn number target false p.data_cache.cache
