-- What a cache keeps where no flip strikes: which flips struck each of its bytes.
use Rattle.std.specs.Prelude.{◌≡◌, ℕ}
use Rattle.flip_ledger.specs.Follows.{has_struck}
use Rattle.lf_model.specs.Caches.Cache.{Cache, slot_at}
use Rattle.lf_model.specs.Caches.Slot.{Slot, history_at}

-- the same flips struck each byte of two slots
pub record AreAlike (a b : Slot) : Type 0 where
  pub tags : (number byte : ℕ) → has_struck number (history_at byte a.tag_histories) ≡ has_struck number (history_at byte b.tag_histories)
  pub lines : (number byte : ℕ) → has_struck number (history_at byte a.line_histories) ≡ has_struck number (history_at byte b.line_histories)

abbrev pub KeepsStruck : Cache → Cache → Type 0
KeepsStruck old new = (slot : ℕ) → AreAlike (slot_at slot new) (slot_at slot old)
