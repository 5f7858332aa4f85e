-- Stores and atomics leave memory as large as it was, and the room for transfers.
use Rattle.std.proofs.Common.{◌≡◌, ℕ, ◌*◌, ◌+◌, ◌/◌, ◌%◌, ◌^◌, Bool, true, false, cond, nat_lt, nat_eq, length-set, slice_set, refl, ap, ◌∙◌}
use Rattle.bus_memory.specs.MemoryState.{MemoryState, ram_of, is_bad_at, value_at, merged_in, stored}
use Rattle.lf_model.specs.Bus.Words.{word_of}
use Rattle.ram_words.specs.Parts.{merged}
use Rattle.ram_words.specs.Ram.{place_of}

module _ (addr len value ram : ℕ) (m : MemoryState) where
  pub merged_ram : ram_of m ≡ ram → ram_of (merged_in addr len value m) ≡ ram
  merged_ram is = by (is_bad_at m (word_of addr))
    where
      by : (b : Bool) → ram_of (cond b m (record m { values = slice_set m.values (place_of addr) (merged (value_at m addr) addr len value) })) ≡ ram
      by true = is
      by false = ap (λ (n : ℕ). 4 * n) (length-set m.values (place_of addr) (merged (value_at m addr) addr len value)) ∙ is

  pub merged_room : (merged_in addr len value m).room ≡ m.room
  merged_room = by (is_bad_at m (word_of addr))
    where
      by : (b : Bool) → (cond b m (record m { values = slice_set m.values (place_of addr) (merged (value_at m addr) addr len value) })).room ≡ m.room
      by true = refl
      by false = refl

  abbrev word_stored : MemoryState
  word_stored = record m { values = slice_set m.values (place_of addr) value }

  abbrev words_stored : MemoryState
  words_stored = record m { values = slice_set (slice_set m.values (place_of addr) (value / 2 ^ 32)) (place_of (addr + 4)) (value % 2 ^ 32) }

  pub stored_ram : ram_of m ≡ ram → ram_of (stored addr len value m) ≡ ram
  stored_ram is = by (nat_lt len 4) (nat_eq len 4)
    where
      by : (short word : Bool) → ram_of (cond short (merged_in addr len value m) (cond word word_stored words_stored)) ≡ ram
      by true word = merged_ram is
      by false true = ap (λ (n : ℕ). 4 * n) (length-set m.values (place_of addr) value) ∙ is
      by false false =
          ap (λ (n : ℕ). 4 * n) (length-set (slice_set m.values (place_of addr) (value / 2 ^ 32)) (place_of (addr + 4)) (value % 2 ^ 32) ∙ length-set m.values (place_of addr) (value / 2 ^ 32)) ∙ is

  pub stored_room : (stored addr len value m).room ≡ m.room
  stored_room = by (nat_lt len 4) (nat_eq len 4)
    where
      by : (short word : Bool) → (cond short (merged_in addr len value m) (cond word word_stored words_stored)).room ≡ m.room
      by true word = merged_room
      by false true = refl
      by false false = refl
