-- The table by which struck words are found.
use Rattle.std.specs.Prelude.{◌≡◌, ℕ, suc, ◌+◌, ◌*◌, ◌<◌, ◌≤◌, ◌%◌, List, length, slice_index}
use Rattle.std.specs.List.{AllByRecursion}
use Rattle.std.specs.Option.{option_map_or}
use Rattle.lf_model.specs.Start.{ram_first}
use Rattle.replay_words.specs.Places.{place_in, AreDistinct}

-- the address is that of one of the first so many words of RAM
pub record IsWord (count addr : ℕ) : Type 0 where
  pub aligned : addr % 4 ≡ 0
  pub above : ram_first ≤ addr
  pub below : addr < ram_first + 4 * count

-- what the table has for an address
abbrev pub entry_for : List ℕ → ℕ → ℕ
entry_for addrs addr = option_map_or suc (place_in addrs addr) 0

pub record IsTable (table addrs : List ℕ) : Type 0 where
  pub entries : (word : ℕ) → word < length table → slice_index table word ≡ entry_for addrs (ram_first + 4 * word)
  pub words : AllByRecursion (IsWord (length table)) addrs
  pub distinct : AreDistinct addrs
