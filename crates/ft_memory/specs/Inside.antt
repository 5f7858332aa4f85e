-- How memory is kept.
use Rattle.std.specs.Prelude.{◌≡◌, length}
use Rattle.ft_memory.specs.declared.memory.Memory.TheInside.{Inside}

-- each word has a value and a history
pub record IsWhole (memory : Inside) : Type 0 where
  pub lengths : length memory.words.values ≡ length memory.words.histories
