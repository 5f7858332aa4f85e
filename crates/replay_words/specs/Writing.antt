-- What a transfer and an error trap do to the words, one word after the other.
use Rattle.std.specs.Prelude.{◌≡◌, ℕ, ◌==◌, List, length, Some, if◌then◌else◌}
use Rattle.flip_ledger.specs.Follows.{has_struck}
use Rattle.lf_model.specs.Bus.Words.{Word, write_of, with_write, write_by, with_name}
use Rattle.lf_model.specs.Caches.Slot.{history_at}
use Rattle.lf_model.specs.Flips.{word_budget}
use Rattle.lf_model.specs.declared.bus.Transfer.{Transfer}
use Rattle.replay_units.specs.Units.{Units}

-- the transfer touches the word at this address
abbrev pub written_at : Transfer → ℕ → Word → Word
written_at t addr word = if word.addr == addr then record word { history = with_write (write_of t.len word.history t.kind) word.history } else word

-- the transfer touches the words that it touches
abbrev pub after_writes : Transfer → Word → Word
after_writes t word = record word { history = with_write (write_by t word) word.history }

-- an error trap names the word at this address
abbrev pub named_at : ℕ → Word → Word
named_at addr word = with_name (Some addr) word

-- a unit for each of these words
pub record AreWordUnits (addrs : List ℕ) (units : Units) : Type 0 where
  pub budget : units.budget ≡ word_budget
  pub long : length units.histories ≡ length addrs

-- no flip strikes, and there are as many units
pub record KeepsStruck (old new : Units) : Type 0 where
  pub budget : new.budget ≡ old.budget
  pub flips : new.flips ≡ old.flips
  pub long : length new.histories ≡ length old.histories
  pub struck : (i unit : ℕ) → has_struck i (history_at unit new.histories) ≡ has_struck i (history_at unit old.histories)
