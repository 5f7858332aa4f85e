-- The walk of the scrubber as the audit follows it: its range, and how far it has come.
use Rattle.std.specs.Prelude.{◌≡◌, ℕ, ◌+◌, ◌%◌, ◌^◌, ◌<◌}
use Rattle.lf_model.specs.Bus.Walk.{Walk, next_transfer}
use Rattle.lf_model.specs.declared.bus.Transfer.{Transfer}
use Rattle.lf_model.specs.declared.image.Range.{Range}

pub record WalkState : Type 0 where
  pub range : Range
  pub walk : Walk

-- the range is of whole lines, at least one, below the end of the address space
pub record IsScrubRange (range : Range) : Type 0 where
  pub first : range.first % 32 ≡ 0
  pub lines : range.length % 32 ≡ 0
  pub some_line : 0 < range.length
  pub end : range.first + range.length < 2 ^ 32

-- the next transfer of a walk, with what memory answered to this one
abbrev pub reported_at : ℕ → Walk → Transfer → Transfer
reported_at turn w t = record (next_transfer turn w w.noted) { words = t.words; syn = t.syn }
