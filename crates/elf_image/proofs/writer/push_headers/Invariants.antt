use Rattle.std.proofs.Common.{◌≡◌, ◌≤◌, ◌+◌, ◌*◌, ◌^◌, ◌++◌, drop, ℕ, List}
use Rattle.elf_image.specs.Written.{program_headers}
use Rattle.elf_image.proofs.writer.push_headers.Given as goal

pub record IsSoFar (file old front left : List ℕ) (place i : ℕ) : Type 0 where
  pub headers : file ++ left ≡ old ++ front
  pub small : place ≤ 2 ^ 12 + 2 ^ 24 * i

-- the headers so far, and those that are left
abbrev pub invariant-loop-segment : goal.invariant-loop-segment
invariant-loop-segment l = IsSoFar l.file.items l.fn.file.items (program_headers l.first l.segments)
    (program_headers l.place (drop l.segment-index l.segments)) l.place l.segment-index
