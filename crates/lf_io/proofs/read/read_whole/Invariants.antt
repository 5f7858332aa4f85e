use Rattle.std.proofs.Common.{◌≡◌, ℕ, ◌+◌, ◌≤◌, ◌-◌, List, vec_len}
use Rattle.lf_io.specs.Held.{content}
use Rattle.lf_io.specs.Answers.{IsStart, ReachesTo}
use Rattle.lf_io.proofs.read.read_whole.Given as goal

-- so many bytes of the file were read, and the bytes so far are the first ones of it
abbrev pub invariant-loop-place : goal.invariant-loop-place
invariant-loop-place g l = record {
  within : l.place ≤ l.limit + 1;
  reaches : vec_len l.bytes ≤ l.place;
  had : ReachesTo (content (g.F.Files.held l.fn.files) l.name) l.place;
  start : IsStart (content (g.F.Files.held l.fn.files) l.name) l.bytes.items;
  kept : g.F.Files.held l.files ≡ g.F.Files.held l.fn.files;
  counted : (other : List ℕ) → g.F.Files.faults l.fn.files other ≤ g.F.Files.faults l.files other;
}

abbrev pub decreases-loop-place : goal.decreases-loop-place
decreases-loop-place g l = l.limit + 1 - l.place
