use Rattle.std.proofs.Common.{◌≡◌, map, drop}
use Rattle.elf_image.specs.Refusals.{first_fault, misplaced}
use Rattle.elf_image.proofs.conditions.segment_fault.Given as goal

-- the conditions of the headers so far do not hold
abbrev pub invariant-loop-load : goal.invariant-loop-load
invariant-loop-load l = first_fault (map (misplaced l.ram l.len l.loads) (drop l.load-index l.loads)) ≡ first_fault (map (misplaced l.ram l.len l.loads) l.loads)
