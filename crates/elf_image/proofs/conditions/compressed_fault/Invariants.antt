use Rattle.std.proofs.Common.{◌≡◌, map, drop}
use Rattle.elf_image.specs.Refusals.{first_fault, compressed}
use Rattle.elf_image.proofs.conditions.compressed_fault.Given as goal

-- the conditions of the headers so far do not hold
abbrev pub invariant-loop-section : goal.invariant-loop-section
invariant-loop-section l = first_fault (map compressed (drop l.section-index l.sections)) ≡ first_fault (map compressed l.sections)
