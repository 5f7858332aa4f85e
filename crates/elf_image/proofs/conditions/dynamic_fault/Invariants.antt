use Rattle.std.proofs.Common.{◌≡◌, map, drop}
use Rattle.elf_image.specs.Refusals.{first_fault, dynamic}
use Rattle.elf_image.proofs.conditions.dynamic_fault.Given as goal

-- the conditions of the headers so far do not hold
abbrev pub invariant-loop-program : goal.invariant-loop-program
invariant-loop-program l = first_fault (map dynamic (drop l.program-index l.programs)) ≡ first_fault (map dynamic l.programs)
