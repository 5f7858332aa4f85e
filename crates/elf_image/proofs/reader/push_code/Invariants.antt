use Rattle.std.proofs.Common.{◌≡◌, ◌++◌, take}
use Rattle.std.specs.List.{flat_map}
use Rattle.elf_image.specs.Spelled.{code_in}
use Rattle.elf_image.proofs.reader.push_code.Given as goal

-- the text of the sections so far
abbrev pub invariant-loop-section : goal.invariant-loop-section
invariant-loop-section l = l.text ≡ l.fn.text ++ flat_map (code_in l.load) (take l.section-index l.sections)
