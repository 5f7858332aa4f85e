use Rattle.std.proofs.Common.{◌≡◌, take}
use Rattle.elf_image.specs.Spelled.{text_of}
use Rattle.elf_image.proofs.reader.text_of.Given as goal

-- the text of the segments so far
abbrev pub invariant-loop-load : goal.invariant-loop-load
invariant-loop-load l = l.text ≡ text_of l.sections (take l.load-index l.loads)
