use Rattle.std.proofs.Common.{◌≡◌, map, take}
use Rattle.elf_image.specs.Spelled.{segment_of}
use Rattle.elf_image.proofs.reader.segments_of.Given as goal

-- the segments so far
abbrev pub invariant-loop-load : goal.invariant-loop-load
invariant-loop-load l = l.segments ≡ map (segment_of l.file) (take l.load-index l.loads)
