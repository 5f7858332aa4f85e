use Rattle.std.proofs.Common.{◌≡◌, ◌++◌, take}
use Rattle.elf_image.specs.Written.{contents}
use Rattle.elf_image.proofs.writer.push_contents.Given as goal

-- the bytes of the segments so far
abbrev pub invariant-loop-segment : goal.invariant-loop-segment
invariant-loop-segment l = l.file.items ≡ l.fn.file.items ++ contents (take l.segment-index l.segments)
