use Rattle.std.proofs.Common.{◌≡◌, ◌+◌, ◌*◌, map}
use Rattle.std.specs.List.{range_with_len}
use Rattle.elf_image.specs.Headers.{section_at}
use Rattle.elf_image.proofs.header.SectionHeader.read_all.Given as goal

-- the headers so far
abbrev pub invariant-loop-i : goal.invariant-loop-i
invariant-loop-i l = l.headers.items ≡ map (λ i. section_at l.file (l.table.place + 40 * i)) (range_with_len 0 l.i)
