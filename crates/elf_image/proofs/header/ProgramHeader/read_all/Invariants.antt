use Rattle.std.proofs.Common.{◌≡◌, ◌+◌, ◌*◌, map}
use Rattle.std.specs.List.{range_with_len}
use Rattle.elf_image.specs.Headers.{program_at}
use Rattle.elf_image.proofs.header.ProgramHeader.read_all.Given as goal

-- the headers so far
abbrev pub invariant-loop-i : goal.invariant-loop-i
invariant-loop-i l = l.headers.items ≡ map (λ i. program_at l.file (l.table.place + 32 * i)) (range_with_len 0 l.i)
