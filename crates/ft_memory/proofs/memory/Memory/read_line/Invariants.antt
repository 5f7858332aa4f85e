use Rattle.std.proofs.Common.{◌+◌, ◌*◌}
use Rattle.ft_memory.specs.Memory.{word_shown, syndrome_at, is_bad_at}
use Rattle.ft_memory.proofs.LineLemmas.{IsShown}
use Rattle.ft_memory.proofs.memory.Memory.read_line.Given as goal

abbrev pub invariant-loop-j : goal.invariant-loop-j
invariant-loop-j l =
    IsShown (λ j. word_shown l.self (l.line + 4 * j)) l.j l.words
    × IsShown (λ j. syndrome_at l.self (l.line + 4 * j)) l.j l.syn
    × IsShown (λ j. is_bad_at l.self (l.line + 4 * j)) l.j l.bad
