use Rattle.run_texts.specs.Script.{flip_lines, IsFlipBehind}
use Rattle.run_texts.proofs.GrammarLemmas.{IsReadTo}
use Rattle.run_texts.proofs.script.read_script.Given as goal

abbrev pub invariant-loop-line : goal.invariant-loop-line
invariant-loop-line l =
    (goal.iterator-loop-line).can_next l.line-iterator
    × (goal.iterator-loop-line).is_finite l.line-iterator
    × IsReadTo (flip_lines l.config) (IsFlipBehind l.config) l.text l.number l.flips l.line-iterator
