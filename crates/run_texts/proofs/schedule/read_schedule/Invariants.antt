use Rattle.run_texts.specs.Schedule.{event_lines, IsEventBehind}
use Rattle.run_texts.proofs.GrammarLemmas.{IsReadTo}
use Rattle.run_texts.proofs.schedule.read_schedule.Given as goal

abbrev pub invariant-loop-line : goal.invariant-loop-line
invariant-loop-line l =
    (goal.iterator-loop-line).can_next l.line-iterator
    × (goal.iterator-loop-line).is_finite l.line-iterator
    × IsReadTo (event_lines l.config) (IsEventBehind l.config) l.text l.number l.events l.line-iterator
