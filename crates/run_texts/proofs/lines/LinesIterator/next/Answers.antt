-- The first line and the lines behind it.
use Rattle.std.proofs.Common.{ℕ, ◌+◌, ◌<◌, List, ◌∷◌, length, sym, ap, ap₂, ◌∙◌, arith, rules}
use Rattle.std.specs.Str.Lines.{lines}
use Rattle.std.proofs.lemmas.List.{take_rest}
use Rattle.std.proofs.lemmas.Bool.Decides.{nat_tests}
use Rattle.run_texts.proofs.LineLemmas.{lines_at, lines_last}
use Rattle.run_texts.proofs.lines.LinesIterator.next.Goals as goal

pub returns-in-Some-clause-steps : goal.returns-in-Some-clause-steps
returns-in-Some-clause-steps c =
    let text : List ℕ = c.self.inside.rest.now in
    sym c.self.view_is ∙ lines_at text c.in-Some.end (sym c.line_feed.ensures ∙ c.in-Some.is)
    ∙ ap₂ (λ (line : List ℕ) (left : List (List ℕ)). line ∷ left) (sym c.without_carriage_return-line.ensures)
    (ap lines (sym (take_rest text (c.in-Some.end + 1))))

pub returns-in-Some-clause-goes : goal.returns-in-Some-clause-goes
returns-in-Some-clause-goes c = let steps = returns-in-Some-clause-steps c in search rules

pub returns-in-None-clause-steps : goal.returns-in-None-clause-steps
returns-in-None-clause-steps c =
    let some : 0 < length c.self.inside.rest.now = grind (arith, nat_tests) in
    sym c.self.view_is ∙ lines_last _ some (sym c.line_feed.ensures ∙ c.in-None.is)

pub returns-in-None-clause-goes : goal.returns-in-None-clause-goes
returns-in-None-clause-goes c = let steps = returns-in-None-clause-steps c in search rules
