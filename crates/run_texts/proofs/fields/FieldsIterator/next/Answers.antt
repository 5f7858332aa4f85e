-- The first field and the fields behind it.
use Rattle.std.proofs.Common.{ℕ, ◌≡◌, ◌<◌, List, [], ◌∷◌, length, drop, take, sym, ap, ap₂, ◌∙◌, arith, rules}
use Rattle.std.specs.List.{prefix_len, position_or_len}
use Rattle.std.proofs.lemmas.Bool.Decides.{nat_tests}
use Rattle.run_texts.specs.Text.{is_blank, fields}
use Rattle.run_texts.proofs.FieldLemmas.{fields_after_blanks, begun, fields_none, fields_begun}
use Rattle.run_texts.proofs.fields.FieldsIterator.next.Goals as goal

pub returns-then-is_empty-clause-steps : goal.returns-then-is_empty-clause-steps
returns-then-is_empty-clause-steps c =
    let none : length c.split_at.result.1.now ≡ 0 = grind (arith, nat_tests) in
    let rest : c.split_at.result.1.now ≡ drop (prefix_len is_blank c.self.inside.rest.now) c.self.inside.rest.now = cc in
    let all : c.args.self.now ≡ [] =
    sym c.self.view_is ∙ fields_after_blanks c.self.inside.rest.now ∙ ap fields (sym rest) ∙ fields_none _ none in
    (all, all)

pub returns-clause-steps : goal.returns-clause-steps
returns-clause-steps c =
    let line : List ℕ = c.self.inside.rest.now in
    let rest : c.split_at.result.1.now ≡ drop (prefix_len is_blank line) line = cc in
    let some : 0 < length c.split_at.result.1.now = grind (arith, nat_tests) in
    let field : 0 < position_or_len is_blank c.split_at.result.1.now = rw rest (begun line (rw (← rest) some)) in
    let front : c.split_at-2.result.0.now ≡ take (position_or_len is_blank c.split_at.result.1.now) c.split_at.result.1.now = cc in
    let back : c.split_at-2.result.1.now ≡ drop (position_or_len is_blank c.split_at.result.1.now) c.split_at.result.1.now = cc in
    sym c.self.view_is ∙ fields_after_blanks line ∙ ap fields (sym rest) ∙ fields_begun c.split_at.result.1.now field
    ∙ ap₂ (λ (f : List ℕ) (fs : List (List ℕ)). f ∷ fs) (sym front) (ap fields (sym back))

pub returns-clause-goes : goal.returns-clause-goes
returns-clause-goes c = let steps = returns-clause-steps c in search rules
