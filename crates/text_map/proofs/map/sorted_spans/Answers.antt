use Rattle.std.proofs.Common.{◌<◌, rules, sym, ap, ◌∙◌}
use Rattle.std.proofs.lemmas.List.Sorted.{IsNonDecreasingBy-from_sort_by_key, list_any-IsPermutation, All-permutation}
use Rattle.std.proofs.lemmas.List.Elements.{All-same}
use Rattle.text_map.specs.declared.map.Span.{Span}
use Rattle.text_map.specs.Spans.{in_span, in_spans}
use Rattle.text_map.proofs.SpanLemmas.{spans_text, spans_used}
use Rattle.text_map.proofs.map.sorted_spans.Goals as goal

pub returns-clause-sorted : goal.returns-clause-sorted
returns-clause-sorted c = IsNonDecreasingBy-from_sort_by_key (λ (s : Span). s.first) _ c.sort_unstable_by_key.ensures.sorted (λ a r q k. search rules)

pub returns-clause-in_use : goal.returns-clause-in_use
returns-clause-in_use c =
    let P = λ (s : Span). s.first < s.end in
    All-permutation P _ _ c.sort_unstable_by_key.ensures.permutation (All-same P _ _ c.in_ok-spans.ensures (spans_used c.args.text.now))

pub returns-clause-text : goal.returns-clause-text
returns-clause-text c a =
    sym (list_any-IsPermutation (in_span a) _ _ c.sort_unstable_by_key.ensures.permutation)
    ∙ ap (λ spans. in_spans spans a) c.in_ok-spans.ensures
    ∙ spans_text c.args.text.now a
