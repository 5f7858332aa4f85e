use Rattle.std.proofs.Common.{◌∙◌, leb, rules}
use Rattle.std.proofs.lemmas.List.Sorted.{IsPartitionPoint-from_clause, IsPartitionedBy-leb}
use Rattle.text_map.specs.declared.map.Span.{Span}
use Rattle.text_map.proofs.SpanLemmas.{ends_rise, found_at}
use Rattle.text_map.proofs.map.search.Goals as goal

pub returns : goal.returns
returns c =
    let spans = c.args.spans.now in
    let parted = IsPartitionedBy-leb (λ (s : Span). s.end) spans c.args.addr (ends_rise spans c.requires) in
    let point = IsPartitionPoint-from_clause (λ (s : Span). leb s.end c.args.addr) spans _ c.partition_point-place.ensures.partitioned parted (λ a r q k. search rules) in
    c.span_at.ensures ∙ found_at spans c.args.addr c.partition_point-place.result point
