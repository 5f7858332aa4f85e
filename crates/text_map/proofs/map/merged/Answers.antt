use Rattle.std.proofs.Common.{get_or, ap, refl, ◌∙◌, Vec, Global}
use Rattle.text_map.specs.declared.map.Span.{Span}
use Rattle.text_map.proofs.SpanLemmas.{merge_more, push_more}
use Rattle.text_map.proofs.map.merged.Goals as goal
use Rattle.text_map.proofs.map.merged.Goals.{then-span-last, else-span-last+in_ok-push}

no_span : Span
no_span = record { first = 0; end = 0 }

pub loop-i-preserved : goal.loop-i-preserved
unfolding no_span
loop-i-preserved c =
    let spans = c.args.spans.now in
    let i = c.loop-i.i in
    let below = c.loop-i-test.true in
    elim c.if-span-last.branch [
      | then-span-last w ↦ rw w.merged-is
          (merge_more c.loop-i.merged.items spans c.loop-i.last c.if-span-last.last (get_or spans i no_span) no_span i below refl
          w.if-span-last.true (ap (λ (s : Span). s.first) w.last-is) (ap (λ (s : Span). s.end) w.last-is ∙ w.max.ensures) c.loop-i.invariant)
      | else-span-last+in_ok-push w ↦
          push_more c.loop-i.merged.items c.if-span-last.merged.items spans c.loop-i.last c.if-span-last.last no_span i below w.last-is
          (rw w.last-is w.if-span-last.false) (ap (λ (v : Vec Span Global). v.items) w.merged-is ∙ w.in_ok-push.ensures.items)
          c.requires.sorted (rw w.last-is (c.requires.in_use i no_span below)) c.loop-i.invariant
    ]
