use Rattle.std.proofs.Common.{length, List, subst, ap, arith}
use Rattle.lf_model.specs.declared.image.Segment.{Segment}
use Rattle.ahb_bus.proofs.BytesLemmas.{HaveBytes, byte_found}
use Rattle.ahb_bus.proofs.bus.has_bytes.Goals as goal

pub returns : goal.returns
returns c = λ a.
    let same = c.as_slice-segment-items.ensures.items in
    let all : HaveBytes c.args.image.now.segments (length c.args.image.now.segments) = λ i d lt k.
    subst (λ (segments : List Segment). HaveBytes segments c.loop-segment.segment-index) same c.loop-segment.invariant i d (omega (arith, lt, c.loop-segment-test.false, ap length same)) k in
    byte_found a c.args.image.now.segments all
