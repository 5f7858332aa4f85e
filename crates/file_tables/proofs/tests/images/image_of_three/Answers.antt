use Rattle.std.proofs.Common.{◌≤◌, ◌^◌, length, ap, arith}
use Rattle.std.proofs.lemmas.List.Elements.{All-same, All-push, All-nil}
use Rattle.lf_model.specs.declared.image.Segment.{Segment}
use Rattle.file_tables.proofs.tests.images.image_of_three.Goals as goal

pub returns-clause-short : goal.returns-clause-short
returns-clause-short c =
    let P = λ (s : Segment). length s.bytes ≤ 2 ^ 24 in
    let first : P c.in_ok-segment.field-0 = omega (arith, ap length c.in_ok-segment.ensures) in
    let second : P c.in_ok-segment-2.field-0 = omega (arith, ap length c.in_ok-segment-2.ensures) in
    let third : P c.in_ok-segment-3.field-0 = omega (arith, ap length c.in_ok-segment-3.ensures) in
    All-same P _ _ c.in_ok-push-3.ensures.ok (All-push P _ _
    (All-same P _ _ c.in_ok-push-2.ensures.ok (All-push P _ _
    (All-same P _ _ c.in_ok-push.ensures.ok (All-push P _ _
    (All-same P _ _ c.new-segments.ensures.empty (All-nil P)) first)) second)) third)
