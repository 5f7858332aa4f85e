use Rattle.std.proofs.Common.{◌≡◌, ℕ, length, ◌∙◌, ap, arith}
use Rattle.report_reader.proofs.Bare.{bare_front, bare_more, bare_whole}
use Rattle.report_reader.proofs.dashes.clear.Goals as goal

pub loop-transfer-preserved : goal.loop-transfer-preserved
loop-transfer-preserved c = bare_more c.args.transfers.now c.loop-transfer.transfers c.loop-transfer.transfer-index _ c.loop-transfer-test.true c.loop-transfer.invariant

pub returns : goal.returns
returns c =
    let all : c.loop-transfer.transfer-index ≡ length c.args.transfers.now = omega arith in
    record { bare = c.loop-transfer.invariant ∙ ap (λ (n : ℕ). bare_front n c.args.transfers.now) all ∙ bare_whole c.args.transfers.now }
