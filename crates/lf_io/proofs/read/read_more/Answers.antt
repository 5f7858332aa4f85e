use Rattle.std.proofs.Common.{arith}
use Rattle.lf_io.proofs.Reading.{start_after}
use Rattle.lf_io.proofs.read.read_more.Goals as goal

pub returns-then-len-place-clause-start : goal.returns-then-len-place-clause-start
returns-then-len-place-clause-start g c =
    start_after _ _ _ _ _ _ _ (omega (arith, c.if-len-place.true, c.len.ensures, c.args.bytes.now.ok.0)) c.in_ok-n.ensures.within c.extend_from_slice.ensures.items c.in_ok-n.ensures.bytes
