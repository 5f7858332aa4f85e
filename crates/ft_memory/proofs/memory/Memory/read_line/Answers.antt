use Rattle.std.proofs.Common.{◌≡◌, arith}
use Rattle.ft_memory.proofs.LineLemmas.{shown_more, shown_all, line_made}
use Rattle.ft_memory.proofs.memory.Memory.read_line.Goals as goal

pub loop-j-preserved : goal.loop-j-preserved
loop-j-preserved c =
    let lt = c.loop-j-test.true in (
      shown_more c.loop-j.invariant.0 lt c.show-shown.ensures.word,
      shown_more c.loop-j.invariant.1 lt c.show-shown.ensures.syndrome,
      shown_more c.loop-j.invariant.2 lt c.show-shown.ensures.bad,
    )

pub returns : goal.returns
returns c =
    let all : c.loop-j.j ≡ 8 = omega (arith, c.loop-j-test.false, c.loop-j.auto.j-end) in
    line_made (shown_all c.loop-j.invariant.0 all) (shown_all c.loop-j.invariant.1 all) (shown_all c.loop-j.invariant.2 all)
