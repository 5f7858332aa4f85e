use Rattle.ft_memory.proofs.ReadLemmas.{good_answer, lost_answer, good_shown, bad_shown}
use Rattle.ft_memory.proofs.memory.Memory.peek.Goals as goal

pub returns-in-Ok : goal.returns-in-Ok
returns-in-Ok c =
    let is = good_answer c.args.self.now c.args.addr c.in-Ok.got c.in-Ok.ensures in
    good_shown c.args.self.now c.args.addr c.in-Ok.got.value is.value is.not_bad

pub returns-in-Err : goal.returns-in-Err
returns-in-Err c = bad_shown c.args.self.now c.args.addr (lost_answer c.args.self.now c.args.addr c.in-Err.field-0 c.in-Err.ensures).bad
