use Rattle.std.proofs.Common.{sym, ap, ◌∙◌, Bool, cond}
use Rattle.ft_memory.specs.Memory.{value_at}
use Rattle.ft_memory.proofs.ReadLemmas.{good_answer, lost_answer}
use Rattle.ft_memory.proofs.memory.Memory.show.Goals as goal

pub returns-in-Ok-clause-word : goal.returns-in-Ok-clause-word
returns-in-Ok-clause-word c =
    let m = c.args.self.now in
    let is = good_answer m c.args.addr c.in-Ok.got c.in-Ok.ensures in
    is.value ∙ sym (ap (λ (b : Bool). cond b 0 (value_at m c.args.addr)) is.not_bad)

pub returns-in-Ok-clause-syndrome : goal.returns-in-Ok-clause-syndrome
returns-in-Ok-clause-syndrome c = (good_answer c.args.self.now c.args.addr c.in-Ok.got c.in-Ok.ensures).syn

pub returns-in-Ok-clause-bad : goal.returns-in-Ok-clause-bad
returns-in-Ok-clause-bad c = sym (good_answer c.args.self.now c.args.addr c.in-Ok.got c.in-Ok.ensures).not_bad

pub returns-in-Err-clause-word : goal.returns-in-Err-clause-word
returns-in-Err-clause-word c =
    let m = c.args.self.now in
    sym (ap (λ (b : Bool). cond b 0 (value_at m c.args.addr)) (lost_answer m c.args.addr c.in-Err.word c.in-Err.ensures).bad)

pub returns-in-Err-clause-syndrome : goal.returns-in-Err-clause-syndrome
returns-in-Err-clause-syndrome c = (lost_answer c.args.self.now c.args.addr c.in-Err.word c.in-Err.ensures).syn

pub returns-in-Err-clause-bad : goal.returns-in-Err-clause-bad
returns-in-Err-clause-bad c = sym (lost_answer c.args.self.now c.args.addr c.in-Err.word c.in-Err.ensures).bad
