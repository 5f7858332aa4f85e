use Rattle.std.proofs.Common.{◌∙◌, length-set, arith}
use Rattle.bus_memory.proofs.FateLemmas.{fates_next, fates_all}
use Rattle.bus_memory.proofs.record.note_fates.Goals as goal

pub loop-number-preserved : goal.loop-number-preserved
loop-number-preserved c = record {
  long = length-set c.loop-number.fates.items c.loop-number.number c.fate.result ∙ c.loop-number.invariant.long;
  fates = λ count named is.
      fates_next c.args.script.now.value c.args.transfers.now count named c.args.memory.now is c.loop-number.fates.items c.loop-number.invariant.long c.loop-number.number c.fate.result
      (omega (arith, c.loop-number-test.true, c.len-number-end.ensures, c.loop-number.invariant.long, c.requires.count, c.args.fates.now.ok.0))
      (c.loop-number.invariant.fates count named is) c.fate.ensures.struck c.fate.ensures.late;
}

pub returns : goal.returns
returns c = λ count named is.
    fates_all c.args.script.now.value c.args.transfers.now count named c.args.memory.now is c.loop-number.fates.items c.loop-number.invariant.long c.loop-number.number
    (omega (arith, c.loop-number-test.false, c.len-number-end.ensures, c.loop-number.invariant.long, c.requires.count, c.args.fates.now.ok.0))
    (c.loop-number.invariant.fates count named is)
