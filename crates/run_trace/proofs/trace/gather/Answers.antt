use Rattle.run_trace.proofs.Promised.{promised_regular, promised_headline, promised_ledger}
use Rattle.run_trace.proofs.trace.gather.Goals as goal

pub returns-clause-regular : goal.returns-clause-regular
returns-clause-regular c = promised_regular c.args.s.now c.args.cores c.args.bus c.args.watch c.requires.records c.assembled.result c.assembled.ensures.gathered c.assembled.ensures.fits
    c.assembled.ensures.words

pub returns-clause-headline : goal.returns-clause-headline
returns-clause-headline c = promised_headline c.args.s.now c.args.cores c.args.bus c.args.watch c.requires.records c.assembled.result c.assembled.ensures.gathered

pub returns-clause-ledger : goal.returns-clause-ledger
returns-clause-ledger c = promised_ledger c.args.s.now c.args.cores c.args.bus c.args.watch c.requires.records c.assembled.result c.assembled.ensures.gathered
