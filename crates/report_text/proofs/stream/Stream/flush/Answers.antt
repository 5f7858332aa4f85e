use Rattle.report_text.proofs.stream.Stream.flush.Goals as goal

pub returns-clause-written : goal.returns-clause-written
returns-clause-written g c = rw c.clear.ensures c.has_failed_with-self.ensures.written
