use Rattle.report_text.proofs.Writing.{still_failed, piece_taken, piece_cut}
use Rattle.report_text.proofs.stream.has_failed_with.Goals as goal

pub returns-then-has_failed : goal.returns-then-has_failed
returns-then-has_failed g c = record { written = still_failed _ _ _ _ c.if-has_failed.true }

pub returns-in-Ok : goal.returns-in-Ok
returns-in-Ok g c = record {
  written = piece_taken _ _ _ _ _ _ c.if-has_failed.false c.put_all.ensures.never_falls
      (rw (← c.as_slice.ensures.value) c.in-Ok.ensures.whole);
}

pub returns-in-Err : goal.returns-in-Err
returns-in-Err g c = record {
  written = piece_cut _ _ _ _ _ _ c.if-has_failed.false c.put_all.ensures.never_falls
      (rw (← c.as_slice.ensures.value) c.in-Err.ensures.part) c.in-Err.ensures.cause;
}
