-- A text on its way to a sink: how far it has come, and what a call adds to it.
use Rattle.std.specs.Prelude.{◌≡◌, ℕ, ◌≤◌, ◌<◌, Bool, true, false, List, ◌++◌, length, Option}
use Rattle.lf_io.specs.Count.{Rose}
use Rattle.lf_io.specs.Taken.{Takes, TakesNothing}
use Rattle.report_text.specs.declared.stream.Stream.{Stream}

-- how far a text has come: the bytes that the sink has taken, `None` where it does not tell them; the count of its faults;
-- the bytes that wait; and whether a write of the text failed
pub record Progress : Type 0 where
  pub taken : Option (List ℕ)
  pub faults : ℕ
  pub waiting : List ℕ
  pub failed : Bool

abbrev pub progress : Option (List ℕ) → ℕ → Stream → Progress
progress taken faults text = record { taken = taken; faults = faults; waiting = text.piece.items; failed = text.has_failed }

-- what was taken and what waits is what waited and the text
pub record Passed (old new : Option (List ℕ)) (waited waits text : List ℕ) : Type 0 where
  pub part : List ℕ
  pub taken : Takes old new part
  pub whole : part ++ waits ≡ waited ++ text

-- only a part of what waited and of the text was taken
pub record CutOff (old new : Option (List ℕ)) (waited text : List ℕ) : Type 0 where
  pub part : List ℕ
  pub lost : List ℕ
  pub taken : Takes old new part
  pub whole : part ++ lost ≡ waited ++ text
  pub some_lost : 0 < length lost

-- A call goes on with the text: no write failed; or one did in this call, which the sink has counted; or one did before,
-- and nothing more was taken.
abbrev pub GoesOn : Bool → Bool → Progress → Progress → List ℕ → Type 0
GoesOn false false old new text = Passed old.taken new.taken old.waiting new.waiting text
GoesOn false true old new text = CutOff old.taken new.taken old.waiting text × Rose old.faults new.faults
GoesOn true true old new text = TakesNothing old.taken new.taken
GoesOn true false old new text = ⊥

-- the text was written behind what stood there, as far as the sink takes it
pub record Writes (old new : Progress) (text : List ℕ) : Type 0 where
  pub never_falls : old.faults ≤ new.faults
  pub goes_on : GoesOn old.failed new.failed old new text
