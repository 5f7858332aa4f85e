-- What AHBSTAT keeps, as its users see it.
use Rattle.std.specs.Prelude.{Option, Some, None}
use Rattle.lf_model.specs.Bus.Status.{AhbStatus, status_start}
use Rattle.ahb_status.specs.Inside.{registers_of}
use Rattle.ahb_status.specs.declared.note.Note.{Note}
use Rattle.ahb_status.specs.declared.status.Status.TheInside.{Inside}

abbrev pub registers : Option Note → AhbStatus
registers None = status_start
registers (Some n) = registers_of n

abbrev pub seen : Inside → AhbStatus
seen status = registers status.first
