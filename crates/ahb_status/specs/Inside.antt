-- What is kept of a note, as the registers show it.
use Rattle.lf_model.specs.Bus.Status.{AhbStatus}
use Rattle.ahb_status.specs.Note.{hsize, note_with}
use Rattle.ahb_status.specs.declared.note.Note.{Note}

abbrev pub registers_of : Note → AhbStatus
registers_of n = note_with n.addr (hsize n.size) n.master n.write n.fixable
