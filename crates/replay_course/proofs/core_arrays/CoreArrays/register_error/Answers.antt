use Rattle.std.proofs.Common.{refl}
use Rattle.replay_course.proofs.core_arrays.CoreArrays.register_error.Goals as goal

pub returns-in-RegisterStop : goal.returns-in-RegisterStop
returns-in-RegisterStop c k same = rw (same, c.in-RegisterStop.is, c.from.ensures, c.syndrome.ensures, c.cells.ensures) refl
