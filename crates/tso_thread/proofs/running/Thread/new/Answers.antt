use Rattle.std.proofs.Common.{None, refl}
use Rattle.tso_thread.proofs.ThreadReset.{at_reset}
use Rattle.tso_thread.proofs.running.Thread.new.Goals as goal

pub returns-clause-reset : goal.returns-clause-reset
returns-clause-reset c =
    at_reset c.args.program.now.setup.now c.args.core c.args.ops.now c.args.room c.requires.core c.requires.room (record { arch = c.reset_arch.result; replay = c.in_ok-new.field-0; halt = None })
    refl c.reset_arch.ensures.control c.reset_arch.ensures.rest c.in_ok-new.ensures.program c.in_ok-new.ensures.ops c.in_ok-new.ensures.core c.in_ok-new.ensures.cells
    c.in_ok-new.ensures.empty (c.in_ok-new.ensures.room c.requires.room)
