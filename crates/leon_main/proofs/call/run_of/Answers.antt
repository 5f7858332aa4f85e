use Rattle.std.proofs.Common.{Option, refl}
use Rattle.std.proofs.lemmas.Result.{err_from_is_err_and}
use Rattle.lf_io.specs.Held.{FileMap}
use Rattle.leon_main.proofs.CauseLemmas.{file_holds, are_parts, stage_cause}
use Rattle.leon_main.proofs.call.run_of.Goals as goal
use Rattle.leon_main.specs.Accepted.{SpellsSchedule}
use Rattle.leon_main.specs.Words.{Play, FileNames, told}
use Rattle.leon_main.specs.declared.run_file.RunFile.TheVariants.{Schedule}

-- The first three files have a cause for each task.
pub returns-in_err-setup-clause-cause : goal.returns-in_err-setup-clause-cause
returns-in_err-setup-clause-cause g c =
    let p = err_from_is_err_and c.from_residual.result c.from_residual.ensures.1 in
    rw (p.1, p.2) (c.in_err-setup.ensures.cause Play)

pub returns-in_err-events-clause-cause : goal.returns-in_err-events-clause-cause
returns-in_err-events-clause-cause g c =
    let p = err_from_is_err_and c.from_residual-in_err-events.result c.from_residual-in_err-events.ensures.1 in
    let held : Option FileMap = g.F.Files.held c.args.files.now in
    let names : FileNames = told c.args.names in
    rw (p.1, p.2) (stage_cause Play Schedule refl names held (g.F.Files.held c.setup_of.new.files) (g.F.Files.faults c.args.files.now)
    (g.F.Files.faults c.setup_of.new.files) (g.F.Files.faults c.schedule.new.files) c.in_ok-setup.setup
    c.in_err-events.field-0.0 c.setup_of.ensures.kept (c.setup_of.ensures.never_falls names.last) c.in_ok-setup.ensures.spelled c.in_err-events.ensures.cause)

pub returns-clause-parts : goal.returns-clause-parts
returns-clause-parts g c =
    let held : Option FileMap = g.F.Files.held c.args.files.now in
    let names : FileNames = told c.args.names in
    are_parts Play held names c.in_ok-setup.setup c.in_ok-events.events.items c.in_ok-setup.ensures.spelled
    (file_holds held (g.F.Files.held c.setup_of.new.files) names.last (λ bytes. SpellsSchedule c.in_ok-setup.setup.config bytes c.in_ok-events.events.items) c.setup_of.ensures.kept c.in_ok-events.ensures.spelled)
