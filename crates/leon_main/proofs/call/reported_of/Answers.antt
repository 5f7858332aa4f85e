use Rattle.std.proofs.Common.{Option, refl}
use Rattle.std.proofs.lemmas.Result.{err_from_is_err_and}
use Rattle.lf_io.specs.Held.{FileMap}
use Rattle.leon_main.proofs.CauseLemmas.{file_holds, are_parts, stage_cause}
use Rattle.leon_main.proofs.call.reported_of.Goals as goal
use Rattle.leon_main.specs.Accepted.{SpellsReport}
use Rattle.leon_main.specs.Words.{Audit, FileNames, told}
use Rattle.leon_main.specs.declared.run_file.RunFile.TheVariants.{Report}

-- The first three files have a cause for each task.
pub returns-in_err-setup-clause-cause : goal.returns-in_err-setup-clause-cause
returns-in_err-setup-clause-cause g c =
    let p = err_from_is_err_and c.from_residual.result c.from_residual.ensures.1 in
    rw (p.1, p.2) (c.in_err-setup.ensures.cause Audit)

pub returns-in_err-trace-clause-cause : goal.returns-in_err-trace-clause-cause
returns-in_err-trace-clause-cause g c =
    let p = err_from_is_err_and c.from_residual-in_err-trace.result c.from_residual-in_err-trace.ensures.1 in
    let held : Option FileMap = g.F.Files.held c.args.files.now in
    let names : FileNames = told c.args.names in
    rw (p.1, p.2) (stage_cause Audit Report refl names held (g.F.Files.held c.setup_of.new.files) (g.F.Files.faults c.args.files.now)
    (g.F.Files.faults c.setup_of.new.files) (g.F.Files.faults c.report.new.files) c.in_ok-setup.setup
    c.in_err-trace.field-0.0 c.setup_of.ensures.kept (c.setup_of.ensures.never_falls names.last) c.in_ok-setup.ensures.spelled (c.in_err-trace.ensures.cause c.in_ok-setup.setup.config))

pub returns-clause-parts : goal.returns-clause-parts
returns-clause-parts g c =
    let held : Option FileMap = g.F.Files.held c.args.files.now in
    let names : FileNames = told c.args.names in
    are_parts Audit held names c.in_ok-setup.setup c.in_ok-trace.trace c.in_ok-setup.ensures.spelled
    (file_holds held (g.F.Files.held c.setup_of.new.files) names.last (λ bytes. SpellsReport bytes c.in_ok-trace.trace) c.setup_of.ensures.kept c.in_ok-trace.ensures.spelled)
