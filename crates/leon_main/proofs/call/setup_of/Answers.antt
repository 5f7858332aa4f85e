use Rattle.std.proofs.Common.{ℕ, ◌∙◌, List, Option, refl, arith}
use Rattle.std.specs.Prelude.{IfSome}
use Rattle.std.proofs.lemmas.Result.{err_from_is_err_and}
use Rattle.lf_io.specs.Held.{FileMap}
use Rattle.lf_model.specs.declared.setup.Setup.{Setup}
use Rattle.leon_main.proofs.call.setup_of.Goals as goal
use Rattle.leon_main.proofs.CauseLemmas.{blank, nothing_before, file_holds, both, spell_setup, stage_cause}
use Rattle.leon_main.proofs.PlayableLemmas.{playable}
use Rattle.leon_main.specs.Accepted.{bytes_of, SpellsConfiguration, SpellsImage, SpellsScript, AreAcceptedBefore}
use Rattle.leon_main.specs.Words.{FileNames, told}
use Rattle.leon_main.specs.declared.run_file.RunFile.TheVariants.{Configuration, Image, Script}

pub returns-in_err-config-clause-cause : goal.returns-in_err-config-clause-cause
returns-in_err-config-clause-cause g c =
    let p = err_from_is_err_and c.from_residual.result c.from_residual.ensures.1 in
    let held : Option FileMap = g.F.Files.held c.args.files.now in
    let before : List ℕ → ℕ = g.F.Files.faults c.args.files.now in
    rw (p.1, p.2) (λ task. stage_cause task Configuration tt (told c.args.names) held held before before (g.F.Files.faults c.configuration.new.files) blank
    c.in_err-config.field-0.0 refl (omega arith) (nothing_before held) (c.in_err-config.ensures.cause blank.config))

pub returns-in_err-image-clause-cause : goal.returns-in_err-image-clause-cause
returns-in_err-image-clause-cause g c =
    let p = err_from_is_err_and c.from_residual-in_err-image.result c.from_residual-in_err-image.ensures.1 in
    let held : Option FileMap = g.F.Files.held c.args.files.now in
    let names : FileNames = told c.args.names in
    let setup : Setup = record blank { config = c.in_ok-config.config } in
    let accepted : IfSome held (λ files. AreAcceptedBefore Image names files setup) =
    file_holds held held names.configuration (λ bytes. SpellsConfiguration bytes setup.config) refl c.in_ok-config.ensures.spelled in
    rw (p.1, p.2) (λ task. stage_cause task Image tt names held (g.F.Files.held c.configuration.new.files) (g.F.Files.faults c.args.files.now)
    (g.F.Files.faults c.configuration.new.files) (g.F.Files.faults c.image.new.files) setup
    c.in_err-image.field-0.0 c.configuration.ensures.kept (c.configuration.ensures.never_falls names.image) accepted c.in_err-image.ensures.cause)

pub returns-in_err-flips-clause-cause : goal.returns-in_err-flips-clause-cause
returns-in_err-flips-clause-cause g c =
    let p = err_from_is_err_and c.from_residual-in_err-flips.result c.from_residual-in_err-flips.ensures.1 in
    let held : Option FileMap = g.F.Files.held c.args.files.now in
    let names : FileNames = told c.args.names in
    let setup : Setup = record blank { config = c.in_ok-config.config; image = c.in_ok-image.image } in
    let configuration = file_holds held held names.configuration (λ bytes. SpellsConfiguration bytes setup.config) refl c.in_ok-config.ensures.spelled in
    let image = file_holds held (g.F.Files.held c.configuration.new.files) names.image (λ bytes. SpellsImage setup.config bytes setup.image) c.configuration.ensures.kept c.in_ok-image.ensures.spelled in
    let accepted : IfSome held (λ files. AreAcceptedBefore Script names files setup) =
    both held (λ files. SpellsConfiguration (bytes_of files names.configuration) setup.config) (λ files. SpellsImage setup.config (bytes_of files names.image) setup.image) configuration image in
    let first = c.configuration.ensures.never_falls names.script in
    let second = c.image.ensures.never_falls names.script in
    rw (p.1, p.2) (λ task. stage_cause task Script tt names held (g.F.Files.held c.image.new.files) (g.F.Files.faults c.args.files.now)
    (g.F.Files.faults c.image.new.files) (g.F.Files.faults c.script.new.files) setup
    c.in_err-flips.field-0.0 (c.image.ensures.kept ∙ c.configuration.ensures.kept) (omega (arith, first, second)) accepted c.in_err-flips.ensures.cause)

-- What the three files spell is a setup.
pub returns-clause-spelled : goal.returns-clause-spelled
returns-clause-spelled g c =
    let held : Option FileMap = g.F.Files.held c.args.files.now in
    let names : FileNames = told c.args.names in
    let setup : Setup = record { config = c.in_ok-config.config; image = c.in_ok-image.image; flips = c.in_ok-flips.flips } in
    spell_setup held names setup
    (file_holds held held names.configuration (λ bytes. SpellsConfiguration bytes setup.config) refl c.in_ok-config.ensures.spelled)
    (file_holds held (g.F.Files.held c.configuration.new.files) names.image (λ bytes. SpellsImage setup.config bytes setup.image) c.configuration.ensures.kept c.in_ok-image.ensures.spelled)
    (file_holds held (g.F.Files.held c.image.new.files) names.script (λ bytes. SpellsScript setup.config bytes setup.flips) (c.image.ensures.kept ∙ c.configuration.ensures.kept) c.in_ok-flips.ensures.spelled)

-- What the readers promise makes the setup one that can be played.
pub returns-clause-playable : goal.returns-clause-playable
returns-clause-playable g c =
    playable (record { config = c.in_ok-config.config; image = c.in_ok-image.image; flips = c.in_ok-flips.flips }) c.in_ok-config.ensures.of_table
    c.in_ok-image.ensures.loadable c.in_ok-flips.ensures.few c.in_ok-flips.ensures.of_machine
