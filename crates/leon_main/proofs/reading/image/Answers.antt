use Rattle.std.proofs.Common.{ℕ, List, subst}
use Rattle.lf_io.specs.Held.{content}
use Rattle.elf_image.specs.Answer.{IsFileOf}
use Rattle.leon_main.proofs.ReadingLemmas.{whole_holds}
use Rattle.std.proofs.lemmas.Result.{err_from_is_err_and}
use Rattle.leon_main.proofs.reading.image.Goals as goal

pub returns-in_err-bytes-clause-cause : goal.returns-in_err-bytes-clause-cause
returns-in_err-bytes-clause-cause g c =
    let p = err_from_is_err_and c.from_residual.result c.from_residual.ensures.1 in
    rw (p.1, p.2) (c.in_err-bytes.ensures.cause c.args.config.now)

pub returns-clause-spelled : goal.returns-clause-spelled
returns-clause-spelled g c =
    whole_holds (content (g.F.Files.held c.args.files.now) c.args.name.now) 67108864 c.in_ok-bytes.bytes.items
    (λ bytes. IsFileOf c.args.config.now.ram bytes c.in_ok-read_image.field-0) c.in_ok-bytes.ensures.whole
    (subst (λ (bytes : List ℕ). IsFileOf c.args.config.now.ram bytes c.in_ok-read_image.field-0) c.deref.ensures.value c.in_ok-read_image.ensures.found)
