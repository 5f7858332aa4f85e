use Rattle.std.proofs.Common.{sym, subst, ap, ◌∙◌}
use Rattle.elf_image.specs.Answer.{IsFileOf}
use Rattle.elf_image.specs.Written.{written_program}
use Rattle.elf_image.proofs.RoundTrip.{reads_back}
use Rattle.elf_image.proofs.writer.write_image.Goals as goal

pub returns-clause-reads_back : goal.returns-clause-reads_back
returns-clause-reads_back c ram small plain =
    let image = c.args.i.now in
    let bytes = c.in_ok-file.ensures.bytes ∙ ap (written_program image.entry) c.as_slice.ensures.items in
    subst (λ file. IsFileOf ram file image) (sym bytes) (reads_back ram image small c.program_file.ensures.field plain)
