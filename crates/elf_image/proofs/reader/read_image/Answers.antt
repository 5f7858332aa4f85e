use Rattle.elf_image.proofs.Loadable.{loadable_of}
use Rattle.elf_image.proofs.reader.read_image.Goals as goal

pub returns-clause-loadable : goal.returns-clause-loadable
returns-clause-loadable c = loadable_of c.args.ram c.args.b.now c.image_of.result c.image_of.ensures.found
