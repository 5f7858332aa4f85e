use Rattle.elf_image.proofs.HeaderLemmas.{headers_more}
use Rattle.elf_image.proofs.header.SectionHeader.read_all.Goals as goal

pub loop-i-preserved : goal.loop-i-preserved
loop-i-preserved c = headers_more _ _ _ _ _ c.loop-i.invariant c.in_ok-push.ensures.items c.read.ensures
