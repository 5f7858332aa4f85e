-- The document that the parser reads, and a text that it refuses.
use Rattle.std.proofs.Common.{inr, refl}
use Rattle.run_texts.proofs.DocumentLemmas.{document_read, document_refused}
use Rattle.run_texts.proofs.document.document.Goals as goal

pub returns-in-Ok-clause-read : goal.returns-in-Ok-clause-read
returns-in-Ok-clause-read c = document_read _ _ c.in-Ok.ensures.ok.0 c.in-Ok.ensures.ok.1

pub returns-else-is_memory-clause-refused : goal.returns-else-is_memory-clause-refused
returns-else-is_memory-clause-refused c =
    inr (refl, document_refused _ (c.in-Err.ensures.refused (λ memory. let never = c.if-is_memory.ensures.1 memory in absurd cc)))
