-- A table whose keys are those of its section.
use Rattle.std.proofs.Common.{sym}
use Rattle.run_texts.proofs.DocumentLemmas.{known_table}
use Rattle.run_texts.proofs.document.is_known.Goals as goal

pub returns-in-Some : goal.returns-in-Some
returns-in-Some c = known_table _ _ c.in-Some.table.now _ (sym c.if-is_section.ensures) c.in-Some.ensures c.are_keys.ensures
