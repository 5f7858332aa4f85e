-- A configuration without a fault is one that the table of keys takes, and want of memory is no fault.
use Rattle.std.proofs.Common.{sym}
use Rattle.run_texts.proofs.AnswerLemmas.{never_memory}
use Rattle.run_texts.proofs.TableLemmas.{of_table}
use Rattle.run_texts.proofs.config.read_config.Goals as goal

pub returns-clause-of_table : goal.returns-clause-of_table
returns-clause-of_table c =
    let same = c.in_ok-config.ensures in
    rw same (of_table _ (rw same at (sym c.in-None.ensures)))

pub returns-clause-of_text : goal.returns-clause-of_text
returns-clause-of_text c = never_memory c.args.text.now

pub returns-in-Some-clause-of_text : goal.returns-in-Some-clause-of_text
returns-in-Some-clause-of_text c = never_memory c.args.text.now

pub returns-in_err-document-clause-of_text : goal.returns-in_err-document-clause-of_text
returns-in_err-document-clause-of_text c = never_memory c.args.text.now

pub returns-in_err-config-clause-of_text : goal.returns-in_err-config-clause-of_text
returns-in_err-config-clause-of_text c = never_memory c.args.text.now
