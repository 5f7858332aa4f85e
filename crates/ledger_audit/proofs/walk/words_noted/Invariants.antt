use Rattle.std.proofs.Common.{◌≡◌, ◌≤◌, length}
use Rattle.lf_model.specs.Course.Syndromes.{syndromes_of}
use Rattle.ledger_audit.proofs.NotedWords.{noted_to}
use Rattle.ledger_audit.proofs.walk.words_noted.Given as goal

abbrev pub invariant-loop-place : goal.invariant-loop-place
invariant-loop-place l = (l.noted.items ≡ noted_to l.look.addr (syndromes_of l.look) l.place) × (length l.noted.items ≤ l.place)
