use Rattle.lf_io.proofs.Storing.{insert_shown}
use Rattle.lf_io.proofs.stored.StoredFiles.put.Goals as goal

pub returns-clause-ok : goal.returns-clause-ok
returns-clause-ok c =
    rw (← c.self.view_is, ← c.in_ok-name.ensures.ok, ← c.in_ok-bytes.ensures.items)
    (insert_shown c.self.inside.files c.insert.new.self c.in_ok-name.name c.in_ok-bytes.bytes c.in_ok-insert.ensures.updates)
