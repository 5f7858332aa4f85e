use Rattle.std.proofs.Common.{ℕ, ◌≡◌, ◌++◌, subst}
use Rattle.lf_model.specs.Texts.{hex}
use Rattle.report_text.proofs.Writing.{line_put}
use Rattle.report_text.proofs.cores.write_pair.Goals as goal

pub returns : goal.returns
returns g c = record {
  written = line_put _ _ _ _ _ _ _ c.make_room.ensures.written
      (subst (λ (n : ℕ). c.put_hex.new.piece.items ≡ c.make_room.new.self.piece.items ++ hex 2 n) c.from.ensures c.put_hex.ensures.appended);
}
