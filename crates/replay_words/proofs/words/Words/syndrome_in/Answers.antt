use Rattle.std.proofs.Common.{◌≡◌, ℕ, ◌+◌, ◌*◌, ap, ◌∙◌, arith}
use Rattle.lf_model.specs.Bus.Words.{word_history}
use Rattle.lf_model.specs.Flips.{syndrome}
use Rattle.replay_words.proofs.words.Words.syndrome_in.Goals as goal

pub returns : goal.returns
returns c =
    let addr : c.from.result + 4 * c.from-2.result ≡ c.args.line + 4 * c.args.word = omega (arith, c.from.ensures, c.from-2.ensures) in
    c.syndrome.ensures ∙ ap (λ (a : ℕ). syndrome (word_history c.args.self.now.words a)) addr
