use Rattle.replay_words.proofs.FateLemmas.{has_fate}
use Rattle.replay_words.proofs.words.Words.fate.Goals as goal

pub returns : goal.returns
returns c =
    let words = c.self.inside in
    rw (← c.self.view_is) (has_fate words.script.value words.places words.units words.plan c.self.invariant.pending c.args.number c.fate.result c.fate.ensures.struck c.fate.ensures.late)
