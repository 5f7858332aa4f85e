use Rattle.std.proofs.Common.{refl}
use Rattle.replay_words.proofs.words.Words.line_syndromes.Goals as goal

pub returns : goal.returns
returns c =
    rw (c.syndrome_in.ensures, c.syndrome_in-2.ensures, c.syndrome_in-3.ensures, c.syndrome_in-4.ensures, c.syndrome_in-5.ensures, c.syndrome_in-6.ensures, c.syndrome_in-7.ensures, c.syndrome_in-8.ensures) refl
