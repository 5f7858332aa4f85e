-- How the words are kept.
use Rattle.std.specs.List.{AllByRecursion}
use Rattle.flip_ledger.specs.Plan.{IsPlanned}
use Rattle.flip_ledger.specs.declared.plan.Owner.TheVariants.{Memory}
use Rattle.replay_words.specs.Places.{words_of, AreDistinct, IsAligned}
use Rattle.replay_words.specs.Striking.{IsPending}
use Rattle.replay_words.specs.WordsState.{WordsState}
use Rattle.replay_words.specs.declared.words.Words.TheInside.{Inside}

abbrev pub seen : Inside → WordsState
seen w = record { script = w.script.value; words = words_of w.places w.units.histories; turns = w.turns }

pub record IsWords (w : Inside) : Type 0 where
  pub distinct : AreDistinct w.places
  pub aligned : AllByRecursion IsAligned w.places
  pub planned : IsPlanned Memory w.script.value w.turns w.plan
  pub pending : IsPending w.script.value w.places w.units w.plan
