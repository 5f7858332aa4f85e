-- The transfers of a core as the bus records them: each has the kind and cause that its step needed, the address, the way and the
-- length that the core gave it, and as many words as memory reads for that. Their syndromes are for the record of the bus to say.
use Rattle.std.specs.Prelude.{ℕ, ◌≡◌, ◌+◌, ◌*◌, ◌==◌, ◌&&◌, List, [], length, take, Option, Some, None, option_map, slice_get, IfSome, if◌then◌else◌}
use Rattle.std.specs.Option.{option_to_list}
use Rattle.lf_model.specs.Bus.Words.{word_of, words_read}
use Rattle.lf_model.specs.Course.Core.{Ground, is_stop_at}
use Rattle.lf_model.specs.Course.Course.{up_to, course}
use Rattle.lf_model.specs.Course.Outcome.Need.{Turn}
use Rattle.lf_model.specs.Course.Progress.{Progress}
use Rattle.lf_model.specs.Course.Turn.{turn_attempt, turn_needs, addressed}
use Rattle.lf_model.specs.Course.Turned.{bad_wanted}
use Rattle.lf_model.specs.Effect.{Effect}
use Rattle.lf_model.specs.Run.{effect_at_pc}
use Rattle.lf_model.specs.declared.bus.Transfer.{Transfer}
use Rattle.lf_model.specs.declared.trace.CoreEnd.{CoreEnd}
use Rattle.lf_model.specs.declared.trace.CoreEnd.TheVariants.{Halt, Stop, Limit}
use Rattle.lf_model.specs.declared.trace.Word2.{Word2}

-- the core as the step of the transfer at this turn begins
abbrev pub before_turn : Ground → List Transfer → ℕ → Transfer → Progress
before_turn g transfers turn t = up_to g t (course g (take turn transfers))

abbrev pub next_effect : Ground → Progress → Effect
next_effect g k = effect_at_pc g.setup g.core k.run.state

-- a transfer with the number of words that memory reads for it
abbrev pub with_word_count : Transfer → Transfer
with_word_count t = record t { words = length (words_read t) }

-- a transfer of a core that has come so far
pub record IsRightTurn (g : Ground) (t : Transfer) (k : Progress) : Type 0 where
  pub needed : turn_needs g t.why (turn_attempt g t.why (next_effect g k) k) k ≡ Turn t.kind t.why
  pub placed : record (with_word_count (addressed g (next_effect g k) k t)) { syn = t.syn } ≡ t

-- the transfer at this turn, if it is the core's
abbrev pub OwnTurnAt : Ground → List Transfer → ℕ → Type 0
OwnTurnAt g transfers turn = IfSome (slice_get transfers turn) (λ t. g.core ≡ t.master → IsRightTurn g t (before_turn g transfers turn t))

-- ---- the word that a stop names

-- the transfer that is the place of an end
abbrev pub place_of_end : CoreEnd → Option ℕ
place_of_end (Stop tt_ place syn) = Some place
place_of_end (Halt tt_) = None
place_of_end Limit = None

abbrev pub named_by : Ground → Transfer → Progress → List Word2
named_by g t k = option_to_list (option_map (λ j. record { addr = word_of t.addr + 4 * j; value = Some t.turn }) (bad_wanted k.run.state.ctl.pc (next_effect g k) t))

abbrev pub named_at : Ground → List Transfer → ℕ → Option Transfer → List Word2
named_at g transfers turn None = []
named_at g transfers turn (Some t) = if is_stop_at turn g.end && g.core == t.master then named_by g t (before_turn g transfers turn t) else []

abbrev pub words_named_by : Ground → List Transfer → Option ℕ → List Word2
words_named_by g transfers None = []
words_named_by g transfers (Some turn) = named_at g transfers turn (slice_get transfers turn)

-- the word that the core's stop names, with the number of its transfer as the value; none without such a stop
abbrev pub words_named : Ground → List Transfer → List Word2
words_named g transfers = words_named_by g transfers (place_of_end g.end)
