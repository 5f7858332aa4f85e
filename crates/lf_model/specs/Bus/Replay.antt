-- The run of all masters over the transfers of a trace. Of a core's transfer it takes master, step, kind and cause, and of the
-- scrubber's the master; all else it makes itself: each address by the core or the walk, and what memory answers by the
-- histories of the words.
use Rattle.std.specs.Prelude.{ℕ, ◌+◌, ◌*◌, ◌==◌, List, [], ◌∷◌, ◌++◌, map, fold, Option, Some, None, option_map, slice_get, nat_lt, if◌then◌else◌}
use Rattle.lf_model.specs.Bus.Walk.{Walk, scrubber, walk_start, next_transfer, walked}
use Rattle.lf_model.specs.Bus.Words.{Word, words_struck, words_begun, word_of, answered, words_after}
use Rattle.lf_model.specs.Course.Core.{Ground, is_stop_at}
use Rattle.lf_model.specs.Course.Course.{up_to, observe, finished}
use Rattle.lf_model.specs.Course.Outcome.{Need}
use Rattle.lf_model.specs.Course.Outcome.Need.{NoTurn, Turn}
use Rattle.lf_model.specs.Course.Progress.{Progress, start}
use Rattle.lf_model.specs.Course.Syndromes.{enters_log}
use Rattle.lf_model.specs.Course.Turn.{Target, target_of, addressed, turn_attempt, turn_needs}
use Rattle.lf_model.specs.Course.Turned.{bad_wanted}
use Rattle.lf_model.specs.Effect.{Effect}
use Rattle.lf_model.specs.Run.{effect_at_pc}
use Rattle.lf_model.specs.declared.bus.Transfer.{Transfer}
use Rattle.lf_model.specs.declared.setup.Setup.{Setup}

-- a core: what it runs on, and how far it has come
pub record Core : Type 0 where
  pub on : Ground
  pub progress : Progress

-- a store or an atomic in the log: its core, and its number there
pub record LogEntry : Type 0 where
  pub core : ℕ
  pub number : ℕ

-- a turn as it is made: its transfer, what the step of a core or the walk of the scrubber needed, the entry that it puts into the
-- log, and the word that an error trap names
pub record Made : Type 0 where
  pub transfer : Transfer
  pub need : Need
  pub entry : Option LogEntry
  pub named : Option ℕ

pub record Replay : Type 0 where
  pub cores : List Core
  pub walk : Walk
  pub words : List Word
  pub turns : ℕ
  pub made : List Made

abbrev pub core_start : Ground → Core
core_start g = record { on = g; progress = start g }

abbrev pub replay_start : Setup → List Ground → Replay
replay_start setup grounds = record {
  cores = map core_start grounds;
  walk = walk_start setup.config.scrub;
  words = words_struck setup.flips;
  turns = 0;
  made = [];
}

-- ---- a turn of a core

abbrev pub entry_of : Ground → Transfer → Target → Option LogEntry
entry_of g t p = if enters_log t then Some (record { core = g.core; number = p.number }) else None

-- the word that the core's stop names, if this turn is its place
abbrev pub name_of : Ground → Transfer → Option ℕ → Option ℕ
name_of g t bad = if is_stop_at t.turn g.end then option_map (λ j. word_of t.addr + 4 * j) bad else None

abbrev pub entry_at : Ground → Transfer → Option Target → Option LogEntry
entry_at g t None = None
entry_at g t (Some p) = entry_of g t p

-- the turn of a core that has come so far, with this transfer
abbrev pub made_of : Ground → Effect → Progress → Transfer → Transfer → Made
made_of g e k reported t = record {
  transfer = t;
  need = turn_needs g reported.why (turn_attempt g reported.why e k) k;
  entry = entry_at g t (target_of g k e t.kind);
  named = name_of g t (bad_wanted k.run.state.ctl.pc e t);
}

abbrev pub made_at : Ground → List Word → Transfer → Progress → Effect → Made
made_at g words t k e = made_of g e k t (answered words (addressed g e k t))

abbrev pub made_by_core : List Word → Transfer → Core → Made
made_by_core words t c = let k = up_to c.on t c.progress in made_at c.on words t k (effect_at_pc c.on.setup c.on.core k.run.state)

-- ---- a turn that nobody needs: one of no master, or of the scrubber with no turn left

abbrev pub made_by_none : Transfer → Made
made_by_none t = record { transfer = record t { addr = 0; way = 0; words = 0; syn = 0; len = 0 }; need = NoTurn; entry = None; named = None }

-- ---- a turn of the scrubber

abbrev pub made_by_walk : List Word → Transfer → Made
made_by_walk words t = record { transfer = answered words t; need = Turn t.kind t.why; entry = None; named = None }

-- the next transfer of its walk, while it has turns left
abbrev pub made_by_scrubber : ℕ → List Word → ℕ → Walk → Transfer → Made
made_by_scrubber scrub_turns words turn w t = if nat_lt w.turns scrub_turns then made_by_walk words (next_transfer turn w w.noted) else made_by_none t

-- ---- a turn of a core, or of no master

abbrev pub made_by_master : List Word → Transfer → Option Core → Made
made_by_master words t None = made_by_none t
made_by_master words t (Some c) = made_by_core words t c

-- ---- a turn

-- the turn that a transfer reports, with these words as it begins
unfoldable pub made_turn : Setup → Replay → List Word → Transfer → Made
made_turn setup r words t = if t.master == scrubber then made_by_scrubber setup.config.scrub_turns words r.turns r.walk t
    else made_by_master words (record t { turn = r.turns }) (slice_get r.cores t.master)

abbrev pub core_after : Transfer → Core → Core
core_after t c = record c { progress = observe c.on c.progress t }

-- all masters after a turn that was made
abbrev pub replayed : Setup → Replay → List Word → Made → Replay
replayed setup r words made = record {
  cores = map (core_after made.transfer) r.cores;
  walk = if made.transfer.master == scrubber then walked setup.config.scrub made.transfer r.walk r.walk.noted else r.walk;
  words = words_after made.transfer made.named words;
  turns = r.turns + 1;
  made = r.made ++ made ∷ [];
}

unfoldable pub replay_turn : Setup → Replay → Transfer → Replay
replay_turn setup r t =
    let words = words_begun setup.flips r.turns r.words in
    let made = made_turn setup r words t in
    replayed setup r words made

abbrev pub core_finished : Core → Core
core_finished c = record c { progress = finished c.on c.progress }

-- the cores make the steps after their last transfers
abbrev pub replay_finished : Replay → Replay
replay_finished r = record r { cores = map core_finished r.cores }

-- all masters after these transfers
unfoldable pub replay : Setup → List Ground → List Transfer → Replay
replay setup grounds transfers = replay_finished (fold (replay_turn setup) (replay_start setup grounds) transfers)
