-- How a replayed core is kept.
use Rattle.std.specs.Prelude.{ℕ, ◌-◌, length, min, vec_len}
use Rattle.std.specs.Vec.{vec_capacity}
use Rattle.lf_model.specs.Run.{site_of}
use Rattle.lf_model.specs.Step.{Seen}
use Rattle.tso_thread.specs.ReplayState.{Answering}
use Rattle.tso_thread.specs.declared.replay.Replay.{Replay}

abbrev pub answering_in : Replay → Answering
answering_in r = record { ops = r.ops.now; made = length r.made }

abbrev pub seen_in : Replay → Seen
seen_in r = record { site = site_of r.program.now.setup.now r.core; cells = r.cells; out = r.out.items; ops = r.made }

-- the number of an operation is a word, and there is room for so many bytes of output
abbrev pub room_in : Replay → ℕ
room_in r = min (4294967295 - length r.made) (vec_capacity r.out - vec_len r.out)
