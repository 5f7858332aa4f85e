-- How a trial is kept.
use Rattle.std.specs.Prelude.{ℕ}
use Rattle.lf_model.specs.Run.{site_of}
use Rattle.lf_model.specs.Step.{Seen}
use Rattle.replay_effects.specs.Noted.{Noted}
use Rattle.replay_effects.specs.declared.trial.Trial.{Trial}

abbrev pub noted_in : Trial → Noted
noted_in t = record { reads = t.reads.items; writes = t.writes.items; access = t.access; got = t.got; waiting = t.waiting }

abbrev pub seen_in : Trial → Seen
seen_in t = record { site = site_of t.program.now.setup.now t.core; cells = t.cells; out = t.out; ops = t.made }

-- operations and output take no memory, so that there is always room
abbrev pub room_in : Trial → ℕ
room_in t = 1
