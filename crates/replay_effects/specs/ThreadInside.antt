-- How a thread is kept.
use Rattle.std.specs.Prelude.{◌≡◌}
use Rattle.lf_model.specs.Run.{reads_of}
use Rattle.lf_model.specs.Step.{IsSound}
use Rattle.replay_effects.specs.Running.{Running}
use Rattle.replay_effects.specs.declared.thread.Thread.TheInside.{Inside}

abbrev pub running : Inside → Running
running t = record {
  setup = t.program.now.setup.now;
  core = t.arch.core;
  answers = t.answers.now;
  run = record {
    state = record { cells = t.cells; ctl = t.arch.ctl; wim = t.arch.wim; y = t.arch.y; out = t.out; halt = t.halt };
    ops = t.made;
  };
}

-- what holds of every thread
pub record IsThread (t : Inside) : Type 0 where
  pub sound : IsSound t.arch
  pub read : t.read ≡ reads_of t.made
