-- How a core is kept.
use Rattle.std.specs.Prelude.{◌≡◌, ◌+◌, ◌*◌, ◌≤◌, length, map}
use Rattle.lf_model.specs.Bus.Replay.{Core}
use Rattle.lf_model.specs.Course.Arrays.{Arrays}
use Rattle.lf_model.specs.Course.Progress.{Progress}
use Rattle.replay_course.specs.CoreArrays.{rest_of, uses_of}
use Rattle.replay_course.specs.Grounds.{ground_of}
use Rattle.replay_course.specs.Progresses.{completion_of, error_of}
use Rattle.replay_course.specs.declared.replayed_core.Core.TheInside.{Inside}
use Rattle.replay_course.specs.declared.course.Course.{Course}

abbrev pub progress_of : Course → Arrays → Progress
progress_of c a = record {
  steps = c.counts.steps;
  turns = c.counts.turns;
  quiet = c.counts.quiet;
  retired = c.counts.retired;
  run = c.thread.run;
  stored = c.counts.stored;
  drained = c.counts.drained;
  arrays = a;
  unseen = c.notes.unseen.items;
  seen = c.counts.seen;
  completions = map completion_of c.notes.completions.items;
  errors = map error_of c.notes.errors.items;
  owed = c.counts.owed;
}

abbrev pub seen : Inside → Core
seen c = record { on = ground_of c.ground; progress = progress_of c.course c.arrays.arrays.arrays }

pub record IsCore (c : Inside) : Type 0 where
  -- the thread and the arrays are of this core
  pub thread : c.course.thread ≡ record {
    setup = c.ground.program.now.setup.now;
    core = c.ground.core;
    answers = c.ground.given.answers.now;
    run = c.course.thread.run;
  }
  pub arrays : rest_of c.arrays ≡ record {
    script = c.ground.program.now.setup.now.flips;
    core = c.ground.core;
    steps = c.course.counts.steps;
  }
  -- what its steps and turns bound
  pub steps : c.course.counts.steps ≤ c.ground.steps
  pub quiet : c.course.counts.quiet ≤ c.course.counts.steps
  pub owed : c.course.counts.owed ≤ c.course.counts.steps
  pub retired : c.course.counts.retired ≤ c.course.counts.steps + c.course.counts.turns
  pub stored : c.course.counts.stored ≤ c.course.counts.steps + c.course.counts.turns
  pub drained : c.course.counts.drained ≤ c.course.counts.turns
  pub operations : length c.course.thread.run.ops ≤ c.course.counts.steps + c.course.counts.turns
  pub uses : uses_of c.arrays ≤ 4 * (c.course.counts.steps + c.course.counts.turns)
