-- What a core runs on, as the course has it.
use Rattle.lf_model.specs.Course.Core.{Given as Gives, Ground as Runs}
use Rattle.lf_model.specs.Course.Core.{ground_of as ground_with}
use Rattle.replay_course.specs.declared.ground.Given.{Given}
use Rattle.replay_course.specs.declared.ground.Ground.{Ground}

abbrev pub given_of : Given → Gives
given_of g = record { answers = g.answers.now; stores = g.stores.now }

abbrev pub ground_of : Ground → Runs
ground_of g = ground_with g.program.now.setup.now g.core (given_of g.given) g.end g.steps
