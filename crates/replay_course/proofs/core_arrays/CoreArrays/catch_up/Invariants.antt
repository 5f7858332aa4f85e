use Rattle.std.proofs.Common.{◌≡◌, ◌≤◌, take}
use Rattle.lf_model.specs.Course.Turn.{caught_up}
use Rattle.replay_course.proofs.core_arrays.CoreArrays.catch_up.Given as goal
use Rattle.replay_course.specs.CoreArrays.{uses_of, with_arrays}

abbrev pub invariant-loop-addr : goal.invariant-loop-addr
invariant-loop-addr l =
    (l.self ≡ with_arrays (caught_up (take l.addr-index l.unseen) l.initial.self.arrays.arrays) l.initial.self)
    × (uses_of l.self ≤ uses_of l.initial.self)
