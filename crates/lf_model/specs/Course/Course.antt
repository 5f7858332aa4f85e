-- The course of a core over the transfers on the bus. Of another's transfer it takes what its data cache will snoop; up to its
-- own it makes local steps, and then its turn.
use Rattle.std.specs.Prelude.{◌-◌, ◌==◌, ◌++◌, [], ◌∷◌, List, ℕ, fold, if◌then◌else◌}
use Rattle.lf_model.specs.Course.Core.{Ground}
use Rattle.lf_model.specs.Course.LocalStep.{local_steps}
use Rattle.lf_model.specs.Course.Progress.{Progress, start}
use Rattle.lf_model.specs.Course.Syndromes.{enters_log}
use Rattle.lf_model.specs.Course.Turned.{own_turn}
use Rattle.lf_model.specs.declared.bus.Transfer.{Transfer}

-- the address at which a transfer stores, if it does
abbrev pub stored_at : Transfer → List ℕ
stored_at t = if enters_log t then t.addr ∷ [] else []

-- the core with stores of others that it has not yet seen
abbrev pub with_unseen : List ℕ → Progress → Progress
with_unseen addrs k = record k { unseen = k.unseen ++ addrs }

-- a transfer of another
abbrev pub others_turn : Transfer → Progress → Progress
others_turn t k = with_unseen (stored_at t) k

-- the core as its own transfer's step begins: the steps before it are local
abbrev pub up_to : Ground → Transfer → Progress → Progress
up_to g t k = local_steps g (t.step - k.steps) k

-- the core after a transfer on the bus
unfoldable pub observe : Ground → Progress → Transfer → Progress
observe g k t = if g.core == t.master then own_turn g t (up_to g t k) else others_turn t k

-- the core after these transfers
abbrev pub course : Ground → List Transfer → Progress
course g transfers = fold (observe g) (start g) transfers

-- the core at its end: the steps after its last transfer are local
abbrev pub finished : Ground → Progress → Progress
finished g k = local_steps g (g.steps - k.steps) k
