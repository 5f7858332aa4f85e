-- How much all actors have yet to make: an event makes some of it, or is passed over.
use Rattle.std.specs.Prelude.{ℕ, ◌+◌, ◌-◌, List, [], ◌∷◌, length}
use Rattle.lf_model.specs.Promise.Turns.{CoreLeft, Actors}

-- the steps and transfers that a core has yet to make
abbrev pub left_in : CoreLeft → ℕ
left_in c = c.steps - c.made + length c.transfers

abbrev pub left_in_all : List CoreLeft → ℕ
left_in_all [] = 0
left_in_all (c ∷ cs) = left_in c + left_in_all cs

-- with the turns of the scrubber
abbrev pub left_over : Actors → ℕ
left_over a = left_in_all a.cores + a.scrub_turns
