-- One event of a schedule: an actor makes its next step, its next turn, or the drain of a waiting store. Which turns on the bus
-- that gives, by the transfers that the actors have yet to make.
use Rattle.std.specs.Prelude.{ℕ, ◌+◌, ◌-◌, ◌==◌, ◌&&◌, nat_lt, not, Bool, true, false, List, [], ◌∷◌, ◌++◌, count_by, drop, Option, Some, None, slice_get, slice_set, if◌then◌else◌}
use Rattle.std.specs.Int.{from_bool}
use Rattle.lf_model.specs.Bus.Walk.{scrubber}
use Rattle.lf_model.specs.Names.{same_kind, same_why}
use Rattle.lf_model.specs.declared.bus.Transfer.{Transfer}
use Rattle.lf_model.specs.declared.bus.TurnKind.TheVariants.{Store}
use Rattle.lf_model.specs.declared.bus.Why.TheVariants.{Sched}
use Rattle.lf_model.specs.declared.setup.Actor.{Actor}
use Rattle.lf_model.specs.declared.setup.Actor.TheVariants.{Core, Drain, Scrub}

-- a turn on the bus: its master, and whether the schedule asked for a drain in one of the core's steps
pub record TurnMade : Type 0 where
  pub master : ℕ
  pub scheduled : Bool

-- the turn that a transfer reports
abbrev pub turn_of_transfer : Transfer → TurnMade
turn_of_transfer t = record { master = t.master; scheduled = same_why t.why Sched }

-- a core on its way: all its steps, the steps in which its stores retire, the steps that it made, the stores that it drained,
-- and the transfers that it has yet to make
pub record CoreLeft : Type 0 where
  pub steps : ℕ
  pub stores : List ℕ
  pub made : ℕ
  pub drained : ℕ
  pub transfers : List Transfer

-- all actors: the cores, the turns that the scrubber has yet to make, and the turns made on the bus
pub record Actors : Type 0 where
  pub cores : List CoreLeft
  pub scrub_turns : ℕ
  pub turns : List TurnMade

-- ---- a core

abbrev pub is_empty : List Transfer → Bool
is_empty [] = true
is_empty (t ∷ ts) = false

-- it has ended: its steps and its transfers are made
abbrev pub has_ended : CoreLeft → Bool
has_ended c = not (nat_lt c.made c.steps) && is_empty c.transfers

-- a store waits: more retired in earlier steps than were drained
abbrev pub waits : CoreLeft → Bool
waits c = nat_lt c.drained (count_by (λ step. nat_lt step c.made) c.stores)

-- its next transfer is one of this step
abbrev pub is_in : ℕ → Transfer → Bool
is_in step t = t.step == step

abbrev pub turns_in : ℕ → List Transfer → Bool
turns_in step [] = false
turns_in step (t ∷ ts) = is_in step t

abbrev pub drains_next : List Transfer → Bool
drains_next [] = false
drains_next (t ∷ ts) = same_kind t.kind Store

-- its next transfer is made
abbrev pub with_turn : CoreLeft → CoreLeft
with_turn c = record c { transfers = drop 1 c.transfers; drained = c.drained + from_bool (drains_next c.transfers) }

-- its next step, with the transfer of that step if it has one
abbrev pub with_step : CoreLeft → CoreLeft
with_step c = record (if turns_in c.made c.transfers then with_turn c else c) { made = c.made + 1 }

-- what an event makes of a core: the core then, and the turn on the bus, if it makes one
pub record Moved : Type 0 where
  pub core : CoreLeft
  pub turn : Option TurnMade

abbrev pub turn_by : ℕ → Bool → Option TurnMade
turn_by master scheduled = Some (record { master = master; scheduled = scheduled })

-- its next step, or the next drain after its last one
abbrev pub core_moved : ℕ → CoreLeft → Moved
core_moved n c = if has_ended c then record { core = c; turn = None }
    else if nat_lt c.made c.steps
    then record { core = with_step c; turn = if turns_in c.made c.transfers then turn_by n false else None }
    else record { core = with_turn c; turn = turn_by n false }

-- the drain of a waiting store, in its next step or after its last one
abbrev pub drain_moved : ℕ → CoreLeft → Moved
drain_moved n c = if has_ended c then record { core = c; turn = None }
    else if not (waits c) then record { core = c; turn = None }
    else if nat_lt c.made c.steps then record { core = with_step c; turn = turn_by n true }
    else record { core = with_turn c; turn = turn_by n false }

-- ---- all actors

abbrev pub with_option : Option TurnMade → List TurnMade → List TurnMade
with_option None turns = turns
with_option (Some turn) turns = turns ++ turn ∷ []

abbrev pub with_moved : ℕ → Actors → Moved → Actors
with_moved n a m = record a { cores = slice_set a.cores n m.core; turns = with_option m.turn a.turns }

-- core n moves, if there is one
abbrev pub moved_by : (CoreLeft → Moved) → ℕ → Actors → Option CoreLeft → Actors
moved_by move n a None = a
moved_by move n a (Some c) = with_moved n a (move c)

abbrev pub scrubbed : Actors → Actors
scrubbed a = if nat_lt 0 a.scrub_turns then record a { scrub_turns = a.scrub_turns - 1; turns = a.turns ++ record { master = scrubber; scheduled = false } ∷ [] } else a

-- one event; that of an actor that has ended is passed over, and so is a drain without a store that waits
abbrev pub event_made : ℕ → Actors → Actor → Actors
event_made n a Core = moved_by (core_moved n) n a (slice_get a.cores n)
event_made n a Drain = moved_by (drain_moved n) n a (slice_get a.cores n)
event_made n a Scrub = scrubbed a
