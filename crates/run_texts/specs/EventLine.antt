-- A line of a schedule, as the list of its fields: the faults that it may have, and the event that it spells.
use Rattle.std.specs.Prelude.{ℕ, ◌≡◌, ◌+◌, ◌<◌, ◌≤◌, ◌==◌, if◌then◌else◌, List, [], ◌∷◌, ◌++◌, length, find, Option, Some, None, option_map, option_and_then, codes}
use Rattle.std.specs.Option.{option_map_or}
use Rattle.std.specs.Str.{bytes_eq}
use Rattle.lf_model.specs.declared.config.Config.{Config}
use Rattle.lf_model.specs.declared.setup.Actor.{Actor}
use Rattle.lf_model.specs.declared.setup.Actor.TheVariants.{Core, Drain, Scrub}
use Rattle.lf_model.specs.declared.setup.Event.{Event}
use Rattle.run_texts.specs.declared.error.TextWhy.{TextWhy}
use Rattle.run_texts.specs.declared.error.TextWhy.TheVariants.{Word}
use Rattle.run_texts.specs.Text.{is_comment}
use Rattle.run_texts.specs.Columns.{Column, below, between, field_faults, first_fault, values}

-- the actors of events, each behind the first field that names it
abbrev pub actors : List (List ℕ × Actor)
actors = (codes "core", Core) ∷ (codes "drain", Drain) ∷ (codes "scrub", Scrub) ∷ []

-- the actor that a first field names, None where the field is unknown
unfoldable pub actor_of : List ℕ → Option Actor
actor_of first = option_map (λ row. row.1) (find (λ row. bytes_eq first row.0) actors)

-- how often an event comes
abbrev pub times : Column
times = between 1 8000000

-- the columns behind the first field: the number of a core, for a step or a drain of it, and how often that comes
abbrev pub columns : Config → Actor → List Column
columns config Core = below config.cores ∷ times ∷ []
columns config Drain = below config.cores ∷ times ∷ []
columns config Scrub = times ∷ []

-- the fields for these columns, where the last may be left out and is then 1
abbrev pub with_count : List Column → List (List ℕ) → List (List ℕ)
with_count columns fields = if length fields + 1 == length columns then fields ++ codes "1" ∷ [] else fields

-- the event of an actor with the values of its columns, None where they are too few or too many
abbrev pub event_with : Actor → List ℕ → Option Event
event_with Core (core ∷ count ∷ []) = Some (record { actor = Core; core = core; count = count })
event_with Drain (core ∷ count ∷ []) = Some (record { actor = Drain; core = core; count = count })
event_with Scrub (count ∷ []) = Some (record { actor = Scrub; core = 0; count = count })
event_with _ _ = None

-- the fault of the fields behind the first one, and what they spell where they have none
abbrev pub fields_fault : Config → Actor → List (List ℕ) → Option TextWhy
fields_fault config actor others =
    first_fault (field_faults (columns config actor) (with_count (columns config actor) others))

abbrev pub fields_event : Config → Actor → List (List ℕ) → Option Event
fields_event config actor others =
    event_with actor (values (columns config actor) (with_count (columns config actor) others))

-- the fault that is told of a line; an empty line and a comment have none
unfoldable pub fault_of : Config → List (List ℕ) → Option TextWhy
fault_of config [] = None
fault_of config (first ∷ others) =
    if is_comment first then None else option_map_or (λ actor. fields_fault config actor others) (actor_of first) (Some Word)

-- the event that a line without a fault spells; an empty line and a comment spell none
unfoldable pub event_of : Config → List (List ℕ) → Option Event
event_of config [] = None
event_of config (first ∷ others) =
    if is_comment first then None else option_and_then (λ actor. fields_event config actor others) (actor_of first)

-- the number of a core of the machine, and 0 for the scrubber
abbrev pub IsActorOf : Config → Actor → ℕ → Type 0
IsActorOf config Core core = core < config.cores
IsActorOf config Drain core = core < config.cores
IsActorOf config Scrub core = core ≡ 0

-- an event is of an actor of the machine of this configuration, and comes 1 to 8,000,000 times
abbrev pub IsEventOf : Config → Event → Type 0
IsEventOf config event = IsActorOf config event.actor event.core × (1 ≤ event.count) × (event.count ≤ 8000000)
