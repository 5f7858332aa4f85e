-- The scrubber as its users see it.
use Rattle.std.specs.Prelude.{◌≡◌, ℕ, ◌+◌, ◌*◌, ◌%◌, ◌<◌, ◌≤◌, ◌==◌, not, List, [], length, map, filter, slice_index, IsTrue}
use Rattle.std.specs.List.{range_with_len}
use Rattle.lf_model.specs.Bus.Walk.{Walk, next_transfer, walk_after}
use Rattle.lf_model.specs.Start.{is_in_ram}
use Rattle.lf_model.specs.declared.config.Config.{Config}
use Rattle.ahb_bus.specs.BusState.{BusState, after_turn}

pub record WalkState : Type 0 where
  pub config : Config
  -- how far its walk has come
  pub walk : Walk

-- the range is of whole lines in RAM, at least one, and RAM and turns are in their limits
pub record IsScrubRange (config : Config) : Type 0 where
  pub first : config.scrub.first % 32 ≡ 0
  pub lines : config.scrub.length % 32 ≡ 0
  pub some_line : 0 < config.scrub.length
  pub in_ram : IsTrue (is_in_ram config.ram config.scrub.first config.scrub.length)
  pub ram : config.ram ≤ 16777216
  pub turns : config.scrub_turns ≤ 1000000

-- it may make a turn on a bus of its configuration: one is left, and the scrubber's transfers so far are those that it made
pub record MayWalk (s : WalkState) (bus : BusState) : Type 0 where
  pub left : s.walk.turns < s.config.scrub_turns
  pub setup : bus.setup.config ≡ s.config
  pub own : s.walk ≡ walk_after s.config.scrub bus.transfers

-- the bus after the next transfer of its walk, which makes no entry
abbrev pub walk_made : WalkState → BusState → BusState
walk_made s bus = after_turn (next_transfer (length bus.transfers) s.walk s.walk.noted) [] bus.values bus

-- those of the first words of a line that are not clean, by their syndromes
abbrev pub noted_to : ℕ → List ℕ → ℕ → List ℕ
noted_to line syndromes count = map (λ place. line + 4 * place) (filter (λ place. not (slice_index syndromes place == 0)) (range_with_len 0 count))

abbrev pub noted_in : ℕ → List ℕ → List ℕ
noted_in line syndromes = noted_to line syndromes 8
