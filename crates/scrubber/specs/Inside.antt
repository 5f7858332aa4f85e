-- What the scrubber keeps, and what of it its users see.
use Rattle.std.specs.Prelude.{◌≡◌, ℕ, ◌+◌, ◌%◌, ◌^◌, ◌<◌, ◌≤◌, IsTrue}
use Rattle.std.specs.List.{AllByRecursion}
use Rattle.lf_model.specs.Start.{is_in_ram}
use Rattle.scrubber.specs.WalkState.{WalkState, IsScrubRange}
use Rattle.scrubber.specs.declared.scrubber.Scrubber.TheInside.{Inside}

abbrev pub seen : Inside → WalkState
seen s = record { config = s.config.value; walk = record { line = s.line; noted = s.noted.items; turns = s.turns } }

-- a word that it may fix
pub record IsWordOfRam (ram addr : ℕ) : Type 0 where
  pub aligned : addr % 4 ≡ 0
  pub in_ram : IsTrue (is_in_ram ram addr 4)

pub record IsScrubber (s : Inside) : Type 0 where
  pub range : IsScrubRange s.config.value
  pub first : s.first ≡ s.config.value.scrub.first
  pub end : s.end ≡ s.config.value.scrub.first + s.config.value.scrub.length
  pub most : s.most ≡ s.config.value.scrub_turns
  pub turns : s.turns ≤ s.config.value.scrub_turns
  pub few : s.config.value.scrub_turns < 2 ^ 32
  -- the line is one of the range, and each noted word one of RAM
  pub aligned : s.line % 32 ≡ 0
  pub low : s.config.value.scrub.first ≤ s.line
  pub high : s.line + 32 ≤ s.config.value.scrub.first + s.config.value.scrub.length
  pub noted : AllByRecursion (IsWordOfRam s.config.value.ram) s.noted.items
