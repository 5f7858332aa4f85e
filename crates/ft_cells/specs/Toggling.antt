-- Sets of bits, each set as the list of its places with the highest first, so that equal sets are equal lists.
use Rattle.std.specs.Prelude.{ℕ, Bool, not, ◌==◌, if◌then◌else◌, List, filter}
use Rattle.std.specs.List.{list_any}
use Rattle.lf_model.specs.Flips.{places_below}

-- the place is in the set
abbrev pub has_place : List ℕ → ℕ → Bool
has_place set place = list_any (λ other. other == place) set

-- the set of places below a width after one is toggled: it is in the new set just where it was not in the old one,
-- and each other place is in the new set just where it was in the old one
unfoldable pub with_toggled : ℕ → List ℕ → ℕ → List ℕ
with_toggled width set place =
    filter (λ other. if other == place then not (has_place set other) else has_place set other) (places_below width)
