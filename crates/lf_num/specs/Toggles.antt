-- A number some of whose bits were turned, each bit named by its place.
use Rattle.std.specs.Prelude.{ℕ, zero, suc, ◌^◌, ◌<◌, ◌≢◌, ◌==◌, if◌then◌else◌, List, [], ◌∷◌, All, bit_xor, ⊤}
use Rattle.std.specs.Int.{bit_at}

-- n with the bit at each place of the list turned
abbrev pub struck : ℕ → List ℕ → ℕ
struck n [] = n
struck n (place ∷ places) = bit_xor (struck n places) (2 ^ place)

-- the list is a set of places below the width: none stands in it twice
abbrev pub IsPlaceSet : ℕ → List ℕ → Type 0
IsPlaceSet width [] = ⊤
IsPlaceSet width (place ∷ places) = (place < width) × All (λ other. other ≢ place) places × IsPlaceSet width places

-- the places below the width at which n has a 1, the highest first
unfoldable pub places : ℕ → ℕ → List ℕ
places zero n = []
places (suc place) n = if bit_at n place == 1 then (place ∷ places place n) else places place n

-- the places below the width at which two numbers differ
abbrev pub differing_places : ℕ → ℕ → ℕ → List ℕ
differing_places width m n = places width (bit_xor m n)
