-- Transfers whose lengths are set to 0 one after another.
use Rattle.std.proofs.Common.{◌≡◌, ℕ, zero, suc, ◌+◌, ◌<◌, List, [], ◌∷◌, length, get_or, set, map, refl, ap, add-one, arith}
use Rattle.lf_model.specs.declared.bus.Transfer.{Transfer}
use Rattle.report_reader.specs.Dashes.{bare}

-- the first n of them are set
abbrev pub bare_front : ℕ → List Transfer → List Transfer
bare_front zero ts = ts
bare_front (suc n) [] = []
bare_front (suc n) (t ∷ ts) = bare t ∷ bare_front n ts

more : (i : ℕ) (ts : List Transfer) (d : Transfer) → i < length ts → set (bare_front i ts) i (bare (get_or (bare_front i ts) i d)) ≡ bare_front (suc i) ts
more i [] d below = absurd (omega arith)
more zero (t ∷ ts) d below = refl
more (suc i) (t ∷ ts) d below = ap (λ (us : List Transfer). bare t ∷ us) (more i ts d (omega arith))

pub bare_more : (old now : List Transfer) (i : ℕ) (d : Transfer) → i < length old → now ≡ bare_front i old → set now i (bare (get_or now i d)) ≡ bare_front (i + 1) old
bare_more old now i d below is = rw (is, add-one i) (more i old d below)

pub bare_whole : (ts : List Transfer) → bare_front (length ts) ts ≡ map bare ts
bare_whole [] = refl
bare_whole (t ∷ ts) = ap (λ (us : List Transfer). bare t ∷ us) (bare_whole ts)
