-- A list whose numbers are bytes passes the test of a report.
use Rattle.std.proofs.Common.{◌≡◌, ◌<◌, ◌^◌, ℕ, suc, true, List, [], ◌∷◌, slice_index, refl}
use Rattle.std.proofs.lemmas.Bool.{and_from, lt-ltb}
use Rattle.std.specs.List.{list_all}
use Rattle.lf_model.specs.Promise.RegularTransfer.{fits_byte}

pub all_fit : (bytes : List ℕ) → ((k : ℕ) → slice_index bytes k < 2 ^ 8) → list_all fits_byte bytes ≡ true
all_fit [] fits = refl
all_fit (byte ∷ bytes) fits = and_from _ _ (lt-ltb byte (2 ^ 8) (fits 0)) (all_fit bytes (λ k. fits (suc k)))
