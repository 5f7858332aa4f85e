-- The element at a place of a list whose elements are made by their numbers.
use Rattle.std.proofs.Common.{◌≡◌, ◌+◌, ℕ, zero, suc, List, [], ◌∷◌, map, slice_get, Some, refl, ap, arith, add-one}
use Rattle.std.specs.List.{enumerate_from}
use Rattle.std.specs.Option.{option_map}
use Rattle.lf_model.specs.Ledger.Account.{map_numbered}

numbered_from : {X Y : Type 0} (f : ℕ → X → Y) (n : ℕ) (xs : List X) (i m : ℕ) → m ≡ n + i
    → slice_get (map (λ (x : ℕ × X). f x.0 x.1) (enumerate_from n xs)) i ≡ option_map (f m) (slice_get xs i)
numbered_from f n [] i m e = refl
numbered_from f n (x ∷ xs) zero m e = ap (λ j. Some (f j x)) (omega (arith, e))
numbered_from f n (x ∷ xs) (suc i) m e = numbered_from f (n + 1) xs i m (omega (arith, e, add-one i))

pub numbered_at : {X Y : Type 0} (f : ℕ → X → Y) (xs : List X) (i : ℕ) → slice_get (map_numbered f xs) i ≡ option_map (f i) (slice_get xs i)
numbered_at f xs i = numbered_from f 0 xs i i (omega arith)
