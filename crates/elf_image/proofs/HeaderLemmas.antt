-- Lists of headers that are read from places of a file.
use Rattle.std.proofs.Common.{◌≡◌, ℕ, ◌+◌, List, [], ◌∷◌, ◌++◌, map, ap, sym, ◌∙◌, zero-add}
use Rattle.std.specs.List.{range_with_len}
use Rattle.std.proofs.lemmas.List.FromFn.{map-range_with_len_more}

-- one element more of a list that is made by place
pub headers_more : {X : Type 0} (f : ℕ → X) (xs ys : List X) (i : ℕ) (x : X) → xs ≡ map f (range_with_len 0 i)
    → ys ≡ xs ++ x ∷ [] → x ≡ f i → ys ≡ map f (range_with_len 0 (i + 1))
headers_more f xs ys i x before push is =
    push ∙ ap (λ zs. zs ++ x ∷ []) before ∙ ap (λ z. map f (range_with_len 0 i) ++ z ∷ []) is
    ∙ sym (map-range_with_len_more f 0 i i (zero-add i))
