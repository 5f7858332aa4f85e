use Rattle.std.proofs.Common.{◌≡◌, ℕ, zero, suc, ◌<◌, List, [], ◌∷◌, ◌++◌, length, map, take, drop, slice_index_or, slice_set, refl, sym, ap, ◌∙◌, add-one, arith, rules}
use Rattle.std.proofs.lemmas.List.{length-set}
use Rattle.flip_ledger.specs.Ledger.{named_where}
use Rattle.flip_ledger.specs.declared.record.FlipState.{FlipState}
use Rattle.flip_ledger.proofs.ledger.name_where.Goals as goal

-- one more element is replaced by what it becomes
one_more : (f : FlipState → FlipState) (xs : List FlipState) (i : ℕ) (d : FlipState) → i < length xs
    → slice_set (map f (take i xs) ++ drop i xs) i (f (slice_index_or (map f (take i xs) ++ drop i xs) i d)) ≡ map f (take (suc i) xs) ++ drop (suc i) xs
one_more f [] i d lt = absurd (omega arith)
one_more f (x ∷ xs) zero d lt = refl
one_more f (x ∷ xs) (suc i) d lt = ap (λ (rest : List FlipState). f x ∷ rest) (one_more f xs i d (omega arith))

pub loop-i-preserved : goal.loop-i-preserved
loop-i-preserved c =
    let f : FlipState → FlipState = named_where c.args.unit c.args.turn in
    let i : ℕ = c.loop-i.i in
    let now : List FlipState = c.loop-i.flips.items in
    let old : List FlipState = c.args.flips.now.items in
    let within : i < length old = search rules in
    record {
      named =
          ap (slice_set now i) c.named_where.ensures
          ∙ ap (λ (flip : FlipState). slice_set now i (f flip)) c.index.ensures
          ∙ ap (λ (xs : List FlipState). slice_set xs i (f (slice_index_or xs i c.index.result.now))) c.loop-i.invariant.named
          ∙ one_more f old i c.index.result.now within
          ∙ ap (λ (n : ℕ). map f (take n old) ++ drop n old) (sym (add-one i));
      all = length-set now i c.named_where.result ∙ c.loop-i.invariant.all;
    }
