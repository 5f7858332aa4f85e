use Rattle.std.proofs.Common.{◌≡◌, ℕ, zero, suc, ◌<◌, List, [], ◌∷◌, ◌++◌, length, map, take, drop, slice_index_or, slice_set, refl, sym, ap, ◌∙◌, add-one, arith, rules}
use Rattle.core_laws.specs.SeenSoFar.{lost_from}
use Rattle.core_parts.proofs.record.lose_from.Goals as goal
use Rattle.lf_model.specs.declared.trace.Op.{Op}

-- one more element is replaced by what it becomes
one_more : (f : Op → Op) (xs : List Op) (i : ℕ) (d : Op) → i < length xs
    → slice_set (map f (take i xs) ++ drop i xs) i (f (slice_index_or (map f (take i xs) ++ drop i xs) i d)) ≡ map f (take (suc i) xs) ++ drop (suc i) xs
one_more f [] i d lt = absurd (omega arith)
one_more f (x ∷ xs) zero d lt = refl
one_more f (x ∷ xs) (suc i) d lt = ap (λ (rest : List Op). f x ∷ rest) (one_more f xs i d (omega arith))

pub loop-i-preserved : goal.loop-i-preserved
loop-i-preserved c =
    let f : Op → Op = lost_from c.args.first in
    let i : ℕ = c.loop-i.i in
    let now : List Op = c.loop-i.ops.items in
    let old : List Op = c.args.ops.now.items in
    let within : i < length old = search rules in
    record {
      lost =
          ap (slice_set now i) c.lost_from.ensures
          ∙ ap (λ (op : Op). slice_set now i (f op)) c.index.ensures
          ∙ ap (λ (xs : List Op). slice_set xs i (f (slice_index_or xs i c.index.result.now))) c.loop-i.invariant.lost
          ∙ one_more f old i c.index.result.now within
          ∙ ap (λ (n : ℕ). map f (take n old) ++ drop n old) (sym (add-one i));
      all = search rules;
      reserved = search rules;
    }
