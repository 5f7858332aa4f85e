-- The transfers of eight masters at most and those of the scrubber are no more than all transfers.
use Rattle.std.proofs.Common.{◌≡◌, ◌≢◌, ◌∙◌, ◌+◌, ◌<◌, ◌≤◌, ◌==◌, ℕ, zero, suc, Bool, true, false, not, List, [], ◌∷◌, fold, length, filter, refl, ap, sym, arith}
use Rattle.std.proofs.lemmas.Bool.{eqb-true, ne_eqb}
use Rattle.std.proofs.lemmas.List.Filters.{length-filter_both}
use Rattle.core_laws.proofs.ListLemmas.{filter_within}
use Rattle.lf_model.specs.Bus.Walk.{Walk, scrubber, walk_start, walked, walk_by, walk_after}
use Rattle.lf_model.specs.Ledger.Steps.{own_transfers}
use Rattle.lf_model.specs.declared.bus.Transfer.{Transfer}
use Rattle.lf_model.specs.declared.image.Range.{Range}

-- those of n masters, from number k on
abbrev pub own_of : ℕ → ℕ → List Transfer → ℕ
own_of k zero ts = 0
own_of k (suc n) ts = length (own_transfers k ts) + own_of (k + 1) n ts

abbrev others_than : ℕ → List Transfer → List Transfer
others_than k ts = filter (λ t. not (t.master == k)) ts

same_own : (c k : ℕ) (ts : List Transfer) → c ≢ k → own_transfers c (others_than k ts) ≡ own_transfers c ts
same_own c k ts other = filter_within (λ t. t.master == c) (λ t. not (t.master == k)) ts (λ t is. differs t (eqb-true t.master c is))
  where
    differs : (t : Transfer) → t.master ≡ c → not (t.master == k) ≡ true
    differs t is = rw (ne_eqb t.master k (λ e. other (sym is ∙ e))) refl

same_own_of : (k : ℕ) (n first : ℕ) (ts : List Transfer) → k < first → own_of first n (others_than k ts) ≡ own_of first n ts
same_own_of k zero first ts less = refl
same_own_of k (suc n) first ts less =
    let one : own_transfers first (others_than k ts) ≡ own_transfers first ts = same_own first k ts (λ e. omega (arith, e, less)) in
    rw (one, same_own_of k n (first + 1) ts (omega (arith, less))) refl

pub own_within : (n k : ℕ) (ts : List Transfer) → k + n ≤ 8 → own_of k n ts + length (own_transfers scrubber ts) ≤ length ts
own_within zero k ts few = let both = length-filter_both (λ (t : Transfer). t.master == scrubber) (λ t. not (t.master == scrubber)) (λ t. refl) ts in omega (arith, both)
own_within (suc n) k ts few =
    let both = length-filter_both (λ (t : Transfer). t.master == k) (λ t. not (t.master == k)) (λ t. refl) ts in
    let rest = own_within n (k + 1) (others_than k ts) (omega (arith, few)) in
    omega (arith, both, rest, same_own_of k n (k + 1) ts (omega arith), ap (λ (us : List Transfer). length us) (same_own scrubber k ts (λ e. omega (arith, e, few))))

-- ---- the scrubber made as many turns as it has transfers

walked_turns : (range : Range) (t : Transfer) (w : Walk) (noted : List ℕ) → (walked range t w noted).turns ≡ w.turns + 1
walked_turns range t w [] = refl
walked_turns range t w (addr ∷ rest) = refl

turns_on : (range : Range) (w : Walk) (ts : List Transfer) → (fold (walk_by range) w ts).turns ≡ w.turns + length (own_transfers scrubber ts)
turns_on range w [] = omega arith
turns_on range w (t ∷ ts) = by (t.master == scrubber) refl (turns_on range (walk_by range w t) ts)
  where
    by : (own : Bool) → (t.master == scrubber) ≡ own → (fold (walk_by range) (walk_by range w t) ts).turns ≡ (walk_by range w t).turns + length (own_transfers scrubber ts)
        → (fold (walk_by range) (walk_by range w t) ts).turns ≡ w.turns + length (own_transfers scrubber (t ∷ ts))
    by true own rest =
        let step : (walk_by range w t).turns ≡ w.turns + 1 = rw own (walked_turns range t w w.noted) in
        let more : length (own_transfers scrubber (t ∷ ts)) ≡ length (own_transfers scrubber ts) + 1 = rw own (omega arith) in
        omega (arith, rest, step, more)
    by false other rest =
        let step : (walk_by range w t).turns ≡ w.turns = rw other refl in
        let more : length (own_transfers scrubber (t ∷ ts)) ≡ length (own_transfers scrubber ts) = rw other refl in
        omega (arith, rest, step, more)

pub walk_turns : (range : Range) (ts : List Transfer) → (walk_after range ts).turns ≡ length (own_transfers scrubber ts)
walk_turns range ts = turns_on range (walk_start range) ts ∙ none_before (length (own_transfers scrubber ts))
  where
    none_before : (n : ℕ) → 0 + n ≡ n
    none_before n = omega arith
