-- The strikes of a turn, one after the other.
use Rattle.std.proofs.Common.{◌≡◌, ℕ, zero, suc, ◌+◌, ◌<◌, ◌≤◌, Bool, cond, List, [], ◌∷◌, ◌++◌, length, Option, Some, None, refl, sym, ap, ◌∙◌, subst, append_assoc, arith}
use Rattle.std.specs.Prelude.{fold, slice_get, All}
use Rattle.std.specs.List.{AllByRecursion}
use Rattle.std.proofs.lemmas.Bool.{eq-eqb}
use Rattle.std.proofs.lemmas.List.Elements.{All-cons, All-nil, All-head, All-tail}
use Rattle.std.proofs.lemmas.List.Sums.{fold_push}
use Rattle.coded_words.specs.Words.{Words}
use Rattle.flip_ledger.proofs.PlanLemmas.{given, planned_next}
use Rattle.flip_ledger.specs.Plan.{IsPlanned, GivesDue, due_at, strikes_of}
use Rattle.flip_ledger.specs.declared.plan.Owner.TheVariants.{Memory}
use Rattle.flip_ledger.specs.declared.plan.Strike.{Strike}
use Rattle.lf_model.proofs.EachLemmas.{each_second}
use Rattle.lf_model.specs.Flips.{Moment}
use Rattle.lf_model.specs.declared.flip.Flip.{Flip}
use Rattle.bus_memory.specs.Strikes.{with_strike, MayStrike, IsAlong, Came, AimsAt}
use Rattle.bus_memory.proofs.BeginLemmas.{due, length_strikes, IsOfScript, due_of_script, Ascends, due_ascends, next_to_come}
use Rattle.bus_memory.proofs.KeptLemmas.{due_is}

All_append : (P : Strike → Type 0) (xs ys : List Strike) → All P xs → All P ys → All P (xs ++ ys)
All_append P [] ys all more = more
All_append P (x ∷ xs) ys all more = All-cons P x (xs ++ ys) (All-head P x xs all) (All_append P xs ys (All-tail P x xs all) more)

-- strikes of this turn, in front of others of it
due_run : (turn : ℕ) (run rest : List Strike) → All (λ (s : Strike). s.at ≤ turn) run → All (λ (s : Strike). turn ≤ s.at) (run ++ rest)
    → due_at turn (run ++ rest) ≡ run ++ due_at turn rest
due_run turn [] rest early late = refl
due_run turn (s ∷ run) rest early late =
    let first : s.at ≤ turn = All-head (λ (x : Strike). x.at ≤ turn) s run early in
    let last : turn ≤ s.at = All-head (λ (x : Strike). turn ≤ x.at) s (run ++ rest) late in
    ap (λ (b : Bool). cond b (s ∷ due_at turn (run ++ rest)) (due_at turn (run ++ rest))) (eq-eqb s.at turn (omega (arith, first, last)))
    ∙ ap (λ (xs : List Strike). s ∷ xs)
    (due_run turn run rest (All-tail (λ (x : Strike). x.at ≤ turn) s run early) (All-tail (λ (x : Strike). turn ≤ x.at) s (run ++ rest) late))

got_within : (xs : List Flip) (i : ℕ) (x : Flip) → slice_get xs i ≡ Some x → i < length xs
got_within [] i x is = cc
got_within (y ∷ xs) zero x is = omega arith
got_within (y ∷ xs) (suc i) x is = let rest = got_within xs i x is in omega (arith, rest)

module _ (script : List Flip) (turn : ℕ) (first : Words) (plan : List Strike) (planned : IsPlanned Memory script turn plan) where
  module _ (memory : Words) (here : List Strike) (along : IsAlong turn first plan memory here) (next : Strike) (rest : List Strike) (is : here ≡ next ∷ rest) (now : next.at ≤ turn) where
    pub along_more : {memory' : Words} → memory' ≡ record memory { histories = with_strike memory.histories next } → IsAlong turn first plan memory' rest
    along_more {memory'} struck = record {
      run = along.run ++ next ∷ [];
      split = along.split ∙ ap (λ (xs : List Strike). along.run ++ xs) is ∙ sym (append_assoc along.run (next ∷ []) rest);
      early =
          All_append (λ (s : Strike). s.at ≤ turn) along.run (next ∷ []) along.early
          (All-cons (λ (s : Strike). s.at ≤ turn) next [] now (All-nil (λ (s : Strike). s.at ≤ turn)));
      memory_is =
          struck
          ∙ ap (λ (m : Words). record m { histories = with_strike m.histories next }) along.memory_is
          ∙ ap (λ (hs : List (List Moment)). record first { histories = hs }) (sym (fold_push with_strike first.histories along.run next));
    }

    -- the strikes of the turn are the run, this one, and others
    split_due : due turn 0 script ≡ along.run ++ next ∷ due_at turn rest
    split_due =
        let whole : plan ≡ (along.run ++ next ∷ []) ++ rest = along.split ∙ ap (λ (xs : List Strike). along.run ++ xs) is ∙ sym (append_assoc along.run (next ∷ []) rest) in
        let late : All (λ (s : Strike). turn ≤ s.at) ((along.run ++ next ∷ []) ++ rest) = subst (All (λ (s : Strike). turn ≤ s.at)) whole planned.others in
        let early : All (λ (s : Strike). s.at ≤ turn) (along.run ++ next ∷ []) =
        All_append (λ (s : Strike). s.at ≤ turn) along.run (next ∷ []) along.early
        (All-cons (λ (s : Strike). s.at ≤ turn) next [] now (All-nil (λ (s : Strike). s.at ≤ turn))) in
        sym (due_is script turn)
        ∙ sym (planned.due turn (omega arith))
        ∙ ap (due_at turn) whole
        ∙ due_run turn (along.run ++ next ∷ []) rest early late
        ∙ append_assoc along.run (next ∷ []) (due_at turn rest)

    pub may_strike : Came script turn first.histories → AllByRecursion (AimsAt (length first.histories)) script → first.flips ≡ length script → MayStrike memory next
    may_strike came aims flips =
        let all : AllByRecursion (IsOfScript script (length first.histories) turn) (along.run ++ next ∷ due_at turn rest) =
        subst (AllByRecursion (IsOfScript script (length first.histories) turn)) split_due
        (due_of_script script (length first.histories) turn 0 script (λ j. ap (slice_get script) (omega arith)) aims) in
        let of : IsOfScript script (length first.histories) turn next =
        (each_second (IsOfScript script (length first.histories) turn) along.run (next ∷ due_at turn rest) all).0 in
        let ascends : Ascends 0 (along.run ++ next ∷ due_at turn rest) = subst (Ascends 0) split_due (due_ascends turn 0 script) in
        rw along.memory_is (record {
          aims = rw (of.target, length_strikes along.run first.histories) (of.aims.0, of.aims.1, of.aims.2);
          bit = of.aims.3;
          number = rw flips (got_within script next.number _ of.flip);
          once = next_to_come script (length first.histories) turn first.histories along.run next (due_at turn rest) ascends of came;
        })

  module _ (memory : Words) (rest : List Strike) (along : IsAlong turn first plan memory rest) (late : All (λ (s : Strike). turn < s.at) rest) where
    pub all_struck : memory ≡ record first { histories = fold with_strike first.histories (due_at turn (strikes_of Memory script)) }
    all_struck =
        along.memory_is
        ∙ ap (λ (run : List Strike). record first { histories = fold with_strike first.histories run })
        (given Memory script turn along.run rest (subst (IsPlanned Memory script turn) along.split planned) along.early late)

    pub planned_later : IsPlanned Memory script (turn + 1) rest
    planned_later = planned_next Memory script turn along.run rest (subst (IsPlanned Memory script turn) along.split planned) along.early late

-- the plan gives none: its strikes are of later turns
pub due_end : (turn : ℕ) (old new : List Strike) (result : Option Strike) → GivesDue turn old result new → ((s : Strike) → result ≡ Some s → ⊥) → All (λ (s : Strike). turn < s.at) old
due_end turn old new None gives none = gives.1
due_end turn old new (Some s) gives none = absurd (none s refl)
