-- Several events one after another: an event so many times, the events of a schedule, a round, and rounds until all are over.
use Rattle.std.proofs.Common.{◌≡◌, ◌∙◌, ◌+◌, ◌<◌, ◌≤◌, ◌++◌, ◌⊎◌, ℕ, zero, suc, Bool, true, false, List, [], ◌∷◌, Some, IfSome, length, take, fold, slice_get, refl, ap, sym, subst, arith, inl, inr, add-one}
use Rattle.std.proofs.lemmas.Bool.{and_from, cases_lt}
use Rattle.std.proofs.lemmas.List.{take_all, take_more}
use Rattle.std.proofs.lemmas.List.Sums.{fold_push}
use Rattle.std.proofs.lemmas.Option.{slice_get_within, get_or_from_slice_get}
use Rattle.std.specs.List.{list_all, range_with_len}
use Rattle.core_parts.specs.CoreValue.{CoreValue}
use Rattle.lf_model.specs.Promise.Follows.{event_times, scheduled, rounds}
use Rattle.lf_model.specs.Promise.Turns.{Actors, event_made, scrubbed}
use Rattle.lf_model.specs.declared.setup.Actor.TheVariants.{Core}
use Rattle.lf_model.specs.declared.setup.Event.{Event}
use Rattle.lf_model.specs.declared.setup.Setup.{Setup}
use Rattle.machine_play.specs.MachineMade.{all_at_start, ComesTo}
use Rattle.machine_play.specs.MachineValue.{MachineValue}
use Rattle.machine_play.specs.Moved.{IsSound, IsMoved, round_of, GoesRound, left_in, core_ended, IsCoreOver, scrubber_over, is_over, Advances}
use Rattle.machine_play.proofs.Rounds.{times_more}
use Rattle.machine_play.proofs.ScheduleLoops.{range_more, round_comes}

-- ---- one after another

module _ (m : MachineValue) where
  pub none_moves : IsSound m → IsMoved (λ a. a) m m
  none_moves is = record { setup = refl; machine = is; makes = λ before comes. comes }

module _ (f g : Actors → Actors) (a b c : MachineValue) where
  pub moved_then : IsMoved f a b → IsMoved g b c → IsMoved (λ x. g (f x)) a c
  moved_then first next = record {
    setup = next.setup ∙ first.setup;
    machine = next.machine;
    makes = λ before comes. subst (λ (s : Setup). ComesTo s (λ x. g (f (before x))) c) first.setup
        (next.makes (λ x. f (before x)) (subst (λ (s : Setup). ComesTo s (λ x. f (before x)) b) (sym first.setup) (first.makes before comes)));
  }

-- the same events, said otherwise
pub moved_as : (f g : Actors → Actors) (a b : MachineValue) → ((x : Actors) → f x ≡ g x) → IsMoved f a b → IsMoved g a b
moved_as f g a b same moved = record {
  setup = moved.setup;
  machine = moved.machine;
  makes = λ before comes alls goes. sym (same (before (all_at_start a.bus.setup alls))) ∙ moved.makes before comes alls goes;
}

-- ---- an event so many times

pub times_next : (n : ℕ) (e : Event) (a b c : MachineValue) → IsMoved (event_times n e) a b → IsMoved (λ x. event_made e.core x e.actor) b c → IsMoved (event_times (n + 1) e) a c
times_next n e a b c before next = moved_as (λ x. event_made e.core (event_times n e x) e.actor) (event_times (n + 1) e) a c (λ x. sym (times_more n e x))
    (moved_then (event_times n e) (λ x. event_made e.core x e.actor) a b c before next)

-- one that makes nothing makes nothing so many times more
pub times_passed : (n k : ℕ) (e : Event) (a b : MachineValue) → IsMoved (event_times n e) a b → IsMoved (λ x. event_made e.core x e.actor) b b → IsMoved (event_times (n + k) e) a b
times_passed n zero e a b before passed = subst (λ (j : ℕ). IsMoved (event_times j e) a b) (none_more n) before
  where
    none_more : (i : ℕ) → i ≡ i + 0
    none_more i = omega arith
times_passed n (suc k) e a b before passed = subst (λ (j : ℕ). IsMoved (event_times j e) a b) (one_more n k) (times_next (n + k) e a b b (times_passed n k e a b before passed) passed)
  where
    one_more : (i j : ℕ) → i + j + 1 ≡ i + suc j
    one_more i j = omega arith

-- ---- event by event

take_next : (es : List Event) (i : ℕ) (e : Event) → slice_get es i ≡ Some e → take (i + 1) es ≡ take i es ++ e ∷ []
take_next es i e there = take_more es i e (slice_get_within es i e there) ∙ ap (λ (x : Event). take i es ++ x ∷ []) (get_or_from_slice_get es i e e there)

pub schedule_next : (events : List Event) (i : ℕ) (e : Event) (a b c : MachineValue) → slice_get events i ≡ Some e → IsMoved (λ x. fold scheduled x (take i events)) a b
    → IsMoved (λ x. scheduled x e) b c → IsMoved (λ x. fold scheduled x (take (i + 1) events)) a c
schedule_next events i e a b c there before next = moved_as (λ x. scheduled (fold scheduled x (take i events)) e) (λ x. fold scheduled x (take (i + 1) events)) a c
    (λ x. sym (ap (fold scheduled x) (take_next events i e there) ∙ fold_push scheduled x (take i events) e))
    (moved_then (λ x. fold scheduled x (take i events)) (λ x. scheduled x e) a b c before next)

pub schedule_all : (events : List Event) (i : ℕ) (a b : MachineValue) → length events ≤ i → IsMoved (λ x. fold scheduled x (take i events)) a b → IsMoved (λ x. fold scheduled x events) a b
schedule_all events i a b all moved = subst (λ (es : List Event). IsMoved (λ x. fold scheduled x es) a b) (take_all i events all) moved

-- ---- a round

-- an event of each of the first n cores
abbrev pub cores_moved : ℕ → Actors → Actors
cores_moved n a = fold (λ b k. event_made k b Core) a (range_with_len 0 n)

-- how far a round has come after them: what they made, and whether they made anything
pub record IsInRound (n : ℕ) (old now : MachineValue) : Type 0 where
  pub moved : IsMoved (cores_moved n) old now
  pub advances : Advances ((k : ℕ) → k < n → IsCoreOver k old) old now

pub round_starts : (m : MachineValue) → IsSound m → IsInRound 0 m m
round_starts m is = record { moved = none_moves m is; advances = inl ((λ k less. absurd (omega (arith, less))), refl) }

one_core_more : (n : ℕ) (x : Actors) → event_made n (cores_moved n x) Core ≡ cores_moved (n + 1) x
one_core_more n x = sym (
    ap (cores_moved_by x) (add-one n)
    ∙ (ap (fold (λ b k. event_made k b Core) x) (range_more 0 n ∙ ap (λ (k : ℕ). range_with_len 0 n ++ k ∷ []) (none_before n))
    ∙ fold_push (λ b k. event_made k b Core) x (range_with_len 0 n) n))
  where
    cores_moved_by : Actors → ℕ → Actors
    cores_moved_by y k = fold (λ b j. event_made j b Core) y (range_with_len 0 k)

    none_before : (k : ℕ) → 0 + k ≡ k
    none_before k = omega arith

pub round_next : (n : ℕ) (old mid new : MachineValue) → IsInRound n old mid → IsMoved (λ a. event_made n a Core) mid new → Advances (IsCoreOver n mid) mid new → IsInRound (n + 1) old new
round_next n old mid new r moved advances = record {
  moved = moved_as (λ x. event_made n (cores_moved n x) Core) (cores_moved (n + 1)) old new (one_core_more n) (moved_then (cores_moved n) (λ a. event_made n a Core) old mid new r.moved moved);
  advances = by r.advances advances;
}
  where
    by : Advances ((k : ℕ) → k < n → IsCoreOver k old) old mid → Advances (IsCoreOver n mid) mid new → Advances ((k : ℕ) → k < n + 1 → IsCoreOver k old) old new
    by (inl before) (inl next) = inl ((λ k less. one_of k less (cases_lt k n)), next.1 ∙ before.1)
      where
        over_here : IsCoreOver n old
        over_here = subst (IsCoreOver n) before.1 next.0

        one_of : (k : ℕ) → k < n + 1 → (k < n) ⊎ (n ≤ k) → IsCoreOver k old
        one_of k less (inl low) = before.0 k low
        one_of k less (inr high) = let same : n ≡ k = omega (arith, less, high) in subst (λ (j : ℕ). IsCoreOver j old) same over_here
    by (inl before) (inr less) = inr (subst (λ (m : MachineValue). left_in new < left_in m) before.1 less)
    by (inr less) (inl next) = inr (subst (λ (m : MachineValue). left_in m < left_in old) (sym next.1) less)
    by (inr less) (inr further) = inr (omega (arith, less, further))

-- all cores are over
all_over : (vs : List CoreValue) → ((k : ℕ) → k < length vs → IfSome (slice_get vs k) (λ (v : CoreValue). core_ended v ≡ true)) → list_all core_ended vs ≡ true
all_over [] each = refl
all_over (v ∷ vs) each = and_from (core_ended v) (list_all core_ended vs) (each 0 (omega arith)) (all_over vs (λ k less. each (suc k) (omega (arith, less))))

pub round_ends : (n : ℕ) (old mid new : MachineValue) → n ≡ length old.cores → IsInRound n old mid → IsMoved scrubbed mid new → Advances (scrubber_over mid ≡ true) mid new
    → IsMoved (round_of (length old.cores)) old new × Advances (is_over old ≡ true) old new
round_ends n old mid new all r moved advances = (
  subst (λ (k : ℕ). IsMoved (round_of k) old new) all (moved_then (cores_moved n) scrubbed old mid new r.moved moved),
  by r.advances advances,
)
  where
    by : Advances ((k : ℕ) → k < n → IsCoreOver k old) old mid → Advances (scrubber_over mid ≡ true) mid new → Advances (is_over old ≡ true) old new
    by (inl before) (inl last) = inl (
      and_from (list_all core_ended old.cores) (scrubber_over old) (all_over old.cores (λ k less. before.0 k (omega (arith, less, all)))) (subst (λ (m : MachineValue). scrubber_over m ≡ true) before.1 last.0),
      last.1 ∙ before.1,
    )
    by (inl before) (inr less) = inr (subst (λ (m : MachineValue). left_in new < left_in m) before.1 less)
    by (inr less) (inl last) = inr (subst (λ (m : MachineValue). left_in m < left_in old) (sym last.1) less)
    by (inr less) (inr further) = inr (omega (arith, less, further))

-- ---- rounds

pub no_rounds : (m : MachineValue) → IsSound m → GoesRound 0 m m
no_rounds m is = record { setup = refl; machine = is; makes = λ events comes. comes }

pub one_round_more : (count : ℕ) (old mid new : MachineValue) → GoesRound count old mid → IsMoved (round_of (length mid.cores)) mid new → GoesRound (suc count) old new
one_round_more count old mid new before next = record {
  setup = next.setup ∙ before.setup;
  machine = next.machine;
  makes = λ events comes. subst (λ (s : Setup). ComesTo s (λ a. rounds (suc count) (fold scheduled a events)) new) before.setup
      (round_comes mid.bus.setup new events count
      (subst (λ (n : ℕ). ComesTo mid.bus.setup (λ a. round_of n (rounds count (fold scheduled a events))) new) as_many
      (next.makes (λ a. rounds count (fold scheduled a events)) (subst (λ (s : Setup). ComesTo s (λ a. rounds count (fold scheduled a events)) mid) (sym before.setup) (before.makes events comes)))));
}
  where
    as_many : length mid.cores ≡ length new.cores
    as_many = before.machine.one_each ∙ (ap (λ (s : Setup). s.config.cores) (sym next.setup) ∙ sym next.machine.one_each)

-- while not all are over a round makes something of what is left
pub round_smaller : (old new : MachineValue) → is_over old ≡ false → Advances (is_over old ≡ true) old new → left_in new < left_in old
round_smaller old new going (inl over) = absurd (differ (is_over old) going over.0)
  where
    differ : (b : Bool) → b ≡ false → b ≡ true → ⊥
    differ b e e' = cc
round_smaller old new going (inr less) = less
