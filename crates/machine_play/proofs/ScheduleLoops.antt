-- The loops of a run come to what the definitions of a schedule make: an event so many times, event by event, and round by round.
use Rattle.std.proofs.Common.{◌≡◌, ◌∙◌, ◌+◌, ◌++◌, ℕ, zero, suc, nat_lt, List, [], ◌∷◌, Option, Some, None, length, fold, slice_get, slice_set, refl, ap, arith, inl, inr}
use Rattle.std.proofs.lemmas.Bool.{cases_Bool}
use Rattle.std.proofs.lemmas.List.{length-map}
use Rattle.std.proofs.lemmas.List.Sums.{fold_push}
use Rattle.std.specs.List.{range_with_len}
use Rattle.lf_model.specs.Promise.Follows.{event_times, scheduled, round, rounds}
use Rattle.lf_model.specs.Promise.Turns.{CoreLeft, Actors, Moved, core_moved, drain_moved, moved_by, event_made}
use Rattle.lf_model.specs.declared.setup.Actor.{Actor}
use Rattle.lf_model.specs.declared.setup.Actor.TheVariants.{Core, Drain, Scrub}
use Rattle.lf_model.specs.declared.setup.Event.{Event}
use Rattle.lf_model.specs.declared.setup.Setup.{Setup}
use Rattle.machine_play.specs.CoreMade.{CoreMade, GoOnTo}
use Rattle.machine_play.specs.MachineMade.{core_made, reported, made_of, all_at_start, ComesTo}
use Rattle.machine_play.specs.MachineValue.{MachineValue}
use Rattle.machine_play.proofs.Rounds.{times_more, rounds_more}

-- ---- an event leaves as many cores as there were

length_slice_set : (cs : List CoreLeft) (n : ℕ) (c : CoreLeft) → length (slice_set cs n c) ≡ length cs
length_slice_set [] n c = refl
length_slice_set (x ∷ cs) zero c = refl
length_slice_set (x ∷ cs) (suc n) c = ap suc (length_slice_set cs n c)

moved_length : (move : CoreLeft → Moved) (n : ℕ) (a : Actors) (found : Option CoreLeft) → length (moved_by move n a found).cores ≡ length a.cores
moved_length move n a None = refl
moved_length move n a (Some c) = length_slice_set a.cores n (move c).core

event_length : (n : ℕ) (a : Actors) (actor : Actor) → length (event_made n a actor).cores ≡ length a.cores
event_length n a Core = moved_length (core_moved n) n a (slice_get a.cores n)
event_length n a Drain = moved_length (drain_moved n) n a (slice_get a.cores n)
event_length n a Scrub = elim (cases_Bool (nat_lt 0 a.scrub_turns)) [
  | inl is ↦ rw is refl
  | inr is ↦ rw is refl
]

times_length : (n : ℕ) (e : Event) (a : Actors) → length (event_times n e a).cores ≡ length a.cores
times_length zero e a = refl
times_length (suc n) e a = times_length n e (event_made e.core a e.actor) ∙ event_length e.core a e.actor

schedule_length : (events : List Event) (a : Actors) → length (fold scheduled a events).cores ≡ length a.cores
schedule_length [] a = refl
schedule_length (e ∷ events) a = schedule_length events (scheduled a e) ∙ times_length e.count e a

cores_length : (ns : List ℕ) (a : Actors) → length (fold (λ b n. event_made n b Core) a ns).cores ≡ length a.cores
cores_length [] a = refl
cores_length (n ∷ ns) a = cores_length ns (event_made n a Core) ∙ event_length n a Core

round_length : (a : Actors) → length (round a).cores ≡ length a.cores
round_length a = event_length 0 (fold (λ b n. event_made n b Core) a (range_with_len 0 (length a.cores))) Scrub ∙ cores_length (range_with_len 0 (length a.cores)) a

rounds_length : (n : ℕ) (a : Actors) → length (rounds n a).cores ≡ length a.cores
rounds_length zero a = refl
rounds_length (suc n) a = rounds_length n (round a) ∙ round_length a

all_length : (alls : List CoreLeft) (cs : List CoreMade) → GoOnTo alls cs → length alls ≡ length cs
all_length [] [] goes = refl
all_length [] (c ∷ cs) goes = absurd goes
all_length (all ∷ alls) [] goes = absurd goes
all_length (all ∷ alls) (c ∷ cs) goes = ap suc (all_length alls cs goes.1)

-- one number more
pub range_more : (first n : ℕ) → range_with_len first (suc n) ≡ range_with_len first n ++ (first + n) ∷ []
range_more first zero = let same : first ≡ first + 0 = omega arith in ap (λ (k : ℕ). k ∷ []) same
range_more first (suc n) = ap (λ ks. first ∷ ks) (range_more (first + 1) n ∙ ap (λ (k : ℕ). range_with_len (first + 1) n ++ k ∷ []) (omega_same first n))
  where
    omega_same : (i j : ℕ) → i + 1 + j ≡ i + suc j
    omega_same i j = omega arith

-- ---- the loops

module _ (setup : Setup) (m : MachineValue) (events : Actors → Actors) where
  -- an event once more
  pub times_comes : (n : ℕ) (e : Event) → ComesTo setup (λ a. event_made e.core (event_times n e (events a)) e.actor) m → ComesTo setup (λ a. event_times (n + 1) e (events a)) m
  times_comes n e comes alls goes = times_more n e (events (all_at_start setup alls)) ∙ comes alls goes

  -- one core more of a round
  pub cores_comes : (n : ℕ) → ComesTo setup (λ a. event_made n (fold (λ b k. event_made k b Core) (events a) (range_with_len 0 n)) Core) m
      → ComesTo setup (λ a. fold (λ b k. event_made k b Core) (events a) (range_with_len 0 (suc n))) m
  cores_comes n comes alls goes =
      let start : Actors = events (all_at_start setup alls) in
      ap (fold (λ b k. event_made k b Core) start) (range_more 0 n ∙ ap (λ (k : ℕ). range_with_len 0 n ++ k ∷ []) (none_before n))
      ∙ (fold_push (λ b k. event_made k b Core) start (range_with_len 0 n) n ∙ comes alls goes)
    where
      none_before : (k : ℕ) → 0 + k ≡ k
      none_before k = omega arith

-- one event more of the schedule
pub schedule_comes : (setup : Setup) (m : MachineValue) (before : List Event) (e : Event) → ComesTo setup (λ a. event_times e.count e (fold scheduled a before)) m → ComesTo setup (λ a. fold scheduled a (before ++ e ∷ [])) m
schedule_comes setup m before e comes alls goes = fold_push scheduled (all_at_start setup alls) before e ∙ comes alls goes

-- one round more after the schedule
pub round_comes : (setup : Setup) (m : MachineValue) (events : List Event) (k : ℕ)
    → ComesTo setup (λ a. event_made 0 (fold (λ b n. event_made n b Core) (rounds k (fold scheduled a events)) (range_with_len 0 (length m.cores))) Scrub) m
    → ComesTo setup (λ a. rounds (suc k) (fold scheduled a events)) m
round_comes setup m events k comes alls goes =
    rounds_more k (fold scheduled (all_at_start setup alls) events)
    ∙ (ap (λ (n : ℕ). event_made 0 (fold (λ b j. event_made j b Core) (rounds k (fold scheduled (all_at_start setup alls) events)) (range_with_len 0 n)) Scrub) many
    ∙ comes alls goes)
  where
    many : length (rounds k (fold scheduled (all_at_start setup alls) events)).cores ≡ length m.cores
    many =
        rounds_length k (fold scheduled (all_at_start setup alls) events)
        ∙ (schedule_length events (all_at_start setup alls)
        ∙ (all_length alls (made_of m) goes ∙ length-map m.cores (core_made (reported m.bus))))
