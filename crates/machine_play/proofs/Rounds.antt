-- Rounds of all actors come to their end: a round makes something of what is left, or changes nothing, and so do all later ones.
use Rattle.std.proofs.Common.{◌≡◌, ◌∙◌, ◌+◌, ◌-◌, ◌<◌, ◌≤◌, ◌⊎◌, ℕ, zero, suc, Bool, true, false, nat_lt, List, [], ◌∷◌, Option, Some, None, length, drop, fold, slice_get, slice_set, refl, ap, sym, subst, arith, inl, inr, length-drop}
use Rattle.std.proofs.lemmas.Bool.{cases_Bool, cases_lt, ltb-true}
use Rattle.std.specs.List.{range_with_len}
use Rattle.lf_model.specs.Promise.Follows.{event_times, scheduled, round, rounds}
use Rattle.lf_model.specs.Promise.Turns.{CoreLeft, Actors, is_empty, has_ended, waits, turns_in, with_turn, with_step, core_moved, drain_moved, with_moved, moved_by, scrubbed, event_made}
use Rattle.lf_model.specs.declared.bus.Transfer.{Transfer}
use Rattle.lf_model.specs.declared.setup.Actor.{Actor}
use Rattle.lf_model.specs.declared.setup.Actor.TheVariants.{Core, Drain, Scrub}
use Rattle.lf_model.specs.declared.setup.Event.{Event}
use Rattle.machine_play.proofs.AllEvents.{set_same}
use Rattle.machine_play.specs.LeftOver.{left_in, left_in_all, left_over}

-- ---- one after another

-- one event more is the last of them
pub times_more : (n : ℕ) (e : Event) (a : Actors) → event_times (n + 1) e a ≡ event_made e.core (event_times n e a) e.actor
times_more n e a = ap (λ (k : ℕ). event_times k e a) (one_more n) ∙ last n a
  where
    one_more : (k : ℕ) → k + 1 ≡ suc k
    one_more k = omega arith

    last : (k : ℕ) (b : Actors) → event_times (suc k) e b ≡ event_made e.core (event_times k e b) e.actor
    last zero b = refl
    last (suc k) b = last k (event_made e.core b e.actor)

pub rounds_more : (n : ℕ) (a : Actors) → rounds (suc n) a ≡ round (rounds n a)
rounds_more zero a = refl
rounds_more (suc n) a = rounds_more n (round a)

rounds_add : (m n : ℕ) (a : Actors) → rounds (m + n) a ≡ rounds n (rounds m a)
rounds_add zero n a = ap (λ (k : ℕ). rounds k a) (none_more n)
  where
    none_more : (k : ℕ) → 0 + k ≡ k
    none_more k = omega arith
rounds_add (suc m) n a = ap (λ (k : ℕ). rounds k a) (shifted m n) ∙ rounds_add m n (round a)
  where
    shifted : (j k : ℕ) → suc j + k ≡ suc (j + k)
    shifted j k = omega arith

-- where a round changes nothing no later one does
rounds_same : (n : ℕ) (a : Actors) → round a ≡ a → rounds n a ≡ a
rounds_same zero a same = refl
rounds_same (suc n) a same = ap (rounds n) same ∙ rounds_same n a same

-- ---- a core makes something of what it has left

fewer : (ts : List Transfer) → is_empty ts ≡ false → length (drop 1 ts) < length ts
fewer [] some = absurd (cc)
fewer (t ∷ ts) some = omega arith

turn_less : (c : CoreLeft) → is_empty c.transfers ≡ false → left_in (with_turn c) < left_in c
turn_less c some = omega (arith, fewer c.transfers some)

turn_no_more : (c : CoreLeft) → left_in (with_turn c) ≤ left_in c
turn_no_more c = omega (arith, length-drop 1 c.transfers)

step_less : (c : CoreLeft) → c.made < c.steps → left_in (with_step c) < left_in c
step_less c less = elim (cases_Bool (turns_in c.made c.transfers)) [
  | inl is ↦ rw is (omega (arith, less, length-drop 1 c.transfers))
  | inr is ↦ rw is (omega (arith, less))
]

core_less : (n : ℕ) (c : CoreLeft) → (core_moved n c ≡ record { core = c; turn = None }) ⊎ (left_in (core_moved n c).core < left_in c)
core_less n c = by (nat_lt c.made c.steps) (is_empty c.transfers) refl refl
  where
    by : (less empty : Bool) → nat_lt c.made c.steps ≡ less → is_empty c.transfers ≡ empty → (core_moved n c ≡ record { core = c; turn = None }) ⊎ (left_in (core_moved n c).core < left_in c)
    by true empty is is' = inr (rw is (step_less c (ltb-true c.made c.steps is)))
    by false true is is' = inl (rw (is, is') refl)
    by false false is is' = inr (rw (is, is') (turn_less c is'))

drain_no_more : (n : ℕ) (c : CoreLeft) → left_in (drain_moved n c).core ≤ left_in c
drain_no_more n c = by (has_ended c) (waits c) (nat_lt c.made c.steps) refl refl refl
  where
    by : (over waiting less : Bool) → has_ended c ≡ over → waits c ≡ waiting → nat_lt c.made c.steps ≡ less → left_in (drain_moved n c).core ≤ left_in c
    by true waiting less is is' is'' = rw is (omega arith)
    by false false less is is' is'' = rw (is, is') (omega arith)
    by false true true is is' is'' = rw (is, is', is'') (omega (arith, step_less c (ltb-true c.made c.steps is'')))
    by false true false is is' is'' = rw (is, is', is'') (turn_no_more c)

-- ---- all actors

set_left : (cs : List CoreLeft) (n : ℕ) (c d : CoreLeft) → slice_get cs n ≡ Some c → left_in_all (slice_set cs n d) + left_in c ≡ left_in_all cs + left_in d
set_left [] n c d there = absurd (cc)
set_left (x ∷ cs) zero c d there = let same : x ≡ c = cc in omega (arith, ap left_in same)
set_left (x ∷ cs) (suc n) c d there = omega (arith, set_left cs n c d there)

core_event_less : (n : ℕ) (a : Actors) → (event_made n a Core ≡ a) ⊎ (left_over (event_made n a Core) < left_over a)
core_event_less n a = by (slice_get a.cores n) refl
  where
    by : (found : Option CoreLeft) → slice_get a.cores n ≡ found → (event_made n a Core ≡ a) ⊎ (left_over (event_made n a Core) < left_over a)
    by None there = inl (ap (moved_by (core_moved n) n a) there)
    by (Some c) there = elim (core_less n c) [
      | inl same ↦ inl (ap (moved_by (core_moved n) n a) there ∙ (ap (with_moved n a) same ∙ ap (λ (cs : List CoreLeft). record a { cores = cs }) (set_same a.cores n c there)))
      | inr less ↦ inr (subst (λ (b : Actors). left_over b < left_over a) (sym (ap (moved_by (core_moved n) n a) there)) (omega (arith, less, set_left a.cores n c (core_moved n c).core there)))
    ]

drain_event_no_more : (n : ℕ) (a : Actors) → left_over (event_made n a Drain) ≤ left_over a
drain_event_no_more n a = by (slice_get a.cores n) refl
  where
    by : (found : Option CoreLeft) → slice_get a.cores n ≡ found → left_over (event_made n a Drain) ≤ left_over a
    by None there = subst (λ (b : Actors). left_over b ≤ left_over a) (sym (ap (moved_by (drain_moved n) n a) there)) (omega arith)
    by (Some c) there = subst (λ (b : Actors). left_over b ≤ left_over a) (sym (ap (moved_by (drain_moved n) n a) there)) (omega (arith, drain_no_more n c, set_left a.cores n c (drain_moved n c).core there))

scrub_less : (a : Actors) → (scrubbed a ≡ a) ⊎ (left_over (scrubbed a) < left_over a)
scrub_less a = elim (cases_Bool (nat_lt 0 a.scrub_turns)) [
  | inl is ↦ inr (rw is (omega (arith, ltb-true 0 a.scrub_turns is)))
  | inr is ↦ inl (rw is refl)
]

cores_less : (ns : List ℕ) (a : Actors) → (fold (λ b n. event_made n b Core) a ns ≡ a) ⊎ (left_over (fold (λ b n. event_made n b Core) a ns) < left_over a)
cores_less [] a = inl refl
cores_less (n ∷ ns) a = elim (core_event_less n a) [
  | inl same ↦ elim (cores_less ns (event_made n a Core)) [
    | inl later ↦ inl (later ∙ same)
    | inr less ↦ inr (omega (arith, less, ap left_over same))
  ]
  | inr less ↦ elim (cores_less ns (event_made n a Core)) [
    | inl later ↦ inr (omega (arith, less, ap left_over later))
    | inr further ↦ inr (omega (arith, less, further))
  ]
]

round_less : (a : Actors) → (round a ≡ a) ⊎ (left_over (round a) < left_over a)
round_less a = by (cores_less (range_with_len 0 (length a.cores)) a)
  where
    b : Actors
    b = fold (λ x n. event_made n x Core) a (range_with_len 0 (length a.cores))

    by : (b ≡ a) ⊎ (left_over b < left_over a) → (scrubbed b ≡ a) ⊎ (left_over (scrubbed b) < left_over a)
    by (inl same) = elim (scrub_less b) [
      | inl later ↦ inl (later ∙ same)
      | inr less ↦ inr (omega (arith, less, ap left_over same))
    ]
    by (inr less) = elim (scrub_less b) [
      | inl later ↦ inr (omega (arith, less, ap left_over later))
      | inr further ↦ inr (omega (arith, less, further))
    ]

-- ---- enough rounds

rounds_fixed : (n : ℕ) (a : Actors) → left_over a ≤ n → round (rounds n a) ≡ rounds n a
rounds_fixed zero a few = elim (round_less a) [
  | inl same ↦ same
  | inr less ↦ absurd (omega (arith, few, less))
]
rounds_fixed (suc n) a few = elim (round_less a) [
  | inl same ↦ ap round (rounds_same (suc n) a same) ∙ (same ∙ sym (rounds_same (suc n) a same))
  | inr less ↦ rounds_fixed n (round a) (omega (arith, few, less))
]

-- as many rounds as are left over come to the same as those after which another changes nothing
pub rounds_end : (k n : ℕ) (a : Actors) → left_over a ≤ n → round (rounds k a) ≡ rounds k a → rounds n a ≡ rounds k a
rounds_end k n a few ended = elim (cases_lt k n) [
  | inl less ↦ ap (λ (m : ℕ). rounds m a) (split k n less) ∙ (rounds_add k (n - k) a ∙ rounds_same (n - k) (rounds k a) ended)
  | inr past ↦ sym (ap (λ (m : ℕ). rounds m a) (split_past n k past) ∙ (rounds_add n (k - n) a ∙ rounds_same (k - n) (rounds n a) (rounds_fixed n a few)))
]
  where
    split : (i j : ℕ) → i < j → j ≡ i + (j - i)
    split i j less = omega (arith, less)

    split_past : (i j : ℕ) → i ≤ j → j ≡ i + (j - i)
    split_past i j le = omega (arith, le)

-- ---- events of a schedule leave no more than there was

event_no_more : (n : ℕ) (a : Actors) (actor : Actor) → left_over (event_made n a actor) ≤ left_over a
event_no_more n a Core = elim (core_event_less n a) [
  | inl same ↦ omega (arith, ap left_over same)
  | inr less ↦ omega (arith, less)
]
event_no_more n a Drain = drain_event_no_more n a
event_no_more n a Scrub = elim (scrub_less a) [
  | inl same ↦ omega (arith, ap left_over same)
  | inr less ↦ omega (arith, less)
]

times_no_more : (n : ℕ) (e : Event) (a : Actors) → left_over (event_times n e a) ≤ left_over a
times_no_more zero e a = omega arith
times_no_more (suc n) e a = omega (arith, times_no_more n e (event_made e.core a e.actor), event_no_more e.core a e.actor)

pub schedule_no_more : (events : List Event) (a : Actors) → left_over (fold scheduled a events) ≤ left_over a
schedule_no_more [] a = omega arith
schedule_no_more (e ∷ events) a = omega (arith, schedule_no_more events (scheduled a e), times_no_more e.count e a)
