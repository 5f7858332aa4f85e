-- What the machine makes at an event is what the definitions of a schedule make of all actors.
use Rattle.leon_core.specs.Moves.{StoresIn, store_steps}
use Rattle.std.proofs.Common.{◌≡◌, ◌≢◌, ◌∙◌, ◌+◌, ◌-◌, ◌<◌, ◌==◌, ℕ, zero, suc, Bool, true, false, List, [], ◌∷◌, ◌++◌, Option, Some, None, IfSome, length, map, slice_get, slice_set, refl, ap, sym, subst, arith}
use Rattle.std.proofs.lemmas.Bool.{ne_eqb, eq-eqb}
use Rattle.std.proofs.lemmas.List.{map-append, append-nil, map-set}
use Rattle.std.proofs.lemmas.List.Elements.{filter-append}
use Rattle.std.proofs.lemmas.Option.{slice_get-map}
use Rattle.std.specs.Option.{option_map}
use Rattle.ahb_bus.specs.BusState.{BusState}
use Rattle.core_parts.specs.Completes.{Keeps}
use Rattle.core_parts.specs.CoreValue.{CoreValue}
use Rattle.core_parts.specs.Phases.{state_of_core}
use Rattle.core_parts.specs.declared.phase.CoreState.TheVariants.{Running, Draining}
use Rattle.lf_model.specs.Ledger.Account.{without_length}
use Rattle.lf_model.specs.Ledger.Steps.{own_transfers}
use Rattle.lf_model.specs.Names.{same_why}
use Rattle.lf_model.specs.Promise.Turns.{TurnMade, CoreLeft, Actors, Moved, turn_of_transfer, turn_by, core_moved, drain_moved, moved_by, event_made}
use Rattle.lf_model.specs.declared.bus.Transfer.{Transfer}
use Rattle.lf_model.specs.declared.bus.Why.TheVariants.{Sched}
use Rattle.lf_model.specs.declared.setup.Actor.{Actor}
use Rattle.lf_model.specs.declared.setup.Actor.TheVariants.{Core, Drain}
use Rattle.lf_model.specs.declared.setup.Setup.{Setup}
use Rattle.machine_play.specs.CoreMade.{CoreMade, IsMade, GoesOnTo, left_of, GoOnTo, left_of_each, StepsAlone, StepsWithTurn, DrainsLast}
use Rattle.machine_play.specs.MachineMade.{is_running, is_ended, core_made, reported, made_of, actors_of, IsCoreMade, AreMade, ComesTo}
use Rattle.machine_play.specs.MachineValue.{MachineValue, with_core, with_core_turn}
use Rattle.machine_play.proofs.AllEvents.{moved_at, passed_at, none_at}
use Rattle.machine_play.proofs.CoreEvents.{alone_back, alone_moved, turn_back, turn_moved, drain_moved_in_step, drain_back, last_moved, drain_moved_last, ended_passed, ended_drain_passed, drain_passed}

-- ---- the cores beside one that moves

-- cores with numbers from k on
abbrev NumberedFrom : ℕ → List CoreValue → Type 0
NumberedFrom k vs = (i : ℕ) → IfSome (slice_get vs i) (λ v. v.arch.core ≡ k + i)

numbered_rest : (k : ℕ) (v : CoreValue) (vs : List CoreValue) → NumberedFrom k (v ∷ vs) → NumberedFrom (k + 1) vs
numbered_rest k v vs h i = by (slice_get vs i) (h (suc i))
  where
    by : (found : Option CoreValue) → IfSome found (λ w. w.arch.core ≡ k + suc i) → IfSome found (λ w. w.arch.core ≡ k + 1 + i)
    by None h = tt
    by (Some w) h = omega (arith, h)

module _ (f g : CoreValue → CoreMade) (n : ℕ) (same : (v : CoreValue) → v.arch.core ≢ n → f v ≡ g v) where
  others_after : (k : ℕ) (vs : List CoreValue) → NumberedFrom k vs → n < k → map f vs ≡ map g vs
  others_after k [] h less = refl
  others_after k (v ∷ vs) h less =
      let number : v.arch.core ≡ k + 0 = h 0 in
      let first : f v ≡ g v = same v (λ e. omega (arith, e, number, less)) in
      rw (first, others_after (k + 1) vs (numbered_rest k v vs h) (omega (arith, less))) refl

  set_others : (k j : ℕ) (vs : List CoreValue) (x : CoreMade) → NumberedFrom k vs → n ≡ k + j → slice_set (map f vs) j x ≡ slice_set (map g vs) j x
  set_others k j [] x h at = refl
  set_others k zero (v ∷ vs) x h at = ap (λ ys. x ∷ ys) (others_after (k + 1) vs (numbered_rest k v vs h) (omega (arith, at)))
  set_others k (suc j) (v ∷ vs) x h at =
      let number : v.arch.core ≡ k + 0 = h 0 in
      let first : f v ≡ g v = same v (λ e. omega (arith, e, number, at)) in
      let rest : slice_set (map f vs) j x ≡ slice_set (map g vs) j x = set_others (k + 1) j vs x (numbered_rest k v vs h) (omega (arith, at)) in
      rw first (ap (λ ys. g v ∷ ys) rest)

numbered : (m : MachineValue) → AreMade m → NumberedFrom 0 m.cores
numbered m are i = by (slice_get m.cores i) (are i)
  where
    by : (found : Option CoreValue) → IfSome found (IsCoreMade (reported m.bus) i) → IfSome found (λ v. v.arch.core ≡ 0 + i)
    by None h = tt
    by (Some v) h = omega (arith, h.number)

-- ---- one transfer more

own_after : (c : ℕ) (ts : List Transfer) (t : Transfer) → t.master ≡ c → own_transfers c (ts ++ t ∷ []) ≡ own_transfers c ts ++ t ∷ []
own_after c ts t own = filter-append (λ u. u.master == c) ts (t ∷ []) ∙ ap (λ us. own_transfers c ts ++ us) one
  where
    one : own_transfers c (t ∷ []) ≡ t ∷ []
    one = rw (eq-eqb t.master c own) refl

pub other_after : (c : ℕ) (ts : List Transfer) (t : Transfer) → t.master ≢ c → own_transfers c (ts ++ t ∷ []) ≡ own_transfers c ts
other_after c ts t other = filter-append (λ u. u.master == c) ts (t ∷ []) ∙ (ap (λ us. own_transfers c ts ++ us) none ∙ append-nil (own_transfers c ts))
  where
    none : own_transfers c (t ∷ []) ≡ []
    none = rw (ne_eqb t.master c other) refl

pub reported_more : (ts : List Transfer) (t : Transfer) → map without_length (ts ++ t ∷ []) ≡ map without_length ts ++ without_length t ∷ []
reported_more ts t = map-append without_length ts (t ∷ [])

pub turns_more : (ts : List Transfer) (t : Transfer) → map turn_of_transfer (map without_length (ts ++ t ∷ [])) ≡ map turn_of_transfer (map without_length ts) ++ turn_of_transfer t ∷ []
turns_more ts t = ap (map turn_of_transfer) (reported_more ts t) ∙ map-append turn_of_transfer (map without_length ts) (without_length t ∷ [])

-- ---- the core that moves

made_at : (m : MachineValue) (n : ℕ) (v : CoreValue) → slice_get m.cores n ≡ Some v → slice_get (made_of m) n ≡ Some (core_made (reported m.bus) v)
made_at m n v there = slice_get-map (core_made (reported m.bus)) m.cores n ∙ ap (option_map (core_made (reported m.bus))) there

is_at : (m : MachineValue) → AreMade m → (n : ℕ) (v : CoreValue) → slice_get m.cores n ≡ Some v → IsCoreMade (reported m.bus) n v
is_at m are n v there = subst (λ o. IfSome o (IsCoreMade (reported m.bus) n)) there (are n)

module _ (setup : Setup) (events : Actors → Actors) (m : MachineValue) (comes : ComesTo setup events m) where
  -- what an event makes, where the cores that it makes are the machine's then
  event_comes : (actor : Actor) (n : ℕ) (new : MachineValue) → ((alls : List CoreLeft) → GoOnTo alls (made_of new) → GoOnTo alls (made_of m) × (event_made n (actors_of setup alls m) actor ≡ actors_of setup alls new))
      → ComesTo setup (λ a. event_made n (events a) actor) new
  event_comes actor n new one alls goes =
      let made = one alls goes in
      ap (λ (a : Actors). event_made n a actor) (comes alls made.0) ∙ made.1

module _ (setup : Setup) (events : Actors → Actors) (m : MachineValue) (are : AreMade m) (comes : ComesTo setup events m) (n : ℕ) (old : CoreValue) (there : slice_get m.cores n ≡ Some old) where
  abbrev c : CoreMade
  c = core_made (reported m.bus) old

  is : IsMade (core_made (reported m.bus) old)
  is = (is_at m are n old there).made

  -- ---- a step without a turn

  module _ (new : CoreValue) (keeps : Keeps old new) (runs : state_of_core old ≡ Running) (steps : new.steps ≡ old.steps + 1) (stores : StoresIn old.steps (store_steps old.ops) (store_steps new.ops)) where
    abbrev d : CoreMade
    d = core_made (reported m.bus) new

    alone : StepsAlone (core_made (reported m.bus) old) (core_made (reported m.bus) new)
    alone = record { runs = ap is_running runs; steps = steps; stores = stores; transfers = ap (λ (k : ℕ). own_transfers k (reported m.bus)) keeps.core }

    made_then : made_of (with_core n new m) ≡ slice_set (made_of m) n (core_made (reported m.bus) new)
    made_then = map-set (core_made (reported m.bus)) m.cores n new

    pub step_comes : ComesTo setup (λ a. event_made n (events a) Core) (with_core n new m)
    step_comes = event_comes setup events m comes Core n (with_core n new m) one
      where
        one : (alls : List CoreLeft) → GoOnTo alls (made_of (with_core n new m)) → GoOnTo alls (made_of m) × (event_made n (actors_of setup alls m) Core ≡ actors_of setup alls (with_core n new m))
        one alls goes =
            let moved = moved_at (core_moved n) n alls (made_of m) c d None (made_at m n old there) (subst (GoOnTo alls) made_then goes) (λ all g. (alone_back n all c d is g alone, alone_moved n all c d is g alone)) in (
              moved.goes,
              moved.is (setup.config.scrub_turns - m.walk.walk.turns) (map turn_of_transfer (reported m.bus))
                  ∙ ap (λ (ds : List CoreMade). record { cores = left_of_each alls ds; scrub_turns = setup.config.scrub_turns - m.walk.walk.turns; turns = map turn_of_transfer (reported m.bus) }) (sym made_then),
            )

  -- ---- a turn

  module _ (new : CoreValue) (keeps : Keeps old new) (bus : BusState) (t : Transfer) (more : bus.transfers ≡ m.bus.transfers ++ t ∷ []) (own : t.master ≡ n) where
    abbrev after : CoreMade
    after = core_made (reported bus) new

    reported_then : reported bus ≡ reported m.bus ++ without_length t ∷ []
    reported_then = ap (map without_length) more ∙ reported_more m.bus.transfers t

    number : old.arch.core ≡ n
    number = (is_at m are n old there).number

    own_then : own_transfers new.arch.core (reported bus) ≡ own_transfers old.arch.core (reported m.bus) ++ without_length t ∷ []
    own_then =
        ap (λ (k : ℕ). own_transfers k (reported bus)) keeps.core
        ∙ (ap (own_transfers old.arch.core) reported_then ∙ own_after old.arch.core (reported m.bus) (without_length t) (own ∙ sym number))

    turn_made_then : made_of (with_core_turn n new bus m) ≡ slice_set (made_of m) n (core_made (reported bus) new)
    turn_made_then =
        map-set (core_made (reported bus)) m.cores n new
        ∙ set_others (core_made (reported bus)) (core_made (reported m.bus)) n
        (λ v other. ap (λ (ts : List Transfer). record { runs = is_running (state_of_core v); ended = is_ended (state_of_core v); steps = v.steps; stores = store_steps v.ops; transfers = ts; waiting = length v.ports.waiting })
        (ap (own_transfers v.arch.core) reported_then ∙ other_after v.arch.core (reported m.bus) (without_length t) (λ e. other (sym e ∙ own))))
        0 n m.cores (core_made (reported bus) new) (numbered m are) (omega arith)

    turns_then : map turn_of_transfer (reported bus) ≡ map turn_of_transfer (reported m.bus) ++ turn_of_transfer t ∷ []
    turns_then = ap (λ (ts : List Transfer). map turn_of_transfer (map without_length ts)) more ∙ turns_more m.bus.transfers t

    -- the turn that the event makes is that of the transfer
    event_by : (actor : Actor) (move : CoreLeft → Moved) (scheduled : Bool) → ((a : Actors) → event_made n a actor ≡ moved_by move n a (slice_get a.cores n)) → same_why t.why Sched ≡ scheduled
        → ((all : CoreLeft) → GoesOnTo all (core_made (reported bus) new) → GoesOnTo all (core_made (reported m.bus) old) × (move (left_of all (core_made (reported m.bus) old)) ≡ record { core = left_of all (core_made (reported bus) new); turn = turn_by n scheduled }))
        → ComesTo setup (λ a. event_made n (events a) actor) (with_core_turn n new bus m)
    event_by actor move scheduled moves why each = event_comes setup events m comes actor n (with_core_turn n new bus m) one
      where
        turn_is : turn_of_transfer t ≡ record { master = n; scheduled = scheduled }
        turn_is = rw (own, why) refl

        one : (alls : List CoreLeft) → GoOnTo alls (made_of (with_core_turn n new bus m)) → GoOnTo alls (made_of m) × (event_made n (actors_of setup alls m) actor ≡ actors_of setup alls (with_core_turn n new bus m))
        one alls goes =
            let moved = moved_at move n alls (made_of m) c after (turn_by n scheduled) (made_at m n old there) (subst (GoOnTo alls) turn_made_then goes) each in (
              moved.goes,
              moves (actors_of setup alls m)
                  ∙ (moved.is (setup.config.scrub_turns - m.walk.walk.turns) (map turn_of_transfer (reported m.bus))
                  ∙ (ap (λ (ds : List CoreMade). record { cores = left_of_each alls ds; scrub_turns = setup.config.scrub_turns - m.walk.walk.turns; turns = map turn_of_transfer (reported m.bus) ++ record { master = n; scheduled = scheduled } ∷ [] }) (sym turn_made_then)
                  ∙ ap (λ (us : List TurnMade). record { cores = left_of_each alls (made_of (with_core_turn n new bus m)); scrub_turns = setup.config.scrub_turns - m.walk.walk.turns; turns = us })
                  (ap (λ (u : TurnMade). map turn_of_transfer (reported m.bus) ++ u ∷ []) (sym turn_is) ∙ sym turns_then))),
            )

    -- in a step
    module _ (runs : state_of_core old ≡ Running) (steps : new.steps ≡ old.steps + 1) (stores : StoresIn old.steps (store_steps old.ops) (store_steps new.ops)) (in_step : t.step ≡ old.steps) where
      with_turn : StepsWithTurn (without_length t) (core_made (reported m.bus) old) (core_made (reported bus) new)
      with_turn = record { runs = ap is_running runs; steps = steps; stores = stores; transfers = own_then; in_step = in_step }

      pub turn_comes : same_why t.why Sched ≡ false → ComesTo setup (λ a. event_made n (events a) Core) (with_core_turn n new bus m)
      turn_comes why = event_by Core (core_moved n) false (λ a. refl) why (λ all g. (turn_back n all c after is g (without_length t) with_turn, turn_moved n all c after is g (without_length t) with_turn))

      pub drain_comes : 0 < length old.ports.waiting → same_why t.why Sched ≡ true → ComesTo setup (λ a. event_made n (events a) Drain) (with_core_turn n new bus m)
      drain_comes some why = event_by Drain (drain_moved n) true (λ a. refl) why (λ all g. (turn_back n all c after is g (without_length t) with_turn, drain_moved_in_step n all c after is g (without_length t) with_turn some))

    -- after the last step
    module _ (drains : state_of_core old ≡ Draining) (still : is_running (state_of_core new) ≡ false) (steps : new.steps ≡ old.steps) (stores : store_steps new.ops ≡ store_steps old.ops) (at_end : t.step ≡ old.steps) (why : same_why t.why Sched ≡ false) where
      drains_last : DrainsLast (without_length t) (core_made (reported m.bus) old) (core_made (reported bus) new)
      drains_last = record { none_left = ap is_running drains; unended = ap is_ended drains; still_none = still; steps = steps; stores = stores; transfers = own_then; after = omega (arith, at_end) }

      pub last_comes : ComesTo setup (λ a. event_made n (events a) Core) (with_core_turn n new bus m)
      last_comes = event_by Core (core_moved n) false (λ a. refl) why (λ all g. (drain_back n all c after is g (without_length t) drains_last, last_moved n all c after is g (without_length t) drains_last))

      pub drain_last_comes : 0 < length old.ports.waiting → ComesTo setup (λ a. event_made n (events a) Drain) (with_core_turn n new bus m)
      drain_last_comes some = event_by Drain (drain_moved n) false (λ a. refl) why (λ all g. (drain_back n all c after is g (without_length t) drains_last, drain_moved_last n all c after is g (without_length t) drains_last some))

  -- ---- passed over

  passed_by : (actor : Actor) (move : CoreLeft → Moved) → ((a : Actors) → event_made n a actor ≡ moved_by move n a (slice_get a.cores n))
      → ((all : CoreLeft) → GoesOnTo all (core_made (reported m.bus) old) → move (left_of all (core_made (reported m.bus) old)) ≡ record { core = left_of all (core_made (reported m.bus) old); turn = None })
      → ComesTo setup (λ a. event_made n (events a) actor) m
  passed_by actor move moves each = event_comes setup events m comes actor n m
      (λ alls goes. let moved = passed_at move n alls (made_of m) c (made_at m n old there) goes each in
      (goes, moves (actors_of setup alls m) ∙ moved.is (setup.config.scrub_turns - m.walk.walk.turns) (map turn_of_transfer (reported m.bus))))

  pub ended_comes : is_ended (state_of_core old) ≡ true → ComesTo setup (λ a. event_made n (events a) Core) m
  ended_comes ended = passed_by Core (core_moved n) (λ a. refl) (λ all g. ended_passed n all c is g ended)

  pub ended_drain_comes : is_ended (state_of_core old) ≡ true → ComesTo setup (λ a. event_made n (events a) Drain) m
  ended_drain_comes ended = passed_by Drain (drain_moved n) (λ a. refl) (λ all g. ended_drain_passed n all c is g ended)

  pub none_waits_comes : length old.ports.waiting ≡ 0 → ComesTo setup (λ a. event_made n (events a) Drain) m
  none_waits_comes none = passed_by Drain (drain_moved n) (λ a. refl) (λ all g. drain_passed n all c is g none)

-- there is no such core
pub none_there_comes : (setup : Setup) (events : Actors → Actors) (m : MachineValue) → ComesTo setup events m → (n : ℕ) → slice_get m.cores n ≡ None → ComesTo setup (λ a. event_made n (events a) Core) m
none_there_comes setup events m comes n none = event_comes setup events m comes Core n m
    (λ alls goes. let moved = none_at (core_moved n) n alls (made_of m) (slice_get-map (core_made (reported m.bus)) m.cores n ∙ ap (option_map (core_made (reported m.bus))) none) goes in
    (goes, moved.is (setup.config.scrub_turns - m.walk.walk.turns) (map turn_of_transfer (reported m.bus))))

pub none_there_drain_comes : (setup : Setup) (events : Actors → Actors) (m : MachineValue) → ComesTo setup events m → (n : ℕ) → slice_get m.cores n ≡ None → ComesTo setup (λ a. event_made n (events a) Drain) m
none_there_drain_comes setup events m comes n none = event_comes setup events m comes Drain n m
    (λ alls goes. let moved = none_at (drain_moved n) n alls (made_of m) (slice_get-map (core_made (reported m.bus)) m.cores n ∙ ap (option_map (core_made (reported m.bus))) none) goes in
    (goes, moved.is (setup.config.scrub_turns - m.walk.walk.turns) (map turn_of_transfer (reported m.bus))))
