-- What an event makes of one core and of the bus, it makes of the machine: it stays a machine, and comes to where the schedule's
-- definitions bring all actors.
use Rattle.leon_core.specs.Moves.{store_steps}
use Rattle.std.proofs.Common.{◌≡◌, ◌∙◌, ◌<◌, ◌≤◌, ℕ, zero, suc, Bool, true, false, not, nat_lt, List, Some, None, IfSome, length, slice_get, slice_set, refl, ap, sym, subst, arith, inl, inr}
use Rattle.std.proofs.lemmas.Bool.{lt-ltb}
use Rattle.std.specs.List.{AllByRecursion as Each}
use Rattle.ahb_bus.specs.BusState.{BusState}
use Rattle.core_parts.specs.CoreValue.{CoreValue}
use Rattle.core_parts.specs.Phases.{state_of_core}
use Rattle.lf_model.specs.Promise.Turns.{Actors, event_made}
use Rattle.lf_model.specs.declared.setup.Actor.TheVariants.{Core, Drain}
use Rattle.lf_model.specs.declared.setup.Setup.{Setup}
use Rattle.machine_play.specs.BusTurn.{IsTurnOf}
use Rattle.machine_play.specs.Machine.{IsCoreAt, IsMachine}
use Rattle.machine_play.specs.MachineMade.{is_ended, ComesTo}
use Rattle.machine_play.specs.MachineValue.{MachineValue, with_core, with_core_turn}
use Rattle.machine_play.specs.Moved.{IsSound, IsMoved, IsCoreOver, Advances}
use Rattle.machine_play.specs.OneCore.{IsBeside, StepsWithoutTurn, MakesTurn, StepsWithTurn, DrainsAtEnd, Stays, MovesCore, DrainsCore}
use Rattle.machine_play.proofs.AllEvents.{set_same}
use Rattle.machine_play.proofs.CoresMade.{are_made}
use Rattle.machine_play.proofs.LeftInMachine.{step_less, turn_less}
use Rattle.machine_play.proofs.MachineEvents.{step_comes, turn_comes, drain_comes, last_comes, drain_last_comes, ended_comes, ended_drain_comes, none_waits_comes, none_there_comes, none_there_drain_comes}
use Rattle.machine_play.proofs.MachineKeeps.{stores_stepped, core_there, number_within, step_keeps, turn_keeps}
use Rattle.machine_play.proofs.OneCoreMoves.{may_step}

-- it stays as it is
pub stays_moved : (m : MachineValue) (events : Actors → Actors) → IsSound m
    → ((before : Actors → Actors) → ComesTo m.bus.setup before m → ComesTo m.bus.setup (λ a. events (before a)) m) → IsMoved events m m
stays_moved m events is makes = record { setup = refl; machine = is; makes = makes }

-- a core that says so has no store that waits
pub none_waits : (v : CoreValue) (waits : Bool) → waits ≡ nat_lt 0 (length v.ports.waiting) → not waits ≡ true → length v.ports.waiting ≡ 0
none_waits v waits is none = of (length v.ports.waiting) waits is none
  where
    of : (n : ℕ) (b : Bool) → b ≡ nat_lt 0 n → not b ≡ true → n ≡ 0
    of zero b e h = refl
    of (suc n) b e h = absurd (clash b (e ∙ lt-ltb 0 (suc n) (omega arith)) h)
      where
        clash : (b : Bool) → b ≡ true → not b ≡ true → ⊥
        clash true e h = cc
        clash false e h = cc

module _ (m : MachineValue) (is : IsSound m) (n : ℕ) where
  -- there is no such core
  pub none_moved : slice_get m.cores n ≡ None → IsMoved (λ a. event_made n a Core) m m
  none_moved none = stays_moved m (λ a. event_made n a Core) is (λ before comes. none_there_comes m.bus.setup before m comes n none)

  pub none_drained : slice_get m.cores n ≡ None → IsMoved (λ a. event_made n a Drain) m m
  none_drained none = stays_moved m (λ a. event_made n a Drain) is (λ before comes. none_there_drain_comes m.bus.setup before m comes n none)

  pub none_over : slice_get m.cores n ≡ None → IsCoreOver n m
  none_over none = subst (λ o. IfSome o (λ (v : CoreValue). is_ended (state_of_core v) ≡ true)) (sym none) tt

-- ---- core n

module _ (m : MachineValue) (is : IsSound m) (n : ℕ) (old : CoreValue) (there : slice_get m.cores n ≡ Some old) where
  at : IsCoreAt m.bus.setup m.bus n old
  at = core_there m.bus.setup m is n old there

  pub beside : IsBeside old m.bus
  beside = record {
    core = subst (λ (c : ℕ). IsCoreAt m.bus.setup m.bus c old) (sym at.number) at;
    within = omega (arith, at.number, number_within m.bus.setup m is n old there);
    idle = is.idle;
  }

  over : is_ended (state_of_core old) ≡ true → IsCoreOver n m
  over ended = subst (λ o. IfSome o (λ (v : CoreValue). is_ended (state_of_core v) ≡ true)) (sym there) ended

  -- ---- an event of it that makes nothing, and leaves all as it is

  pub ended_moved : is_ended (state_of_core old) ≡ true → IsMoved (λ a. event_made n a Core) m m
  ended_moved ended = stays_moved m (λ a. event_made n a Core) is (λ before comes. ended_comes m.bus.setup before m (are_made m.bus.setup m is) comes n old there ended)

  pub ended_drained : is_ended (state_of_core old) ≡ true → IsMoved (λ a. event_made n a Drain) m m
  ended_drained ended = stays_moved m (λ a. event_made n a Drain) is (λ before comes. ended_drain_comes m.bus.setup before m (are_made m.bus.setup m is) comes n old there ended)

  pub none_waits_drained : length old.ports.waiting ≡ 0 → IsMoved (λ a. event_made n a Drain) m m
  none_waits_drained none = stays_moved m (λ a. event_made n a Drain) is (λ before comes. none_waits_comes m.bus.setup before m (are_made m.bus.setup m is) comes n old there none)

  module _ (new : CoreValue) (bus : BusState) where
    abbrev then_ : MachineValue
    then_ = with_core_turn n new bus m

    -- ---- it makes nothing

    stayed : Stays old new m.bus bus → with_core_turn n new bus m ≡ m
    stayed s =
        ap (λ (b : BusState). with_core_turn n new b m) s.bus
        ∙ ap (λ (vs : List CoreValue). record m { cores = vs }) (ap (slice_set m.cores n) s.core ∙ set_same m.cores n old there)

    stays : (events : Actors → Actors) → Stays old new m.bus bus → IsMoved events m m → IsMoved events m (with_core_turn n new bus m)
    stays events s moved = subst (IsMoved events m) (sym (stayed s)) moved

    -- ---- a step without a turn

    module _ (s : StepsWithoutTurn old new m.bus bus) where
      same_bus : with_core n new m ≡ with_core_turn n new bus m
      same_bus = ap (λ (b : BusState). with_core_turn n new b m) (sym s.bus)

      alone_moved : IsMoved (λ a. event_made n a Core) m (with_core_turn n new bus m)
      alone_moved = subst (IsMoved (λ a. event_made n a Core) m) same_bus (record {
        setup = refl;
        machine = step_keeps m.bus.setup m is n old there new s.keeps s.rests (stores_stepped old.steps (store_steps old.ops) (store_steps new.ops) at.stores_made s.stores new.steps s.steps) s.ok;
        makes = λ before comes. step_comes m.bus.setup before m (are_made m.bus.setup m is) comes n old there new s.keeps s.runs s.steps s.stores;
      })

      alone_advances : Advances (IsCoreOver n m) m (with_core_turn n new bus m)
      alone_advances = subst (Advances (IsCoreOver n m) m) same_bus (inr (step_less m n old new there s.keeps.setup s.steps (may_step old at.rests s.runs).left))

    -- ---- a turn

    module _ (scheduled : Bool) (t : MakesTurn scheduled old new m.bus bus) where
      turn_is : IsTurnOf n t.transfer t.entries m.bus bus
      turn_is = subst (λ (c : ℕ). IsTurnOf c t.transfer t.entries m.bus bus) at.number t.turn

      turn_moved : (events : Actors → Actors) → Each (λ step. step < new.steps) (store_steps new.ops)
          → ((before : Actors → Actors) → ComesTo m.bus.setup before m → ComesTo m.bus.setup (λ a. events (before a)) (with_core_turn n new bus m)) → IsMoved events m (with_core_turn n new bus m)
      turn_moved events made makes = record {
        setup = turn_is.setup_is;
        machine = subst (λ (s : Setup). IsMachine s (with_core_turn n new bus m)) (sym turn_is.setup_is)
            (turn_keeps m.bus.setup m is n old there new t.keeps t.rests made bus t.transfer t.entries turn_is t.ok);
        makes = makes;
      }

      turn_advances : old.steps ≤ new.steps → Advances (IsCoreOver n m) m (with_core_turn n new bus m)
      turn_advances steps = inr (turn_less m n old new there t.keeps.setup bus t.transfer steps turn_is.ok turn_is.setup_is turn_is.transfers_is)

    -- of a step
    module _ (scheduled : Bool) (s : StepsWithTurn scheduled old new m.bus bus) where
      step_made : Each (λ step. step < new.steps) (store_steps new.ops)
      step_made = stores_stepped old.steps (store_steps old.ops) (store_steps new.ops) at.stores_made s.stores new.steps s.steps

    step_moved : StepsWithTurn false old new m.bus bus → IsMoved (λ a. event_made n a Core) m (with_core_turn n new bus m)
    step_moved s = turn_moved false s.makes (λ a. event_made n a Core) (step_made false s)
        (λ before comes. let t = s.makes in
        turn_comes m.bus.setup before m (are_made m.bus.setup m is) comes n old there new t.keeps bus t.transfer (turn_is false t).transfers_is (turn_is false t).master_is s.runs s.steps s.stores t.in_step t.cause)

    scheduled_moved : StepsWithTurn true old new m.bus bus → 0 < length old.ports.waiting → IsMoved (λ a. event_made n a Drain) m (with_core_turn n new bus m)
    scheduled_moved s some = turn_moved true s.makes (λ a. event_made n a Drain) (step_made true s)
        (λ before comes. let t = s.makes in
        drain_comes m.bus.setup before m (are_made m.bus.setup m is) comes n old there new t.keeps bus t.transfer (turn_is true t).transfers_is (turn_is true t).master_is s.runs s.steps s.stores t.in_step some
        t.cause)

    -- after the last step
    module _ (d : DrainsAtEnd old new m.bus bus) where
      last_made : Each (λ step. step < new.steps) (store_steps new.ops)
      last_made = subst (Each (λ step. step < new.steps)) (sym d.stores) (subst (λ (k : ℕ). Each (λ step. step < k) (store_steps old.ops)) (sym d.steps) at.stores_made)

      last_moved : IsMoved (λ a. event_made n a Core) m (with_core_turn n new bus m)
      last_moved = turn_moved false d.makes (λ a. event_made n a Core) last_made
          (λ before comes. let t = d.makes in
          last_comes m.bus.setup before m (are_made m.bus.setup m is) comes n old there new t.keeps bus t.transfer (turn_is false t).transfers_is (turn_is false t).master_is d.drains d.still d.steps d.stores
          t.in_step t.cause)

      last_drained : 0 < length old.ports.waiting → IsMoved (λ a. event_made n a Drain) m (with_core_turn n new bus m)
      last_drained some = turn_moved false d.makes (λ a. event_made n a Drain) last_made
          (λ before comes. let t = d.makes in
          drain_last_comes m.bus.setup before m (are_made m.bus.setup m is) comes n old there new t.keeps bus t.transfer (turn_is false t).transfers_is (turn_is false t).master_is d.drains d.still d.steps d.stores
          t.in_step t.cause some)

    -- ---- its events

    pub core_moved : MovesCore old new m.bus bus → IsMoved (λ a. event_made n a Core) m (with_core_turn n new bus m)
    core_moved (inl (inl s)) = alone_moved s
    core_moved (inl (inr s)) = step_moved s
    core_moved (inr (inl d)) = last_moved d
    core_moved (inr (inr s)) = stays (λ a. event_made n a Core) s.1 (ended_moved s.0)

    pub core_advances : MovesCore old new m.bus bus → Advances (IsCoreOver n m) m (with_core_turn n new bus m)
    core_advances (inl (inl s)) = alone_advances s
    core_advances (inl (inr s)) = turn_advances false s.makes (omega (arith, s.steps))
    core_advances (inr (inl d)) = turn_advances false d.makes (omega (arith, d.steps))
    core_advances (inr (inr s)) = inl (over s.0, stayed s.1)

    pub core_drained : DrainsCore old new m.bus bus → IsMoved (λ a. event_made n a Drain) m (with_core_turn n new bus m)
    core_drained (inl (some, inl s)) = scheduled_moved s some
    core_drained (inl (some, inr d)) = last_drained d some
    core_drained (inr (inl none, s)) = stays (λ a. event_made n a Drain) s (none_waits_drained none)
    core_drained (inr (inr ended, s)) = stays (λ a. event_made n a Drain) s (ended_drained ended)
