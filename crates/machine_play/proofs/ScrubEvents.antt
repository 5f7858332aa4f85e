-- The scrubber's turn, as the definitions of a schedule make it of all actors; and the machine before its first event.
use Rattle.leon_core.specs.Moves.{store_steps}
use Rattle.std.proofs.Common.{◌≡◌, ◌≢◌, ◌∙◌, ◌+◌, ◌-◌, ◌<◌, ◌≤◌, ℕ, suc, true, false, nat_lt, List, [], ◌∷◌, ◌++◌, Option, Some, None, IfSome, length, map, slice_get, refl, ap, sym, subst, arith}
use Rattle.std.proofs.lemmas.Bool.{lt-ltb}
use Rattle.std.proofs.lemmas.Option.{slice_get_within}
use Rattle.std.specs.List.{AllByRecursion as Each}
use Rattle.ahb_bus.specs.BusState.{BusState}
use Rattle.core_parts.specs.CoreValue.{CoreValue}
use Rattle.core_parts.specs.Phases.{state_of_core}
use Rattle.lf_model.specs.Bus.Walk.{scrubber}
use Rattle.lf_model.specs.Ledger.Account.{without_length}
use Rattle.lf_model.specs.Ledger.Steps.{own_transfers}
use Rattle.lf_model.specs.Names.{same_why}
use Rattle.lf_model.specs.Promise.Turns.{TurnMade, CoreLeft, Actors, turn_of_transfer, scrubbed, event_made}
use Rattle.lf_model.specs.declared.bus.Transfer.{Transfer}
use Rattle.lf_model.specs.declared.bus.Why.TheVariants.{Sched}
use Rattle.lf_model.specs.declared.setup.Actor.TheVariants.{Scrub}
use Rattle.lf_model.specs.declared.setup.Setup.{Setup}
use Rattle.machine_play.specs.CoreMade.{CoreMade, left_of, GoOnTo, left_of_each}
use Rattle.machine_play.specs.MachineMade.{is_running, is_ended, core_made, reported, made_of, actors_of, IsCoreMade, AreMade, ComesTo}
use Rattle.machine_play.specs.MachineValue.{MachineValue, with_scrub_turn}
use Rattle.machine_play.proofs.CoreEvents.{left_at_start, not_less}
use Rattle.machine_play.proofs.MachineEvents.{other_after, reported_more, turns_more}
use Rattle.scrubber.specs.WalkState.{WalkState}

-- ---- lists

map_same_at : (f g : CoreValue → CoreMade) (vs : List CoreValue) → ((i : ℕ) → IfSome (slice_get vs i) (λ v. f v ≡ g v)) → map f vs ≡ map g vs
map_same_at f g [] same = refl
map_same_at f g (v ∷ vs) same =
    let first : f v ≡ g v = same 0 in
    rw (first, map_same_at f g vs (λ i. same (suc i))) refl

-- ---- its turn

module _ (setup : Setup) (events : Actors → Actors) (m : MachineValue) (are : AreMade m) (comes : ComesTo setup events m) where
  -- a turn is left
  module _ (walk : WalkState) (bus : BusState) (t : Transfer) (left : m.walk.walk.turns < setup.config.scrub_turns) (turns : walk.walk.turns ≡ m.walk.walk.turns + 1)
      (more : bus.transfers ≡ m.bus.transfers ++ t ∷ []) (own : t.master ≡ scrubber) (why : same_why t.why Sched ≡ false) (few : length m.cores ≤ 8) where
    reported_then : reported bus ≡ reported m.bus ++ without_length t ∷ []
    reported_then = ap (map without_length) more ∙ reported_more m.bus.transfers t

    same_core : (v : CoreValue) → v.arch.core ≢ scrubber → core_made (reported bus) v ≡ core_made (reported m.bus) v
    same_core v other = ap (λ (ts : List Transfer). record { runs = is_running (state_of_core v); ended = is_ended (state_of_core v); steps = v.steps; stores = store_steps v.ops; transfers = ts; waiting = length v.ports.waiting })
        (ap (own_transfers v.arch.core) reported_then ∙ other_after v.arch.core (reported m.bus) (without_length t) (λ e. other (sym e ∙ own)))

    same_cores : made_of (with_scrub_turn walk bus m) ≡ made_of m
    same_cores = map_same_at (core_made (reported bus)) (core_made (reported m.bus)) m.cores (λ i. by i (slice_get m.cores i) refl (are i))
      where
        by : (i : ℕ) (found : Option CoreValue) → slice_get m.cores i ≡ found → IfSome found (IsCoreMade (reported m.bus) i) → IfSome found (λ v. core_made (reported bus) v ≡ core_made (reported m.bus) v)
        by i None there h = tt
        by i (Some v) there h = same_core v (λ e. omega (arith, e, h.number, few, slice_get_within m.cores i v there))

    turns_then : map turn_of_transfer (reported bus) ≡ map turn_of_transfer (reported m.bus) ++ record { master = scrubber; scheduled = false } ∷ []
    turns_then =
        ap (λ (ts : List Transfer). map turn_of_transfer (map without_length ts)) more
        ∙ (turns_more m.bus.transfers t ∙ ap (λ (u : TurnMade). map turn_of_transfer (reported m.bus) ++ u ∷ []) turn_is)
      where
        turn_is : turn_of_transfer t ≡ record { master = scrubber; scheduled = false }
        turn_is = rw (own, why) refl

    pub scrub_comes : (n : ℕ) → ComesTo setup (λ a. event_made n (events a) Scrub) (with_scrub_turn walk bus m)
    scrub_comes n alls goes =
        ap scrubbed (comes alls (subst (GoOnTo alls) same_cores goes))
        ∙ (scrub_is (lt-ltb 0 (setup.config.scrub_turns - m.walk.walk.turns) (omega (arith, left)))
        ∙ (ap (λ (k : ℕ). record { cores = left_of_each alls (made_of m); scrub_turns = k; turns = map turn_of_transfer (reported m.bus) ++ record { master = scrubber; scheduled = false } ∷ [] }) less
        ∙ (ap (λ (us : List TurnMade). record { cores = left_of_each alls (made_of m); scrub_turns = setup.config.scrub_turns - walk.walk.turns; turns = us }) (sym turns_then)
        ∙ ap (λ (cs : List CoreMade). record { cores = left_of_each alls cs; scrub_turns = setup.config.scrub_turns - walk.walk.turns; turns = map turn_of_transfer (reported bus) }) (sym same_cores))))
      where
        less : setup.config.scrub_turns - m.walk.walk.turns - 1 ≡ setup.config.scrub_turns - walk.walk.turns
        less = omega (arith, turns)

        scrub_is : nat_lt 0 (setup.config.scrub_turns - m.walk.walk.turns) ≡ true → scrubbed (actors_of setup alls m)
            ≡ record { cores = left_of_each alls (made_of m); scrub_turns = setup.config.scrub_turns - m.walk.walk.turns - 1; turns = map turn_of_transfer (reported m.bus) ++ record { master = scrubber; scheduled = false } ∷ [] }
        scrub_is some = rw some refl

  -- none is left
  pub scrub_passed : (n : ℕ) → setup.config.scrub_turns ≤ m.walk.walk.turns → ComesTo setup (λ a. event_made n (events a) Scrub) m
  scrub_passed n none alls goes = ap scrubbed (comes alls goes) ∙ passed (not_less 0 (setup.config.scrub_turns - m.walk.walk.turns) (omega (arith, none)))
    where
      passed : nat_lt 0 (setup.config.scrub_turns - m.walk.walk.turns) ≡ false → scrubbed (actors_of setup alls m) ≡ actors_of setup alls m
      passed is = rw is refl

-- ---- before the first event

-- it has made nothing
pub record HasMadeNothing (c : CoreMade) : Type 0 where
  pub steps : c.steps ≡ 0
  pub transfers : c.transfers ≡ []

none_left_out : (alls : List CoreLeft) (cs : List CoreMade) → Each HasMadeNothing cs → GoOnTo alls cs → alls ≡ left_of_each alls cs
none_left_out [] [] none goes = refl
none_left_out [] (c ∷ cs) none goes = absurd goes
none_left_out (all ∷ alls) [] none goes = absurd goes
none_left_out (all ∷ alls) (c ∷ cs) none goes =
    let first : left_of all c ≡ all = left_at_start all c goes.0.none_made goes.0.none_drained none.0.steps none.0.transfers in
    ap (λ (ls : List CoreLeft). all ∷ ls) (none_left_out alls cs none.1 goes.1) ∙ ap (λ (l : CoreLeft). l ∷ left_of_each alls cs) (sym first)

pub start_comes : (setup : Setup) (m : MachineValue) → Each HasMadeNothing (made_of m) → m.walk.walk.turns ≡ 0 → m.bus.transfers ≡ [] → ComesTo setup (λ a. a) m
start_comes setup m none turns transfers alls goes =
    ap (λ (ls : List CoreLeft). record { cores = ls; scrub_turns = setup.config.scrub_turns; turns = [] }) (none_left_out alls (made_of m) none goes)
    ∙ (ap (λ (k : ℕ). record { cores = left_of_each alls (made_of m); scrub_turns = k; turns = [] }) all_left
    ∙ ap (λ (ts : List Transfer). record { cores = left_of_each alls (made_of m); scrub_turns = setup.config.scrub_turns - m.walk.walk.turns; turns = map turn_of_transfer (map without_length ts) }) (sym transfers))
  where
    all_left : setup.config.scrub_turns ≡ setup.config.scrub_turns - m.walk.walk.turns
    all_left = omega (arith, turns)
