-- The turns on the bus are those that the schedule gives, where its events and then rounds bring all actors to the machine at its end.
use Rattle.std.proofs.Common.{◌≡◌, ◌∙◌, ◌≤◌, ℕ, true, List, [], ◌∷◌, Option, Some, None, IfSome, length, map, fold, slice_get, refl, ap, sym, subst, arith}
use Rattle.std.specs.List.{range_with_len}
use Rattle.core_parts.specs.CoreValue.{CoreValue}
use Rattle.core_parts.specs.Phases.{state_of_core}
use Rattle.lf_model.specs.Bus.Walk.{scrubber}
use Rattle.lf_model.specs.Ledger.Steps.{own_transfers}
use Rattle.lf_model.specs.Promise.Follows.{scheduled, round, rounds, rounds_enough, turns_of, Follows}
use Rattle.lf_model.specs.Promise.Turns.{CoreLeft, Actors, turn_of_transfer, event_made}
use Rattle.lf_model.specs.declared.setup.Actor.TheVariants.{Core}
use Rattle.lf_model.specs.declared.setup.Event.{Event}
use Rattle.lf_model.specs.declared.setup.Setup.{Setup}
use Rattle.lf_model.specs.declared.trace.Trace.{Trace}
use Rattle.machine_play.specs.CoreMade.{GoOnTo}
use Rattle.machine_play.specs.LeftOver.{left_over}
use Rattle.machine_play.specs.MachineMade.{is_ended, core_made, reported, made_of, all_at_start, AreMade, HasEnded, ComesTo}
use Rattle.machine_play.specs.MachineValue.{MachineValue}
use Rattle.machine_play.proofs.AtEnd.{AreShown, started_from, all_go, steps_sum, left_at_first}
use Rattle.machine_play.proofs.MachineEvents.{ended_comes, none_there_comes}
use Rattle.machine_play.proofs.OwnShares.{own_within}
use Rattle.machine_play.proofs.Rounds.{rounds_end, schedule_no_more}
use Rattle.machine_play.proofs.ScrubEvents.{scrub_passed}

-- ---- a machine that has ended

module _ (setup : Setup) (m : MachineValue) (are : AreMade m) (ended : HasEnded setup m) where
  -- a core's event is passed over
  core_passed : (events : Actors → Actors) → ComesTo setup events m → (n : ℕ) → ComesTo setup (λ a. event_made n (events a) Core) m
  core_passed events comes n = by (slice_get m.cores n) refl (ended.cores n)
    where
      by : (found : Option CoreValue) → slice_get m.cores n ≡ found → IfSome found (λ v. is_ended (state_of_core v) ≡ true) → ComesTo setup (λ a. event_made n (events a) Core) m
      by None there h = none_there_comes setup events m comes n there
      by (Some v) there h = ended_comes setup events m are comes n v there h

  cores_passed : (ns : List ℕ) (events : Actors → Actors) → ComesTo setup events m → ComesTo setup (λ a. fold (λ b n. event_made n b Core) (events a) ns) m
  cores_passed [] events comes = comes
  cores_passed (n ∷ ns) events comes = cores_passed ns (λ a. event_made n (events a) Core) (core_passed events comes n)

  -- a round changes nothing
  round_passed : (alls : List CoreLeft) (start : Actors) → all_at_start setup alls ≡ start → (events : Actors → Actors) → ComesTo setup events m → GoOnTo alls (made_of m) → round (events start) ≡ events start
  round_passed alls start is events comes goes =
      subst (λ (s : Actors). round (events s) ≡ events s) is
      (scrub_passed setup (λ a. fold (λ b n. event_made n b Core) (events a) (range_with_len 0 (length (events (all_at_start setup alls)).cores))) m are
      (cores_passed (range_with_len 0 (length (events (all_at_start setup alls)).cores)) events comes) 0 ended.scrubber alls goes
      ∙ sym (comes alls goes))

  -- ---- the trace that shows it

  module _ (events : List Event) (trace : Trace) (transfers : trace.transfers ≡ reported m.bus) (shown : AreShown trace 0 trace.cores m.cores) (few : length trace.cores ≤ 8)
      (scrub_turns : setup.config.scrub_turns ≤ length (own_transfers scrubber trace.transfers)) where
    abbrev alls : List CoreLeft
    alls = started_from trace 0 trace.cores

    goes : GoOnTo (started_from trace 0 trace.cores) (made_of m)
    goes = subst (λ ts. GoOnTo (started_from trace 0 trace.cores) (map (core_made ts) m.cores)) transfers (all_go trace 0 trace.cores m.cores shown)

    enough : left_over (all_at_start setup (started_from trace 0 trace.cores)) ≤ rounds_enough trace
    enough = omega (arith, left_at_first trace 0 trace.cores, steps_sum trace trace.cores, own_within (length trace.cores) 0 trace.transfers (omega (arith, few)), scrub_turns)

    pub follows : (k : ℕ) → ComesTo setup (λ a. rounds k (fold scheduled a events)) m → Follows setup events trace
    unfolding turns_of
    follows k comes = record {
      turns =
          ap (λ (a : Actors). a.turns) (rounds_end k (rounds_enough trace) (fold scheduled (all_at_start setup alls) events)
          (omega (arith, enough, schedule_no_more events (all_at_start setup alls)))
          (round_passed alls (all_at_start setup alls) refl (λ a. rounds k (fold scheduled a events)) comes goes))
          ∙ (ap (λ (a : Actors). a.turns) (comes alls goes) ∙ ap (map turn_of_transfer) (sym transfers));
    }
