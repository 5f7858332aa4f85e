-- What holds of a core that has ended, by the ground that knows its end.
use Rattle.std.proofs.Common.{◌≡◌, ◌∙◌, ◌≤◌, true, false, List, [], length, filter, refl, ap, sym, subst}
use Rattle.std.specs.List.{AllByRecursion as Each, list_all}
use Rattle.core_parts.specs.CoreValue.{CoreValue}
use Rattle.core_parts.specs.Phases.{ground_by}
use Rattle.core_parts.specs.Seat.{seat, IsSeat}
use Rattle.core_parts.specs.declared.phase.Phase.{Phase}
use Rattle.core_parts.specs.declared.phase.Phase.TheVariants.{Ended}
use Rattle.core_laws.specs.RunSoFar.{HasRun}
use Rattle.core_course.proofs.LaterSeat.{Reaches}
use Rattle.core_course.specs.CoreOk.{HasEnded, StandsBy, LeftBy, CoreOk}
use Rattle.core_course.specs.Result.{result_of}
use Rattle.lf_model.specs.Course.Core.{Ground, given_by, ground_of, is_store, is_store_stop}
use Rattle.lf_model.specs.Course.Progress.{Progress}
use Rattle.lf_model.specs.Ledger.CoreAccount.{stores_lost, lost_reported}
use Rattle.lf_model.specs.Ledger.Steps.{own_transfers, HasSteps}
use Rattle.lf_model.specs.Operation.{is_lost}
use Rattle.lf_model.specs.Records.BusRecord.{is_in_memory}
use Rattle.lf_model.specs.Records.OwnTurns.{OwnTurnAt, words_named}
use Rattle.lf_model.specs.Records.SeenOrder.{HasSeen}
use Rattle.lf_model.specs.Results.{IsEnd}
use Rattle.lf_model.specs.Start.{initial_byte}
use Rattle.lf_model.specs.declared.bus.Entry.{Entry}
use Rattle.lf_model.specs.declared.bus.Transfer.{Transfer}
use Rattle.lf_model.specs.declared.trace.CoreEnd.{CoreEnd}

-- what it goes by
abbrev pub ground_ended : CoreValue → CoreEnd → Ground
ground_ended v end = ground_of v.setup v.arch.core (given_by v.ops) end v.steps

module _ (v : CoreValue) (end : CoreEnd) (log : List Entry) (ts : List Transfer) where
  pub record EndsOn (k : Progress) : Type 0 where
    pub log_length : length log ≡ v.log_seen
    pub turns : length ts ≡ v.turns_seen
    pub in_memory : list_all (is_in_memory v.setup.config.ram) ts ≡ true
    pub reaches : Reaches (ground_ended v end) ts v.steps k
    pub is_seat : IsSeat v (ground_ended v end) k
    pub is_end : IsEnd v.setup v.steps end
    pub within : v.steps ≤ v.setup.config.steps
    pub none_wait : v.ports.waiting ≡ []
    pub has_steps : HasSteps v.setup (result_of v end) (own_transfers v.arch.core ts)
    pub has_seen : HasSeen (initial_byte v.setup.image) v.arch.core v.ops v.seen_by log
    pub none_lost : is_store_stop end ≡ false → Each (λ o. is_lost o ≡ false) v.ops
    pub lost : stores_lost (ground_ended v end) k ≡ lost_reported (filter is_store v.ops)
    pub named : v.named ≡ words_named (ground_ended v end) ts

  pub ground_is : (phase : Phase) → phase ≡ Ended end → ground_by v phase ≡ ground_ended v end
  ground_is phase is = rw is refl

  as_stands : (phase : Phase) → phase ≡ Ended end → HasEnded v end log ts → StandsBy v log ts phase
  as_stands phase is h = rw is h

  none_begun : (phase : Phase) → phase ≡ Ended end → LeftBy v phase
  none_begun phase is = rw is tt

  pub holds_ended : (k : Progress) → v.phase ≡ Ended end → EndsOn k → CoreOk v log ts
  holds_ended k phase h = record {
    log_length = h.log_length;
    turns = h.turns;
    in_memory = h.in_memory;
    is_seat = subst (λ g. IsSeat v g (seat g ts v.steps)) (sym (ground_is v.phase phase)) (subst (IsSeat v (ground_ended v end)) (sym h.reaches.at) h.is_seat);
    has_run = subst (λ g. HasRun g (seat g ts v.steps)) (sym (ground_is v.phase phase)) (subst (HasRun (ground_ended v end)) (sym h.reaches.at) h.reaches.has_run);
    right_turns = λ turn within. subst (λ g. OwnTurnAt g ts turn) (sym (ground_is v.phase phase)) (h.reaches.right_turns turn within);
    stands = as_stands v.phase phase (record {
      is_end = h.is_end;
      within = h.within;
      none_wait = h.none_wait;
      has_steps = h.has_steps;
      has_seen = h.has_seen;
      none_lost = h.none_lost;
      lost = subst (λ g. stores_lost g (seat g ts v.steps) ≡ lost_reported (filter is_store v.ops)) (sym (ground_is v.phase phase))
          (ap (stores_lost (ground_ended v end)) h.reaches.at ∙ h.lost);
      named = h.named ∙ ap (λ g. words_named g ts) (sym (ground_is v.phase phase));
    });
    left = none_begun v.phase phase;
  }
