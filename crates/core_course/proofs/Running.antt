-- What holds of a core that goes on, by the ground that it has so far.
use Rattle.std.proofs.Common.{◌≡◌, ◌<◌, ℕ, true, List, length, refl, sym, subst}
use Rattle.std.specs.List.{list_all}
use Rattle.core_laws.specs.RunSoFar.{HasRun}
use Rattle.core_laws.specs.Running.{running}
use Rattle.core_parts.specs.CoreValue.{CoreValue}
use Rattle.core_parts.specs.Phases.{ground_by}
use Rattle.core_parts.specs.Seat.{seat, IsSeat}
use Rattle.core_parts.specs.declared.phase.Phase.{Phase}
use Rattle.core_parts.specs.declared.phase.Phase.TheVariants.{Between, Begun, Needs, Ended}
use Rattle.core_course.specs.CoreOk.{GoesOn, StandsBy, LeftBy, CoreOk}
use Rattle.lf_model.specs.Course.Core.{Ground, given_by}
use Rattle.lf_model.specs.Records.BusRecord.{is_in_memory}
use Rattle.lf_model.specs.Records.OwnTurns.{OwnTurnAt}
use Rattle.lf_model.specs.declared.bus.Entry.{Entry}
use Rattle.lf_model.specs.declared.bus.Transfer.{Transfer}

-- what it goes by
abbrev pub ground_running : CoreValue → Ground
ground_running v = running v.setup v.arch.core (given_by v.ops)

-- it has not ended
abbrev pub IsUnended : Phase → Type 0
IsUnended Between = Unit {0}
IsUnended Begun = Unit {0}
IsUnended (Needs turn) = Unit {0}
IsUnended (Ended end) = ⊥

pub unended_between : (phase : Phase) → phase ≡ Between → IsUnended phase
unended_between phase is = rw is tt

-- between steps it makes none
pub none_begun : (v : CoreValue) (phase : Phase) → phase ≡ Between → LeftBy v phase
none_begun v phase is = rw is tt

pub unended_begun : (phase : Phase) → phase ≡ Begun → IsUnended phase
unended_begun phase is = rw is tt

module _ (v : CoreValue) (log : List Entry) (ts : List Transfer) where
  pub record RunsOn : Type 0 where
    pub log_length : length log ≡ v.log_seen
    pub turns : length ts ≡ v.turns_seen
    pub in_memory : list_all (is_in_memory v.setup.config.ram) ts ≡ true
    pub is_seat : IsSeat v (ground_running v) (seat (ground_running v) ts v.steps)
    pub has_run : HasRun (ground_running v) (seat (ground_running v) ts v.steps)
    pub right_turns : (turn : ℕ) → turn < length ts → OwnTurnAt (ground_running v) ts turn
    pub goes_on : GoesOn v log ts

  pub ground_is : (phase : Phase) → IsUnended phase → ground_by v phase ≡ ground_running v
  ground_is Between is = refl
  ground_is Begun is = refl
  ground_is (Needs turn) is = refl
  ground_is (Ended end) is = absurd is

  stands_as : (phase : Phase) → IsUnended phase → StandsBy v log ts phase → GoesOn v log ts
  stands_as Between is h = h
  stands_as Begun is h = h
  stands_as (Needs turn) is h = h
  stands_as (Ended end) is h = absurd is

  as_stands : (phase : Phase) → IsUnended phase → GoesOn v log ts → StandsBy v log ts phase
  as_stands Between is h = h
  as_stands Begun is h = h
  as_stands (Needs turn) is h = h
  as_stands (Ended end) is h = absurd is

  pub runs_on : IsUnended v.phase → CoreOk v log ts → RunsOn
  runs_on is h = record {
    log_length = h.log_length;
    turns = h.turns;
    in_memory = h.in_memory;
    is_seat = subst (λ g. IsSeat v g (seat g ts v.steps)) (ground_is v.phase is) h.is_seat;
    has_run = subst (λ g. HasRun g (seat g ts v.steps)) (ground_is v.phase is) h.has_run;
    right_turns = λ turn within. subst (λ g. OwnTurnAt g ts turn) (ground_is v.phase is) (h.right_turns turn within);
    goes_on = stands_as v.phase is h.stands;
  }

  pub holds_on : IsUnended v.phase → LeftBy v v.phase → RunsOn → CoreOk v log ts
  holds_on is left h = record {
    log_length = h.log_length;
    turns = h.turns;
    in_memory = h.in_memory;
    is_seat = subst (λ g. IsSeat v g (seat g ts v.steps)) (sym (ground_is v.phase is)) h.is_seat;
    has_run = subst (λ g. HasRun g (seat g ts v.steps)) (sym (ground_is v.phase is)) h.has_run;
    right_turns = λ turn within. subst (λ g. OwnTurnAt g ts turn) (sym (ground_is v.phase is)) (h.right_turns turn within);
    stands = as_stands v.phase is h.goes_on;
    left = left;
  }
