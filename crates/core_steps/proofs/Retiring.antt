-- A try whose instruction retires, or puts the core into error mode, needs no turn, and leaves what the seat of the next step
-- needs.
use Rattle.std.proofs.Common.{◌≡◌, ◌∙◌, ◌+◌, ◌++◌, ℕ, Bool, true, false, List, [], ◌∷◌, Option, Some, None, length, fold, nat_lt, nat_le, if◌then◌else◌, refl, sym, ap, arith}
use Rattle.std.proofs.lemmas.Bool.{false≢true}
use Rattle.std.proofs.lemmas.List.{append-nil, length-append}
use Rattle.core_laws.proofs.Completions.{all_reported}
use Rattle.core_parts.specs.CoreValue.{CoreValue, seen_of}
use Rattle.core_parts.specs.Moves.{tried_at, Retires}
use Rattle.core_parts.specs.PortState.{PortState, answers, arrays_in}
use Rattle.core_parts.specs.declared.phase.Phase.TheVariants.{Between, Ended}
use Rattle.core_steps.specs.Tries.{state_here, effect_here, window_over, try_here, need_here, ops_by, Tries, ended}
use Rattle.core_steps.proofs.Begun.{Begins, run_is, effect_is, tried_is, needs_are}
use Rattle.core_steps.proofs.EffectEnds.{EndsSo, ends_so}
use Rattle.core_steps.proofs.Outcomes.{Comes, comes}
use Rattle.core_steps.proofs.Recorded.{RightWay, right_way, completed_is, stored_is, answer_is}
use Rattle.core_steps.proofs.TouchesLeave.{arrays_left, waits_as, store_waiting, waiting_retired}
use Rattle.lf_model.proofs.TouchLemmas.{retire}
use Rattle.lf_model.specs.Course.Attempt.{Attempt}
use Rattle.lf_model.specs.Course.Core.{Ground, is_store_kind}
use Rattle.lf_model.specs.Course.LocalStep.{retired_arrays}
use Rattle.lf_model.specs.Course.Outcome.{Outcome, Need, outcome_needs, step_needs}
use Rattle.lf_model.specs.Course.Outcome.Need.{NoTurn, Turn, RegisterStop}
use Rattle.lf_model.specs.Course.Progress.{Progress, next_needs, stores_made}
use Rattle.lf_model.specs.Course.Touches.{touched, retire_touches}
use Rattle.lf_model.specs.Effect.{Access, operation_kind, Effect}
use Rattle.lf_model.specs.ProgramOrder.{answers_of}
use Rattle.lf_model.specs.Flips.{Moment}
use Rattle.lf_model.specs.Records.OwnTurns.{next_effect}
use Rattle.lf_model.specs.Run.{Run, performed, answer_to, answered}
use Rattle.lf_model.specs.State.{State}
use Rattle.lf_model.specs.Step.{state_of, run_seen}
use Rattle.lf_model.specs.Step.{answer_of as number_read}
use Rattle.lf_model.specs.declared.bus.TurnKind.TheVariants as turns
use Rattle.lf_model.specs.declared.bus.Why.TheVariants as whys
use Rattle.lf_model.specs.declared.step.Did.{Did}
use Rattle.lf_model.specs.declared.step.Did.TheVariants.{Retired, Halt}
use Rattle.lf_model.specs.declared.trace.CoreEnd.TheVariants.{Halt as Halted}
use Rattle.v8_exec.specs.CourseParts.{did_by}
use Rattle.v8_exec.specs.Touching.{retires_of}

-- ---- no turn is needed

pub open_by : (over et waits full : Bool) (out : Outcome) → step_needs over et waits full out ≡ NoTurn → over ≡ false
open_by false et waits full out is = refl
open_by true et true full out is = absurd (other is)
  where
    other : Turn turns.Store whys.Window ≡ NoTurn → ⊥
    other eq = cc
open_by true et false full out is = absurd (other is)
  where
    other : Turn turns.Snoop whys.Window ≡ NoTurn → ⊥
    other eq = cc

pub none_open : (over et waits full : Bool) (out : Outcome) → over ≡ false → step_needs over et waits full out ≡ NoTurn → outcome_needs et waits full out ≡ NoTurn
none_open false et waits full out is none = none
none_open true et waits full out is none = absurd (false≢true (sym is))

pub retired_none : (s : State) (e : Effect) (cells : List (List Moment)) (need : Need) → Retired ≡ did_by s e cells need → need ≡ NoTurn
retired_none s e cells NoTurn is = refl
retired_none s e cells (Turn kind why) is = absurd cc
retired_none s e cells (RegisterStop cell) is = absurd cc

-- an answer of error mode is that of a trap while traps are disabled
pub record HaltsBy (s : State) (e : Effect) (tt_ : ℕ) : Type 0 where
  pub trap : e.trap ≡ Some tt_
  pub disabled : s.ctl.et ≡ false

by_trap : (s : State) (e : Effect) (tt_ : ℕ) (trap : Option ℕ) (et : Bool) → e.trap ≡ trap → s.ctl.et ≡ et → Halt tt_ ≡ did_by (record s { ctl = record s.ctl { et = et } }) (record e { trap = trap }) [] NoTurn → HaltsBy s e tt_
by_trap s e tt_ None et is enabled eq = absurd cc
by_trap s e tt_ (Some m) true is enabled eq = absurd cc
by_trap s e tt_ (Some m) false is disabled eq = let same : m ≡ tt_ = cc in record { trap = is ∙ ap (λ (n : ℕ). Some n) same; disabled = disabled }

pub halt_none : (s : State) (e : Effect) (tt_ : ℕ) (cells : List (List Moment)) (need : Need) → Halt tt_ ≡ did_by s e cells need → (need ≡ NoTurn) × HaltsBy s e tt_
halt_none s e tt_ cells NoTurn is = (refl, by_trap s e tt_ e.trap s.ctl.et refl refl is)
halt_none s e tt_ cells (Turn kind why) is = absurd cc
halt_none s e tt_ cells (RegisterStop cell) is = absurd cc

-- ---- the seat's fields

module _ (g : Ground) (k : Progress) (old new : CoreValue) (b : Begins g k old) (one_each : length old.seen_by ≡ length old.ops) where
  abbrev here : Effect
  here = effect_here old

  abbrev waits : Bool
  waits = nat_lt 0 (length old.ports.waiting)

  abbrev full : Bool
  full = nat_le old.ports.depth (length old.ports.waiting)

  -- the instruction needs no turn
  module _ (need : need_here old (try_here old).outcome ≡ NoTurn) where
    open_ : window_over old ≡ false
    open_ = open_by (window_over old) old.arch.ctl.et waits full (try_here old).outcome need

    tried_so : tried_at g k ≡ try_here old
    tried_so = tried_is g k old b open_

    pub none_needed : next_needs g k (tried_at g k).outcome ≡ NoTurn
    none_needed = ap (λ (x : Attempt). next_needs g k x.outcome) tried_so ∙ (needs_are g k old b (try_here old).outcome ∙ need)

    ends : EndsSo (state_here old) here
    ends = ends_so old.setup old.arch.core (state_here old)

    comes_here : Comes here old.ports.data_cache.cache (try_here old)
    comes_here = rw open_ (comes old.setup old.arch.core (state_here old) (arrays_in old.ports) ends.apart)

    right : RightWay old (try_here old).arrays.data_cache (try_here old).outcome here.access
    right = right_way old here (try_here old).arrays.data_cache comes_here.shape old.arch.ctl.et waits full (try_here old).outcome comes_here.says
        (none_open (window_over old) old.arch.ctl.et waits full (try_here old).outcome open_ need)

    -- what is the same in both
    module _ (did : Did) (t : Tries did old new) (all : retires_of here did ≡ retire_touches here) where
      arrays_now : arrays_in new.ports ≡ retired_arrays (next_effect g k) (tried_at g k).arrays
      arrays_now =
          ap arrays_in t.ports
          ∙ (arrays_left old did
          ∙ (ap (fold (touched []) (try_here old).arrays) all
          ∙ (retire [] here (try_here old).arrays
          ∙ (ap (λ e. retired_arrays e (try_here old).arrays) (sym (effect_is g k old b)) ∙ ap (λ (x : Attempt). retired_arrays (next_effect g k) x.arrays) (sym tried_so)))))

      waiting_now : new.ports.waiting ≡ old.ports.waiting ++ store_waiting here.access
      waiting_now = ap (λ (s : PortState). s.waiting) t.ports ∙ waiting_retired old did all

      store_length : (access : Option Access) → length (store_waiting access) ≡ stores_made access
      store_length None = refl
      store_length (Some x) = by (is_store_kind (operation_kind x.kind))
        where
          by : (is : Bool) → length (if is then waits_as x ∷ [] else []) ≡ (if is then 1 else 0)
          by true = refl
          by false = refl

      waits_now : length new.ports.waiting ≡ length old.ports.waiting + stores_made (next_effect g k).access
      waits_now = ap length waiting_now ∙ (length-append old.ports.waiting (store_waiting here.access)
          ∙ (ap (λ n. length old.ports.waiting + n) (store_length here.access) ∙ ap (λ (e : Effect). length old.ports.waiting + stores_made e.access) (sym (effect_is g k old b))))

    -- ---- it retires

    module _ (t : Tries Retired old new) (given : g.given.answers ≡ answers_of new.ops) where
      run_now : run_seen new.arch (seen_of new) ≡ answered g.core g.given.answers k.run (next_effect g k)
      run_now =
          let got : number_read (answers old.ports) here.access ≡ answer_to g.given.answers k.run.ops here.access =
          sym (ap (λ l. answer_to l k.run.ops here.access) (given ∙ ap answers_of t.ops)
          ∙ (ap (λ (r : Run). answer_to (answers_of (old.ops ++ ops_by old here.access)) r.ops here.access) (run_is g k old b) ∙ answer_is old (try_here old).arrays.data_cache (try_here old).outcome here.access right)) in
          t.run ∙ (ap (λ n. performed old.arch.core n here (run_seen old.arch (seen_of old))) got
          ∙ rw (effect_is g k old b, b.core, run_is g k old b) refl)

      pub retires_so : Retires g k old (ended Between new)
      retires_so = record {
        steps = ap (λ (v : CoreValue). v.steps + 1) t.stays;
        quiet = ap (λ (v : CoreValue). v.quiet + 1) t.stays;
        counted = t.counts;
        run = run_now;
        arrays = arrays_now Retired t refl;
        seen = ap (λ (v : CoreValue). v.log_seen) t.stays;
        completions = rw (t.ops, t.seen_by, tried_so, effect_is g k old b, b.seat.steps, b.seat.seen) (completed_is old (try_here old).arrays.data_cache (try_here old).outcome here.access right one_each);
        stored = rw (t.ops, effect_is g k old b) (stored_is old (try_here old).arrays.data_cache (try_here old).outcome here.access right);
        waits = waits_now Retired t refl;
      }

    -- ---- it halts the core

    module _ (tt_ : ℕ) (t : Tries (Halt tt_) old new) (by : HaltsBy (state_here old) here tt_) where
      none_made : here.access ≡ None
      none_made = ends.apart.trapped tt_ by.trap

      none_touched : retires_of here (Halt tt_) ≡ retire_touches here
      none_touched = sym (ends.apart.halted tt_ by.trap by.disabled)

      halted_now : record { state = record (state_of new.arch (seen_of new)) { halt = Some tt_ }; ops = (seen_of new).ops } ≡ answered g.core g.given.answers k.run (next_effect g k)
      halted_now =
          let error : Run → Run = λ r. record { state = record r.state { halt = Some tt_ }; ops = r.ops } in
          ap error t.run
          ∙ rw (effect_is g k old b, b.core, run_is g k old b) (rw none_made (sym (ap (λ s. record { state = s; ops = (seen_of old).ops }) (ends.halted tt_ by.trap by.disabled 0))))

      pub halts_so : Retires g k old (ended (Ended (Halted tt_)) new)
      halts_so = record {
        steps = ap (λ (v : CoreValue). v.steps + 1) t.stays;
        quiet = ap (λ (v : CoreValue). v.quiet + 1) t.stays;
        counted = t.counts;
        run = halted_now;
        arrays = arrays_now (Halt tt_) t none_touched;
        seen = ap (λ (v : CoreValue). v.log_seen) t.stays;
        completions = rw (t.ops, t.seen_by, effect_is g k old b, none_made) (rw (append-nil old.ops, append-nil old.seen_by) (sym (append-nil (all_reported old.ops old.seen_by))));
        stored = rw (t.ops, effect_is g k old b, none_made) (rw (append-nil old.ops) (omega arith));
        waits = waits_now (Halt tt_) t none_touched;
      }
