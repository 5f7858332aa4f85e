-- A core as its turn on the bus begins: its place in its course, the turn that its step needs, and its arrays.
use Rattle.std.proofs.Common.{◌≡◌, ◌∙◌, ◌+◌, ◌≤◌, ◌++◌, ℕ, true, nat_le, List, [], ◌∷◌, length, take, drop, refl, ap, sym, subst, arith}
use Rattle.std.proofs.lemmas.Bool.{lt-leb, le-leb}
use Rattle.std.proofs.lemmas.List.{length-append, length-map, nil_from_length, take-append-drop}
use Rattle.std.specs.Prelude.{find, None}
use Rattle.ahb_bus.specs.BusState.{BusState}
use Rattle.core_course.proofs.BusSteps.{MakesTurn}
use Rattle.core_course.proofs.Joined.{makes_turn, unseen_is}
use Rattle.core_course.proofs.LocalGround.{place_of}
use Rattle.core_course.proofs.MayTurns.{is_draining}
use Rattle.core_course.proofs.Running.{ground_running, IsUnended, RunsOn, runs_on}
use Rattle.core_course.proofs.TurnGround.{turn_place, some_wait}
use Rattle.core_course.specs.Calls.{MayTurnBy}
use Rattle.core_course.specs.CoreOk.{buffer_of, waiting_of, LeftBy, CoreOk}
use Rattle.core_laws.specs.Running.{running}
use Rattle.core_parts.specs.CoreValue.{CoreValue}
use Rattle.core_parts.specs.Makes.{Makes}
use Rattle.core_parts.specs.Needs.{kind_of, why_of}
use Rattle.core_parts.specs.Phases.{state_by, halt_by}
use Rattle.core_parts.specs.PortState.{arrays_in}
use Rattle.core_parts.specs.Seat.{NeedsTurn, ArraysAre, IsSeat}
use Rattle.core_parts.specs.declared.phase.Phase.{Phase}
use Rattle.core_parts.specs.declared.phase.Phase.TheVariants.{Between, Begun, Needs, Ended}
use Rattle.core_turns.proofs.Answers.{wanted}
use Rattle.core_turns.proofs.Needed.{asked, by_schedule, after_steps}
use Rattle.core_turns.specs.AskedTurn.{wants}
use Rattle.core_turns.specs.BeforeTurn.{seat_at_turn, BeforeTurn}
use Rattle.lf_model.specs.Course.Arrays.{Arrays}
use Rattle.lf_model.specs.Course.Core.{Given, Ground, given_by, ground_of}
use Rattle.lf_model.specs.Course.Course.{with_unseen}
use Rattle.lf_model.specs.Course.Outcome.Need.{Turn as Asks}
use Rattle.lf_model.specs.Course.Progress.{Progress}
use Rattle.lf_model.specs.Course.Syndromes.{met_bad}
use Rattle.lf_model.specs.Course.Turn.{turn_attempt, turn_needs}
use Rattle.lf_model.specs.Course.Turned.{bad_wanted}
use Rattle.lf_model.specs.Records.BusRecord.{is_in_memory}
use Rattle.lf_model.specs.Records.OwnTurns.{next_effect}
use Rattle.lf_model.specs.Run.{Run}
use Rattle.lf_model.specs.declared.bus.Entry.{Entry}
use Rattle.lf_model.specs.declared.bus.Pending.{Pending}
use Rattle.lf_model.specs.declared.bus.Transfer.{Transfer}
use Rattle.lf_model.specs.declared.bus.TurnKind.{TurnKind}
use Rattle.lf_model.specs.declared.bus.TurnKind.TheVariants as kinds
use Rattle.lf_model.specs.declared.bus.Why.{Why}
use Rattle.lf_model.specs.declared.setup.Setup.{Setup}
use Rattle.lf_model.specs.declared.step.Turn.{Turn}
use Rattle.lf_model.specs.declared.trace.CoreEnd.{CoreEnd}
use Rattle.turn_course.proofs.WaitsNone.{none_waits}
use Rattle.turn_course.specs.BusStep.{TakesTurn}

pub unended_by : (v : CoreValue) (turn : Turn) (phase : Phase) → MayTurnBy v turn phase → IsUnended phase
unended_by v turn Between may = tt
unended_by v turn Begun may = tt
unended_by v turn (Needs asked) may = tt
unended_by v turn (Ended end) may = absurd may

halts_none : (phase : Phase) → IsUnended phase → halt_by phase ≡ None
halts_none Between is = refl
halts_none Begun is = refl
halts_none (Needs turn) is = refl
halts_none (Ended end) is = absurd is

-- a step needs the same turn by a ground with what is known later, whose steps are past where those of the setup are
needs_at : (setup : Setup) (core : ℕ) (was given : Given) (end : CoreEnd) (last : ℕ) (k : Progress) (u : Turn) (a : Arrays) → nat_le last k.steps ≡ nat_le setup.config.steps k.steps
    → NeedsTurn (running setup core was) k u a → NeedsTurn (ground_of setup core given end last) k u a
needs_at setup core was given end last k u a past n = record { needed = rw past n.needed; aimed = n.aimed; tried = rw past n.tried }

module _ (v : CoreValue) (bus : BusState) (turn : Turn) (pending : List Pending) (x : TakesTurn v bus turn pending) where
  -- the entries and transfers that the core had seen as its last turn ended, and those that came since
  abbrev pub seen : List Entry
  seen = take v.log_seen bus.log

  abbrev pub more : List Entry
  more = drop v.log_seen bus.log

  abbrev pub known : List Transfer
  known = take v.turns_seen bus.transfers

  abbrev pub others : List Transfer
  others = drop v.turns_seen bus.transfers

  pub unended : IsUnended v.phase
  unended = unended_by v turn v.phase x.may

  pub here : RunsOn v seen known
  here = runs_on v seen known unended x.joins.ok

  abbrev pub place : Progress
  place = place_of v known

  -- it has to snoop what came since
  pub place_is : turn_place v known others ≡ seat_at_turn bus.log v place
  place_is = ap (λ addrs. with_unseen addrs place) (unseen_is v bus.log bus.transfers x.joins unended x.ok.log_is)

  within : v.log_seen ≤ length bus.log
  within = omega (arith, here.log_length, ap length (take-append-drop v.log_seen bus.log), length-append seen more)

  -- ---- its step needs the turn

  needs_by : (phase : Phase) → v.phase ≡ phase → MayTurnBy v turn phase → LeftBy v phase → NeedsTurn (ground_running v) place turn (arrays_in v.ports)
  needs_by (Needs u) is may left = subst (λ u. NeedsTurn (ground_running v) place u (arrays_in v.ports)) (sym may) (asked (ground_running v) place v here.is_seat u is)
  needs_by Begun is may left = subst (λ u. NeedsTurn (ground_running v) place u (arrays_in v.ports)) (sym may.0)
      (by_schedule (ground_running v) place v here.is_seat may.1 is (lt-leb v.setup.config.steps place.steps (omega (arith, left, here.is_seat.steps))))
  needs_by Between is may left =
      let draining = is_draining v (ap (state_by v) (sym is) ∙ may.1) in
      subst (λ u. NeedsTurn (ground_running v) place u (arrays_in v.ports)) (sym may.0)
      (after_steps (ground_running v) place v here.is_seat draining.some is (le-leb v.setup.config.steps place.steps (omega (arith, draining.all_made, here.is_seat.steps))))
  needs_by (Ended end) is may left = absurd may

  pub needs : NeedsTurn (ground_running v) place turn (arrays_in v.ports)
  needs = needs_by v.phase refl x.may x.joins.ok.left

  -- no store waits where it is no drain
  pub none_waiting : (kind : TurnKind) (w : Why) → (kind ≡ kinds.Store → ⊥)
      → turn_needs (ground_running v) (why_of turn) (turn_attempt (ground_running v) (why_of turn) (next_effect (ground_running v) place) place) place ≡ Asks kind w → length v.ports.waiting ≡ 0
  none_waiting kind w other needed =
      none_waits (ground_running v) place (why_of turn) (turn_attempt (ground_running v) (why_of turn) (next_effect (ground_running v) place) place) kind w other needed
      (length v.ports.waiting) (some_wait (length v.ports.waiting) place v.phase unended here.is_seat.waits)

  pub none_in_buffer : length v.ports.waiting ≡ 0 → buffer_of v ≡ []
  none_in_buffer none = nil_from_length (buffer_of v) (omega (arith, none, ap length here.goes_on.waits, length-map (buffer_of v) waiting_of))

  -- ---- by a ground with what is known later, whose steps are past where those of the setup are

  module _ (given : Given) (end : CoreEnd) (last : ℕ) (past : nat_le last place.steps ≡ nat_le v.setup.config.steps place.steps) where
    abbrev pub later : Ground
    later = ground_of v.setup v.arch.core given end last

    needs_later : (u : Turn) → NeedsTurn (ground_running v) place u (arrays_in v.ports) → NeedsTurn later place u (arrays_in v.ports)
    needs_later u n = needs_at v.setup v.arch.core (given_by v.ops) given end last place u (arrays_in v.ports) past n

    arrays_later : (phase : Phase) → ArraysAre (ground_running v) place (arrays_in v.ports) phase → ArraysAre later place (arrays_in v.ports) phase
    arrays_later Between are = are
    arrays_later Begun are = are
    arrays_later (Needs u) are = needs_later u are
    arrays_later (Ended e) are = are

    seat_later : IsSeat v later place
    seat_later = record {
      steps = here.is_seat.steps;
      quiet = here.is_seat.quiet;
      retired = here.is_seat.retired;
      run = here.is_seat.run;
      arrays = arrays_later v.phase here.is_seat.arrays;
      seen = here.is_seat.seen;
      unseen = here.is_seat.unseen;
      completions = here.is_seat.completions;
      errors = here.is_seat.errors;
      owed = here.is_seat.owed;
      stored = here.is_seat.stored;
      waits = here.is_seat.waits;
    }

    pub before : BeforeTurn later place v bus.log (why_of turn)
    before = record {
      is_seat = seat_later;
      setup = refl;
      core = refl;
      going = halts_none v.phase unended;
      within = within;
      tried = (needs_later turn needs).tried;
    }

  -- ---- its transfer

  pub makes_turn_at : (t : Transfer) → Makes (ground_running v) (seat_at_turn bus.log v place) v turn t → is_in_memory bus.setup.config.ram t ≡ true → t.master ≡ v.arch.core → t.step ≡ v.steps
      → MakesTurn v seen more known others turn t
  makes_turn_at t makes lies master step = makes_turn v bus.log bus.transfers x.joins turn t unended x.may
      (subst (λ k. Makes (ground_running v) k v turn t) (sym place_is) makes) (ap (λ (s : Setup). is_in_memory s.config.ram t) x.setup ∙ lies) master step

  -- ---- the instruction at PC

  pub pc_is : place.run.state.ctl.pc ≡ v.arch.ctl.pc
  pc_is = ap (λ (r : Run). r.state.ctl.pc) here.is_seat.run

  -- the bad word that its turn wants
  pub wanted_is : (t : Transfer) → t.kind ≡ kind_of turn
      → bad_wanted place.run.state.ctl.pc (next_effect (ground_running v) place) t ≡ find (met_bad t) (wants v.arch.ctl.pc turn)
  wanted_is t kind = wanted place.run.state.ctl.pc (next_effect (ground_running v) place) turn t needs.aimed kind ∙ ap (λ pc. find (met_bad t) (wants pc turn)) pc_is

  -- ---- the whole log and all transfers

  pub all_log : seen ++ more ≡ bus.log
  all_log = take-append-drop v.log_seen bus.log

  pub count : (t : Transfer) → length ((known ++ others) ++ t ∷ []) ≡ length bus.transfers + 1
  count t = length-append (known ++ others) (t ∷ []) ∙ ap (λ (us : List Transfer). length us + 1) (take-append-drop v.turns_seen bus.transfers)

  pub few_wait : length v.ports.waiting ≤ 8
  few_wait = omega (arith, here.goes_on.has_steps.few)

  -- a turn whose transfer has no entry
  pub without_entry : (new : CoreValue) (t : Transfer) → CoreOk new (seen ++ more) ((known ++ others) ++ t ∷ []) → CoreOk new bus.log (bus.transfers ++ t ∷ [])
  without_entry new t h =
      subst (λ us. CoreOk new bus.log (us ++ t ∷ [])) (take-append-drop v.turns_seen bus.transfers)
      (subst (λ es. CoreOk new es ((known ++ others) ++ t ∷ [])) all_log h)
