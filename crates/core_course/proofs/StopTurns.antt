-- A turn that meets a bad word which it wants stops the core, and keeps all that holds of it.
use Rattle.std.proofs.Common.{◌≡◌, ◌∙◌, ◌+◌, ◌-◌, ◌*◌, ◌<◌, ◌≤◌, ◌==◌, ◌++◌, ℕ, Bool, true, false, nat_le, nat_lt, List, [], ◌∷◌, Some, length, filter, refl, ap, sym, subst, arith, inl, inr, if◌then◌else◌}
use Rattle.std.proofs.lemmas.Bool.{cases_lt, eq-eqb, lt-leb, le-leb, leb-false, and_right}
use Rattle.std.proofs.lemmas.List.{append-nil, append_assoc}
use Rattle.std.specs.List.{AllByRecursion as Each, flat_map, find}
use Rattle.core_laws.proofs.Ends.{names_bad_word}
use Rattle.core_laws.proofs.LaterGround.{same_past}
use Rattle.core_laws.proofs.ListLemmas.{each_filter}
use Rattle.core_laws.proofs.Steps.{none_past, steps_drain}
use Rattle.core_laws.proofs.StepsEnd.{ends_at_turn, ends_past_steps}
use Rattle.core_laws.proofs.Stops.{no_stop_before, own_no_stop}
use Rattle.core_laws.specs.Running.{with_later, IsNoStop}
use Rattle.core_parts.specs.CoreValue.{CoreValue}
use Rattle.core_parts.specs.Moves.{StopsAtTurn}
use Rattle.core_parts.specs.Seat.{IsSeat}
use Rattle.core_parts.specs.declared.phase.Phase.TheVariants.{Ended}
use Rattle.core_course.proofs.BusSteps.{MakesTurn, now, takes, right_so_far}
use Rattle.core_course.proofs.Ended.{ground_ended, holds_ended}
use Rattle.core_course.proofs.LaterSeat.{Reaches}
use Rattle.core_course.proofs.LocalGround.{place_of}
use Rattle.core_course.proofs.MayTurns.{last_drains, drain_last}
use Rattle.core_course.proofs.RightLater.{right_later}
use Rattle.core_course.proofs.Running.{ground_running, RunsOn}
use Rattle.core_course.proofs.StepParts.{steps_as}
use Rattle.core_course.proofs.StopSeat.{MeetsBad, stopped_at_turn}
use Rattle.core_course.proofs.TurnGround.{turn_place, ground_later, none_met, some_wait, ground_new, limit_new, come, going}
use Rattle.core_course.proofs.TurnParts.{own_then}
use Rattle.core_course.proofs.TurnReach.{after_turn, is_at}
use Rattle.core_parts.specs.Completes.{Keeps}
use Rattle.core_course.specs.CoreOk.{within_steps, past_its_steps, CoreOk}
use Rattle.core_course.specs.Result.{result_of}
use Rattle.lf_model.specs.Bus.Words.{word_of}
use Rattle.lf_model.specs.Course.Core.{Ground, given_by, r_register_access_error, is_register_stop, is_stop_at, is_store, is_store_stop}
use Rattle.lf_model.specs.Course.Course.{stored_at, course}
use Rattle.lf_model.specs.Course.Progress.{Progress}
use Rattle.lf_model.specs.Course.Syndromes.{met_bad}
use Rattle.lf_model.specs.Course.Turned.{own_turn, bad_wanted, turn_wants, turn_trap}
use Rattle.lf_model.specs.Effect.{Effect}
use Rattle.lf_model.specs.Ledger.CoreAccount.{stores_lost, lost_reported}
use Rattle.lf_model.specs.Ledger.Steps.{own_transfers, is_last_drain, HasSteps}
use Rattle.lf_model.specs.Names.{same_kind}
use Rattle.lf_model.specs.Operation.{is_lost}
use Rattle.lf_model.specs.Records.OwnTurns.{next_effect, IsRightTurn, words_named}
use Rattle.lf_model.specs.Records.SeenOrder.{HasSeen}
use Rattle.lf_model.specs.Start.{initial_byte}
use Rattle.lf_model.specs.declared.bus.Entry.{Entry}
use Rattle.lf_model.specs.declared.bus.Transfer.{Transfer}
use Rattle.lf_model.specs.declared.bus.TurnKind.{TurnKind}
use Rattle.lf_model.specs.declared.bus.TurnKind.TheVariants.{Fetch, Load, Store, Atomic, Snoop, Look, Fix}
use Rattle.lf_model.specs.declared.step.Turn.{Turn}
use Rattle.lf_model.specs.declared.trace.CoreEnd.{CoreEnd}
use Rattle.lf_model.specs.declared.trace.CoreEnd.TheVariants.{Stop}

-- ---- the error trap of a turn

no_cell_trap : (kind : TurnKind) → (turn_trap kind == r_register_access_error) ≡ false
no_cell_trap Fetch = refl
no_cell_trap Load = refl
no_cell_trap Store = refl
no_cell_trap Atomic = refl
no_cell_trap Snoop = refl
no_cell_trap Look = refl
no_cell_trap Fix = refl

-- a kind of turn that wants words has one that stops
stop_by_kind : (pc turn j : ℕ) (e : Effect) (bad : ℕ → Bool) (kind : TurnKind) (syn : ℕ) → find bad (turn_wants pc e kind) ≡ Some j → (turn == turn) ≡ true → is_stop_at turn (Stop (turn_trap kind) turn syn) ≡ true
stop_by_kind pc turn j e bad Fetch syn is same = rw same refl
stop_by_kind pc turn j e bad Load syn is same = rw same refl
stop_by_kind pc turn j e bad Store syn is same = rw same refl
stop_by_kind pc turn j e bad Atomic syn is same = rw same refl
stop_by_kind pc turn j e bad Snoop syn is same = absurd (cc)
stop_by_kind pc turn j e bad Look syn is same = absurd (cc)
stop_by_kind pc turn j e bad Fix syn is same = absurd (cc)

-- ---- the core after the turn

-- j: the word that it wanted, among those that it read; syn: what the bus shows of it; later: what the operations give then, which is no more
module _ (old new : CoreValue) (seen more : List Entry) (ts us : List Transfer) (turn : Turn) (t : Transfer) (x : MakesTurn old seen more ts us turn t) (j syn : ℕ) where
  abbrev pub end : CoreEnd
  end = Stop (turn_trap t.kind) t.turn syn

  abbrev pub log : List Entry
  log = seen ++ more

  abbrev pub after : List Transfer
  after = (ts ++ us) ++ t ∷ []

  abbrev pub place : Progress
  place = turn_place old ts us

  abbrev pub ground : Ground
  ground = ground_ended new end

  -- what is shown of it
  pub record StopShown : Type 0 where
    pub keeps : Keeps old new
    pub given : given_by new.ops ≡ with_later (given_by old.ops) (given_by [])
    pub bad : bad_wanted place.run.state.ctl.pc (next_effect (ground_running old) place) t ≡ Some j
    pub turn_is : t.turn ≡ length (ts ++ us)
    pub earlier : Each (λ (u : Transfer). u.turn < t.turn) ts
    pub stops : StopsAtTurn ground place t j (turn_trap t.kind) syn old new
    pub phase : new.phase ≡ Ended end
    pub log_length : length log ≡ new.log_seen
    pub turns : length after ≡ new.turns_seen
    pub has_seen : HasSeen (initial_byte old.setup.image) old.arch.core new.ops new.seen_by log
    pub none_wait : new.ports.waiting ≡ []
    pub none_lost : is_store_stop end ≡ false → Each (λ o. is_lost o ≡ false) new.ops
    pub lost : stores_lost ground (own_turn ground t place) ≡ lost_reported (filter is_store new.ops)
    pub named : new.named ≡ record { addr = word_of t.addr + 4 * j; value = Some t.turn } ∷ []

  module _ (s : StopShown) where
    here : RunsOn old seen ts
    here = now old new seen more ts us turn t x

    is_stop : is_stop_at t.turn end ≡ true
    is_stop = stop_by_kind place.run.state.ctl.pc t.turn j (next_effect (ground_running old) place) (met_bad t) t.kind syn s.bad (eq-eqb t.turn t.turn refl)

    no_cell : is_register_stop end ≡ false
    no_cell = no_cell_trap t.kind

    ground_is : ground ≡ ground_later old (given_by []) end new.steps
    ground_is = ground_new old new seen ts us t (given_by []) here (takes old new seen more ts us turn t x) s.keeps s.given end new.steps

    same_limit : new.setup.config.steps ≡ old.setup.config.steps
    same_limit = limit_new old new seen ts us t (given_by []) here (takes old new seen more ts us turn t x) s.keeps s.given

    -- ---- its steps

    abbrev limit : ℕ
    limit = old.setup.config.steps

    between : (past : Bool) → nat_le limit old.steps ≡ past → new.steps ≡ (if past then old.steps else old.steps + 1) → (old.steps ≤ new.steps) × (new.steps ≤ limit)
    between true is made = (omega (arith, made), omega (arith, made, here.goes_on.has_steps.allowed))
    between false is made = (omega (arith, made), omega (arith, made, leb-false limit old.steps is))

    bounds : (old.steps ≤ new.steps) × (new.steps ≤ limit)
    bounds = between (nat_le limit old.steps) refl s.stops.steps

    past : nat_le new.steps place.steps ≡ nat_le limit place.steps
    past = rw here.is_seat.steps (same_past (given_by old.ops).answers end new.steps limit old.steps bounds.1 (omega (arith, s.stops.steps)))

    -- ---- its place

    no_stop : Each (IsNoStop old.arch.core end) ts
    no_stop = no_stop_before old.arch.core (turn_trap t.kind) t.turn syn ts s.earlier

    before : Reaches ground (ts ++ us) old.steps place
    before = subst (λ g. Reaches g (ts ++ us) old.steps place) (sym ground_is)
        (come old new seen ts us t (given_by []) here (takes old new seen more ts us turn t x) s.keeps s.given end new.steps bounds.1 bounds.0 no_cell no_stop)

    right : IsRightTurn ground t place
    right = subst (λ g. IsRightTurn g t place) (sym ground_is)
        (right_later old.setup old.arch.core (given_by old.ops) (given_by []) end new.steps place t refl past (right_so_far old new seen more ts us turn t x))

    bad : bad_wanted place.run.state.ctl.pc (next_effect ground place) t ≡ Some j
    bad = subst (λ g. bad_wanted place.run.state.ctl.pc (next_effect g place) t ≡ Some j) (sym ground_is) s.bad

    meets : MeetsBad ground old new (place_of old ts) (flat_map stored_at us) t j (turn_trap t.kind)
    meets = record {
      none_met = here.is_seat.errors ∙ none_met old.steps (place_of old ts).turns old.phase x.unended;
      past = past ∙ ap (nat_le limit) here.is_seat.steps;
      waits = some_wait (length old.ports.waiting) (place_of old ts) old.phase x.unended here.is_seat.waits;
      bad = bad;
      no_register = no_cell_trap t.kind;
      stays = and_right (same_kind t.kind Atomic) _ (rw is_stop refl);
    }

    seated : IsSeat new ground (own_turn ground t place)
    seated = stopped_at_turn ground old new (ground_running old) (place_of old ts) (flat_map stored_at us) t j (turn_trap t.kind) syn here.is_seat meets s.stops s.phase

    own : (new.arch.core == t.master) ≡ true
    own = rw s.keeps.core (takes old new seen more ts us turn t x).own

    reached : Reaches ground after new.steps (own_turn ground t place)
    reached = subst (λ n. Reaches ground after n (own_turn ground t place)) seated.steps
        (after_turn ground (ts ++ us) old.steps place t before own x.step (going old new seen ts us t (given_by []) here (takes old new seen more ts us turn t x) s.keeps s.given) right)

    -- ---- its transfers

    abbrev within : List Transfer
    within = within_steps old ts

    abbrev past_them : List Transfer
    past_them = past_its_steps old ts

    own_is : own_transfers new.arch.core after ≡ (within ++ past_them) ++ t ∷ []
    own_is = ap (λ c. own_transfers c after) s.keeps.core
        ∙ (own_then old.arch.core ts us x.others t (takes old new seen more ts us turn t x).own ∙ ap (λ vs. vs ++ t ∷ []) here.goes_on.in_order)

    no_stop_within : Each (λ (u : Transfer). is_stop_at u.turn end ≡ false) within
    no_stop_within = each_filter (λ (u : Transfer). is_stop_at u.turn end ≡ false) (λ (u : Transfer). nat_lt u.step old.steps) (own_transfers old.arch.core ts) (own_no_stop old.arch.core end ts no_stop)

    steps_in : old.steps < limit → HasSteps old.setup (result_of new end) ((within ++ past_them) ++ t ∷ [])
    steps_in left =
        let none : past_them ≡ [] = none_past limit old.steps old.arch.n (length old.ports.waiting) within past_them here.goes_on.has_steps left in
        let same : (within ++ t ∷ []) ++ past_them ≡ (within ++ past_them) ++ t ∷ [] =
        ap (λ vs. (within ++ t ∷ []) ++ vs) none ∙ (append-nil (within ++ t ∷ []) ∙ (ap (λ vs. vs ++ t ∷ []) (sym (append-nil within)) ∙ ap (λ vs. (within ++ vs) ++ t ∷ []) (sym none))) in
        subst (HasSteps old.setup (result_of new end)) same
        (ends_at_turn old.setup (result_of new end) old.steps old.arch.n (length old.ports.waiting) within past_them here.goes_on.has_steps left
        (s.stops.steps ∙ next_step _ old.steps (lt-leb limit old.steps left)) t x.step is_stop no_stop_within s.stops.counted)
      where
        next_step : (past : Bool) (n : ℕ) → past ≡ false → (if past then n else n + 1) ≡ n + 1
        next_step past n e = rw e refl

    steps_past : limit ≤ old.steps → HasSteps old.setup (result_of new end) ((within ++ past_them) ++ t ∷ [])
    steps_past over =
        let last : old.steps ≡ limit = omega (arith, over, here.goes_on.has_steps.allowed) in
        let drains = last_drains old turn t x.ok.left x.may over in
        let one : length old.ports.waiting ≡ length old.ports.waiting - 1 + 1 = omega (arith, drains.1.some) in
        let drain : is_last_drain limit t ≡ true = drain_last old turn t drains.0 x.makes.kind x.makes.why (x.step ∙ last) in
        let more_steps = steps_drain limit old.steps old.arch.n (length old.ports.waiting) within past_them here.goes_on.has_steps t (length old.ports.waiting - 1) last drain one in
        let made : new.steps ≡ old.steps = s.stops.steps ∙ same_step _ old.steps (le-leb limit old.steps over) in
        subst (HasSteps old.setup (result_of new end)) (sym (append_assoc within past_them (t ∷ [])))
        (ends_past_steps old.setup (result_of new end) (length old.ports.waiting - 1) within (past_them ++ t ∷ [])
        (steps_as limit limit old.steps new.steps old.arch.n new.arch.n _ (length old.ports.waiting - 1) _ within _ (past_them ++ t ∷ []) more_steps refl made s.stops.counted refl refl refl)
        no_cell no_stop_within refl)
      where
        same_step : (past : Bool) (n : ℕ) → past ≡ true → (if past then n else n + 1) ≡ n
        same_step past n e = rw e refl

    has_steps : HasSteps old.setup (result_of new end) ((within ++ past_them) ++ t ∷ [])
    has_steps = elim (cases_lt old.steps limit) [
      | inl left ↦ steps_in left
      | inr over ↦ steps_past over
    ]

    -- ---- the word that it names

    names : words_named ground after ≡ record { addr = word_of t.addr + 4 * j; value = Some t.turn } ∷ []
    names =
        names_bad_word ground (ts ++ us) [] (old.steps - (course ground (ts ++ us)).steps) place t (is_at ground (ts ++ us) old.steps place before) (x.step ∙ sym before.steps) own
        (ap Some s.turn_is) (subst (λ n. is_stop_at n end ≡ true) s.turn_is is_stop)
        ∙ rw bad refl

    pub stops_core : CoreOk new log after
    stops_core = holds_ended new end log after (own_turn ground t place) s.phase (record {
      log_length = s.log_length;
      turns = s.turns;
      in_memory = rw s.keeps.setup x.in_memory;
      reaches = reached;
      is_seat = seated;
      is_end = tt;
      within = omega (arith, bounds.1, same_limit);
      none_wait = s.none_wait;
      has_steps = rw (s.keeps.setup, own_is) has_steps;
      has_seen = rw (s.keeps.setup, s.keeps.core) s.has_seen;
      none_lost = s.none_lost;
      lost = s.lost;
      named = s.named ∙ sym names;
    })
