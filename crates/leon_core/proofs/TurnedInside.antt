-- A core whose turn on the bus has ended keeps what its type promises, and is the one that the definitions make of it.
use Rattle.std.proofs.Common.{◌≡◌, ◌∙◌, ℕ, ◌+◌, ◌<◌, ◌≤◌, nat_le, Bool, true, false, List, [], length, find, Option, Some, None, if◌then◌else◌, Result, Ok, Err, Vec, Global, vec_capacity, refl, sym, ap, subst, arith, inl, inr}
use Rattle.std.proofs.lemmas.Bool.{cases_Bool, leb-true}
use Rattle.std.proofs.lemmas.List.{append-nil}
use Rattle.ahb_bus.specs.BusState.{BusState}
use Rattle.core_course.specs.Calls.{MayTurn}
use Rattle.core_course.specs.Settled.{phase_after}
use Rattle.core_parts.specs.CanRun.{CanRun}
use Rattle.core_parts.specs.CoreValue.{CoreValue}
use Rattle.core_parts.specs.Inside.{value_of}
use Rattle.core_parts.specs.IsCore.{IsCore}
use Rattle.core_parts.specs.Losing.{first_number}
use Rattle.core_parts.specs.RecordState.{RecordState}
use Rattle.core_parts.specs.declared.parts.Parts.{Parts}
use Rattle.core_parts.specs.declared.phase.Phase.{Phase}
use Rattle.core_turns.specs.AfterTurn.{snooping, transferred, exchanged, drained, stores_lost, turn_ended}
use Rattle.core_turns.specs.AskedTurn.{transfer_of, wants, comes_to, turn_answer}
use Rattle.core_turns.specs.CanTurn.{CanTurn, steps_ended, turn_over}
use Rattle.core_turns.specs.MakesTurn.{words_at, number_read, core_after}
use Rattle.flip_ledger.specs.Plan.{IsPlanned}
use Rattle.flip_ledger.specs.declared.plan.Owner.TheVariants as owners
use Rattle.leon_core.proofs.StoresStay.{stores_stay}
use Rattle.leon_core.proofs.TurnAsks.{steps_then, can_make, named_none}
use Rattle.leon_core.specs.CoreInside.{core_seen, in_step, looked_in, NamesBy, AskedBy, IsRunnable, IsKept}
use Rattle.leon_core.specs.EndsTurn.{did_of_turn}
use Rattle.leon_core.specs.Moves.{Moves, store_steps}
use Rattle.leon_core.specs.RoomInside.{IsReserved}
use Rattle.leon_core.specs.declared.one_core.Core.TheInside.{Inside}
use Rattle.lf_model.specs.Course.Syndromes.{met_bad, enters_log}
use Rattle.lf_model.specs.declared.bus.Bad.{Bad}
use Rattle.lf_model.specs.declared.bus.Transfer.{Transfer}
use Rattle.lf_model.specs.declared.control.Arch.{Arch}
use Rattle.lf_model.specs.declared.setup.Setup.{Setup}
use Rattle.lf_model.specs.declared.step.Did.{Did}
use Rattle.lf_model.specs.declared.step.Turn.{Turn}
use Rattle.lf_model.specs.declared.step.Turn.TheVariants.{Fetch, Load, Atomic, Drain, Snoop}
use Rattle.lf_model.specs.declared.trace.Word2.{Word2}
use Rattle.turn_course.specs.BusStep.{answer_of, phase_by, named_by, turned}

-- ---- what a transfer leaves

-- an atomic counts its instruction and its operation
abbrev retires_in : Turn → ℕ
retires_in (Atomic addr len new rd) = 1
retires_in (Fetch line why) = 0
retires_in (Load addr len why) = 0
retires_in (Drain why) = 0
retires_in Snoop = 0

record Leaves (turn : Turn) (old new : CoreValue) : Type 0 where
  setup : new.setup ≡ old.setup
  steps : new.steps ≡ old.steps
  core : new.arch.core ≡ old.arch.core
  counted : new.arch.n ≤ old.arch.n + retires_in turn
  made : new.arch.k ≤ old.arch.k + retires_in turn

leaves : (t : Transfer) (words : List ℕ) (got n : ℕ) (turn : Turn) (v : CoreValue) → Leaves turn v (transferred t words got n turn v)
leaves t words got n (Fetch line why) v = record { setup = refl; steps = refl; core = refl; counted = omega arith; made = omega arith }
leaves t words got n (Load addr len why) v = record { setup = refl; steps = refl; core = refl; counted = omega arith; made = omega arith }
leaves t words got n (Atomic addr len new rd) v = by (enters_log t)
  where
    by : (enters : Bool) → Leaves (Atomic addr len new rd) v (if enters then exchanged addr len new rd got v else v)
    by true = record { setup = refl; steps = refl; core = refl; counted = omega arith; made = omega arith }
    by false = record { setup = refl; steps = refl; core = refl; counted = omega arith; made = omega arith }
leaves t words got n (Drain why) v = by (enters_log t)
  where
    by : (enters : Bool) → Leaves (Drain why) v (if enters then drained v else stores_lost n v)
    by true = record { setup = refl; steps = refl; core = refl; counted = omega arith; made = omega arith }
    by false = record { setup = refl; steps = refl; core = refl; counted = omega arith; made = omega arith }
leaves t words got n Snoop v = record { setup = refl; steps = refl; core = refl; counted = omega arith; made = omega arith }

-- an atomic is made in a step
retires_within : (turn : Turn) (arch : Arch) (p : Parts) → CanTurn turn arch p → p.«record».steps + retires_in turn ≤ steps_ended p
retires_within turn arch p can = elim (cases_Bool (nat_le p.site.config.steps p.«record».steps)) [
  | inl over ↦ rw over (past turn can (leb-true p.site.config.steps p.«record».steps over))
  | inr within ↦ rw within (in_time turn)
]
  where
    past : (turn : Turn) → CanTurn turn arch p → p.site.config.steps ≤ p.«record».steps → p.«record».steps + retires_in turn ≤ p.«record».steps
    past (Fetch line why) can le = omega arith
    past (Load addr len why) can le = omega arith
    past (Atomic addr len new rd) can le = let left : p.«record».steps < p.site.config.steps = can.left in absurd (omega (arith, left, le))
    past (Drain why) can le = omega arith
    past Snoop can le = omega arith

    in_time : (turn : Turn) → p.«record».steps + retires_in turn ≤ p.«record».steps + 1
    in_time (Fetch line why) = omega arith
    in_time (Load addr len why) = omega arith
    in_time (Atomic addr len new rd) = omega arith
    in_time (Drain why) = omega arith
    in_time Snoop = omega arith

-- ---- the end of the turn, by its answer

none_begun : (turn : Turn) (number : ℕ) (answer : Result Did Bad) → in_step (phase_by turn number answer) ≡ 0
none_begun turn number (Ok did) = refl
none_begun turn number (Err bad) = refl

none_looked : (turn : Turn) (number : ℕ) (answer : Result Did Bad) → looked_in (phase_by turn number answer) ≡ 0
none_looked turn number (Ok did) = refl
none_looked turn number (Err bad) = refl

-- only a core that stops names a word
names_one : (turn : Turn) (number : ℕ) (answer : Result Did Bad) → NamesBy (named_by number [] answer) (phase_by turn number answer)
names_one turn number (Ok did) = refl
names_one turn number (Err bad) = tt

none_asked : (arch : Arch) (p : Parts) (turn : Turn) (number : ℕ) (answer : Result Did Bad) → AskedBy arch p (phase_by turn number answer)
none_asked arch p turn number (Ok did) = tt
none_asked arch p turn number (Err bad) = tt

-- a turn that does not stop the core leaves it between two steps
phase_came : (turn : Turn) (number : ℕ) (t : Transfer) (found : Option ℕ) → phase_after (did_of_turn turn number (comes_to turn t found)) ≡ phase_by turn number (comes_to turn t found)
phase_came (Fetch line why) number t None = refl
phase_came (Load addr len why) number t None = refl
phase_came (Atomic addr len new rd) number t None = refl
phase_came (Drain why) number t None = refl
phase_came Snoop number t None = refl
phase_came turn number t (Some j) = refl

phase_of : (turn : Turn) (number pc : ℕ) (t : Transfer) → phase_after (did_of_turn turn number (turn_answer pc turn t)) ≡ phase_by turn number (turn_answer pc turn t)
phase_of turn number pc t = phase_came turn number t (find (met_bad t) (wants pc turn))

-- ---- numbers

later : (ended begun steps step : ℕ) → begun ≡ 0 → ended ≡ steps + step → ended + begun ≡ steps + step
later ended begun steps step none is = omega (arith, none, is)

within_then : (ended begun limit limit' steps : ℕ) → ended + begun ≡ steps → steps ≤ limit → limit' ≡ limit → ended + begun ≤ limit'
within_then ended begun limit limit' steps is le same = omega (arith, is, le, same)

few_then : (now before one steps ended : ℕ) → now ≤ before + one → before ≤ steps → steps + one ≤ ended → now ≤ ended
few_then now before one steps ended le few most = omega (arith, le, few, most)

-- ---- the core after its turn

-- What the calls of a turn give. bus: as the turn began; arch, p, answer: once its transfer, of this number, was made; made, phase, named: once
-- the step has ended.
pub record TurnsTo (old : Inside) (turn : Turn) (bus : BusState) (arch : Arch) (p : Parts) (number : ℕ) (answer : Result Did Bad)
    (made : RecordState) (phase : Phase) (named : Vec Word2 Global) : Type 0 where
  pub core_is : value_of arch p old.quiet old.room.named.items old.phase ≡ core_after bus turn old.parts.buffer.waiting (core_seen old)
  pub answer_is : answer ≡ answer_of bus turn (core_seen old)
  pub number_is : number ≡ length bus.transfers
  pub made_is : made ≡ record p.«record» { steps = if nat_le old.limit p.«record».steps then p.«record».steps else p.«record».steps + 1; turns = number + 1 }
  pub phase_is : phase ≡ phase_after (did_of_turn turn number answer)
  pub named_is : named.items ≡ named_by number [] answer
  pub named_room : vec_capacity named ≡ 1
  pub keeps : IsCore arch p
  pub runs : CanRun (steps_ended old.parts) 0 (turn_over p)

module _ (old : Inside) (is : IsKept old) (turn : Turn) (may : MayTurn (core_seen old) turn) (bus : BusState) (arch : Arch) (p : Parts) (number : ℕ)
    (answer : Result Did Bad) (made : RecordState) (phase : Phase) (named : Vec Word2 Global) (to : TurnsTo old turn bus arch p number answer made phase named) where
  abbrev v : CoreValue
  v = core_seen old

  abbrev ready : CoreValue
  ready = snooping bus.log v

  abbrev t : Transfer
  t = transfer_of ready bus turn

  left : Leaves turn v (value_of arch p old.quiet old.room.named.items old.phase)
  left = subst (Leaves turn v) (sym to.core_is)
      (leaves_ready (leaves t (words_at bus t.addr) (number_read bus turn) (first_number old.parts.buffer.waiting) turn ready))
    where
      leaves_ready : {new : CoreValue} → Leaves turn ready new → Leaves turn v new
      leaves_ready l = record { setup = l.setup; steps = l.steps; core = l.core; counted = l.counted; made = l.made }

  site_stays : p.site ≡ old.parts.site
  site_stays = left.setup

  -- the step has ended, and the turn
  abbrev made_then : RecordState
  made_then = record p.«record» { steps = steps_ended p; turns = number + 1 }

  made_same : made ≡ made_then
  made_same =
      to.made_is
      ∙ ap (λ (limit : ℕ). record p.«record» { steps = if nat_le limit p.«record».steps then p.«record».steps else p.«record».steps + 1; turns = number + 1 })
      (is.limit ∙ ap (λ (s : Setup). s.config.steps) (sym site_stays))

  abbrev phase_then : Phase
  phase_then = phase_by turn number answer

  phase_same : phase ≡ phase_then
  phase_same =
      to.phase_is
      ∙ subst (λ (a : Result Did Bad). phase_after (did_of_turn turn number a) ≡ phase_by turn number a) (sym to.answer_is)
      (phase_of turn number old.arch.ctl.pc t)

  abbrev with_end : RecordState → Phase → Inside
  with_end made phase = record old { arch = arch; parts = record p { «record» = made }; quiet = 0; phase = phase; room = record old.room { named = named } }

  -- ---- what its type promises

  ended_same : steps_ended p ≡ steps_ended old.parts
  ended_same = rw (site_stays, left.steps) refl

  -- a turn leaves no step begun, so as many were begun as before
  begun_then : steps_ended p + in_step phase_then ≡ old.parts.«record».steps + in_step old.phase
  begun_then = later (steps_ended p) (in_step phase_then) old.parts.«record».steps (in_step old.phase)
      (none_begun turn number answer) (ended_same ∙ steps_then old is turn may)

  core_over : IsCore arch (record p { «record» = made_then })
  core_over = record {
    sound = to.keeps.sound;
    pc = to.keeps.pc;
    npc = to.keeps.npc;
    core = to.keeps.core;
    made = to.keeps.made;
    depth = to.keeps.depth;
    few = to.keeps.few;
    waits = to.keeps.waits;
    can_store = to.keeps.can_store;
    fetch_formed = to.keeps.fetch_formed;
    data_formed = to.keeps.data_formed;
    fetch_lines = to.keeps.fetch_lines;
    ops_fit = to.keeps.ops_fit;
  }

  runs_over : CanRun (steps_ended p + in_step phase_then) (looked_in phase_then) (record p { «record» = made_then })
  runs_over =
      let ended : steps_ended old.parts ≡ steps_ended p + in_step phase_then = steps_then old is turn may ∙ sym begun_then in
      subst (λ (n : ℕ). CanRun n (looked_in phase_then) (record p { «record» = made_then })) ended
      (subst (λ (n : ℕ). CanRun (steps_ended old.parts) n (record p { «record» = made_then })) (sym (none_looked turn number answer))
      (record { units = to.runs.units; came = to.runs.came; room = to.runs.room; fetch_room = to.runs.fetch_room }))

  plan_then : IsPlanned (owners.Core p.«record».core) p.site.flips (steps_ended p + in_step phase_then) old.plan
  plan_then =
      subst (λ (n : ℕ). IsPlanned (owners.Core n) p.site.flips (steps_ended p + in_step phase_then) old.plan)
      (sym (to.keeps.core ∙ (left.core ∙ sym is.core.core)))
      (subst (λ (s : Setup). IsPlanned (owners.Core old.parts.«record».core) s.flips (steps_ended p + in_step phase_then) old.plan) (sym site_stays)
      (subst (λ (n : ℕ). IsPlanned (owners.Core old.parts.«record».core) old.parts.site.flips n old.plan) (sym begun_then) is.planned))

  retires_then : old.parts.«record».steps + retires_in turn ≤ steps_ended p
  retires_then = subst (λ (n : ℕ). old.parts.«record».steps + retires_in turn ≤ n) (sym ended_same)
      (retires_within turn old.arch old.parts (can_make old is turn may))

  kept_then : IsKept (with_end made_then phase_then)
  kept_then = record {
    setup = subst IsRunnable (sym site_stays) is.setup;
    number = subst (λ (n : ℕ). n < p.site.config.cores) (sym left.core) (subst (λ (s : Setup). old.arch.core < s.config.cores) (sym site_stays) is.number);
    window = is.window ∙ ap (λ (s : Setup). s.config.window) (sym site_stays);
    limit = is.limit ∙ ap (λ (s : Setup). s.config.steps) (sym site_stays);
    flips = is.flips ∙ ap (λ (s : Setup). length s.flips) (sym site_stays);
    core = core_over;
    planned = plan_then;
    runs = runs_over;
    within = within_then (steps_ended p) (in_step phase_then) old.parts.site.config.steps p.site.config.steps (old.parts.«record».steps + in_step old.phase)
        begun_then is.within (ap (λ (s : Setup). s.config.steps) site_stays);
    counted = few_then arch.n old.arch.n (retires_in turn) old.parts.«record».steps (steps_ended p) left.counted is.counted retires_then;
    made_few = few_then arch.k old.arch.k (retires_in turn) old.parts.«record».steps (steps_ended p) left.made is.made_few retires_then;
    quiet_few = omega arith;
    room = reserved;
    names = subst (λ (words : List Word2). NamesBy words phase_then) (sym to.named_is) (names_one turn number answer);
    asked = none_asked arch (record p { «record» = made_then }) turn number answer;
  }
    where
      reserved : IsReserved old.flips (record old.room { named = named })
      reserved = record {
        no_regs = is.room.no_regs;
        regs_used = is.room.regs_used;
        regs_room = is.room.regs_room;
        no_fates = is.room.no_fates;
        fates_used = is.room.fates_used;
        fates_room = is.room.fates_room;
        named_room = to.named_room;
      }

  pub is_turned : IsKept (with_end made phase)
  is_turned =
      subst (λ (r : RecordState). IsKept (with_end r phase)) (sym made_same)
      (subst (λ (ph : Phase). IsKept (with_end made_then ph)) (sym phase_same) kept_then)

  -- ---- as its users see it: what the definitions make of it

  seen_over : value_of arch (record p { «record» = made_then }) 0 (named_by number [] answer) phase_then
      ≡ turn_ended phase_then (named_by number [] answer) (number + 1) (value_of arch p old.quiet old.room.named.items old.phase)
  seen_over = refl

  seen_end : turn_ended phase_then (named_by number [] answer) (number + 1) (core_after bus turn old.parts.buffer.waiting v)
      ≡ turned bus turn old.parts.buffer.waiting v
  seen_end = same_end turn (core_after bus turn old.parts.buffer.waiting v) to.number_is to.answer_is (sym (named_none old is turn may))
    where
      same_end : (turn : Turn) (w : CoreValue) {n n' : ℕ} {a a' : Result Did Bad} {words words' : List Word2} → n ≡ n' → a ≡ a' → words ≡ words'
          → turn_ended (phase_by turn n a) (named_by n words a) (n + 1) w ≡ turn_ended (phase_by turn n' a') (named_by n' words' a') (n' + 1) w
      same_end turn w e f g = rw (e, f, g) refl

  pub seen_turned : core_seen (with_end made phase) ≡ turned bus turn old.parts.buffer.waiting v
  seen_turned =
      ap (λ (r : RecordState). core_seen (with_end r phase)) made_same
      ∙ (ap (λ (ph : Phase). core_seen (with_end made_then ph)) phase_same
      ∙ (ap (λ (words : List Word2). value_of arch (record p { «record» = made_then }) 0 words phase_then) to.named_is
      ∙ (seen_over
      ∙ (ap (turn_ended phase_then (named_by number [] answer) (number + 1)) to.core_is ∙ seen_end))))

  -- ---- as a loop over all cores sees it

  pub stores_then : (was : CoreValue) → core_seen old ≡ was → store_steps (core_seen (with_end made phase)).ops ≡ store_steps was.ops
  stores_then was view =
      ap (λ (r : RecordState). store_steps r.ops) made_same
      ∙ (ap (λ (w : CoreValue). store_steps w.ops) to.core_is
      ∙ (stores_stay t (words_at bus t.addr) (number_read bus turn) (first_number old.parts.buffer.waiting) turn ready
      ∙ ap (λ (w : CoreValue). store_steps w.ops) view))

  pub moves_then : (was : CoreValue) → core_seen old ≡ was → (did : Did) → phase ≡ phase_after did
      → Moves (in_step was.phase) (phase_after did) was (core_seen (with_end made phase))
  moves_then was view did phase_is = record {
    keeps = record {
      setup = left.setup ∙ ap (λ (w : CoreValue). w.setup) view;
      core = left.core ∙ ap (λ (w : CoreValue). w.arch.core) view;
    };
    steps_are =
        ap (λ (r : RecordState). r.steps) made_same
        ∙ (ended_same ∙ (steps_then old is turn may ∙ ap (λ (w : CoreValue). w.steps + in_step w.phase) view));
    phase_is = phase_is;
    stores = record { now = []; stores = stores_then was view ∙ sym (append-nil (store_steps was.ops)); in_step = tt };
  }
