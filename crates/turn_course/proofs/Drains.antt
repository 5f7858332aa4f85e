-- The drain of the store that has waited longest keeps all that holds of the core, in a step and after the last one: the store enters the
-- log, or its word is bad, which stops the core.
use Rattle.std.proofs.Common.{◌≡◌, ◌∙◌, ◌+◌, ◌<◌, ◌≤◌, ◌++◌, ℕ, suc, Bool, true, false, nat_le, List, [], ◌∷◌, Some, None, Ok, Err, cond, length, take, drop, refl, ap, sym, subst, arith, inl, inr, if◌then◌else◌}
use Rattle.std.proofs.lemmas.Bool.{cases_lt}
use Rattle.std.proofs.lemmas.List.{append-nil, length-append, length-drop, length-map, take-append-drop}
use Rattle.std.specs.Prelude.{find, slice_index, is_ok}
use Rattle.ahb_bus.proofs.ShownLemmas.{store_shown, store_log}
use Rattle.ahb_bus.proofs.TakenLemmas.{first_in, some_length}
use Rattle.ahb_bus.specs.BusState.{BusState, memory_of, asked_by, answered, store_entry, stored_by}
use Rattle.bus_memory.specs.MemoryState.{store_answer}
use Rattle.core_course.proofs.BusSteps.{MakesTurn, GoesOnAfter, drains, drains_last, joined}
use Rattle.core_course.proofs.Ended.{ground_ended}
use Rattle.core_course.proofs.LocalGround.{place_of}
use Rattle.core_course.proofs.MayTurns.{last_drains, drain_last}
use Rattle.core_course.proofs.Running.{ground_running, RunsOn}
use Rattle.core_course.proofs.StopSees.{given_losing, sees_losing, loses_waiting}
use Rattle.core_course.proofs.StopTurns.{StopShown, stops_core}
use Rattle.core_course.proofs.TurnGround.{turn_place, some_wait}
use Rattle.core_course.specs.CoreOk.{buffer_of, CoreOk}
use Rattle.core_course.specs.Lines.{PortLines, LinesAre}
use Rattle.core_laws.specs.SeenSoFar.{losing}
use Rattle.core_parts.specs.CoreValue.{CoreValue}
use Rattle.core_parts.specs.IsCore.{CanStore}
use Rattle.core_parts.specs.Makes.{IsOfFront, Makes}
use Rattle.core_parts.specs.Moves.{Turns, StopsAtTurn}
use Rattle.core_parts.specs.Work.{waiting_in}
use Rattle.core_parts.specs.declared.phase.Phase.TheVariants.{Between, Ended}
use Rattle.core_turns.proofs.Answers.{did_by, drain_answer, good}
use Rattle.core_turns.proofs.DrainLemmas.{in_ram_placed}
use Rattle.core_turns.proofs.Leaves.{drain_turns, drain_stops}
use Rattle.core_turns.specs.AfterTurn.{snooping, drained, stores_lost, turn_ended}
use Rattle.core_turns.specs.AskedTurn.{who_of, asked_drain, transfer_of, wants, bad_word, turn_answer}
use Rattle.core_turns.specs.BeforeTurn.{seat_at_turn, BeforeTurn}
use Rattle.lf_model.specs.Course.Core.{given_by, is_store_stop}
use Rattle.lf_model.specs.Course.Progress.{Progress}
use Rattle.lf_model.specs.Course.Syndromes.{syndromes_of, met_bad, has_address, enters_log}
use Rattle.lf_model.specs.Course.Turned.{own_turn, bad_wanted, turn_trap}
use Rattle.lf_model.specs.Records.OwnTurns.{next_effect}
use Rattle.lf_model.specs.Start.{initial_byte}
use Rattle.lf_model.specs.declared.bus.Bad.{Bad}
use Rattle.lf_model.specs.declared.bus.Entry.{Entry}
use Rattle.lf_model.specs.declared.bus.Pending.{Pending}
use Rattle.lf_model.specs.declared.bus.Transfer.{Transfer}
use Rattle.lf_model.specs.declared.bus.TurnKind.TheVariants as kinds
use Rattle.lf_model.specs.declared.bus.Why.{Why}
use Rattle.lf_model.specs.declared.step.Did.{Did}
use Rattle.lf_model.specs.declared.step.Turn.{Turn}
use Rattle.lf_model.specs.declared.step.Turn.TheVariants.{Drain}
use Rattle.lf_model.specs.declared.trace.CoreEnd.{CoreEnd}
use Rattle.lf_model.specs.declared.trace.CoreEnd.TheVariants.{Stop, Limit}
use Rattle.turn_course.proofs.DrainedEntry.{first_waits}
use Rattle.turn_course.proofs.TurnBegins.{here, unended, before, place_is, makes_turn_at, wanted_is, all_log, count, few_wait, without_entry}
use Rattle.turn_course.proofs.TurnLines.{lines_caught, lines_drained, same_lines}
use Rattle.turn_course.proofs.TurnStops.{earlier, past_same, ok_is, err_is}
use Rattle.turn_course.specs.BusStep.{TakesTurn, answer_of, ended_by}

module _ (v : CoreValue) (bus : BusState) (why : Why) (p : Pending) (ps : List Pending) (x : TakesTurn v bus (Drain why) (p ∷ ps)) where
  abbrev turn : Turn
  turn = Drain why

  abbrev pending : List Pending
  pending = p ∷ ps

  abbrev seen : List Entry
  seen = take v.log_seen bus.log

  abbrev more : List Entry
  more = drop v.log_seen bus.log

  abbrev known : List Transfer
  known = take v.turns_seen bus.transfers

  abbrev others : List Transfer
  others = drop v.turns_seen bus.transfers

  abbrev place : Progress
  place = place_of v known

  abbrev ready : CoreValue
  ready = snooping bus.log v

  now : RunsOn v seen known
  now = here v bus turn pending x

  can : CanStore bus.setup p
  can = x.in_ram.1.0

  -- ---- its transfer

  abbrev pub t : Transfer
  t = answered bus (asked_by bus (who_of v) kinds.Store why p.addr 0 p.len)

  pub t_is : transfer_of ready bus turn ≡ t
  t_is = ap (λ ws. answered bus (asked_drain bus (who_of v) why ws)) x.waiting

  some : 1 ≤ p.len
  some = some_length p.len can.size

  placed : has_address t ≡ true
  placed = in_ram_placed bus.setup.config.ram p.addr p.len can.in_ram

  some_waits : 0 < length v.ports.waiting
  some_waits = let many : length v.ports.waiting ≡ suc (length ps) = ap length x.waiting ∙ length-map pending waiting_in in omega (arith, many)

  begins : BeforeTurn (ground_running v) place v bus.log why
  begins = before v bus turn pending x (given_by v.ops) Limit v.setup.config.steps refl

  makes : Makes (ground_running v) (seat_at_turn bus.log v place) v turn t
  makes = record {
    kind = refl;
    why = refl;
    aimed = subst (IsOfFront t) (sym x.waiting) (refl, refl);
    way = refl;
    words = rw placed refl;
  }

  made : MakesTurn v seen more known others turn t
  made = makes_turn_at v bus turn pending x t makes (first_in bus.setup.config.ram p.addr p.len some can.in_ram) refl refl

  -- ---- the store that drains

  waits_first : (later : List Entry) × (buffer_of v ≡ store_entry (who_of v) p ∷ later)
  waits_first = first_waits v seen known now x.ops_fit p ps x.waits x.waiting

  first_entry : take 1 (buffer_of v) ≡ store_entry (who_of v) p ∷ []
  first_entry = ap (take 1) waits_first.1

  shown : is_ok (store_answer (memory_of bus) p.addr p.len) ≡ enters_log t
  shown = store_shown bus x.ok (who_of v) why p some can.in_ram

  answer : did_by turn (store_answer (memory_of bus) p.addr p.len) ≡ answer_of bus turn v
  answer = drain_answer bus (who_of v) why p some can.in_ram x.ok v.arch.ctl.pc placed ∙ ap (turn_answer v.arch.ctl.pc turn) (sym t_is)

  -- its entry
  pub entered : (stored_by (who_of v) why p bus).log ≡ bus.log ++ cond (enters_log t) (store_entry (who_of v) p ∷ []) []
  entered = store_log bus x.ok (who_of v) why p some can.in_ram

  pub answer_at : turn_answer v.arch.ctl.pc turn t ≡ answer_of bus turn v
  answer_at = ap (turn_answer v.arch.ctl.pc turn) (sym t_is)

  -- ---- its word was good

  module _ (did : Did) (is : answer_of bus turn v ≡ Ok did) where
    abbrev new : CoreValue
    new = turn_ended Between v.named (length bus.transfers + 1) (drained ready)

    enters : enters_log t ≡ true
    enters = sym shown ∙ ok_is turn (store_answer (memory_of bus) p.addr p.len) did (answer ∙ is)

    new_is : ended_by bus turn pending v (Ok did) ≡ new
    new_is = ap (λ b. turn_ended Between v.named (length bus.transfers + 1) (if b then drained ready else stores_lost p.k ready)) (ap enters_log t_is ∙ enters)

    none_bad : bad_wanted place.run.state.ctl.pc (next_effect (ground_running v) place) t ≡ None
    none_bad = wanted_is v bus turn pending x t refl ∙ good v.arch.ctl.pc turn t did (answer_at ∙ is)

    turns : Turns (ground_running new) (turn_place v known others) t v new
    turns = subst (λ k. Turns (ground_running v) k t v new) (sym (place_is v bus turn pending x))
        (drain_turns (ground_running v) place v bus.log t begins Between v.named (length bus.transfers + 1) refl refl placed enters some_waits)

    after : GoesOnAfter v new ((seen ++ more) ++ take 1 (buffer_of v)) ((known ++ others) ++ t ∷ [])
    after = record {
      keeps = record { setup = refl; core = refl };
      phase = refl;
      named = refl;
      log_length = length-append (seen ++ more) (take 1 (buffer_of v)) ∙ (let one : length (take 1 (buffer_of v)) ≡ 1 = ap length first_entry in omega (arith, ap length (all_log v bus turn pending x), one));
      turns = count v bus turn pending x t;
      few = let less : length (drop 1 v.ports.waiting) ≤ 8 = omega (arith, few_wait v bus turn pending x, length-drop 1 v.ports.waiting) in less;
    }

    lines : LinesAre new ((seen ++ more) ++ take 1 (buffer_of v)) (drop 1 (buffer_of v))
    lines = same_lines (initial_byte v.setup.image) (((seen ++ more) ++ take 1 (buffer_of v)) ++ drop 1 (buffer_of v)) ready.ports new.ports refl refl
        (lines_drained (initial_byte v.setup.image) (seen ++ more) (buffer_of v) ready.ports
        (subst (λ es. PortLines (initial_byte v.setup.image) (es ++ buffer_of v) ready.ports) (sym (all_log v bus turn pending x))
        (lines_caught (initial_byte v.setup.image) bus.log (buffer_of v) v.log_seen v.ports x.entries now.goes_on.lines)))

    ok_then : CoreOk new ((seen ++ more) ++ take 1 (buffer_of v)) ((known ++ others) ++ t ∷ [])
    ok_then = elim (cases_lt v.steps v.setup.config.steps) [
      | inl left ↦ drains v new seen more known others turn t made after some_waits refl refl refl turns refl none_bad lines left
      | inr over ↦
          let drain = (last_drains v turn t x.joins.ok.left x.may over).0 in
          let last : v.steps ≡ v.setup.config.steps = omega (arith, over, now.goes_on.has_steps.allowed) in
          drains_last v new seen more known others turn t made after some_waits refl refl refl turns refl none_bad lines refl (drain_last v turn t drain refl refl last) last
    ]

    log_then : bus.log ++ take 1 (buffer_of v) ≡ (stored_by (who_of v) why p bus).log
    log_then = ap (λ es. bus.log ++ es) first_entry
        ∙ sym (entered ∙ ap (λ (b : Bool). bus.log ++ cond b (store_entry (who_of v) p ∷ []) []) enters)

    pub drain_good : CoreOk (ended_by bus turn pending v (Ok did)) (stored_by (who_of v) why p bus).log (bus.transfers ++ t ∷ [])
    drain_good = subst (λ (w : CoreValue). CoreOk w (stored_by (who_of v) why p bus).log (bus.transfers ++ t ∷ [])) (sym new_is)
        (subst (λ (es : List Entry). CoreOk new es (bus.transfers ++ t ∷ [])) log_then
        (joined new v.log_seen v.turns_seen bus.log (take 1 (buffer_of v)) bus.transfers (t ∷ []) ok_then))

  -- ---- its word was bad

  module _ (j : ℕ) (found : find (met_bad t) (wants v.arch.ctl.pc turn) ≡ Some j) (refused : enters_log t ≡ false) where
    abbrev syn : ℕ
    syn = slice_index (syndromes_of t) j

    abbrev end : CoreEnd
    end = Stop (turn_trap kinds.Store) (length bus.transfers) syn

    abbrev stopped : CoreValue
    stopped = turn_ended (Ended end) (record { addr = (bad_word t j).addr; value = Some (length bus.transfers) } ∷ []) (length bus.transfers + 1) (stores_lost p.k ready)

    past : nat_le stopped.steps place.steps ≡ nat_le v.setup.config.steps place.steps
    past = past_same v.setup.config.steps v.steps place.steps now.is_seat.steps now.goes_on.has_steps.allowed

    stops : StopsAtTurn (ground_ended stopped end) (turn_place v known others) t j (turn_trap kinds.Store) syn v stopped
    stops = subst (λ k. StopsAtTurn (ground_ended stopped end) k t j (turn_trap kinds.Store) syn v stopped) (sym (place_is v bus turn pending x))
        (drain_stops (ground_ended stopped end) place v bus.log t (before v bus turn pending x (given_by (losing p.k v.ops)) end stopped.steps past)
        (Ended end) stopped.named (length bus.transfers + 1) refl j (turn_trap kinds.Store) syn refl refl p.k refl placed refused)

    is_store_end : is_store_stop end ≡ false → ⊥
    is_store_end is = let no : true ≡ false = is in absurd cc

    stored_stays : (own_turn (ground_ended stopped end) t (turn_place v known others)).stored ≡ (turn_place v known others).stored
    unfolding own_turn
    stored_stays = refl

    stop_shown : StopShown v stopped seen more known others turn t made j syn
    stop_shown = record {
      keeps = record { setup = refl; core = refl };
      given = given_losing v stopped seen known more now.goes_on x.joins.entries (store_entry (who_of v) p) waits_first.0 waits_first.1 refl refl;
      bad = wanted_is v bus turn pending x t refl ∙ found;
      turn_is = sym (ap length (take-append-drop v.turns_seen bus.transfers));
      earlier = earlier bus.transfers v.turns_seen x.ok.turns;
      stops = stops;
      phase = refl;
      log_length = ap length (all_log v bus turn pending x);
      turns = count v bus turn pending x t;
      has_seen = sees_losing v stopped seen known more now.goes_on x.joins.entries (store_entry (who_of v) p) waits_first.0 waits_first.1 refl refl;
      none_wait = refl;
      none_lost = λ no. absurd (is_store_end no);
      lost = loses_waiting v stopped seen known more now.goes_on x.joins.entries (store_entry (who_of v) p) waits_first.0 waits_first.1 refl refl
          (ground_ended stopped end) t (turn_place v known others) refl refl stored_stays now.is_seat.stored
          (some_wait (length v.ports.waiting) place v.phase (unended v bus turn pending x) now.is_seat.waits);
      named = refl;
    }

    stopped_is : ended_by bus turn pending v (Err (bad_word t j)) ≡ stopped
    stopped_is = ap (λ b. turn_ended (Ended end) (record { addr = (bad_word t j).addr; value = Some (length bus.transfers) } ∷ []) (length bus.transfers + 1) (if b then drained ready else stores_lost p.k ready))
        (ap enters_log t_is ∙ refused)

    log_same : bus.log ≡ (stored_by (who_of v) why p bus).log
    log_same = sym (entered ∙ (ap (λ (b : Bool). bus.log ++ cond b (store_entry (who_of v) p ∷ []) []) refused ∙ append-nil bus.log))

    pub drain_bad : CoreOk (ended_by bus turn pending v (Err (bad_word t j))) (stored_by (who_of v) why p bus).log (bus.transfers ++ t ∷ [])
    drain_bad = subst (λ (w : CoreValue). CoreOk w (stored_by (who_of v) why p bus).log (bus.transfers ++ t ∷ [])) (sym stopped_is)
        (subst (λ (es : List Entry). CoreOk stopped es (bus.transfers ++ t ∷ [])) log_same
        (without_entry v bus turn pending x stopped t (stops_core v stopped seen more known others turn t made j syn stop_shown)))

  pub refuses : (bad : Bad) → answer_of bus turn v ≡ Err bad → enters_log t ≡ false
  refuses bad is = sym shown ∙ err_is turn (store_answer (memory_of bus) p.addr p.len) bad (answer ∙ is)
