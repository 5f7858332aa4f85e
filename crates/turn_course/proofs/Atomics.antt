-- LDSTUB or SWAP in one turn keeps all that holds of the core: its word was good, and it retires, or bad, which stops the core.
use Rattle.std.proofs.Common.{◌≡◌, ◌∙◌, ◌+◌, ◌-◌, ◌<◌, ◌≤◌, ◌++◌, ℕ, Bool, true, false, nat_le, List, [], ◌∷◌, Option, Some, None, Ok, Err, cond, length, take, drop, refl, ap, sym, subst, arith, if◌then◌else◌}
use Rattle.std.proofs.lemmas.List.{append-nil, length-append, get_or-append_right, take-append-drop}
use Rattle.std.specs.Prelude.{find, slice_index, is_ok}
use Rattle.ahb_bus.proofs.InsideLemmas.{is_length_of}
use Rattle.ahb_bus.proofs.ShownLemmas.{atomic_shown, atomic_log}
use Rattle.ahb_bus.proofs.TakenLemmas.{first_in}
use Rattle.ahb_bus.specs.BusState.{BusState, memory_of, atomic_entry, exchanged_by, part_of}
use Rattle.bus_memory.specs.MemoryState.{value_at, read_answer}
use Rattle.core_course.proofs.BusSteps.{MakesTurn, GoesOnAfter, exchanges, joined}
use Rattle.core_course.proofs.Ended.{ground_ended}
use Rattle.core_course.proofs.LocalGround.{place_of}
use Rattle.core_course.proofs.MayTurns.{in_a_step}
use Rattle.core_course.proofs.Reaches.{all_read}
use Rattle.core_course.proofs.Running.{ground_running, RunsOn}
use Rattle.core_course.proofs.StopSees.{given_same, sees_end, none_waits, none_is_lost, loses_none}
use Rattle.core_course.proofs.StopTurns.{StopShown, stops_core}
use Rattle.core_course.proofs.TurnGround.{turn_place}
use Rattle.core_course.specs.CoreOk.{buffer_of, CoreOk}
use Rattle.core_course.specs.Lines.{PortLines, LinesAre}
use Rattle.core_laws.proofs.Given.{given_more}
use Rattle.core_parts.specs.Completes.{op_of, CompletesNone}
use Rattle.core_parts.specs.CoreValue.{CoreValue}
use Rattle.core_parts.specs.Makes.{Makes}
use Rattle.core_parts.specs.Moves.{Exchanges, StopsAtTurn}
use Rattle.core_parts.specs.Needs.{IsAtomicOf}
use Rattle.core_parts.specs.declared.phase.Phase.TheVariants.{Between, Ended}
use Rattle.core_turns.proofs.Answers.{did_by, atomic_answer, good}
use Rattle.core_turns.proofs.DrainLemmas.{in_ram_placed}
use Rattle.core_turns.proofs.Exchange.{exchanges as exchange_made}
use Rattle.core_turns.proofs.Leaves.{atomic_stops}
use Rattle.core_turns.proofs.TextLine.{stored_small}
use Rattle.core_turns.specs.AfterTurn.{snooping, exchanged, turn_ended}
use Rattle.core_turns.specs.AskedTurn.{who_of, transfer_of, wants, bad_word}
use Rattle.core_turns.specs.BeforeTurn.{seat_at_turn, BeforeTurn, ReadsAtomic}
use Rattle.core_turns.specs.MakesTurn.{next_atomic}
use Rattle.lf_model.specs.Bus.Words.{word_of}
use Rattle.lf_model.specs.Course.Core.{Given, given_by}
use Rattle.lf_model.specs.Course.Progress.{Progress}
use Rattle.lf_model.specs.Course.Syndromes.{syndromes_of, met_bad, has_address, enters_log}
use Rattle.lf_model.specs.Course.Turned.{own_turn, bad_wanted, turn_trap}
use Rattle.lf_model.specs.Effect.{AccessKind, Access}
use Rattle.lf_model.specs.ProgramOrder.{answers_of}
use Rattle.lf_model.specs.Operation.{made}
use Rattle.lf_model.specs.Records.AllRecords.{number_left}
use Rattle.lf_model.specs.Records.OwnTurns.{next_effect}
use Rattle.lf_model.specs.Run.{Run, reads_of}
use Rattle.lf_model.specs.Start.{initial_byte, number_at}
use Rattle.lf_model.specs.Value.{Reads, stored}
use Rattle.lf_model.specs.declared.bus.Bad.{Bad}
use Rattle.lf_model.specs.declared.bus.Entry.{Entry}
use Rattle.lf_model.specs.declared.bus.Pending.{Pending}
use Rattle.lf_model.specs.declared.bus.Transfer.{Transfer}
use Rattle.lf_model.specs.declared.bus.TurnKind.TheVariants as kinds
use Rattle.lf_model.specs.declared.bus.Why.TheVariants as whys
use Rattle.lf_model.specs.declared.setup.Setup.{Setup}
use Rattle.lf_model.specs.declared.step.Did.{Did}
use Rattle.lf_model.specs.declared.step.Turn.{Turn}
use Rattle.lf_model.specs.declared.step.Turn.TheVariants.{Atomic, Drain}
use Rattle.lf_model.specs.declared.trace.CoreEnd.{CoreEnd}
use Rattle.lf_model.specs.declared.trace.CoreEnd.TheVariants.{Stop, Limit}
use Rattle.lf_model.specs.declared.trace.Op.{Op}
use Rattle.parity_slots.specs.SlotState.{IsAccess}
use Rattle.turn_course.proofs.AtomicEnds.{ends_at_pc}
use Rattle.v8_exec.proofs.AtomicLemmas.{EndsAtomic}
use Rattle.turn_course.proofs.AtomicReads.{byte_or_word, some_bytes, is_a_length, part_is, word_read, reads_number}
use Rattle.turn_course.proofs.TurnBegins.{here, needs, before, place_is, makes_turn_at, wanted_is, none_waiting, none_in_buffer, all_log, count, few_wait, without_entry}
use Rattle.turn_course.proofs.TurnLines.{lines_caught, lines_exchanged, same_lines}
use Rattle.turn_course.proofs.TurnStops.{earlier, past_same, ok_is, err_is}
use Rattle.turn_course.specs.BusStep.{TakesTurn, answer_of, ended_by}
use Rattle.v8_exec.specs.Accesses.{atomic_access}

no_drain : (addr len new rd : ℕ) → Atomic addr len new rd ≡ Drain whys.End → ⊥
no_drain addr len new rd is = absurd cc

-- ---- the access of the turn

parts_same : (addr len new rd : ℕ) (a : Access) → a.kind ≡ AccessKind.Atomic → a.addr ≡ addr → a.len ≡ len → a.put ≡ new → a.rd ≡ rd → a ≡ atomic_access addr len new rd
parts_same addr len new rd a kind at of_len put register = rw (sym at, sym of_len, sym put, sym register) (ap (λ (k : AccessKind). record a { kind = k }) kind)

same_access : (addr len new rd : ℕ) (a : Access) → a.kind ≡ AccessKind.Atomic → Atomic addr len new rd ≡ Atomic a.addr a.len a.put a.rd → a ≡ atomic_access addr len new rd
same_access addr len new rd a kind is = parts_same addr len new rd a kind (cc) (cc) (cc) (cc)

access_is : (addr len new rd : ℕ) (access : Option Access) → IsAtomicOf (Atomic addr len new rd) access → access ≡ Some (atomic_access addr len new rd)
access_is addr len new rd None is = absurd is
access_is addr len new rd (Some a) is = ap Some (same_access addr len new rd a is.0 is.1)

module _ (v : CoreValue) (bus : BusState) (addr len new rd : ℕ) (pending : List Pending) (x : TakesTurn v bus (Atomic addr len new rd) pending) where
  abbrev turn : Turn
  turn = Atomic addr len new rd

  abbrev asked : Pending
  asked = next_atomic addr len new v

  abbrev seen : List Entry
  seen = take v.log_seen bus.log

  abbrev more : List Entry
  more = drop v.log_seen bus.log

  abbrev known : List Transfer
  known = take v.turns_seen bus.transfers

  abbrev others : List Transfer
  others = drop v.turns_seen bus.transfers

  abbrev place : Progress
  place = place_of v known

  abbrev ready : CoreValue
  ready = snooping bus.log v

  abbrev initial : ℕ → ℕ
  initial = initial_byte v.setup.image

  now : RunsOn v seen known
  now = here v bus turn pending x

  -- ---- its transfer

  abbrev pub t : Transfer
  t = transfer_of ready bus turn

  some : 1 ≤ len
  some = some_bytes len x.in_ram.0

  placed : has_address t ≡ true
  placed = in_ram_placed bus.setup.config.ram addr len x.in_ram.1.in_ram

  makes : Makes (ground_running v) (seat_at_turn bus.log v place) v turn t
  makes = record { kind = refl; why = refl; aimed = (refl, refl); way = refl; words = rw placed refl }

  begun : MakesTurn v seen more known others turn t
  begun = makes_turn_at v bus turn pending x t makes (first_in bus.setup.config.ram addr len some x.in_ram.1.in_ram) refl refl

  left : v.steps < v.setup.config.steps
  left = in_a_step v turn t x.joins.ok.left x.may (no_drain addr len new rd)

  none : length v.ports.waiting ≡ 0
  none = none_waiting v bus turn pending x kinds.Atomic whys.None not_store (needs v bus turn pending x).needed
    where
      not_store : kinds.Atomic ≡ kinds.Store → ⊥
      not_store is = absurd cc

  shown : is_ok (read_answer (memory_of bus) (word_of addr)) ≡ enters_log t
  shown = atomic_shown bus x.ok (who_of v) asked some x.in_ram.1.in_ram

  answer : did_by turn (read_answer (memory_of bus) (word_of addr)) ≡ answer_of bus turn v
  answer = atomic_answer bus (who_of v) asked some x.in_ram.1.in_ram x.ok v.arch.ctl.pc new rd placed

  -- its entry
  pub entered : (exchanged_by (who_of v) asked bus).log ≡ bus.log ++ cond (enters_log t) (atomic_entry (who_of v) asked (value_at (memory_of bus) (word_of addr)) ∷ []) []
  entered = atomic_log bus x.ok (who_of v) asked some x.in_ram.1.in_ram

  -- ---- its word was good

  abbrev got : ℕ
  got = part_of (value_at (memory_of bus) (word_of addr)) addr len

  abbrev access : Access
  access = atomic_access addr len new rd

  abbrev o : Op
  o = op_of v access got 0

  -- what it reads is what the log left
  left_small : (a : ℕ) → initial a < 256
  left_small = subst (λ (s : Setup). (a : ℕ) → initial_byte s.image a < 256) (sym x.setup) x.ok.bytes

  got_is : got ≡ number_at (λ a. stored a bus.log (initial a)) addr len
  got_is =
      ap (λ w. part_of w addr len) (word_read bus x.ok addr len x.in_ram.1.in_ram some ∙ ap (λ (s : Setup). number_left s.image bus.log (word_of addr)) (sym x.setup))
      ∙ part_is (λ a. stored a bus.log (initial a)) (λ a. stored_small a (initial a) bus.log (left_small a)) addr len (byte_or_word len x.in_ram.0) x.in_ram.1.aligned

  reads : Reads initial (made o) (seen ++ more)
  reads = subst (Reads initial (made o)) (sym (all_log v bus turn pending x)) (reads_number initial left_small bus.log (made o) got_is)

  -- the ground that has what it reads
  abbrev given_then : Given
  given_then = given_by (v.ops ++ o ∷ [])

  begins : BeforeTurn (ground_running (record v { ops = v.ops ++ o ∷ [] })) place v bus.log whys.None
  begins = before v bus turn pending x given_then Limit v.setup.config.steps refl

  ends : EndsAtomic place.run.state (next_effect (ground_running v) place)
  ends = ends_at_pc v.setup v.arch.core place.run.state

  has_access : (next_effect (ground_running v) place).access ≡ Some access
  has_access = access_is addr len new rd (next_effect (ground_running v) place).access (needs v bus turn pending x).aimed

  next_answer : slice_index given_then.answers (reads_of place.run.ops) ≡ got
  next_answer =
      let n = reads_of place.run.ops in
      let known_reads : length (answers_of v.ops) ≡ n = sym (ap (λ (r : Run). reads_of r.ops) now.is_seat.run ∙ all_read v.ops) in
      let at : n - n ≡ 0 = omega arith in
      ap (λ (g : Given). slice_index g.answers n) (given_more v.ops (o ∷ []))
      ∙ (get_or-append_right (answers_of v.ops) (got ∷ []) n n 0 known_reads (omega arith) ∙ ap (λ (i : ℕ). slice_index (got ∷ []) i) at)

  reads_atomic : ReadsAtomic (ground_running (record v { ops = v.ops ++ o ∷ [] })) place addr len new rd got
  reads_atomic = record {
    access = has_access;
    next = ends.ends addr len new rd got has_access;
    writes = ends.writes addr len new rd has_access;
    read = next_answer;
  }

  fits : IsAccess addr len
  fits = record { size = is_length_of len (is_a_length len x.in_ram.0); aligned = x.in_ram.1.aligned }

  module _ (did : Did) (is : answer_of bus turn v ≡ Ok did) where
    abbrev after : CoreValue
    after = turn_ended Between v.named (length bus.transfers + 1) (exchanged addr len new rd got ready)

    enters : enters_log t ≡ true
    enters = sym shown ∙ ok_is turn (read_answer (memory_of bus) (word_of addr)) did (answer ∙ is)

    after_is : ended_by bus turn pending v (Ok did) ≡ after
    after_is = ap (λ b. turn_ended Between v.named (length bus.transfers + 1) (if b then exchanged addr len new rd got ready else ready)) enters

    none_bad : bad_wanted place.run.state.ctl.pc (next_effect (ground_running v) place) t ≡ None
    none_bad = wanted_is v bus turn pending x t refl ∙ good v.arch.ctl.pc turn t did is

    exchanges_here : Exchanges (ground_running after) (turn_place v known others) t v after
    exchanges_here = subst (λ k. Exchanges (ground_running after) k t v after) (sym (place_is v bus turn pending x))
        (exchange_made (ground_running after) place v bus.log t begins Between v.named (length bus.transfers + 1) refl addr len new rd got reads_atomic
        refl placed enters refl now.goes_on.has_seen.one_each)

    goes_on : GoesOnAfter v after ((seen ++ more) ++ made o ∷ []) ((known ++ others) ++ t ∷ [])
    goes_on = record {
      keeps = record { setup = refl; core = refl };
      phase = refl;
      named = refl;
      log_length = length-append (seen ++ more) (made o ∷ []) ∙ ap (λ (es : List Entry). length es + 1) (all_log v bus turn pending x);
      turns = count v bus turn pending x t;
      few = few_wait v bus turn pending x;
    }

    seen_lines : PortLines initial bus.log ready.ports
    seen_lines = subst (λ (es : List Entry). PortLines initial es ready.ports)
        (ap (λ (es : List Entry). bus.log ++ es) (none_in_buffer v bus turn pending x none) ∙ append-nil bus.log)
        (lines_caught initial bus.log (buffer_of v) v.log_seen v.ports x.entries now.goes_on.lines)

    lines : LinesAre after ((seen ++ more) ++ made o ∷ []) []
    lines = subst (λ (es : List Entry). PortLines initial es after.ports)
        (sym (append-nil ((seen ++ more) ++ made o ∷ []) ∙ ap (λ (es : List Entry). es ++ made o ∷ []) (all_log v bus turn pending x)))
        (same_lines initial (bus.log ++ made o ∷ []) _ after.ports refl refl (lines_exchanged initial bus.log ready.ports seen_lines (made o) fits))

    ok_then : CoreOk after ((seen ++ more) ++ made o ∷ []) ((known ++ others) ++ t ∷ [])
    ok_then = exchanges v after seen more known others turn t begun access got 0 goes_on (record { ops = refl; seen_by = refl; waiting = refl }) refl none
        (ap (λ (es : List Entry). length es + 1) (sym (all_log v bus turn pending x))) reads exchanges_here refl left none_bad lines

    log_then : bus.log ++ made o ∷ [] ≡ (exchanged_by (who_of v) asked bus).log
    log_then = ap (λ k. bus.log ++ record (made o) { k = k } ∷ []) (sym x.counted)
        ∙ sym (entered
        ∙ ap (λ (b : Bool). bus.log ++ cond b (atomic_entry (who_of v) asked (value_at (memory_of bus) (word_of addr)) ∷ []) []) enters)

    pub atomic_good : CoreOk (ended_by bus turn pending v (Ok did)) (exchanged_by (who_of v) asked bus).log (bus.transfers ++ t ∷ [])
    atomic_good = subst (λ (w : CoreValue). CoreOk w (exchanged_by (who_of v) asked bus).log (bus.transfers ++ t ∷ [])) (sym after_is)
        (subst (λ (es : List Entry). CoreOk after es (bus.transfers ++ t ∷ [])) log_then
        (joined after v.log_seen v.turns_seen bus.log (made o ∷ []) bus.transfers (t ∷ []) ok_then))

  -- ---- its word was bad

  module _ (j : ℕ) (found : find (met_bad t) (wants v.arch.ctl.pc turn) ≡ Some j) (refused : enters_log t ≡ false) where
    abbrev syn : ℕ
    syn = slice_index (syndromes_of t) j

    abbrev end : CoreEnd
    end = Stop (turn_trap kinds.Atomic) (length bus.transfers) syn

    abbrev stopped : CoreValue
    stopped = turn_ended (Ended end) (record { addr = (bad_word t j).addr; value = Some (length bus.transfers) } ∷ []) (length bus.transfers + 1) ready

    past : nat_le stopped.steps place.steps ≡ nat_le v.setup.config.steps place.steps
    past = past_same v.setup.config.steps v.steps place.steps now.is_seat.steps now.goes_on.has_steps.allowed

    stops : StopsAtTurn (ground_ended stopped end) (turn_place v known others) t j (turn_trap kinds.Atomic) syn v stopped
    stops = subst (λ k. StopsAtTurn (ground_ended stopped end) k t j (turn_trap kinds.Atomic) syn v stopped) (sym (place_is v bus turn pending x))
        (atomic_stops (ground_ended stopped end) place v bus.log t (before v bus turn pending x (given_by v.ops) end stopped.steps past)
        (Ended end) stopped.named (length bus.transfers + 1) refl j (turn_trap kinds.Atomic) syn refl refl refl placed refused)

    keeps_all : CompletesNone v stopped
    keeps_all = record { ops = refl; seen_by = refl; waiting = refl }

    stop_shown : StopShown v stopped seen more known others turn t begun j syn
    stop_shown = record {
      keeps = record { setup = refl; core = refl };
      given = given_same v stopped seen known more now.goes_on x.joins.entries keeps_all none;
      bad = wanted_is v bus turn pending x t refl ∙ found;
      turn_is = sym (ap length (take-append-drop v.turns_seen bus.transfers));
      earlier = earlier bus.transfers v.turns_seen x.ok.turns;
      stops = stops;
      phase = refl;
      log_length = ap length (all_log v bus turn pending x);
      turns = count v bus turn pending x t;
      has_seen = sees_end v stopped seen known more now.goes_on x.joins.entries keeps_all none;
      none_wait = none_waits v stopped seen known more now.goes_on x.joins.entries keeps_all none;
      none_lost = λ _. none_is_lost v stopped seen known more now.goes_on x.joins.entries keeps_all none;
      lost = loses_none v stopped seen known more now.goes_on x.joins.entries keeps_all none (ground_ended stopped end) (own_turn (ground_ended stopped end) t (turn_place v known others)) refl;
      named = refl;
    }

    stopped_is : ended_by bus turn pending v (Err (bad_word t j)) ≡ stopped
    stopped_is = ap (λ b. turn_ended (Ended end) (record { addr = (bad_word t j).addr; value = Some (length bus.transfers) } ∷ []) (length bus.transfers + 1) (if b then exchanged addr len new rd got ready else ready)) refused

    log_same : bus.log ≡ (exchanged_by (who_of v) asked bus).log
    log_same = sym (entered
        ∙ (ap (λ (b : Bool). bus.log ++ cond b (atomic_entry (who_of v) asked (value_at (memory_of bus) (word_of addr)) ∷ []) []) refused ∙ append-nil bus.log))

    pub atomic_bad : CoreOk (ended_by bus turn pending v (Err (bad_word t j))) (exchanged_by (who_of v) asked bus).log (bus.transfers ++ t ∷ [])
    atomic_bad = subst (λ (w : CoreValue). CoreOk w (exchanged_by (who_of v) asked bus).log (bus.transfers ++ t ∷ [])) (sym stopped_is)
        (subst (λ (es : List Entry). CoreOk stopped es (bus.transfers ++ t ∷ [])) log_same
        (without_entry v bus turn pending x stopped t (stops_core v stopped seen more known others turn t begun j syn stop_shown)))

  pub refuses : (bad : Bad) → answer_of bus turn v ≡ Err bad → enters_log t ≡ false
  refuses bad is = sym shown ∙ err_is turn (read_answer (memory_of bus) (word_of addr)) bad (answer ∙ is)
