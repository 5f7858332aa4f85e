-- A fill of the data cache keeps all that holds of the core: the words that the load wants were good, or the lowest bad one stops the core.
use Rattle.std.proofs.Common.{◌≡◌, ◌∙◌, ◌+◌, ◌%◌, ◌^◌, ◌<◌, ◌++◌, ℕ, true, nat_le, List, [], ◌∷◌, Some, None, Ok, Err, length, take, drop, refl, ap, sym, subst, arith}
use Rattle.std.proofs.lemmas.List.{append-nil, take-append-drop}
use Rattle.std.specs.Prelude.{find, slice_index}
use Rattle.ahb_bus.proofs.TakenLemmas.{first_in}
use Rattle.ahb_bus.specs.BusState.{BusState}
use Rattle.core_course.proofs.BusSteps.{MakesTurn, GoesOnAfter, fills}
use Rattle.core_course.proofs.Ended.{ground_ended}
use Rattle.core_course.proofs.LocalGround.{place_of}
use Rattle.core_course.proofs.MayTurns.{in_a_step}
use Rattle.core_course.proofs.Running.{ground_running}
use Rattle.core_course.proofs.StopSees.{given_same, sees_end, none_waits, none_is_lost, loses_none}
use Rattle.core_course.proofs.StopTurns.{StopShown, stops_core}
use Rattle.core_course.proofs.TurnGround.{turn_place}
use Rattle.turn_course.proofs.TurnLines.{lines_caught, lines_loaded}
use Rattle.core_course.specs.CoreOk.{buffer_of, CoreOk}
use Rattle.core_course.specs.Lines.{PortLines, LinesAre}
use Rattle.core_parts.specs.Completes.{CompletesNone}
use Rattle.core_parts.specs.CoreValue.{CoreValue}
use Rattle.core_parts.specs.Makes.{Makes}
use Rattle.core_parts.specs.Moves.{Turns, StopsAtTurn}
use Rattle.core_parts.specs.declared.phase.Phase.TheVariants.{Between, Ended}
use Rattle.core_turns.proofs.Answers.{good}
use Rattle.core_turns.proofs.Arrays.{arrays_ready}
use Rattle.core_turns.proofs.DrainLemmas.{in_ram_placed}
use Rattle.core_turns.proofs.Leaves.{load_turns, load_stops}
use Rattle.core_turns.proofs.TextLine.{HasLine}
use Rattle.core_turns.specs.AfterTurn.{snooping, data_valid}
use Rattle.core_turns.specs.AskedTurn.{asked_for, transfer_of, wants, bad_word}
use Rattle.core_turns.specs.BeforeTurn.{seat_at_turn, BeforeTurn}
use Rattle.core_turns.specs.MakesTurn.{words_at}
use Rattle.lf_model.specs.Caches.Slot.{line_of}
use Rattle.lf_model.specs.Course.Core.{given_by}
use Rattle.lf_model.specs.Course.Progress.{Progress}
use Rattle.lf_model.specs.Course.Syndromes.{syndromes_of, met_bad, has_address}
use Rattle.lf_model.specs.Course.Turn.{fill_way}
use Rattle.lf_model.specs.Course.Turned.{own_turn, bad_wanted, turn_trap}
use Rattle.lf_model.specs.Records.OwnTurns.{next_effect}
use Rattle.lf_model.specs.Start.{initial_byte}
use Rattle.lf_model.specs.Value.{stored}
use Rattle.lf_model.specs.declared.bus.Entry.{Entry}
use Rattle.lf_model.specs.declared.bus.Pending.{Pending}
use Rattle.lf_model.specs.declared.bus.Transfer.{Transfer}
use Rattle.lf_model.specs.declared.bus.TurnKind.TheVariants as kinds
use Rattle.lf_model.specs.declared.bus.Why.{Why}
use Rattle.lf_model.specs.declared.setup.Setup.{Setup}
use Rattle.lf_model.specs.declared.step.Did.{Did}
use Rattle.lf_model.specs.declared.step.Turn.{Turn}
use Rattle.lf_model.specs.declared.step.Turn.TheVariants.{Load, Drain}
use Rattle.lf_model.specs.declared.bus.Why.TheVariants as whys
use Rattle.lf_model.specs.declared.trace.CoreEnd.{CoreEnd}
use Rattle.lf_model.specs.declared.trace.CoreEnd.TheVariants.{Stop, Limit}
use Rattle.turn_course.proofs.FilledLine.{memory_bytes}
use Rattle.turn_course.proofs.TurnBegins.{here, needs, before, place_is, makes_turn_at, wanted_is, none_waiting, none_in_buffer, all_log, count, few_wait, without_entry}
use Rattle.turn_course.proofs.TurnStops.{earlier, past_same}
use Rattle.turn_course.specs.BusStep.{TakesTurn, answer_of, ended_by}

no_drain : (addr len : ℕ) (why : Why) → Load addr len why ≡ Drain whys.End → ⊥
no_drain addr len why is = absurd cc

module _ (v : CoreValue) (bus : BusState) (addr len : ℕ) (why : Why) (pending : List Pending) (x : TakesTurn v bus (Load addr len why) pending) where
  abbrev turn : Turn
  turn = Load addr len why

  abbrev seen : List Entry
  seen = take v.log_seen bus.log

  abbrev more : List Entry
  more = drop v.log_seen bus.log

  abbrev known : List Transfer
  known = take v.turns_seen bus.transfers

  abbrev others : List Transfer
  others = drop v.turns_seen bus.transfers

  abbrev place : Progress
  place = place_of v known

  abbrev ready : CoreValue
  ready = snooping bus.log v

  abbrev pub t : Transfer
  t = transfer_of ready bus turn

  placed : has_address t ≡ true
  placed = in_ram_placed bus.setup.config.ram (line_of addr) 32 x.in_ram.1

  aligned : line_of addr % 32 ≡ 0
  aligned = omega arith

  low : line_of addr < 2 ^ 32
  low = let small : addr < 2 ^ 32 = x.in_ram.0 in omega (arith, small)

  -- ---- its transfer

  begins : BeforeTurn (ground_running v) place v bus.log why
  begins = before v bus turn pending x (given_by v.ops) Limit v.setup.config.steps refl

  makes : Makes (ground_running v) (seat_at_turn bus.log v place) v turn t
  makes = record {
    kind = refl;
    why = refl;
    aimed = (refl, refl);
    way = ap (λ a. fill_way (line_of addr) a kinds.Load) (sym (arrays_ready (ground_running v) place v bus.log t begins));
    words = rw placed refl;
  }

  made : MakesTurn v seen more known others turn t
  made = makes_turn_at v bus turn pending x t makes (first_in bus.setup.config.ram (line_of addr) 32 (omega arith) x.in_ram.1) refl refl

  left : v.steps < v.setup.config.steps
  left = in_a_step v turn t x.joins.ok.left x.may (no_drain addr len why)

  -- ---- the lines of its caches

  none : length v.ports.waiting ≡ 0
  none = none_waiting v bus turn pending x kinds.Load why not_store (needs v bus turn pending x).needed
    where
      not_store : kinds.Load ≡ kinds.Store → ⊥
      not_store is = absurd cc

  empty : buffer_of v ≡ []
  empty = none_in_buffer v bus turn pending x none

  bytes : HasLine (λ a. stored a (bus.log ++ buffer_of v) (initial_byte v.setup.image a)) (line_of addr) (data_valid t) (words_at bus (line_of addr))
  bytes = subst (λ (es : List Entry). HasLine (λ a. stored a es (initial_byte v.setup.image a)) (line_of addr) (data_valid t) (words_at bus (line_of addr)))
      (sym (ap (λ (es : List Entry). bus.log ++ es) empty ∙ append-nil bus.log))
      (subst (λ (s : Setup). HasLine (λ a. stored a bus.log (initial_byte s.image a)) (line_of addr) (data_valid t) (words_at bus (line_of addr))) (sym x.setup)
      (memory_bytes bus x.ok (asked_for ready bus turn) refl aligned x.in_ram.1))

  module _ (did : Did) (is : answer_of bus turn v ≡ Ok did) where
    abbrev new : CoreValue
    new = ended_by bus turn pending v (Ok did)

    none_bad : bad_wanted place.run.state.ctl.pc (next_effect (ground_running v) place) t ≡ None
    none_bad = wanted_is v bus turn pending x t refl ∙ good v.arch.ctl.pc turn t did is

    turns : Turns (ground_running new) (turn_place v known others) t v new
    turns = subst (λ k. Turns (ground_running v) k t v new) (sym (place_is v bus turn pending x))
        (load_turns (ground_running v) place v bus.log t begins Between v.named (length bus.transfers + 1) refl (words_at bus (line_of addr)) refl placed)

    after : GoesOnAfter v new (seen ++ more) ((known ++ others) ++ t ∷ [])
    after = record {
      keeps = record { setup = refl; core = refl };
      phase = refl;
      named = refl;
      log_length = ap length (all_log v bus turn pending x);
      turns = count v bus turn pending x t;
      few = few_wait v bus turn pending x;
    }

    lines : LinesAre new (seen ++ more) (buffer_of v)
    lines = subst (λ es. PortLines (initial_byte v.setup.image) (es ++ buffer_of v) new.ports) (sym (all_log v bus turn pending x))
        (lines_loaded (initial_byte v.setup.image) (bus.log ++ buffer_of v) ready.ports
        (lines_caught (initial_byte v.setup.image) bus.log (buffer_of v) v.log_seen v.ports x.entries (here v bus turn pending x).goes_on.lines)
        (line_of addr) (data_valid t) (words_at bus (line_of addr)) low bytes)

    pub load_good : CoreOk new bus.log (bus.transfers ++ t ∷ [])
    load_good = without_entry v bus turn pending x new t
        (fills v new seen more known others turn t made after (record { ops = refl; seen_by = refl; waiting = refl }) turns refl left none_bad lines)

  -- ---- a word that the load wants is bad

  module _ (j : ℕ) (found : find (met_bad t) (wants v.arch.ctl.pc turn) ≡ Some j) where
    abbrev stopped : CoreValue
    stopped = ended_by bus turn pending v (Err (bad_word t j))

    abbrev syn : ℕ
    syn = slice_index (syndromes_of t) j

    abbrev end : CoreEnd
    end = Stop (turn_trap kinds.Load) (length bus.transfers) syn

    past : nat_le stopped.steps place.steps ≡ nat_le v.setup.config.steps place.steps
    past = past_same v.setup.config.steps v.steps place.steps (here v bus turn pending x).is_seat.steps (here v bus turn pending x).goes_on.has_steps.allowed

    one_bad : bad_wanted place.run.state.ctl.pc (next_effect (ground_running v) place) t ≡ Some j
    one_bad = wanted_is v bus turn pending x t refl ∙ found

    stops : StopsAtTurn (ground_ended stopped end) (turn_place v known others) t j (turn_trap kinds.Load) syn v stopped
    stops = subst (λ k. StopsAtTurn (ground_ended stopped end) k t j (turn_trap kinds.Load) syn v stopped) (sym (place_is v bus turn pending x))
        (load_stops (ground_ended stopped end) place v bus.log t (before v bus turn pending x (given_by v.ops) end stopped.steps past)
        (Ended end) stopped.named (length bus.transfers + 1) refl j (turn_trap kinds.Load) syn refl refl (words_at bus (line_of addr)) refl placed)

    keeps_all : CompletesNone v stopped
    keeps_all = record { ops = refl; seen_by = refl; waiting = refl }

    shown : StopShown v stopped seen more known others turn t made j syn
    shown =
        let h = (here v bus turn pending x).goes_on in
        record {
          keeps = record { setup = refl; core = refl };
          given = given_same v stopped seen known more h x.joins.entries keeps_all none;
          bad = one_bad;
          turn_is = sym (ap length (take-append-drop v.turns_seen bus.transfers));
          earlier = earlier bus.transfers v.turns_seen x.ok.turns;
          stops = stops;
          phase = refl;
          log_length = ap length (all_log v bus turn pending x);
          turns = count v bus turn pending x t;
          has_seen = sees_end v stopped seen known more h x.joins.entries keeps_all none;
          none_wait = none_waits v stopped seen known more h x.joins.entries keeps_all none;
          none_lost = λ _. none_is_lost v stopped seen known more h x.joins.entries keeps_all none;
          lost = loses_none v stopped seen known more h x.joins.entries keeps_all none (ground_ended stopped end) (own_turn (ground_ended stopped end) t (turn_place v known others)) refl;
          named = refl;
        }

    pub load_bad : CoreOk stopped bus.log (bus.transfers ++ t ∷ [])
    load_bad = without_entry v bus turn pending x stopped t (stops_core v stopped seen more known others turn t made j syn shown)
