-- What is shown of a core beside the bus that it joins: its turns, and what it leaves.
use Rattle.std.proofs.Common.{◌≡◌, ◌∙◌, ◌-◌, ◌++◌, true, List, [], ◌∷◌, length, take, drop, map, filter, refl, ap, sym, subst, arith}
use Rattle.std.proofs.lemmas.Bool.{and_from}
use Rattle.std.proofs.lemmas.Grind.{flat_map-append}
use Rattle.std.proofs.lemmas.List.{take-append-drop, drop_at, drop-map}
use Rattle.std.proofs.lemmas.List.Folds.{list_all-append}
use Rattle.std.specs.List.{list_all, flat_map}
use Rattle.core_laws.proofs.Unseen.{SnoopsLater, snoops_later, stored_by_log}
use Rattle.core_parts.specs.CoreValue.{CoreValue}
use Rattle.core_parts.specs.Phases.{state_of_core}
use Rattle.core_parts.specs.PortState.{arrays_in}
use Rattle.core_parts.specs.declared.phase.CoreState.TheVariants as states
use Rattle.core_course.proofs.BusSteps.{MakesTurn}
use Rattle.core_course.proofs.LaterSeat.{at_seat}
use Rattle.core_course.proofs.Leaves.{leaves}
use Rattle.core_course.proofs.LimitEnds.{shown_end}
use Rattle.core_course.proofs.LocalGround.{place_of}
use Rattle.core_course.proofs.Running.{ground_running, IsUnended, RunsOn, runs_on}
use Rattle.core_course.proofs.TurnGround.{turn_place}
use Rattle.core_course.specs.Calls.{Joins, MayTurn}
use Rattle.core_parts.specs.Makes.{Makes}
use Rattle.core_course.specs.Result.{result_of}
use Rattle.lf_model.specs.Course.Course.{stored_at, course}
use Rattle.lf_model.specs.Ledger.FlipFate.{flip_fates}
use Rattle.lf_model.specs.Promise.Regular.{is_regular_core, is_regular_op}
use Rattle.lf_model.specs.Records.BusRecord.{is_successful, entry_placed, transfer_placed, is_in_memory}
use Rattle.lf_model.specs.Records.CoreRecord.{of_core_alone, RecordOk}
use Rattle.lf_model.specs.declared.bus.Entry.{Entry}
use Rattle.lf_model.specs.declared.bus.Transfer.{Transfer}
use Rattle.lf_model.specs.declared.record.CoreRecord.{CoreRecord}
use Rattle.lf_model.specs.declared.step.Turn.{Turn}
use Rattle.lf_model.specs.declared.trace.CoreEnd.{CoreEnd}
use Rattle.lf_model.specs.declared.trace.Fate.{Fate}

module _ (v : CoreValue) (log : List Entry) (ts : List Transfer) (j : Joins v log ts) where
  abbrev pub seen : List Entry
  seen = take v.log_seen log

  abbrev pub more : List Entry
  more = drop v.log_seen log

  abbrev pub known : List Transfer
  known = take v.turns_seen ts

  abbrev pub others : List Transfer
  others = drop v.turns_seen ts

  -- ---- its turn

  in_memory_with : (t : Transfer) → is_in_memory v.setup.config.ram t ≡ true → list_all (is_in_memory v.setup.config.ram) ((known ++ others) ++ t ∷ []) ≡ true
  in_memory_with t lies =
      let all : list_all (is_in_memory v.setup.config.ram) (known ++ others) ≡ true = ap (list_all (is_in_memory v.setup.config.ram)) (take-append-drop v.turns_seen ts) ∙ j.in_memory in
      let one : list_all (is_in_memory v.setup.config.ram) (t ∷ []) ≡ true = and_from (is_in_memory v.setup.config.ram t) true lies refl in
      list_all-append (is_in_memory v.setup.config.ram) (known ++ others) (t ∷ []) ∙ and_from _ _ all one

  pub makes_turn : (turn : Turn) (t : Transfer) → IsUnended v.phase → MayTurn v turn → Makes (ground_running v) (turn_place v known others) v turn t
      → is_in_memory v.setup.config.ram t ≡ true → t.master ≡ v.arch.core → t.step ≡ v.steps → MakesTurn v seen more known others turn t
  makes_turn turn t unended may makes lies master step = record {
    ok = j.ok;
    unended = unended;
    may = may;
    makes = makes;
    entries = j.entries;
    others = j.others;
    in_memory = in_memory_with t lies;
    master = master;
    step = step;
  }

  -- ---- the addresses that it has to snoop are those of the entries that came since

  module _ (unended : IsUnended v.phase) (log_is : map entry_placed log ≡ map transfer_placed (filter is_successful ts)) where
    now : RunsOn v seen known
    now = runs_on v seen known unended j.ok

    stored : flat_map stored_at known ++ flat_map stored_at others ≡ map (λ (e : Entry). e.addr) log
    stored = sym (flat_map-append stored_at known others)
        ∙ (ap (flat_map stored_at) (take-append-drop v.turns_seen ts) ∙ stored_by_log v.setup.config.ram log ts log_is j.in_memory)

    count : v.log_seen ≡ length (flat_map stored_at known)
    count =
        let g = ground_running v in
        let later : SnoopsLater known (place_of v known) = snoops_later g known (v.steps - (course g known).steps) (place_of v known) (at_seat g known v.steps) in
        omega (arith, later.counted, now.is_seat.seen, ap length now.is_seat.unseen)

    pub unseen_is : flat_map stored_at others ≡ map (λ (e : Entry). e.addr) more
    unseen_is =
        sym (drop_at (flat_map stored_at known) (flat_map stored_at others) v.log_seen (sym count))
        ∙ (ap (drop v.log_seen) stored ∙ drop-map (λ (e : Entry). e.addr) v.log_seen log)

  -- ---- what it leaves

  pub record_right : (end : CoreEnd) (fates : List Fate) → state_of_core v ≡ states.Ended end → is_regular_core (result_of v end) ≡ true → list_all is_regular_op v.ops ≡ true
      → fates ≡ flip_fates v.setup.flips [] (of_core_alone v.arch.core (arrays_in v.ports))
      → RecordOk v.setup v.arch.core (record { result = result_of v end; ops = v.ops; seen = v.seen_by; named = v.named; fates = fates }) log ts
  record_right end fates shown core_fits ops_fit fates_are =
      let kept : CoreRecord = record { result = result_of v end; ops = v.ops; seen = v.seen_by; named = v.named; fates = fates } in
      subst (λ (us : List Transfer). RecordOk v.setup v.arch.core kept log us) (take-append-drop v.turns_seen ts)
      (subst (λ (es : List Entry). RecordOk v.setup v.arch.core kept es (known ++ others)) (take-append-drop v.log_seen log)
      (leaves v end seen known _ (shown_end v seen known j.ok end shown) shown more others j.entries j.others fates core_fits ops_fit fates_are))
