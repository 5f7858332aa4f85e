-- What a core has after a turn that retires no instruction: the turn has met no bad word that it wants, or it has, and stops the core.
use Rattle.std.proofs.Common.{◌≡◌, ◌∙◌, ◌+◌, ◌<◌, ◌==◌, ℕ, suc, true, false, Bool, nat_le, List, [], ◌∷◌, None, length, map, refl, ap, sym, arith, if◌then◌else◌}
use Rattle.std.proofs.lemmas.List.{length-drop}
use Rattle.std.specs.Int.{from_bool}
use Rattle.std.specs.Prelude.{slice_index, filter}
use Rattle.core_laws.proofs.Completions.{reported_losing}
use Rattle.core_laws.proofs.LostKinds.{lost_stays_store, lost_kind_made}
use Rattle.core_laws.specs.SeenSoFar.{losing}
use Rattle.core_parts.specs.CoreValue.{CoreValue}
use Rattle.core_parts.specs.Moves.{Turns, StopsAtTurn, seen_with}
use Rattle.core_parts.specs.Phases.{halt_by}
use Rattle.core_parts.specs.PortState.{PortState, arrays_in}
use Rattle.core_parts.specs.Seat.{run_of_core}
use Rattle.core_parts.specs.declared.phase.Phase.{Phase}
use Rattle.lf_model.specs.Course.Core.{Ground, is_store, data_store_error}
use Rattle.lf_model.specs.Course.Progress.{Progress}
use Rattle.lf_model.specs.Course.Syndromes.{syndromes_of, has_address, enters_log}
use Rattle.lf_model.specs.Course.Turned.{own_turn, turn_trap}
use Rattle.lf_model.specs.Names.{same_kind}
use Rattle.lf_model.specs.Operation.{made}
use Rattle.lf_model.specs.declared.bus.Entry.{Entry}
use Rattle.lf_model.specs.declared.bus.Transfer.{Transfer}
use Rattle.lf_model.specs.declared.bus.TurnKind.{TurnKind}
use Rattle.lf_model.specs.declared.bus.TurnKind.TheVariants.{Fetch, Load, Store, Atomic, Snoop}
use Rattle.lf_model.specs.declared.trace.Op.{Op}
use Rattle.lf_model.specs.declared.trace.Word2.{Word2}
use Rattle.core_turns.proofs.Arrays.{seen_all, arrays_stay, arrays_fetched, arrays_loaded, arrays_drained, arrays_refused}
use Rattle.core_turns.specs.AfterTurn.{snooping, fetched, loaded, drained, stores_lost, turn_ended}
use Rattle.core_turns.specs.BeforeTurn.{seat_at_turn, BeforeTurn}

-- ---- operations of which the stores from one on are lost

lost_made : (n : ℕ) (ops : List Op) → map made (losing n ops) ≡ map made ops
lost_made n [] = refl
lost_made n (o ∷ ops) = rw (lost_made n ops, lost_kind_made o.kind (nat_le n o.k)) refl

count_first : (is_one : Bool) (o p : Op) (ops us : List Op) → length us ≡ length ops
    → length (if is_one then p ∷ us else us) ≡ length (if is_one then o ∷ ops else ops)
count_first true o p ops us same = ap suc same
count_first false o p ops us same = same

lost_stores : (n : ℕ) (ops : List Op) → length (filter is_store (losing n ops)) ≡ length (filter is_store ops)
lost_stores n [] = refl
lost_stores n (o ∷ ops) = rw (lost_stays_store o.kind (nat_le n o.k)) (count_first (is_store o) o _ (filter is_store ops) (filter is_store (losing n ops)) (lost_stores n ops))

-- only the drain of a store stops a core by the error trap of stores
store_error : (kind : TurnKind) → kind ≡ Store → (turn_trap kind == data_store_error) ≡ false → ⊥
store_error kind is not_so = let so : true ≡ false = ap (λ k. turn_trap k == data_store_error) (sym is) ∙ not_so in absurd (cc)

-- phase, named and turns: as the turn ends
module _ (g : Ground) (seat : Progress) (v : CoreValue) (log : List Entry) (t : Transfer) (h : BeforeTurn g seat v log t.why) (phase : Phase) (named : List Word2) (turns : ℕ) (going : halt_by phase ≡ None) where
  abbrev here : Progress
  here = seat_at_turn log v seat

  abbrev ended : CoreValue → CoreValue
  ended u = turn_ended phase named turns u

  -- the core that has caught up, with these ports, having seen so many entries of the log
  abbrev with_ports : PortState → ℕ → CoreValue
  with_ports p n = record (snooping log v) { ports = p; log_seen = n }

  seen_none : enters_log t ≡ false → length log ≡ seen_with t here
  seen_none none = sym (seen_all g seat v log t h ∙ rw none (omega arith))

  seen_one : enters_log t ≡ true → length log + 1 ≡ seen_with t here
  seen_one one = sym (seen_all g seat v log t h ∙ rw one refl)

  run_stays : (ops : List Op) → map made ops ≡ map made v.ops → (p : PortState) (n : ℕ) → run_of_core (ended (record (with_ports p n) { ops = ops })) ≡ seat.run
  run_stays ops same p n = sym (h.is_seat.run ∙ rw (going, h.going, same) refl)

  -- ---- no wanted word was bad

  leaves : (p : PortState) (n : ℕ) → n ≡ seen_with t here → arrays_in p ≡ (own_turn g t here).arrays
      → length p.waiting + from_bool (same_kind t.kind Store) ≡ length v.ports.waiting → Turns g here t v (ended (with_ports p n))
  leaves p n seen arrays waits = record {
    steps = refl;
    quiet = refl;
    counted = refl;
    run = run_stays v.ops refl p n;
    arrays = arrays;
    seen = seen;
    completions = refl;
    stored = refl;
    waits = waits;
  }

  pub fetch_turns : (words : List ℕ) → t.kind ≡ Fetch → has_address t ≡ true → Turns g here t v (ended (fetched t words (snooping log v)))
  fetch_turns words kind placed =
      leaves (fetched t words (snooping log v)).ports (length log) (seen_none (rw kind refl)) (arrays_fetched g seat v log t h placed words kind) (rw kind (omega arith))

  pub load_turns : (words : List ℕ) → t.kind ≡ Load → has_address t ≡ true → Turns g here t v (ended (loaded t words (snooping log v)))
  load_turns words kind placed =
      leaves (loaded t words (snooping log v)).ports (length log) (seen_none (rw kind refl)) (arrays_loaded g seat v log t h placed words kind) (rw kind (omega arith))

  pub snoop_turns : t.kind ≡ Snoop → has_address t ≡ false → Turns g here t v (ended (snooping log v))
  snoop_turns kind nowhere = leaves (snooping log v).ports (length log) (seen_none (rw kind refl)) (arrays_stay g seat v log t h nowhere) (rw kind (omega arith))

  pub drain_turns : t.kind ≡ Store → has_address t ≡ true → enters_log t ≡ true → 0 < length v.ports.waiting → Turns g here t v (ended (drained (snooping log v)))
  drain_turns kind placed enters some =
      leaves (drained (snooping log v)).ports (length log + 1) (seen_one enters) (arrays_drained g seat v log t h placed kind)
      (rw kind (omega (arith, some, length-drop 1 v.ports.waiting)))

  -- ---- word j of those that were read is bad, and wanted

  module _ (j tt_ syn : ℕ) (trap : turn_trap t.kind ≡ tt_) (met : slice_index (syndromes_of t) j ≡ syn) where
    stops : (p : PortState) → arrays_in p ≡ (own_turn g t here).arrays → enters_log t ≡ false → p.waiting ≡ v.ports.waiting
        → from_bool (same_kind t.kind Store) ≡ 0 → StopsAtTurn g here t j tt_ syn v (ended (with_ports p (length log)))
    stops p arrays none waits no_drain = record {
      steps = refl;
      quiet = refl;
      counted = refl;
      run = run_stays v.ops refl p (length log);
      arrays = arrays;
      trap_type = trap;
      met = met;
      seen = seen_none none;
      completions = refl;
      stored = refl;
      waits = λ not_store. rw (waits, no_drain) (omega arith);
    }

    pub fetch_stops : (words : List ℕ) → t.kind ≡ Fetch → has_address t ≡ true → StopsAtTurn g here t j tt_ syn v (ended (fetched t words (snooping log v)))
    fetch_stops words kind placed =
        stops (fetched t words (snooping log v)).ports (arrays_fetched g seat v log t h placed words kind) (rw kind refl) refl (rw kind refl)

    pub load_stops : (words : List ℕ) → t.kind ≡ Load → has_address t ≡ true → StopsAtTurn g here t j tt_ syn v (ended (loaded t words (snooping log v)))
    load_stops words kind placed =
        stops (loaded t words (snooping log v)).ports (arrays_loaded g seat v log t h placed words kind) (rw kind refl) refl (rw kind refl)

    pub atomic_stops : t.kind ≡ Atomic → has_address t ≡ true → enters_log t ≡ false → StopsAtTurn g here t j tt_ syn v (ended (snooping log v))
    atomic_stops kind placed refused =
        stops (snooping log v).ports (arrays_refused g seat v log t h placed kind refused) refused refl (rw kind refl)

    -- the stores that wait are lost
    pub drain_stops : (n : ℕ) → t.kind ≡ Store → has_address t ≡ true → enters_log t ≡ false
        → StopsAtTurn g here t j tt_ syn v (ended (stores_lost n (snooping log v)))
    drain_stops n kind placed refused = record {
      steps = refl;
      quiet = refl;
      counted = refl;
      run = run_stays (losing n v.ops) (lost_made n v.ops) (record v.ports { data_cache = (snooping log v).ports.data_cache; waiting = [] }) (length log);
      arrays = arrays_drained g seat v log t h placed kind;
      trap_type = trap;
      met = met;
      seen = seen_none refused;
      completions = reported_losing n v.ops v.seen_by;
      stored = lost_stores n v.ops;
      waits = λ not_store. absurd (store_error t.kind kind (ap (λ x. x == data_store_error) trap ∙ not_store));
    }
