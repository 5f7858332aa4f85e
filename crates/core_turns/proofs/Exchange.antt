-- What a core has after the turn of an atomic that retires: LDSTUB and SWAP.
use Rattle.std.proofs.Common.{◌≡◌, ◌∙◌, ◌+◌, ◌==◌, ◌++◌, ℕ, true, false, Bool, List, [], ◌∷◌, None, length, map, refl, ap, sym, arith}
use Rattle.std.proofs.lemmas.List.{append-nil, length-map, map-append}
use Rattle.std.proofs.lemmas.List.Elements.{filter-append}
use Rattle.std.specs.Prelude.{filter}
use Rattle.core_laws.proofs.Completions.{reported_more}
use Rattle.core_parts.specs.CoreValue.{CoreValue}
use Rattle.core_parts.specs.Moves.{Exchanges, seen_with}
use Rattle.core_parts.specs.Phases.{halt_by}
use Rattle.core_parts.specs.Seat.{run_of_core}
use Rattle.core_parts.specs.declared.phase.Phase.{Phase}
use Rattle.lf_model.specs.Course.Core.{Ground, is_store}
use Rattle.lf_model.specs.Course.Progress.{Progress}
use Rattle.lf_model.specs.Course.Syndromes.{has_address, enters_log}
use Rattle.lf_model.specs.Effect.{cell_written}
use Rattle.lf_model.specs.Operation.{made}
use Rattle.lf_model.specs.Records.OwnTurns.{next_effect}
use Rattle.lf_model.specs.Run.{Run, operation, answered}
use Rattle.lf_model.specs.State.{State, with_register, advanced}
use Rattle.lf_model.specs.declared.bus.Entry.{Entry}
use Rattle.lf_model.specs.declared.bus.Transfer.{Transfer}
use Rattle.lf_model.specs.declared.bus.TurnKind.TheVariants.{Atomic}
use Rattle.lf_model.specs.declared.trace.Word2.{Word2}
use Rattle.core_turns.proofs.Arrays.{seen_all, arrays_exchanged}
use Rattle.core_turns.specs.AfterTurn.{snooping, state_in, state_read, atomic_op, exchanged, turn_ended}
use Rattle.core_turns.specs.BeforeTurn.{seat_at_turn, BeforeTurn, ReadsAtomic}
use Rattle.v8_exec.specs.Accesses.{atomic_access}

-- ---- a state that is not in error mode

whole : (s : State) → s.halt ≡ None → ◌≡◌ {A = State} (record { cells = s.cells; ctl = s.ctl; wim = s.wim; y = s.y; out = s.out; halt = None }) s
whole s none = ap (λ h. record s { halt = h }) (sym none)

halt_if : (n value : ℕ) (s : State) (is_none : Bool) → (n == 0) ≡ is_none → (with_register n value s).halt ≡ s.halt
halt_if n value s true is = rw is refl
halt_if n value s false is = rw is refl

halt_stays : (n value : ℕ) (s : State) → (advanced (with_register n value s)).halt ≡ s.halt
halt_stays n value s = halt_if n value s (n == 0) refl

runs_same : (s u : State) (p q : List Entry) → s ≡ u → p ≡ q → ◌≡◌ {A = Run} (record { state = s; ops = p }) (record { state = u; ops = q })
runs_same s u p q states ops = rw (states, ops) refl

-- phase, named and turns: as the turn ends
module _ (g : Ground) (seat : Progress) (v : CoreValue) (log : List Entry) (t : Transfer) (h : BeforeTurn g seat v log t.why) (phase : Phase) (named : List Word2) (turns : ℕ) (going : halt_by phase ≡ None) where
  abbrev here : Progress
  here = seat_at_turn log v seat

  -- the operation that was recorded is that of the instruction
  module _ (addr len new rd got : ℕ) (x : ReadsAtomic g seat addr len new rd got) where
    abbrev after : CoreValue
    after = turn_ended phase named turns (exchanged addr len new rd got (snooping log v))

    same_state : seat.run.state ≡ state_in v
    same_state = ap (λ (r : Run). r.state) h.is_seat.run ∙ rw h.going refl

    same_ops : seat.run.ops ≡ map made v.ops
    same_ops = ap (λ (r : Run). r.ops) h.is_seat.run

    state_after : (run_of_core after).state ≡ (next_effect g seat).next got
    state_after =
        rw going (whole (state_read rd got (snooping log v)) (halt_stays rd got (state_in v)))
        ∙ (ap (λ s. advanced (with_register rd got s)) (sym same_state) ∙ sym x.next)

    ops_after : map made (v.ops ++ atomic_op addr len new got v ∷ []) ≡ seat.run.ops ++ operation g.core (length seat.run.ops) got (atomic_access addr len new rd) ∷ []
    ops_after = rw (same_ops, h.core, length-map v.ops made) (map-append made v.ops (atomic_op addr len new got v ∷ []))

    run_after : run_of_core after ≡ answered g.core g.given.answers seat.run (next_effect g seat)
    run_after = rw (x.access, x.read) (runs_same (run_of_core after).state ((next_effect g seat).next got) (map made (v.ops ++ atomic_op addr len new got v ∷ [])) (seat.run.ops ++ operation g.core (length seat.run.ops) got (atomic_access addr len new rd) ∷ []) state_after ops_after)

    pub exchanges : t.kind ≡ Atomic → has_address t ≡ true → enters_log t ≡ true → t.addr ≡ addr → length v.seen_by ≡ length v.ops → Exchanges g here t v after
    exchanges kind placed enters at one_each =
        let seen : length log + 1 ≡ seen_with t here = sym (seen_all g seat v log t h ∙ rw enters refl) in
        record {
          steps = refl;
          quiet = refl;
          counted = refl;
          run = run_after;
          arrays = arrays_exchanged g seat v log t h placed addr len new rd got kind enters at (x.writes ∙ ap (λ s. cell_written s rd) same_state);
          seen = seen;
          completions = rw (x.access, sym seen, h.is_seat.steps) (reported_more v.ops v.seen_by (atomic_op addr len new got v) (length log + 1) one_each);
          stored = rw x.access (ap length (filter-append is_store v.ops (atomic_op addr len new got v ∷ []) ∙ append-nil (filter is_store v.ops)) ∙ omega arith);
          waits = rw (x.access, kind) (omega arith);
        }
