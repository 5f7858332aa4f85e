-- A core of whose register cells none ever has two turned bits, and whose transfers met no bad word, meets no error trap in its course.
use Rattle.std.proofs.Common.{◌≡◌, ◌∙◌, ◌+◌, ◌-◌, ◌==◌, ℕ, zero, suc, Bool, true, false, not, nat_le, List, [], ◌∷◌, ◌++◌, fold, find, refl, ap, sym, Option, Some, None, if◌then◌else◌}
use Rattle.std.proofs.lemmas.Bool.{false≢true}
use Rattle.std.proofs.lemmas.List.{append-nil}
use Rattle.std.specs.List.{AllByRecursion as Each}
use Rattle.lf_model.specs.Caches.Slot.{written}
use Rattle.lf_model.specs.Course.Arrays.{Arrays, begun, write_cells}
use Rattle.lf_model.specs.Course.Attempt.{comes_to, attempt}
use Rattle.lf_model.specs.Course.Core.{Ground}
use Rattle.lf_model.specs.Course.Course.{up_to, observe, course, finished, others_turn}
use Rattle.lf_model.specs.Course.LocalStep.{store_by, flush_by, retired_arrays, named_cell, register_errors, is_last_stop, local_step, local_steps}
use Rattle.lf_model.specs.Course.Outcome.{Outcome, Need, drains, trap_needs, outcome_needs, step_needs}
use Rattle.lf_model.specs.Course.Outcome.Need.{NoTurn, Turn, RegisterStop}
use Rattle.lf_model.specs.Course.Outcome.Outcome.{NotTried, NoText, FetchMiss, BadRegister, OrdinaryTrap, LoadMiss, LoadHit, Store, Atomic, Barrier, Other}
use Rattle.lf_model.specs.Course.Progress.{Progress, start, next_needs, store_waits, buffer_full}
use Rattle.lf_model.specs.Course.Syndromes.{met_bad, has_address, enters_log}
use Rattle.lf_model.specs.Course.Turn.{is_past_steps, leaves_instruction, arrays_before}
use Rattle.lf_model.specs.Course.Turned.{exchanged, transferred, turn_wants, turn_errors, own_turn}
use Rattle.lf_model.specs.Caches.Change.{snooped, updated}
use Rattle.lf_model.specs.Course.Core.{is_store_kind}
use Rattle.lf_model.specs.Effect.{Access, operation_kind, Effect}
use Rattle.lf_model.specs.Flips.How.{Whole}
use Rattle.lf_model.specs.Flips.Moment.{Written, Named}
use Rattle.lf_model.specs.Names.{same_why}
use Rattle.lf_model.specs.Run.{effect_at_pc}
use Rattle.lf_model.specs.declared.bus.Transfer.{Transfer}
use Rattle.lf_model.specs.declared.bus.TurnKind.{TurnKind}
use Rattle.lf_model.specs.declared.bus.TurnKind.TheVariants as turns
use Rattle.lf_model.specs.declared.bus.Why.{Why}
use Rattle.lf_model.specs.declared.bus.Why.TheVariants.{Flush, End}
use Rattle.lf_model.specs.declared.image.Image.{Image}
use Rattle.lf_model.proofs.GoodCells.{Good, adds, good_befalls, good_befalls_each, good_begun, good_if, is_bad_register, tried_well}

-- ---- an instruction retires

cells_flushed : (barrier : Option Why) (a : Arrays) → Good (flush_by barrier a).cells → Good a.cells
cells_flushed None a good = good
cells_flushed (Some why) a good = good_if (same_why why Flush) (flush_by (Some Flush) a) a (λ good. good) good

cells_updated : (access : Option Access) (a : Arrays) → Good (store_by access a).cells → Good a.cells
cells_updated None a good = good
cells_updated (Some x) a good = good_if (is_store_kind (operation_kind x.kind)) (record a { data_cache = updated x.addr x.len a.data_cache }) a (λ good. good) good

good_written : (cs : List ℕ) (a : Arrays) → Good (write_cells cs a).cells → Good a.cells
good_written cs a good = good_befalls_each written (adds (Written Whole)) cs a.cells good

good_retired : (e : Effect) (a : Arrays) → Good (retired_arrays e a).cells → Good a.cells
good_retired e a good =
    cells_updated e.access a (cells_flushed e.barrier (store_by e.access a) (good_written e.writes (flush_by e.barrier (store_by e.access a)) good))

good_named : (outcome : Outcome) (a : Arrays) → Good (named_cell outcome a).cells → Good a.cells
good_named (BadRegister cell) a good = good_befalls (λ h. Named ∷ h) (adds Named) cell a.cells good
good_named NotTried a good = good
good_named NoText a good = good
good_named (FetchMiss why) a good = good
good_named OrdinaryTrap a good = good
good_named (LoadMiss why) a good = good
good_named (LoadHit slot) a good = good
good_named Store a good = good
good_named Atomic a good = good
good_named (Barrier why) a good = good
good_named Other a good = good

good_either : (b : Bool) (x y a : Arrays) → (Good x.cells → Good a.cells) → (Good y.cells → Good a.cells) → Good (if b then x else y).cells → Good a.cells
good_either true x y a first second good = first good
good_either false x y a first second good = second good

-- ---- no step stops at a register

abbrev stops : Need → Bool
stops NoTurn = false
stops (Turn kind why) = false
stops (RegisterStop cell) = true

drains_no_stop : (waits : Bool) (why : Why) (need : Need) → stops need ≡ false → stops (drains waits why need) ≡ false
drains_no_stop true why need fine = refl
drains_no_stop false why need fine = fine

trap_no_stop : (et waits : Bool) → stops (trap_needs et waits) ≡ false
trap_no_stop true waits = refl
trap_no_stop false waits = drains_no_stop waits End NoTurn refl

outcome_no_stop : (et waits full : Bool) (outcome : Outcome) → is_bad_register outcome ≡ false → stops (outcome_needs et waits full outcome) ≡ false
outcome_no_stop et waits full NotTried fine = refl
outcome_no_stop et waits full NoText fine = trap_no_stop et waits
outcome_no_stop et waits full (FetchMiss why) fine = drains_no_stop waits _ (Turn turns.Fetch why) refl
outcome_no_stop et waits full (BadRegister cell) fine = absurd (false≢true (sym fine))
outcome_no_stop et waits full OrdinaryTrap fine = trap_no_stop et waits
outcome_no_stop et waits full (LoadMiss why) fine = drains_no_stop waits _ (Turn turns.Load why) refl
outcome_no_stop et waits full (LoadHit slot) fine = refl
outcome_no_stop et waits full Store fine = drains_no_stop full _ NoTurn refl
outcome_no_stop et waits full Atomic fine = drains_no_stop waits _ (Turn turns.Atomic _) refl
outcome_no_stop et waits full (Barrier why) fine = drains_no_stop waits why NoTurn refl
outcome_no_stop et waits full Other fine = refl

step_no_stop : (over et waits full : Bool) (outcome : Outcome) → is_bad_register outcome ≡ false → stops (step_needs over et waits full outcome) ≡ false
step_no_stop true et waits full outcome fine = drains_no_stop waits _ (Turn turns.Snoop _) refl
step_no_stop false et waits full outcome fine = outcome_no_stop et waits full outcome fine

no_register_errors : (a : Arrays) (k : Progress) (need : Need) → stops need ≡ false → register_errors a k need ≡ []
no_register_errors a k NoTurn fine = refl
no_register_errors a k (Turn kind why) fine = refl
no_register_errors a k (RegisterStop cell) fine = absurd (false≢true (sym fine))

-- ---- a step

-- the core went on from k to k' without an error trap, and no cell ever was bad
pub record GoesOn (k k' : Progress) : Type 0 where
  pub errors : k'.errors ≡ k.errors
  pub good : Good k.arrays.cells

-- ---- what a transfer met

-- no word that the transfer read was bad
unfoldable pub IsClean : Transfer → Type 0
IsClean t = (j : ℕ) → met_bad t j ≡ false

none_found : (t : Transfer) → IsClean t → (wanted : List ℕ) → find (met_bad t) wanted ≡ None
unfolding IsClean
none_found t clean [] = refl
none_found t clean (j ∷ wanted) = rw (clean j) (none_found t clean wanted)

module _ (g : Ground) where
  pub goes_on : (k k' k'' : Progress) → GoesOn k k' → GoesOn k' k'' → GoesOn k k''
  goes_on k k' k'' h h' = record { errors = h'.errors ∙ h.errors; good = h.good }

  step_goes_on : (k : Progress) → Good (local_step g k).arrays.cells → GoesOn k (local_step g k)
  unfolding local_step
  step_goes_on k good =
      let e = effect_at_pc g.setup g.core k.run.state in
      let x = attempt g.setup.image k.run.state e (begun g.flips k.steps k.arrays) in
      let tried = tried_well g.setup.image k.run.state e (begun g.flips k.steps k.arrays)
      (good_either (not (is_last_stop g k.steps)) (retired_arrays e x.arrays) (named_cell x.outcome x.arrays) x.arrays
      (good_retired e x.arrays) (good_named x.outcome x.arrays) good) in
      record {
        errors =
            ap (λ errors. k.errors ++ errors) (no_register_errors x.arrays k (next_needs g k x.outcome)
            (step_no_stop (nat_le g.setup.config.window k.quiet) k.run.state.ctl.et (store_waits k) (buffer_full g k) x.outcome tried.fine))
            ∙ append-nil k.errors;
        good = good_begun g.flips k.steps k.arrays tried.good;
      }

  steps_go_on : (n : ℕ) (k : Progress) → Good (local_steps g n k).arrays.cells → GoesOn k (local_steps g n k)
  steps_go_on zero k good = record { errors = refl; good = good }
  steps_go_on (suc n) k good =
      let later = steps_go_on n (local_step g k) good in
      goes_on k (local_step g k) (local_steps g n (local_step g k)) (step_goes_on k later.good) later

  -- ---- a turn

  good_exchanged : (e : Effect) (t : Transfer) (a : Arrays) → Good (exchanged e t a).cells → Good a.cells
  good_exchanged e t a good = good_if (enters_log t) (write_cells e.writes (record a { data_cache = snooped a.data_cache t.addr })) a
      (good_written e.writes (record a { data_cache = snooped a.data_cache t.addr })) good

  good_transferred : (image : Image) (e : Effect) (t : Transfer) (a : Arrays) (kind : TurnKind) → Good (transferred image e t a kind).cells → Good a.cells
  good_transferred image e t a turns.Fetch good = good
  good_transferred image e t a turns.Load good = good
  good_transferred image e t a turns.Store good = good
  good_transferred image e t a turns.Atomic good = good_exchanged e t a good
  good_transferred image e t a turns.Snoop good = good
  good_transferred image e t a turns.Look good = good
  good_transferred image e t a turns.Fix good = good

  good_left : (past leaves : Bool) (k : Progress) (e : Effect)
      → Good (if past then comes_to NotTried k.arrays else if leaves then comes_to NotTried (begun g.flips k.steps k.arrays)
      else attempt g.setup.image k.run.state e (begun g.flips k.steps k.arrays)).arrays.cells → Good k.arrays.cells
  good_left true leaves k e good = good
  good_left false true k e good = good_begun g.flips k.steps k.arrays good
  good_left false false k e good =
      good_begun g.flips k.steps k.arrays (tried_well g.setup.image k.run.state e (begun g.flips k.steps k.arrays) good).good

  turn_goes_on : (t : Transfer) → IsClean t → (k : Progress) → Good (own_turn g t k).arrays.cells → GoesOn k (own_turn g t k)
  unfolding own_turn
  turn_goes_on t clean k good =
      let e = effect_at_pc g.setup g.core k.run.state in
      let a = arrays_before g t.why e k in
      record {
        errors =
            ap (λ bad. k.errors ++ turn_errors t (if is_past_steps g k then k.steps else k.steps + 1) (k.turns + 1) bad)
            (none_found t clean (turn_wants k.run.state.ctl.pc e t.kind))
            ∙ append-nil k.errors;
        good = good_left (is_past_steps g k) (leaves_instruction t.why) k e
            (good_either (has_address t) (transferred g.setup.image e t a t.kind) a a (good_transferred g.setup.image e t a t.kind) (λ good. good) good);
      }

  -- ---- the course

  observed : (t : Transfer) → IsClean t → (k : Progress) (b : Bool) → Good (if b then own_turn g t (up_to g t k) else others_turn t k).arrays.cells
      → GoesOn k (if b then own_turn g t (up_to g t k) else others_turn t k)
  observed t clean k true good =
      let turn = turn_goes_on t clean (up_to g t k) good in
      goes_on k (up_to g t k) (own_turn g t (up_to g t k)) (steps_go_on (t.step - k.steps) k turn.good) turn
  observed t clean k false good = record { errors = refl; good = good }

  observes : (t : Transfer) → IsClean t → (k : Progress) → Good (observe g k t).arrays.cells → GoesOn k (observe g k t)
  unfolding observe
  observes t clean k good = observed t clean k (g.core == t.master) good

  all_observed : (ts : List Transfer) → Each IsClean ts → (k : Progress) → Good (fold (observe g) k ts).arrays.cells → GoesOn k (fold (observe g) k ts)
  all_observed [] clean k good = record { errors = refl; good = good }
  all_observed (t ∷ ts) clean k good =
      let later = all_observed ts clean.1 (observe g k t) good in
      goes_on k (observe g k t) (fold (observe g) (observe g k t) ts) (observes t clean.0 k later.good) later

  -- a core at its end met no error trap
  pub no_error_traps : (ts : List Transfer) → Each IsClean ts → Good (finished g (course g ts)).arrays.cells → (finished g (course g ts)).errors ≡ []
  no_error_traps ts clean good =
      let steps = steps_go_on (g.steps - (course g ts).steps) (course g ts) good in
      steps.errors ∙ (all_observed ts clean (start g) steps.good).errors
