-- A core that has come so far along its course makes a step, and its end or what it reads becomes known.
use Rattle.std.proofs.Common.{◌≡◌, ◌∙◌, ◌+◌, ◌≤◌, ℕ, Bool, true, false, List, [], ◌∷◌, None, length, map, count_by, refl, ap, sym, arith}
use Rattle.core_laws.proofs.ListLemmas.{count_append}
use Rattle.core_laws.proofs.Runs.{run_local_step}
use Rattle.core_parts.specs.CoreValue.{CoreValue}
use Rattle.core_parts.specs.Seat.{seat, IsSeat}
use Rattle.core_parts.specs.declared.phase.Phase.TheVariants.{Begun}
use Rattle.core_course.proofs.LaterSeat.{Reaches, seat_next}
use Rattle.core_course.proofs.Running.{ground_running, RunsOn}
use Rattle.lf_model.proofs.CourseLemmas.{local_step_counts}
use Rattle.lf_model.specs.Course.Core.{Ground}
use Rattle.lf_model.specs.Course.LocalStep.{local_step}
use Rattle.lf_model.specs.Course.Progress.{Progress}
use Rattle.lf_model.specs.ProgramOrder.{answers_of}
use Rattle.lf_model.specs.Operation.{kind_reads, kind_made, entry_reads, made}
use Rattle.lf_model.specs.Run.{Run, reads_of}
use Rattle.lf_model.specs.declared.bus.Entry.{Entry}
use Rattle.lf_model.specs.declared.bus.OpKind.{OpKind}
use Rattle.lf_model.specs.declared.bus.OpKind.TheVariants.{Load, Store, Atomic, Lost}
use Rattle.lf_model.specs.declared.bus.Transfer.{Transfer}
use Rattle.lf_model.specs.declared.trace.Op.{Op}

-- ---- the numbers that it read are those of its operations

made_reads : (kind : OpKind) → kind_reads (kind_made kind) ≡ kind_reads kind
made_reads Load = refl
made_reads Store = refl
made_reads Atomic = refl
made_reads Lost = refl

one_more_read : (o : Op) (ops : List Op) (is : Bool) → kind_reads o.kind ≡ is → reads_of (map made ops) ≡ length (answers_of ops)
    → reads_of (map made (o ∷ ops)) ≡ length (answers_of (o ∷ ops))
one_more_read o ops true e later =
    let one : count_by entry_reads (made o ∷ []) ≡ 1 = rw (made_reads o.kind, e) refl in
    let more : length (answers_of (o ∷ ops)) ≡ length (answers_of ops) + 1 = rw e (omega arith) in
    omega (arith, later, one, more, count_append entry_reads (made o ∷ []) (map made ops))
one_more_read o ops false e later =
    let none : count_by entry_reads (made o ∷ []) ≡ 0 = rw (made_reads o.kind, e) refl in
    let same : length (answers_of (o ∷ ops)) ≡ length (answers_of ops) = rw e refl in
    omega (arith, later, none, same, count_append entry_reads (made o ∷ []) (map made ops))

pub all_read : (ops : List Op) → reads_of (map made ops) ≡ length (answers_of ops)
all_read [] = refl
all_read (o ∷ ops) = one_more_read o ops (kind_reads o.kind) refl (all_read ops)

-- ---- a core that goes on has come to its seat

module _ (v : CoreValue) (log : List Entry) (ts : List Transfer) (h : RunsOn v log ts) where
  pub so_far : Reaches (ground_running v) ts v.steps (seat (ground_running v) ts v.steps)
  so_far = record { at = refl; steps = h.is_seat.steps; has_run = h.has_run; right_turns = h.right_turns }

  pub read_so_far : reads_of (seat (ground_running v) ts v.steps).run.ops ≤ length (answers_of v.ops)
  read_so_far = omega (arith, ap (λ (r : Run). reads_of r.ops) h.is_seat.run, all_read v.ops)

  pub going : v.phase ≡ Begun → (seat (ground_running v) ts v.steps).run.state.halt ≡ None
  going begun = ap (λ (r : Run). r.state.halt) h.is_seat.run ∙ rw begun refl

-- ---- the seat of a core whose step is begun is its seat by any ground with the same flips

pub seat_begun : (v : CoreValue) (g g' : Ground) (k : Progress) → v.phase ≡ Begun → g'.flips ≡ g.flips → IsSeat v g k → IsSeat v g' k
seat_begun v g g' k begun same s = record {
  steps = s.steps;
  quiet = s.quiet;
  retired = s.retired;
  run = s.run;
  arrays = rw begun (rw same (rw begun at s.arrays));
  seen = s.seen;
  unseen = s.unseen;
  completions = s.completions;
  errors = s.errors;
  owed = s.owed;
  stored = s.stored;
  waits = s.waits;
}

-- ---- it makes a step without a turn

pub one_step : (g : Ground) (ts : List Transfer) (steps next : ℕ) (k : Progress) → Reaches g ts steps k → next ≡ steps + 1 → k.run.state.halt ≡ None
    → Reaches g ts next (local_step g k)
one_step g ts steps next k r more going = record {
  at = ap (seat g ts) more ∙ (seat_next g ts steps (ap (λ (j : Progress). j.steps) r.at ∙ r.steps) ∙ ap (local_step g) r.at);
  steps = local_step_counts g k ∙ (ap (λ n. n + 1) r.steps ∙ sym more);
  has_run = run_local_step g k going r.has_run;
  right_turns = r.right_turns;
}
