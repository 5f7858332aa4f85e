-- A thread is found by going through the run, instruction by instruction: as long as each operation that it makes is the next one of
-- the trace, the answers of the trace are those of its operations. At the first that is not, or where the core has halted, there is
-- no thread.
use Rattle.std.proofs.Common.{◌≡◌, ◌∙◌, ◌<◌, ◌+◌, ◌++◌, ℕ, zero, suc, Bool, true, false, List, [], ◌∷◌, length, map, take, get_or, refl, ap, sym, subst, arith, add-one, Option, Some, None, if◌then◌else◌}
use Rattle.std.specs.Option.{is_some, option_and_then}
use Rattle.std.proofs.lemmas.List.Sums.{sum_by-cons}
use Rattle.std.proofs.lemmas.List.{append_assoc, append-nil}
use Rattle.std.proofs.lemmas.Option.{option_and_then_some, same_Some}
use Rattle.lf_model.specs.Effect.{Access, Effect, operation_kind}
use Rattle.lf_model.specs.ProgramOrder.{answers_of}
use Rattle.lf_model.specs.Operation.{kind_reads, kind_made, entry_reads, reads, made}
use Rattle.lf_model.specs.Run.{Run, operation, with_access, performed, reads_of, answer_to, answered, effect_at_pc, onward, run}
use Rattle.lf_model.specs.State.{reset}
use Rattle.lf_model.specs.declared.bus.Entry.{Entry}
use Rattle.lf_model.specs.declared.bus.OpKind.{OpKind}
use Rattle.lf_model.specs.declared.bus.OpKind.TheVariants.{Load, Store, Atomic, Lost}
use Rattle.lf_model.specs.declared.setup.Setup.{Setup}
use Rattle.lf_model.specs.declared.trace.Op.{Op}
use Rattle.tso_thread.proofs.Fronts.{empty_front, first_front, front_next}
use Rattle.tso_thread.specs.ReplayState.{no_op, IsFront, IsNextEntry}
use Rattle.tso_thread.specs.ThreadState.{Replays, HasNoThread}

-- ---- the answers of the trace

made_reads : (kind : OpKind) → kind_reads (kind_made kind) ≡ kind_reads kind
made_reads Load = refl
made_reads Store = refl
made_reads Atomic = refl
made_reads Lost = refl

reads_cons : (o : Op) (os : List Op) → reads_of (map made (o ∷ os)) ≡ (if reads o then 1 else 0) + reads_of (map made os)
reads_cons o os =
    sum_by-cons (λ (e : Entry). if entry_reads e then 1 else 0) (made o) (map made os) ∙ ap (λ (b : Bool). (if b then 1 else 0) + reads_of (map made os)) (made_reads o.kind)

-- the answer to the read that is operation k is what it read
answer_at : (ops : List Op) (k : ℕ) → k < length ops → reads (get_or ops k no_op) ≡ true → get_or (answers_of ops) (reads_of (map made (take k ops))) 0 ≡ (get_or ops k no_op).got
answer_at [] k low is = absurd (omega (arith, low))
answer_at (o ∷ os) zero low is = rw is refl
answer_at (o ∷ os) (suc k) low is =
    ap (λ (n : ℕ). get_or (answers_of (o ∷ os)) n 0) (reads_cons o (take k os)) ∙ by (reads o) refl (answer_at os k (omega (arith, low)) is)
  where
    by : (b : Bool) → reads o ≡ b → get_or (answers_of os) (reads_of (map made (take k os))) 0 ≡ (get_or os k no_op).got
        → get_or (answers_of (o ∷ os)) ((if reads o then 1 else 0) + reads_of (map made (take k os))) 0 ≡ (get_or os k no_op).got
    by true e rest =
        let more : (1 + reads_of (map made (take k os))) ≡ suc (reads_of (map made (take k os))) = omega arith in
        rw (e, more) rest
    by false e rest =
        let none : (0 + reads_of (map made (take k os))) ≡ reads_of (map made (take k os)) = omega arith in
        rw (e, none) rest

-- ---- what stays of a run

-- the operations made later stand behind those made
record Extends (q r : List Entry) : Type 0 where
  rest : List Entry
  is : r ≡ q ++ rest

extends_same : (q : List Entry) → Extends q q
extends_same q = record { rest = []; is = sym (append-nil q) }

extends_through : (p q r : List Entry) → Extends p q → Extends q r → Extends p r
extends_through p q r first second = record {
  rest = first.rest ++ second.rest;
  is = second.is ∙ (ap (λ (l : List Entry). l ++ second.rest) first.is ∙ append_assoc p first.rest second.rest);
}

extends_access : (core got : ℕ) (x : Option Access) (ops : List Entry) → Extends ops (with_access core got x ops)
extends_access core got None ops = extends_same ops
extends_access core got (Some a) ops = record { rest = operation core (length ops) got a ∷ []; is = refl }

module _ (setup : Setup) (core : ℕ) (answers : List ℕ) where
  extends_onward : (q r : Run) (halted : Bool) → is_some q.state.halt ≡ halted → onward setup core answers q ≡ Some r → Extends q.ops r.ops
  extends_onward q r true e step = absurd (let no_step = rw e at step in cc)
  extends_onward q r false e step =
      let here : answered core answers q (effect_at_pc setup core q.state) ≡ r = same_Some _ _ (rw e at step) in
      subst (λ (x : Run). Extends q.ops x.ops) here
      (extends_access core (answer_to answers q.ops (effect_at_pc setup core q.state).access) (effect_at_pc setup core q.state).access q.ops)

  -- the operations of a run stay, whatever it makes after them
  extends_run : (n m : ℕ) (q r : Run) → run setup core answers n ≡ Some q → run setup core answers (n + m) ≡ Some r → Extends q.ops r.ops
  unfolding run
  extends_run n zero q r at_n at_m =
      let zero_right : n + 0 ≡ n = omega arith in
      let e : q ≡ r = same_Some _ _ (sym at_n ∙ subst (λ (m : ℕ). run setup core answers m ≡ Some r) zero_right at_m) in
      subst (λ (x : Run). Extends q.ops x.ops) e (extends_same q.ops)
  extends_run n (suc m) q r at_n at_m =
      let more : n + suc m ≡ suc (n + m) = omega arith in
      let step : option_and_then (onward setup core answers) (run setup core answers (n + m)) ≡ Some r = subst (λ (m : ℕ). run setup core answers m ≡ Some r) more at_m in
      option_and_then_some (onward setup core answers) (run setup core answers (n + m)) r step
      (λ p at_p onto. extends_through q.ops p.ops r.ops (extends_run n m q p at_n at_p) (extends_onward p r (is_some p.state.halt) refl onto))

  -- a core that has halted runs no further
  halted_run : (n m : ℕ) (q : Run) (tt_ : ℕ) → run setup core answers n ≡ Some q → q.state.halt ≡ Some tt_ → run setup core answers (suc (n + m)) ≡ None
  unfolding run
  halted_run n zero q tt_ at_n halted =
      let zero_right : n + 0 ≡ n = omega arith in
      subst (λ (m : ℕ). run setup core answers (suc m) ≡ None) (sym zero_right) (rw (at_n, halted) refl)
  halted_run n (suc m) q tt_ at_n halted =
      let more : n + suc m ≡ suc (n + m) = omega arith in
      subst (λ (m : ℕ). run setup core answers (suc m) ≡ None) (sym more) (ap (option_and_then (onward setup core answers)) (halted_run n m q tt_ at_n halted))

  run_more : (n : ℕ) (q : Run) → q.state.halt ≡ None → run setup core answers n ≡ Some q → run setup core answers (n + 1) ≡ Some (answered core answers q (effect_at_pc setup core q.state))
  unfolding run
  run_more n q going at_n = rw (add-one n, at_n, going) refl

-- ---- the operations of the trace

-- the number that the next operation reads, by the operation of the trace
abbrev pub got_by : Access → Op → ℕ
got_by a o = if kind_reads (operation_kind a.kind) then o.got else 0

-- a run whose operations are not the first ones of the trace goes on to no thread
pub no_thread : (setup : Setup) (core : ℕ) (ops : List Op) (n : ℕ) (q : Run) → run setup core (answers_of ops) n ≡ Some q → (IsFront q.ops ops → ⊥) → HasNoThread setup core ops n
no_thread setup core ops n q at_n other m r at_m all =
    let grown = extends_run setup core (answers_of ops) n m q r at_n at_m in
    other (first_front q.ops grown.rest ops (sym grown.is ∙ all))

module _ (setup : Setup) (core : ℕ) (ops : List Op) (n : ℕ) (q : Run) (so_far : Replays setup core ops n q) where
  abbrev e : Effect
  e = effect_at_pc setup core q.state

  abbrev o : Op
  o = get_or ops (length q.ops) no_op

  -- the trace answers what its next operation read
  pub answer_is : (a : Access) → length q.ops < length ops → operation_kind a.kind ≡ kind_made o.kind → answer_to (answers_of ops) q.ops (Some a) ≡ got_by a o
  answer_is a there kind = by (kind_reads (operation_kind a.kind)) refl
    where
      by : (b : Bool) → kind_reads (operation_kind a.kind) ≡ b → (if b then get_or (answers_of ops) (reads_of q.ops) 0 else 0) ≡ (if b then o.got else 0)
      by true is =
          ap (λ (es : List Entry). get_or (answers_of ops) (reads_of es) 0) so_far.front.same
          ∙ answer_at ops (length q.ops) there (sym (made_reads o.kind) ∙ (ap kind_reads (sym kind) ∙ is))
      by false is = refl

  -- the run after one more instruction, whose operation reads this number
  pub run_next : (got : ℕ) → q.state.halt ≡ None → answer_to (answers_of ops) q.ops e.access ≡ got → run setup core (answers_of ops) (n + 1) ≡ Some (performed core got e q)
  run_next got going answer = run_more setup core (answers_of ops) n q going so_far.ran ∙ ap (λ (x : ℕ). Some (performed core x e q)) answer

  -- the operation that comes next is that of the trace, where the run goes on to a thread
  pub next_of_thread : (a : Access) → q.state.halt ≡ None → e.access ≡ Some a
      → (IsNextEntry ops (length q.ops) (operation core (length q.ops) (answer_to (answers_of ops) q.ops e.access) a) → ⊥) → HasNoThread setup core ops (n + 1)
  next_of_thread a going some other =
      let answer = answer_to (answers_of ops) q.ops e.access in
      let ops_are : (performed core answer e q).ops ≡ q.ops ++ operation core (length q.ops) answer a ∷ [] = rw some refl in
      no_thread setup core ops (n + 1) (performed core answer e q) (run_next answer going refl)
      (λ front. other (front_next q.ops (operation core (length q.ops) answer a) ops (subst (λ (es : List Entry). IsFront es ops) ops_are front)))

  -- after an end there is no run
  pub no_run : (tt_ m : ℕ) → q.state.halt ≡ Some tt_ → run setup core (answers_of ops) (suc (n + m)) ≡ None
  no_run tt_ m halted = halted_run setup core (answers_of ops) n m q tt_ so_far.ran halted

-- at reset no operation is made
pub replays_reset : (setup : Setup) (core : ℕ) (ops : List Op) → Replays setup core ops 0 (record { state = reset setup.image.entry core; ops = [] })
unfolding run
replays_reset setup core ops = record { ran = refl; front = empty_front ops }
