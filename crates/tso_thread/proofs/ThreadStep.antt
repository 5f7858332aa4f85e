-- One instruction of a replayed core: its operation is that of the run in which loads and atomics read what the trace says, or the
-- run goes on to no thread.
use Rattle.std.proofs.Common.{◌≡◌, ◌∙◌, ◌<◌, ◌+◌, ◌==◌, ℕ, Bool, cond, true, false, List, length, get_or, Option, Some, None, refl, sym, ap, if◌then◌else◌}
use Rattle.std.specs.Prelude.{◌&&◌, nat_lt}
use Rattle.std.proofs.lemmas.Bool.{and_parts, eq-eqb, lt-ltb, ltb-true, false≢true}
use Rattle.std.proofs.lemmas.Option.{same_Some}
use Rattle.lf_model.specs.Effect.{Access, Effect, operation_kind}
use Rattle.lf_model.specs.ProgramOrder.{answers_of}
use Rattle.lf_model.specs.Operation.{kind_reads, kind_made}
use Rattle.lf_model.specs.Run.{Run, performed, answer_to, effect_at_pc, run}
use Rattle.lf_model.specs.State.{State}
use Rattle.lf_model.specs.Step.{answer_of}
use Rattle.lf_model.specs.declared.bus.Entry.{Entry}
use Rattle.lf_model.specs.declared.bus.OpKind.{OpKind}
use Rattle.lf_model.specs.declared.bus.OpKind.TheVariants as kinds
use Rattle.lf_model.specs.declared.setup.Setup.{Setup}
use Rattle.lf_model.specs.declared.step.Did.{Did}
use Rattle.lf_model.specs.declared.step.Did.TheVariants.{Retired, Need, Halt}
use Rattle.lf_model.specs.declared.step.Turn.TheVariants.{Atomic}
use Rattle.lf_model.specs.declared.trace.Op.{Op}
use Rattle.tso_thread.proofs.EffectEnds.{ends_so}
use Rattle.tso_thread.proofs.ReplayCases.{Case}
use Rattle.tso_thread.proofs.ReplayCases.Case.{Traps, Plain, Loads, Misses, Stores, Atomics}
use Rattle.tso_thread.proofs.ThreadReplay.{answer_is, run_next, next_of_thread}
use Rattle.tso_thread.specs.ReplayState.{no_op, Answering, is_load, is_atomic, is_read_at, read_next, got_next, replay_answers}
use Rattle.tso_thread.specs.ThreadState.{Replays, HasNoThread}

-- ---- kinds

load_made : (kind : OpKind) → is_load kind ≡ true → kind_made kind ≡ kinds.Load
load_made kinds.Load is = refl
load_made kinds.Store is = absurd (false≢true is)
load_made kinds.Atomic is = absurd (false≢true is)
load_made kinds.Lost is = absurd (false≢true is)

made_load : (kind : OpKind) → kinds.Load ≡ kind_made kind → is_load kind ≡ true
made_load kinds.Load is = refl
made_load kinds.Store is = absurd (cc)
made_load kinds.Atomic is = absurd (cc)
made_load kinds.Lost is = absurd (cc)

atomic_made : (kind : OpKind) → is_atomic kind ≡ true → kind_made kind ≡ kinds.Atomic
atomic_made kinds.Load is = absurd (false≢true is)
atomic_made kinds.Store is = absurd (false≢true is)
atomic_made kinds.Atomic is = refl
atomic_made kinds.Lost is = absurd (false≢true is)

made_atomic : (kind : OpKind) → kinds.Atomic ≡ kind_made kind → is_atomic kind ≡ true
made_atomic kinds.Load is = absurd (cc)
made_atomic kinds.Store is = absurd (cc)
made_atomic kinds.Atomic is = refl
made_atomic kinds.Lost is = absurd (cc)

-- ---- the next operation of the trace

record IsRead (test : OpKind → Bool) (s : Answering) (addr len got : ℕ) : Type 0 where
  there : s.made < length s.ops
  kind : test (get_or s.ops s.made no_op).kind ≡ true
  its : got ≡ got_next s

module _ (test : OpKind → Bool) (s : Answering) (addr len : ℕ) where
  abbrev o : Op
  o = get_or s.ops s.made no_op

  abbrev found : Bool
  found = nat_lt s.made (length s.ops) && is_read_at test o addr len

  is_read : (got : ℕ) → read_next test s addr len ≡ Some got → IsRead test s addr len got
  is_read got is = by found refl is
    where
      by : (b : Bool) → found ≡ b → (if b then Some (got_next s) else None) ≡ Some got → IsRead test s addr len got
      by true yes_it same =
          let there = and_parts (nat_lt s.made (length s.ops)) (is_read_at test o addr len) yes_it in
          let kind = and_parts (test o.kind) (o.addr == addr && o.len == len) there.1 in
          record { there = ltb-true s.made (length s.ops) there.0; kind = kind.0; its = sym (same_Some _ _ same) }
      by false not same = absurd (cc)

  unread : read_next test s addr len ≡ None → s.made < length s.ops → test o.kind ≡ true → o.addr ≡ addr → o.len ≡ len → ⊥
  unread none there kind at long =
      let all : found ≡ true = rw (lt-ltb s.made (length s.ops) there, kind, eq-eqb o.addr addr at, eq-eqb o.len len long) refl in
      let some : read_next test s addr len ≡ Some (got_next s) = ap (λ (b : Bool). if b then Some (got_next s) else None) all in
      not_both (got_next s) (sym none ∙ some)
    where
      not_both : (got : ℕ) → ◌≡◌ {A = Option ℕ} None (Some got) → ⊥
      not_both got e = cc

-- ---- one instruction

module _ (setup : Setup) (core : ℕ) (ops : List Op) (n : ℕ) (q : Run) (so_far : Replays setup core ops n q) (going : q.state.halt ≡ None) where
  abbrev s : Answering
  s = record { ops = ops; made = length q.ops }

  abbrev e : Effect
  e = effect_at_pc setup core q.state

  abbrev next : Op
  next = get_or ops (length q.ops) no_op

  -- what a load or an atomic reads in the run
  reads_next : (test : OpKind → Bool) (a : Access) (kind : OpKind) (got : ℕ) → e.access ≡ Some a → operation_kind a.kind ≡ kind → kind_reads kind ≡ true
      → ((k : OpKind) → test k ≡ true → kind_made k ≡ kind) → read_next test s a.addr a.len ≡ Some got → answer_to (answers_of ops) q.ops e.access ≡ got
  reads_next test a kind got some is reads made_so read =
      let found = is_read test s a.addr a.len got read in
      let same : operation_kind a.kind ≡ kind_made next.kind = is ∙ sym (made_so next.kind found.kind) in
      let reading : kind_reads (operation_kind a.kind) ≡ true = ap kind_reads is ∙ reads in
      ap (answer_to (answers_of ops) q.ops) some
      ∙ (answer_is setup core ops n q so_far a found.there same
      ∙ (ap (λ (b : Bool). if b then next.got else 0) reading ∙ sym found.its))

  -- an instruction that retires reads what the trace says
  answer_same : Case s q.state e Retired → answer_of (replay_answers s) e.access ≡ answer_to (answers_of ops) q.ops e.access
  answer_same (Traps tt_ trap is) = rw ((ends_so setup core q.state).trapped tt_ trap) refl
  answer_same (Plain none is) = rw none refl
  answer_same (Loads a got some kind read is) =
      let loads : operation_kind a.kind ≡ kinds.Load = ap operation_kind kind in
      let here : answer_of (replay_answers s) e.access ≡ got = rw (some, loads, read) refl in
      here ∙ sym (reads_next is_load a kinds.Load got some loads refl load_made read)
  answer_same (Misses a some kind read is) = absurd (cc)
  answer_same (Stores a some kind is) =
      let stores : operation_kind a.kind ≡ kinds.Store = ap operation_kind kind in
      rw (some, stores) refl
  answer_same (Atomics a some kind is) = absurd (cc)

  pub retires : Case s q.state e Retired → run setup core (answers_of ops) (n + 1) ≡ Some (performed core (answer_of (replay_answers s) e.access) e q)
  retires its = run_next setup core ops n q so_far (answer_of (replay_answers s) e.access) going (sym (answer_same its))

  -- one that halts the core
  pub halts : (tt_ : ℕ) → Case s q.state e (Halt tt_) → run setup core (answers_of ops) (n + 1) ≡ Some (record { state = record q.state { halt = Some tt_ }; ops = q.ops })
  halts tt_ (Traps t trap is) =
      let none : e.access ≡ None = (ends_so setup core q.state).trapped t trap in
      let zero_read : answer_to (answers_of ops) q.ops e.access ≡ 0 = rw none refl in
      by q.state.ctl.et refl is (run_next setup core ops n q so_far 0 going zero_read) none
    where
      by : (et : Bool) → q.state.ctl.et ≡ et → Halt tt_ ≡ cond et Retired (Halt t) → run setup core (answers_of ops) (n + 1) ≡ Some (performed core 0 e q) → e.access ≡ None
          → run setup core (answers_of ops) (n + 1) ≡ Some (record { state = record q.state { halt = Some tt_ }; ops = q.ops })
      by true enabled same at_n none = absurd (cc)
      by false disabled same at_n none =
          let t_is : tt_ ≡ t = cc in
          at_n
          ∙ (ap (λ (x : State). Some (record { state = x; ops = (performed core 0 e q).ops })) ((ends_so setup core q.state).halted t trap disabled 0)
          ∙ (rw none refl ∙ ap (λ (x : ℕ). Some (record { state = record q.state { halt = Some x }; ops = q.ops })) (sym t_is)))
  halts tt_ (Plain none is) = absurd (cc)
  halts tt_ (Loads a got some kind read is) = absurd (cc)
  halts tt_ (Misses a some kind read is) = absurd (cc)
  halts tt_ (Stores a some kind is) = absurd (cc)
  halts tt_ (Atomics a some kind is) = absurd (cc)

  -- a load that is not the next operation of the trace
  unlike : (test : OpKind → Bool) (kind : OpKind) (a : Access) → e.access ≡ Some a → operation_kind a.kind ≡ kind → ((k : OpKind) → kind ≡ kind_made k → test k ≡ true)
      → read_next test s a.addr a.len ≡ None → HasNoThread setup core ops (n + 1)
  unlike test kind a some is made_so none =
      next_of_thread setup core ops n q so_far a going some (λ its.
      unread test s a.addr a.len none its.there (made_so next.kind (sym is ∙ ap (λ (x : Entry). x.kind) its.same)) (sym (ap (λ (x : Entry). x.addr) its.same))
      (sym (ap (λ (x : Entry). x.len) its.same)))

  -- an atomic
  pub atomic_like : (addr len put rd got : ℕ) → Case s q.state e (Need (Atomic addr len put rd)) → read_next is_atomic s addr len ≡ Some got
      → run setup core (answers_of ops) (n + 1) ≡ Some (performed core got e q)
  atomic_like addr len put rd got its read = run_next setup core ops n q so_far got going (by its)
    where
      by : Case s q.state e (Need (Atomic addr len put rd)) → answer_to (answers_of ops) q.ops e.access ≡ got
      by (Atomics a some kind is) =
          let at : a.addr ≡ addr = cc in
          let long : a.len ≡ len = cc in
          reads_next is_atomic a kinds.Atomic got some (ap operation_kind kind) refl atomic_made (rw (at, long) read)
      by (Traps t trap is) = absurd (not_trap t q.state.ctl.et is)
        where
          not_trap : (t : ℕ) (et : Bool) → Need (Atomic addr len put rd) ≡ cond et Retired (Halt t) → ⊥
          not_trap t true e = cc
          not_trap t false e = cc
      by (Plain none is) = absurd (cc)
      by (Loads a g some kind r is) = absurd (cc)
      by (Misses a some kind r is) = absurd (cc)
      by (Stores a some kind is) = absurd (cc)

  pub atomic_unlike : (addr len put rd : ℕ) → Case s q.state e (Need (Atomic addr len put rd)) → read_next is_atomic s addr len ≡ None → HasNoThread setup core ops (n + 1)
  atomic_unlike addr len put rd (Atomics a some kind is) none =
      let at : a.addr ≡ addr = cc in
      let long : a.len ≡ len = cc in
      unlike is_atomic kinds.Atomic a some (ap operation_kind kind) made_atomic (rw (at, long) none)
  atomic_unlike addr len put rd (Traps t trap is) none = absurd (not_trap t q.state.ctl.et is)
    where
      not_trap : (t : ℕ) (et : Bool) → Need (Atomic addr len put rd) ≡ cond et Retired (Halt t) → ⊥
      not_trap t true e = cc
      not_trap t false e = cc
  atomic_unlike addr len put rd (Plain free is) none = absurd (cc)
  atomic_unlike addr len put rd (Loads a g some kind r is) none = absurd (cc)
  atomic_unlike addr len put rd (Misses a some kind r is) none = absurd (cc)
  atomic_unlike addr len put rd (Stores a some kind is) none = absurd (cc)

  -- anything else is a load that is not the next operation of the trace
  pub missed : (did : Did) → Case s q.state e did → (did ≡ Retired → ⊥) → ((tt_ : ℕ) → did ≡ Halt tt_ → ⊥) → ((addr len put rd : ℕ) → did ≡ Need (Atomic addr len put rd) → ⊥)
      → HasNoThread setup core ops (n + 1)
  missed did (Traps t trap is) no_retire no_halt no_atomic = absurd (by q.state.ctl.et is)
    where
      by : (et : Bool) → did ≡ cond et Retired (Halt t) → ⊥
      by true e = no_retire e
      by false e = no_halt t e
  missed did (Plain none is) no_retire no_halt no_atomic = absurd (no_retire is)
  missed did (Loads a g some kind r is) no_retire no_halt no_atomic = absurd (no_retire is)
  missed did (Misses a some kind r is) no_retire no_halt no_atomic = unlike is_load kinds.Load a some (ap operation_kind kind) made_load r
  missed did (Stores a some kind is) no_retire no_halt no_atomic = absurd (no_retire is)
  missed did (Atomics a some kind is) no_retire no_halt no_atomic = absurd (no_atomic a.addr a.len a.put a.rd is)
