-- The run after an instruction that was tried: it is performed, with the number that its operation reads.
use Rattle.std.proofs.Common.{◌≡◌, ◌∙◌, ◌+◌, ◌<◌, ◌*◌, ◌^◌, ◌⊎◌, ℕ, Bool, cond, true, false, List, length, fold, Option, Some, None, IfSome, slice_index, refl, sym, ap, ap₂, subst, inl, inr, arith}
use Rattle.std.proofs.lemmas.Bool.{lt-ltb}
use Rattle.std.proofs.lemmas.List.Sums.{sum_by_push}
use Rattle.std.specs.Int.{from_bool}
use Rattle.lf_model.specs.Effect.{Site, AccessKind, Access as Operation, Effect, operation_kind}
use Rattle.lf_model.specs.Operation.{kind_reads, entry_reads}
use Rattle.lf_model.specs.Run.{Run, operation, with_access, reads_of, answer_to, answered, performed, effect_at_pc}
use Rattle.lf_model.specs.State.{State, advanced, with_register}
use Rattle.lf_model.specs.Step.{Seen, answer_of, run_after, run_seen}
use Rattle.lf_model.specs.declared.bus.Entry.{Entry}
use Rattle.lf_model.specs.declared.control.Arch.{Arch}
use Rattle.lf_model.specs.declared.setup.Setup.{Setup}
use Rattle.lf_model.specs.declared.step.Did.{Did}
use Rattle.lf_model.specs.declared.step.Did.TheVariants.{Retired, Turned, Need, Halt, Stop}
use Rattle.lf_model.specs.declared.step.Turn.TheVariants.{Atomic}
use Rattle.replay_effects.proofs.ComesTo.{Kind, Traps, Loads, Stores, Atomics, Barriers, Plain, kind_of, came_by, came}
use Rattle.replay_effects.proofs.EffectForm.{formed}
use Rattle.replay_effects.proofs.FootprintOf.{apart_at_pc, ends_at_pc}
use Rattle.replay_effects.proofs.NotedTouches.{access_noted, retired_noted}
use Rattle.replay_effects.specs.Exchanges.{Exchanges}
use Rattle.replay_effects.specs.Noted.{Noted, nothing_noted, fitted, trial_answers, trial_touch}
use Rattle.replay_effects.specs.Running.{FitsAnswer}
use Rattle.replay_effects.specs.Shows.{halt_of, exchange_of, is_load, reads_memory}
use Rattle.replay_effects.specs.TrialInside.{seen_in}
use Rattle.replay_effects.specs.Tries.{IsTried}
use Rattle.replay_effects.specs.declared.footprint.Access.{Access}
use Rattle.replay_effects.specs.declared.footprint.AccessKind.TheVariants as kinds
use Rattle.replay_effects.specs.declared.tried.Exchange.{Exchange}
use Rattle.replay_effects.specs.declared.tried.Tried.{Tried}
use Rattle.tso_thread.proofs.EffectEnds.{ends_so}
use Rattle.v8_exec.specs.Accesses.{atomic_access}
use Rattle.v8_exec.specs.Touching.{touches_of}

fits_by : (b : Bool) (got len : ℕ) → cond b got 0 < 2 ^ (8 * len) → cond b (fitted got len) 0 ≡ cond b got 0
fits_by true got len small = rw (lt-ltb got (2 ^ (8 * len)) small) refl
fits_by false got len small = refl

answer_same : (answers : List ℕ) (ops : List Entry) (waiting : Bool) (access : Option Operation) → FitsAnswer answers ops access
    → answer_of (trial_answers (nothing_noted (slice_index answers (reads_of ops)) waiting)) access ≡ answer_to answers ops access
answer_same answers ops waiting None fits = refl
answer_same answers ops waiting (Some x) fits = fits_by (kind_reads (operation_kind x.kind)) (slice_index answers (reads_of ops)) x.len fits

-- the operation reads memory
abbrev access_reads : Option Operation → Bool
access_reads None = false
access_reads (Some x) = kind_reads (operation_kind x.kind)

reads_load : (x : Operation) (access : Option Operation) → access ≡ Some x → x.kind ≡ AccessKind.Load → is_load (access_noted access) ≡ access_reads access
reads_load x access some is = rw (some, is) refl

reads_store : (x : Operation) (access : Option Operation) → access ≡ Some x → x.kind ≡ AccessKind.Store → is_load (access_noted access) ≡ access_reads access
reads_store x access some is = rw (some, is) refl

reads_nothing : (access : Option Operation) → access ≡ None → is_load (access_noted access) ≡ access_reads access
reads_nothing access none = rw none refl

one_or_none : (b : Bool) → cond b 1 0 ≡ from_bool b
one_or_none true = refl
one_or_none false = refl

reads_more : (core got : ℕ) (access : Option Operation) (ops : List Entry) → reads_of (with_access core got access ops) ≡ reads_of ops + from_bool (access_reads access)
reads_more core got None ops = omega arith
reads_more core got (Some x) ops =
    sum_by_push (λ (o : Entry). cond (entry_reads o) 1 0) ops (operation core (length ops) got x)
    ∙ ap (λ (n : ℕ). reads_of ops + n) (one_or_none (kind_reads (operation_kind x.kind)))

-- it put the core into error mode
pub is_halt : (did : Did) (tt_ : ℕ) → halt_of did ≡ Some tt_ → did ≡ Halt tt_
is_halt (Halt n) tt_ some = let same : n ≡ tt_ = cc in ap (λ (k : ℕ). Halt k) same
is_halt Retired tt_ some = absurd (cc)
is_halt Turned tt_ some = absurd (cc)
is_halt (Need turn) tt_ some = absurd (cc)
is_halt (Stop n place syn) tt_ some = absurd (cc)

module _ (setup : Setup) (core : ℕ) (answers : List ℕ) (r : Run) (fits : FitsAnswer answers r.ops (effect_at_pc setup core r.state).access) where
  abbrev e : Effect
  e = effect_at_pc setup core r.state

  abbrev got : ℕ
  got = slice_index answers (reads_of r.ops)

  module _ (t : Tried) (tried : IsTried setup core got false e r t) where
    -- one that retired
    pub retired_run : t.did ≡ Retired → run_seen t.arch (seen_in t.trial) ≡ answered core answers r e
    retired_run is =
        tried.does.leaves
        ∙ ap (λ (did : Did). run_after core (trial_answers (nothing_noted got false)) did e r) is
        ∙ ap (λ (n : ℕ). performed core n e r) (answer_same answers r.ops false e.access fits)

    -- one that put the core into error mode
    halts_by : (kind : Kind e) (tt_ : ℕ) → t.did ≡ came_by kind r.state.ctl.et false → t.did ≡ Halt tt_ → (e.trap ≡ Some tt_) × (r.state.ctl.et ≡ false)
    halts_by (Traps type_ some) tt_ is halt = by r.state.ctl.et refl
      where
        by : (et : Bool) → r.state.ctl.et ≡ et → (e.trap ≡ Some tt_) × (r.state.ctl.et ≡ false)
        by true on = let retired : t.did ≡ Retired = is ∙ rw on refl in absurd (cc)
        by false off = let halted : t.did ≡ Halt type_ = is ∙ rw off refl in (some ∙ ap (λ (n : ℕ). Some n) (let same : type_ ≡ tt_ = cc in same), off)
    halts_by (Loads x none some load) tt_ is halt = absurd (cc)
    halts_by (Stores x none some store) tt_ is halt = absurd (cc)
    halts_by (Atomics x none some atomic) tt_ is halt = absurd (cc)
    halts_by (Barriers why none without some) tt_ is halt = absurd (cc)
    halts_by (Plain none without bare) tt_ is halt = absurd (cc)

    pub halted_run : (tt_ : ℕ) → t.did ≡ Halt tt_ → answered core answers r e ≡ record r { state = record r.state { halt = Some tt_ } }
    halted_run tt_ halt =
        let its = halts_by (kind_of e) tt_ (tried.does.answer ∙ came got false r.state e (apart_at_pc setup core r.state) (kind_of e)) halt in
        let none : e.access ≡ None = (apart_at_pc setup core r.state).trapped tt_ its.0 in
        let next : (n : ℕ) → e.next n ≡ record r.state { halt = Some tt_ } = (ends_so setup core r.state).halted tt_ its.0 its.1 in
        rw none (ap (λ (s : State). record r { state = s }) (next 0))

    -- the load or store of one that retired
    noted_access : t.did ≡ Retired → t.trial.access ≡ access_noted e.access
    noted_access is =
        ap (λ (n : Noted). n.access) (tried.notes ∙ ap (λ (did : Did). fold trial_touch (nothing_noted got false) (touches_of (trial_answers (nothing_noted got false)) r.state.ctl.cwp e did)) is
        ∙ retired_noted got false r.state.ctl.cwp e (formed setup core r.state).loads (formed setup core r.state).few_reads (formed setup core r.state).few_writes)

    -- ---- one that goes on

    -- it retired, or is an atomic
    abbrev Goes : Type 0
    Goes = ((t.did ≡ Retired) × (is_load (access_noted e.access) ≡ access_reads e.access))
        ⊎ ((x : Operation) × (e.access ≡ Some (atomic_access x.addr x.len x.put x.rd)) × (t.did ≡ Need (Atomic x.addr x.len x.put x.rd)))

    goes_by : (kind : Kind e) → t.did ≡ came_by kind r.state.ctl.et false → halt_of t.did ≡ None → Goes
    goes_by (Traps tt_ some) is going = by r.state.ctl.et refl
      where
        by : (et : Bool) → r.state.ctl.et ≡ et → Goes
        by true on = let retired : t.did ≡ Retired = is ∙ rw on refl in inl (retired, reads_nothing e.access ((apart_at_pc setup core r.state).trapped tt_ some))
        by false off =
            let halted : t.did ≡ Halt tt_ = is ∙ rw off refl in
            let halts : halt_of t.did ≡ Some tt_ = ap halt_of halted in
            absurd (cc)
    goes_by (Loads x none some load) is going = inl (is, reads_load x e.access some load)
    goes_by (Stores x none some store) is going = inl (is, reads_store x e.access some store)
    goes_by (Atomics x none some atomic) is going = inr (x, some ∙ ap (λ (n : AccessKind). Some (record x { kind = n })) atomic, is)
    goes_by (Barriers why none without some) is going = inl (is, reads_nothing e.access without)
    goes_by (Plain none without bare) is going = inl (is, reads_nothing e.access without)

    module _ (going : halt_of t.did ≡ None) where
      goes : Goes
      goes = goes_by (kind_of e) (tried.does.answer ∙ came got false r.state e (apart_at_pc setup core r.state) (kind_of e)) going

      -- what it leaves once it is made
      module _ (u : Tried) (same : exchange_of t.did ≡ None → (u.arch ≡ t.arch) × (seen_in u.trial ≡ seen_in t.trial))
          (made : IfSome (exchange_of t.did) (λ y. Exchanges y got t u)) where
        kept_by : t.did ≡ Retired → run_seen u.arch (seen_in u.trial) ≡ answered core answers r e
        kept_by is =
            let its : (u.arch ≡ t.arch) × (seen_in u.trial ≡ seen_in t.trial) = same (ap exchange_of is) in
            ap₂ (λ (a : Arch) (s : Seen). run_seen a s) its.0 its.1 ∙ retired_run is

        -- the run with the atomic performed
        performed_so : (x : Operation) → e.access ≡ Some (atomic_access x.addr x.len x.put x.rd)
            → ◌≡◌ {A = Run} (record { state = e.next got; ops = with_access core got (Some (atomic_access x.addr x.len x.put x.rd)) r.ops }) (answered core answers r e)
        performed_so x some = rw some refl

        made_by : (x : Operation) → e.access ≡ Some (atomic_access x.addr x.len x.put x.rd) → t.did ≡ Need (Atomic x.addr x.len x.put x.rd)
            → run_seen u.arch (seen_in u.trial) ≡ answered core answers r e
        made_by x some is =
            let y : Exchange = record { access = record { kind = kinds.Atomic; addr = x.addr; len = x.len; put = x.put }; rd = x.rd } in
            let exchanges : Exchanges y got t u = subst (λ (o : Option Exchange). IfSome o (λ z. Exchanges z got t u)) (ap exchange_of is) made in
            let before : run_seen t.arch (seen_in t.trial) ≡ r = tried.does.leaves ∙ ap (λ (did : Did). run_after core (trial_answers (nothing_noted got false)) did e r) is in
            let number : t.trial.core ≡ core = ap (λ (s : Site). s.core) tried.site in
            let next : e.next got ≡ advanced (with_register x.rd got r.state) = (ends_at_pc setup core r.state).ends x.addr x.len x.put x.rd got some in
            ap₂ (λ (s : State) (ops : List Entry). record { state = s; ops = ops })
            (exchanges.state ∙ ap (λ (q : Run). advanced (with_register x.rd got q.state)) before ∙ sym next)
            (exchanges.ops ∙ ap₂ (λ (q : Run) (c : ℕ). with_access c got (Some (atomic_access x.addr x.len x.put x.rd)) q.ops) before number)
            ∙ performed_so x some

        run_by : Goes → run_seen u.arch (seen_in u.trial) ≡ answered core answers r e
        run_by (inl its) = kept_by its.0
        run_by (inr its) = made_by its.0 its.1 its.2

        pub completed_run : run_seen u.arch (seen_in u.trial) ≡ answered core answers r e
        completed_run = run_by goes

        reads_by : Goes → reads_memory t.did t.trial.access ≡ access_reads e.access
        reads_by (inl its) =
            let noted : t.trial.access ≡ access_noted e.access = noted_access its.0 in
            ap₂ (λ (did : Did) (access : Option Access). reads_memory did access) its.0 noted ∙ its.1
        reads_by (inr its) = ap (λ (did : Did). reads_memory did t.trial.access) its.2 ∙ sym (ap access_reads its.1)

        pub completed_reads : reads_of u.trial.made ≡ reads_of r.ops + from_bool (reads_memory t.did t.trial.access)
        completed_reads =
            ap (λ (q : Run). reads_of q.ops) completed_run
            ∙ reads_more core (answer_to answers r.ops e.access) e.access r.ops
            ∙ ap (λ (b : Bool). reads_of r.ops + from_bool b) (sym (reads_by goes))
