-- The footprint of an instruction, by what a trial of it comes to.
use Rattle.std.proofs.Common.{◌≡◌, ◌∙◌, ℕ, Bool, cond, true, false, List, [], length, Option, Some, None, is_some, refl, sym, ap, inl, inr, ◌⊎◌}
use Rattle.std.specs.Prelude.{fold}
use Rattle.std.specs.Option.{option_map}
use Rattle.lf_model.specs.Course.Arrays.{cells_of}
use Rattle.lf_model.specs.Effect.{AccessKind, Access as Operation, Effect}
use Rattle.lf_model.specs.Effects.{effect}
use Rattle.lf_model.specs.Instructions.{instruction_of}
use Rattle.lf_model.specs.Run.{Run, site_of, effect_at_pc}
use Rattle.lf_model.specs.Start.{is_text_word, word_at}
use Rattle.lf_model.specs.State.{State}
use Rattle.lf_model.specs.Step.{answer_of, came_to, run_after}
use Rattle.lf_model.specs.Traps.{fetch_trap}
use Rattle.lf_model.specs.declared.bus.Why.{Why}
use Rattle.lf_model.specs.declared.bus.Why.TheVariants as whys
use Rattle.lf_model.specs.declared.setup.Setup.{Setup}
use Rattle.lf_model.specs.declared.step.Did.{Did}
use Rattle.lf_model.specs.declared.step.Did.TheVariants.{Retired, Need, Halt}
use Rattle.lf_model.specs.declared.step.Turn.TheVariants.{Atomic, Drain}
use Rattle.replay_effects.proofs.ComesTo.{Kind, Traps, Loads, Stores, Atomics, Barriers, Plain, kind_of, came_by, came}
use Rattle.replay_effects.proofs.EffectForm.{IsFormed, formed}
use Rattle.replay_effects.proofs.NotedTouches.{access_noted, retired_noted, reads_only}
use Rattle.replay_effects.specs.Footprints.{access_of, IsFootprint}
use Rattle.replay_effects.specs.Noted.{Noted, nothing_noted, trial_answers, trial_touch}
use Rattle.replay_effects.specs.Shows.{shows_trap, drain_of, exchange_of, halt_of, cell_of_register}
use Rattle.replay_effects.specs.Tries.{IsTried}
use Rattle.replay_effects.specs.TrialInside.{noted_in}
use Rattle.replay_effects.specs.declared.footprint.Access.{Access}
use Rattle.replay_effects.specs.declared.footprint.Footprint.{Footprint}
use Rattle.replay_effects.specs.declared.tried.Exchange.{Exchange}
use Rattle.replay_effects.specs.declared.tried.Tried.{Tried}
use Rattle.v8_exec.proofs.AtomicLemmas.{EndsAtomic, ends_effect, ends_without}
use Rattle.v8_exec.proofs.EffectShape.{IsApart, effect_apart, fetch_trap_apart}
use Rattle.v8_exec.specs.Accesses.{atomic_access}
use Rattle.v8_exec.specs.Touching.{looks_of, retires_of, touches_of}

-- ---- the instruction at PC

apart_by : (setup : Setup) (core : ℕ) (s : State) (is_text : Bool)
    → IsApart s (cond is_text (effect (site_of setup core) s (instruction_of (word_at setup.image s.ctl.pc))) (fetch_trap s))
apart_by setup core s true = effect_apart (site_of setup core) s (instruction_of (word_at setup.image s.ctl.pc))
apart_by setup core s false = fetch_trap_apart s

pub apart_at_pc : (setup : Setup) (core : ℕ) (s : State) → IsApart s (effect_at_pc setup core s)
unfolding effect_at_pc
apart_at_pc setup core s = apart_by setup core s (is_text_word setup.image.text s.ctl.pc)

ends_by : (setup : Setup) (core : ℕ) (s : State) (is_text : Bool)
    → EndsAtomic s (cond is_text (effect (site_of setup core) s (instruction_of (word_at setup.image s.ctl.pc))) (fetch_trap s))
ends_by setup core s true = ends_effect (site_of setup core) s (instruction_of (word_at setup.image s.ctl.pc))
ends_by setup core s false = ends_without s (fetch_trap s) refl

pub ends_at_pc : (setup : Setup) (core : ℕ) (s : State) → EndsAtomic s (effect_at_pc setup core s)
unfolding effect_at_pc
ends_at_pc setup core s = ends_by setup core s (is_text_word setup.image.text s.ctl.pc)

-- ---- how a trap shows

shows_none : (before after : Bool) → shows_trap before after [] ≡ false
shows_none true true = refl
shows_none true false = refl
shows_none false after = refl

shows_same : (et : Bool) (written : List ℕ) → shows_trap et et written ≡ false
shows_same true written = refl
shows_same false written = refl

shows_two : (before after : Bool) (written : List ℕ) → before ≡ true → after ≡ false → length written ≡ 2 → shows_trap before after written ≡ true
shows_two before after written on off two = rw (on, off, two) refl

-- ---- the load or store of an instruction that is no atomic

noted_load : (x : Operation) (access : Option Operation) → access ≡ Some x → x.kind ≡ AccessKind.Load → access_noted access ≡ option_map access_of access
noted_load x access some is = rw (some, is) refl

noted_store : (x : Operation) (access : Option Operation) → access ≡ Some x → x.kind ≡ AccessKind.Store → access_noted access ≡ option_map access_of access
noted_store x access some is = rw (some, is) refl

noted_nothing : (access : Option Operation) → access ≡ None → access_noted access ≡ option_map access_of access
noted_nothing access none = rw none refl

module _ (setup : Setup) (core : ℕ) (r : Run) where
  abbrev s : State
  s = r.state

  abbrev e : Effect
  e = effect_at_pc setup core r.state

  form : IsFormed s e
  form = formed setup core r.state

  apart : IsApart s e
  apart = apart_at_pc setup core r.state

  -- ---- an instruction that was tried

  module _ (waiting : Bool) (t : Tried) (tried : IsTried setup core 0 waiting e r t) (f : Footprint) where
    abbrev fresh : Noted
    fresh = nothing_noted 0 waiting

    came_is : (kind : Kind e) → t.did ≡ came_by kind s.ctl.et waiting
    came_is kind = tried.does.answer ∙ came 0 waiting s e apart kind

    notes_at : (did : Did) → t.did ≡ did → noted_in t.trial ≡ fold trial_touch fresh (touches_of (trial_answers fresh) s.ctl.cwp e did)
    notes_at did is = tried.notes ∙ ap (λ (d : Did). fold trial_touch fresh (touches_of (trial_answers fresh) s.ctl.cwp e d)) is

    -- one that retired
    module _ (is : t.did ≡ Retired) where
      noted : noted_in t.trial ≡ record fresh { reads = cells_of s.ctl.cwp e.reads; writes = e.writes; access = access_noted e.access }
      noted = notes_at Retired is ∙ retired_noted 0 waiting s.ctl.cwp e form.loads form.few_reads form.few_writes

      written : t.trial.writes.items ≡ e.writes
      written = ap (λ (n : Noted). n.writes) noted

      enabled : t.arch.ctl.et ≡ (e.next (answer_of (trial_answers fresh) e.access)).ctl.et
      enabled = ap (λ (q : Run). q.state.ctl.et) (tried.does.leaves ∙ ap (λ (did : Did). run_after core (trial_answers fresh) did e r) is)

      shows_trapped : (tt_ : ℕ) → e.trap ≡ Some tt_ → s.ctl.et ≡ true → shows_trap s.ctl.et t.arch.ctl.et t.trial.writes.items ≡ true
      shows_trapped tt_ some on = shows_two s.ctl.et t.arch.ctl.et t.trial.writes.items on (enabled ∙ form.enters tt_ some on (answer_of (trial_answers fresh) e.access))
          (ap length written ∙ form.saves tt_ some on)

      shows_untrapped : (e.writes ≡ []) ⊎ ((got : ℕ) → (e.next got).ctl.et ≡ s.ctl.et) → shows_trap s.ctl.et t.arch.ctl.et t.trial.writes.items ≡ false
      shows_untrapped (inl none) = ap (λ (l : List ℕ). shows_trap s.ctl.et t.arch.ctl.et l) (written ∙ none) ∙ shows_none s.ctl.et t.arch.ctl.et
      shows_untrapped (inr same) =
          ap (λ (b : Bool). shows_trap s.ctl.et b t.trial.writes.items) (enabled ∙ same (answer_of (trial_answers fresh) e.access)) ∙ shows_same s.ctl.et t.trial.writes.items

      pub of_retired : f.reads.items ≡ t.trial.reads.items → f.trap ≡ is_some e.trap → f.access ≡ t.trial.access → access_noted e.access ≡ option_map access_of e.access
          → f.barrier ≡ e.barrier → f.writes.items ≡ t.trial.writes.items → IsFootprint s.ctl.cwp e f
      of_retired reads trap access same barrier writes = record {
        reads = reads ∙ ap (λ (n : Noted). n.reads) noted;
        trap = trap;
        access = access ∙ ap (λ (n : Noted). n.access) noted ∙ same;
        barrier = barrier;
        writes = writes ∙ written;
      }

    -- one that did not, and has no load
    module _ (did : Did) (is : t.did ≡ did) where
      pub of_unretired : retires_of e did ≡ [] → looks_of e.access ≡ [] → noted_in t.trial ≡ record fresh { reads = cells_of s.ctl.cwp e.reads }
      of_unretired unretired bare = notes_at did is ∙ reads_only 0 waiting s.ctl.cwp e form.loads form.few_reads form.few_writes did unretired bare

  -- ---- where a store waits, and the instruction needs no drain

  module _ (t : Tried) (tried : IsTried setup core 0 true e r t) (f : Footprint) (reads : f.reads.items ≡ t.trial.reads.items) (access : f.access ≡ t.trial.access)
      (writes : f.writes.items ≡ t.trial.writes.items) (barrier : f.barrier ≡ None) (trap : f.trap ≡ shows_trap s.ctl.et t.arch.ctl.et t.trial.writes.items) where
    untrapped : t.did ≡ Retired → e.trap ≡ None → access_noted e.access ≡ option_map access_of e.access → e.barrier ≡ None → IsFootprint s.ctl.cwp e f
    untrapped is none same bare =
        of_retired true t tried f is reads (trap ∙ shows_untrapped true t tried f is (form.stays none) ∙ ap (λ (o : Option ℕ). is_some o) (sym none)) access same (barrier ∙ sym bare) writes

    by_et : (et : Bool) (tt_ : ℕ) → s.ctl.et ≡ et → e.trap ≡ Some tt_ → t.did ≡ cond s.ctl.et Retired (Need (Drain whys.End)) → drain_of t.did ≡ None → IsFootprint s.ctl.cwp e f
    by_et true tt_ on some is undrained =
        let retired : t.did ≡ Retired = is ∙ rw on refl in
        of_retired true t tried f retired reads (trap ∙ shows_trapped true t tried f retired tt_ some on ∙ ap (λ (o : Option ℕ). is_some o) (sym some)) access
        (noted_nothing e.access (apart.trapped tt_ some)) (barrier ∙ sym (form.bare tt_ some)) writes
    by_et false tt_ off some is undrained =
        let ended : t.did ≡ Need (Drain whys.End) = is ∙ rw off refl in
        let drained : drain_of t.did ≡ Some whys.End = ap drain_of ended in absurd (cc)

    by_kind : (kind : Kind e) → t.did ≡ came_by kind s.ctl.et true → drain_of t.did ≡ None → IsFootprint s.ctl.cwp e f
    by_kind (Traps tt_ some) is undrained = by_et s.ctl.et tt_ refl some is undrained
    by_kind (Loads x none some load) is undrained = untrapped is none (noted_load x e.access some load) (apart.alone x some)
    by_kind (Stores x none some store) is undrained = untrapped is none (noted_store x e.access some store) (apart.alone x some)
    by_kind (Atomics x none some atomic) is undrained = let drained : drain_of t.did ≡ Some whys.Atomic = ap drain_of is in absurd (cc)
    by_kind (Barriers why none without some) is undrained = let drained : drain_of t.did ≡ Some why = ap drain_of is in absurd (cc)
    by_kind (Plain none without bare) is undrained = untrapped is none (noted_nothing e.access without) bare

    pub undrained_footprint : drain_of t.did ≡ None → IsFootprint s.ctl.cwp e f
    undrained_footprint undrained = by_kind (kind_of e) (came_is true t tried f (kind_of e)) undrained

  -- ---- where none waits, and the instruction needed a drain

  module _ (why : Why) (drains : came_to (trial_answers (nothing_noted 0 true)) s e ≡ Need (Drain why)) (t : Tried) (tried : IsTried setup core 0 false e r t) (f : Footprint)
      (reads : f.reads.items ≡ t.trial.reads.items) where
    drains_by : (kind : Kind e) → came_by kind s.ctl.et true ≡ Need (Drain why)
    drains_by kind = sym (came 0 true s e apart kind) ∙ drains

    trap_by : (et : Bool) (tt_ : ℕ) → s.ctl.et ≡ et → t.did ≡ cond s.ctl.et Retired (Halt tt_) → cond s.ctl.et Retired (Need (Drain whys.End)) ≡ Need (Drain why)
        → (s.ctl.et ≡ false) × (t.did ≡ Halt tt_)
    trap_by true tt_ on is first = let retired : Retired ≡ Need (Drain why) = sym (rw on refl) ∙ first in absurd (cc)
    trap_by false tt_ off is first = (off, is ∙ rw off refl)

    halted_by : (kind : Kind e) → t.did ≡ came_by kind s.ctl.et false → came_by kind s.ctl.et true ≡ Need (Drain why) → is_some (halt_of t.did) ≡ true
        → (tt_ : ℕ) × (e.trap ≡ Some tt_) × (s.ctl.et ≡ false) × (t.did ≡ Halt tt_)
    halted_by (Traps tt_ some) is first halted = let its = trap_by s.ctl.et tt_ refl is first in (tt_, some, its.0, its.1)
    halted_by (Loads x none some load) is first halted = absurd (cc)
    halted_by (Stores x none some store) is first halted = absurd (cc)
    halted_by (Atomics x none some atomic) is first halted = let no : is_some (halt_of t.did) ≡ false = ap (λ (d : Did). is_some (halt_of d)) is in absurd (cc)
    halted_by (Barriers other none without some) is first halted = let no : is_some (halt_of t.did) ≡ false = ap (λ (d : Did). is_some (halt_of d)) is in absurd (cc)
    halted_by (Plain none without bare) is first halted = absurd (cc)

    no_looks : e.access ≡ None → looks_of e.access ≡ []
    no_looks none = rw none refl

    -- a trap that puts the core into error mode
    pub halted_footprint : is_some (halt_of t.did) ≡ true → f.trap ≡ true → f.barrier ≡ None → f.access ≡ t.trial.access → f.writes.items ≡ t.trial.writes.items → IsFootprint s.ctl.cwp e f
    halted_footprint halted trap barrier access writes =
        let its = halted_by (kind_of e) (came_is false t tried f (kind_of e)) (drains_by (kind_of e)) halted in
        let some : e.trap ≡ Some its.0 = its.1 in
        let none : e.access ≡ None = apart.trapped its.0 some in
        let noted : noted_in t.trial ≡ record (nothing_noted 0 false) { reads = cells_of s.ctl.cwp e.reads } = of_unretired false t tried f (Halt its.0) its.3 refl (no_looks none) in
        record {
          reads = reads ∙ ap (λ (n : Noted). n.reads) noted;
          trap = trap ∙ ap (λ (o : Option ℕ). is_some o) (sym some);
          access = access ∙ ap (λ (n : Noted). n.access) noted ∙ ap (λ (o : Option Operation). option_map access_of o) (sym none);
          barrier = barrier ∙ sym (form.bare its.0 some);
          writes = writes ∙ ap (λ (n : Noted). n.writes) noted ∙ sym (form.halts its.0 some its.2);
        }

    barred_by : (kind : Kind e) → t.did ≡ came_by kind s.ctl.et false → came_by kind s.ctl.et true ≡ Need (Drain why) → exchange_of t.did ≡ None → is_some (halt_of t.did) ≡ false
        → (e.trap ≡ None) × (e.access ≡ None) × (e.barrier ≡ Some why) × (t.did ≡ Retired)
    barred_by (Traps tt_ some) is first other going =
        let its = trap_by s.ctl.et tt_ refl is first in
        let halts : is_some (halt_of t.did) ≡ true = ap (λ (d : Did). is_some (halt_of d)) its.1 in absurd (cc)
    barred_by (Loads x none some load) is first other going = absurd (cc)
    barred_by (Stores x none some store) is first other going = absurd (cc)
    barred_by (Atomics x none some atomic) is first other going =
        let exchanges : is_some (exchange_of t.did) ≡ true = ap (λ (d : Did). is_some (exchange_of d)) is in
        let not : is_some (exchange_of t.did) ≡ false = ap (λ (o : Option Exchange). is_some o) other in absurd (cc)
    barred_by (Barriers cause none without some) is first other going = let same : cause ≡ why = cc in (none, without, some ∙ ap (λ (w : Why). Some w) same, is)
    barred_by (Plain none without bare) is first other going = absurd (cc)

    -- a barrier
    pub barrier_footprint : exchange_of t.did ≡ None → is_some (halt_of t.did) ≡ false → f.trap ≡ false → f.barrier ≡ Some why → f.access ≡ t.trial.access → f.writes.items ≡ t.trial.writes.items
        → IsFootprint s.ctl.cwp e f
    barrier_footprint other going trap barrier access writes =
        let its = barred_by (kind_of e) (came_is false t tried f (kind_of e)) (drains_by (kind_of e)) other going in
        of_retired false t tried f its.3 reads (trap ∙ ap (λ (o : Option ℕ). is_some o) (sym its.0)) access (noted_nothing e.access its.1) (barrier ∙ sym its.2) writes

    exchanged_by : (x : Exchange) (kind : Kind e) → t.did ≡ came_by kind s.ctl.et false → came_by kind s.ctl.et true ≡ Need (Drain why) → exchange_of t.did ≡ Some x
        → (y : Operation) × (e.trap ≡ None) × (e.access ≡ Some y) × (y.kind ≡ AccessKind.Atomic) × (t.did ≡ Need (Atomic y.addr y.len y.put y.rd))
    exchanged_by x (Traps tt_ some) is first exchanges =
        let its = trap_by s.ctl.et tt_ refl is first in
        let not : exchange_of t.did ≡ None = ap exchange_of its.1 in absurd (cc)
    exchanged_by x (Loads y none some load) is first exchanges = absurd (cc)
    exchanged_by x (Stores y none some store) is first exchanges = absurd (cc)
    exchanged_by x (Atomics y none some atomic) is first exchanges = (y, none, some, atomic, is)
    exchanged_by x (Barriers cause none without some) is first exchanges = let not : exchange_of t.did ≡ None = ap exchange_of is in absurd (cc)
    exchanged_by x (Plain none without bare) is first exchanges = absurd (cc)

    looks_atomic : (y : Operation) → e.access ≡ Some y → y.kind ≡ AccessKind.Atomic → looks_of e.access ≡ []
    looks_atomic y some atomic = rw some (rw atomic refl)

    -- an atomic
    pub exchange_footprint : (x : Exchange) → exchange_of t.did ≡ Some x → f.trap ≡ false → f.barrier ≡ None → f.access ≡ Some x.access → f.writes.items ≡ cell_of_register s.ctl.cwp x.rd
        → IsFootprint s.ctl.cwp e f
    exchange_footprint x exchanges trap barrier access writes =
        let its = exchanged_by x (kind_of e) (came_is false t tried f (kind_of e)) (drains_by (kind_of e)) exchanges in
        let y : Operation = its.0 in
        let some : e.access ≡ Some y = its.2 in
        let atomic : y.kind ≡ AccessKind.Atomic = its.3 in
        let whole : e.access ≡ Some (atomic_access y.addr y.len y.put y.rd) = some ∙ ap (λ (n : AccessKind). Some (record y { kind = n })) atomic in
        let asked : exchange_of (Need (Atomic y.addr y.len y.put y.rd)) ≡ Some x = sym (ap exchange_of its.4) ∙ exchanges in
        let same : access_of (atomic_access y.addr y.len y.put y.rd) ≡ x.access = cc in
        let register : y.rd ≡ x.rd = cc in
        let noted : noted_in t.trial ≡ record (nothing_noted 0 false) { reads = cells_of s.ctl.cwp e.reads }
        = of_unretired false t tried f (Need (Atomic y.addr y.len y.put y.rd)) its.4 refl (looks_atomic y some atomic) in
        record {
          reads = reads ∙ ap (λ (n : Noted). n.reads) noted;
          trap = trap ∙ ap (λ (o : Option ℕ). is_some o) (sym its.1);
          access = access ∙ ap (λ (a : Access). Some a) (sym same) ∙ ap (λ (o : Option Operation). option_map access_of o) (sym whole);
          barrier = barrier ∙ sym (apart.alone y some);
          writes = writes ∙ ap (λ (n : ℕ). cell_of_register s.ctl.cwp n) (sym register) ∙ sym ((ends_at_pc setup core r.state).writes y.addr y.len y.put y.rd whole);
        }
