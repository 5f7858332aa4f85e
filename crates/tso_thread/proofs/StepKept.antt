-- What one instruction makes of a replayed core.
use Rattle.std.proofs.Common.{◌≡◌, ◌∙◌, ◌≤◌, ◌+◌, ℕ, Bool, true, false, List, length, Option, Some, None, refl, sym, ap, subst, arith, if◌then◌else◌}
use Rattle.lf_model.specs.Effect.{Site, Effect}
use Rattle.lf_model.specs.Effects.{effect}
use Rattle.lf_model.specs.ProgramOrder.{answers_of}
use Rattle.lf_model.specs.Instructions.{instruction_of}
use Rattle.lf_model.specs.Run.{Run, site_of, performed, effect_at_pc, run}
use Rattle.lf_model.specs.Start.{is_text_word, word_at}
use Rattle.lf_model.specs.State.{State}
use Rattle.lf_model.specs.Step.{Parts, Does, state_of, run_seen, came_to, counted}
use Rattle.lf_model.specs.Traps.{fetch_trap}
use Rattle.lf_model.specs.declared.control.Arch.{Arch}
use Rattle.lf_model.specs.declared.instruction.Instr.{Instr}
use Rattle.lf_model.specs.declared.setup.Setup.{Setup}
use Rattle.lf_model.specs.declared.step.Did.{Did}
use Rattle.lf_model.specs.declared.step.Did.TheVariants.{Retired, Need, Halt}
use Rattle.lf_model.specs.declared.step.Turn.TheVariants.{Atomic}
use Rattle.lf_model.specs.declared.trace.Op.{Op}
use Rattle.tso_thread.proofs.ReplayCases.{Case, case_of, trap_no_atomic}
use Rattle.tso_thread.proofs.ThreadReplay.{no_thread}
use Rattle.tso_thread.proofs.ThreadStep.{retires, halts, atomic_like, atomic_unlike, missed}
use Rattle.tso_thread.specs.ReplayInside.{answering_in, seen_in, room_in}
use Rattle.tso_thread.specs.ReplayState.{Answering, IsFront, is_atomic, read_next, replay_answers}
use Rattle.tso_thread.specs.ThreadState.{setup_in, run_in, IsThreadOf, Replays, IsAt, HasNoThread, Exchanges}
use Rattle.tso_thread.specs.declared.replay.Replay.{Replay}
use Rattle.tso_thread.specs.declared.running.Thread.{Thread}
use Rattle.v8_exec.specs.Frame.{Counts}

-- ---- where it runs

-- the effect at PC is that of its site
abbrev effect_on : Site → State → Effect
effect_on site s = if is_text_word site.image.text s.ctl.pc then effect site s (instruction_of (word_at site.image s.ctl.pc)) else fetch_trap s

same_effect : (a b : Setup) (c d : ℕ) (s : State) → site_of a c ≡ site_of b d → effect_at_pc a c s ≡ effect_at_pc b d s
unfolding effect_at_pc
same_effect a b c d s same = ap (λ (site : Site). effect_on site s) same

-- the trap of a PC that is no text word asks for no atomic
at_pc : (setup : Setup) (core got addr len put rd : ℕ) (parts : Parts) (r new : Run)
    → ((i : Instr) → came_to parts r.state (effect (site_of setup core) r.state i) ≡ Need (Atomic addr len put rd) → new ≡ performed core got (effect (site_of setup core) r.state i) r)
    → (came_to parts r.state (fetch_trap r.state) ≡ Need (Atomic addr len put rd) → ⊥)
    → came_to parts r.state (effect_at_pc setup core r.state) ≡ Need (Atomic addr len put rd) → new ≡ performed core got (effect_at_pc setup core r.state) r
unfolding effect_at_pc
at_pc setup core got addr len put rd parts r new finishes no_trap = by (is_text_word setup.image.text r.state.ctl.pc)
  where
    by : (b : Bool)
        → came_to parts r.state (if b then effect (site_of setup core) r.state (instruction_of (word_at setup.image r.state.ctl.pc)) else fetch_trap r.state) ≡ Need (Atomic addr len put rd)
        → new ≡ performed core got (if b then effect (site_of setup core) r.state (instruction_of (word_at setup.image r.state.ctl.pc)) else fetch_trap r.state) r
    by true is = finishes (instruction_of (word_at setup.image r.state.ctl.pc)) is
    by false is = absurd (no_trap is)

-- ---- one instruction

module _ (setup : Setup) (core : ℕ) (ops : List Op) (n left : ℕ) (old : Thread) (going : old.halt ≡ None) (at : IsAt setup core ops n (left + 1) old) where
  abbrev q : Run
  q = run_seen old.arch (seen_in old.replay)

  abbrev e : Effect
  e = effect_at_pc setup core q.state

  abbrev s : Answering
  s = record { ops = ops; made = length q.ops }

  q_is : run_in old ≡ q
  q_is = ap (λ (halt : Option ℕ). record { state = record (state_of old.arch (seen_in old.replay)) { halt = halt }; ops = old.replay.made }) going

  so_far : Replays setup core ops n q
  so_far = subst (Replays setup core ops n) q_is at.replays

  core_is : old.replay.core ≡ core
  core_is = ap (λ (site : Site). site.core) at.is.site

  s_is : answering_in old.replay ≡ s
  s_is = ap (λ (xs : List Op). record { ops = xs; made = length q.ops }) at.is.reads

  e_is : effect_at_pc (setup_in old) old.replay.core q.state ≡ e
  e_is = same_effect (setup_in old) setup old.replay.core core q.state at.is.site

  module _ (arch : Arch) (replay : Replay) (did : Did)
      (does : Does old.replay.core (replay_answers (answering_in old.replay)) (effect_at_pc (setup_in old) old.replay.core q.state) did q (run_seen arch (seen_in replay)))
      (reads : replay.ops.now ≡ old.replay.ops.now)
      (counts : Counts did old.arch arch (seen_in old.replay) (seen_in replay) (room_in old.replay) (room_in replay)) where
    does_here : Does core (replay_answers s) e did q (run_seen arch (seen_in replay))
    does_here =
        subst (λ (c : ℕ). Does c (replay_answers s) e did q (run_seen arch (seen_in replay))) core_is
        (subst (λ (x : Answering). Does old.replay.core (replay_answers x) e did q (run_seen arch (seen_in replay))) s_is
        (subst (λ (x : Effect). Does old.replay.core (replay_answers (answering_in old.replay)) x did q (run_seen arch (seen_in replay))) e_is does))

    came_here : Case s q.state e did
    came_here = subst (Case s q.state e) (sym does_here.answer) (case_of s q.state e)

    -- what stays of the core, once an instruction is counted
    kept : (halt : Option ℕ) → counted did ≡ 1 → IsThreadOf setup core ops left (record old { arch = arch; replay = replay; halt = halt })
    kept halt one = record {
      site = counts.site ∙ at.is.site;
      reads = reads ∙ at.is.reads;
      sound = counts.sound;
      number = counts.core ∙ at.is.number;
      k = omega (arith, counts.k, at.is.k);
      n = omega (arith, counts.n, at.is.n, one);
      room = omega (arith, counts.room, at.is.room, one);
    }

    -- an instruction that retires
    module _ (is : did ≡ Retired) where
      ran : run setup core (answers_of ops) (n + 1) ≡ Some (run_seen arch (seen_in replay))
      ran =
          let its = subst (Case s q.state e) is came_here in
          let leaves = subst (λ (d : Did). Does core (replay_answers s) e d q (run_seen arch (seen_in replay))) is does_here in
          retires setup core ops n q so_far refl its ∙ ap Some (sym leaves.leaves)

      pub retired_goes : IsFront replay.made replay.ops.now → IsAt setup core ops (n + 1) left (record old { arch = arch; replay = replay })
      retired_goes front = record {
        is = kept old.halt (ap counted is);
        replays = record {
          ran = ran ∙ ap (λ (halt : Option ℕ). Some (record { state = record (state_of arch (seen_in replay)) { halt = halt }; ops = replay.made })) (sym going);
          front = subst (IsFront replay.made) (reads ∙ at.is.reads) front;
        };
      }

      pub retired_apart : (IsFront replay.made replay.ops.now → ⊥) → HasNoThread setup core ops (n + 1)
      retired_apart other = no_thread setup core ops (n + 1) (run_seen arch (seen_in replay)) ran (λ front. other (subst (IsFront replay.made) (sym (reads ∙ at.is.reads)) front))

    -- one that halts the core
    pub halted_goes : (tt_ : ℕ) → did ≡ Halt tt_ → IsAt setup core ops (n + 1) left (record old { arch = arch; replay = replay; halt = Some tt_ })
    halted_goes tt_ is =
        let its = subst (Case s q.state e) is came_here in
        let leaves = subst (λ (d : Did). Does core (replay_answers s) e d q (run_seen arch (seen_in replay))) is does_here in
        record {
          is = kept (Some tt_) (ap counted is);
          replays = record {
            ran = halts setup core ops n q so_far refl tt_ its ∙ ap (λ (r : Run). Some (record { state = record r.state { halt = Some tt_ }; ops = r.ops })) (sym leaves.leaves);
            front = subst (λ (r : Run). IsFront r.ops ops) (sym leaves.leaves) so_far.front;
          };
        }

    -- one that is neither: a load that is not the next operation of the trace
    pub other_apart : (did ≡ Retired → ⊥) → ((tt_ : ℕ) → did ≡ Halt tt_ → ⊥) → ((addr len put rd : ℕ) → did ≡ Need (Atomic addr len put rd) → ⊥) → HasNoThread setup core ops (n + 1)
    other_apart no_retire no_halt no_atomic = missed setup core ops n q so_far refl did came_here no_retire no_halt no_atomic

    -- an atomic
    module _ (addr len put rd : ℕ) (is : did ≡ Need (Atomic addr len put rd)) where
      its_case : Case s q.state e (Need (Atomic addr len put rd))
      its_case = subst (Case s q.state e) is came_here

      leaves_all : run_seen arch (seen_in replay) ≡ q
      leaves_all = (subst (λ (d : Did). Does core (replay_answers s) e d q (run_seen arch (seen_in replay))) is does_here).leaves

      -- what the trace says of it is as before
      answering_same : answering_in replay ≡ s
      answering_same = ap (λ (r : Run). record { ops = replay.ops.now; made = length r.ops }) leaves_all ∙ ap (λ (xs : List Op). record { ops = xs; made = length q.ops }) (reads ∙ at.is.reads)

      pub atomic_apart : read_next is_atomic (answering_in replay) addr len ≡ None → HasNoThread setup core ops (n + 1)
      atomic_apart none =
          atomic_unlike setup core ops n q so_far refl addr len put rd its_case (subst (λ (x : Answering). read_next is_atomic x addr len ≡ None) answering_same none)

      module _ (got : ℕ) (read : read_next is_atomic (answering_in replay) addr len ≡ Some got) (new : Thread) (halt_is : new.halt ≡ old.halt)
          (made : Exchanges addr len put rd got arch new.arch (seen_in replay) (seen_in new.replay)) (same_ops : new.replay.ops.now ≡ replay.ops.now) (room : room_in replay ≤ room_in new.replay + 1) where
        abbrev next : Arch
        next = new.arch

        abbrev after : Replay
        after = new.replay

        atomic_ran : run setup core (answers_of ops) (n + 1) ≡ Some (run_seen next (seen_in after))
        atomic_ran =
            let site_is : (seen_in replay).site ≡ site_of setup core = counts.site ∙ at.is.site in
            let answer : came_to (replay_answers s) q.state e ≡ Need (Atomic addr len put rd) = sym does_here.answer ∙ is in
            let finishes : (i : Instr) → came_to (replay_answers s) q.state (effect (site_of setup core) q.state i) ≡ Need (Atomic addr len put rd)
            → run_seen next (seen_in after) ≡ performed core got (effect (site_of setup core) q.state i) q
            = λ i.
            subst (λ (r : Run). came_to (replay_answers s) r.state (effect (site_of setup core) r.state i) ≡ Need (Atomic addr len put rd)
            → run_seen next (seen_in after) ≡ performed core got (effect (site_of setup core) r.state i) r) leaves_all
            (subst (λ (site : Site). came_to (replay_answers s) (state_of arch (seen_in replay)) (effect site (state_of arch (seen_in replay)) i) ≡ Need (Atomic addr len put rd)
            → run_seen next (seen_in after) ≡ performed site.core got (effect site (state_of arch (seen_in replay)) i) (run_seen arch (seen_in replay))) site_is
            (made.finishes i (replay_answers s))) in
            atomic_like setup core ops n q so_far refl addr len put rd got its_case (subst (λ (x : Answering). read_next is_atomic x addr len ≡ Some got) answering_same read)
            ∙ ap Some (sym (at_pc setup core got addr len put rd (replay_answers s) q (run_seen next (seen_in after)) finishes (trap_no_atomic s q.state addr len put rd) answer))

        pub atomic_goes : IsFront after.made after.ops.now → IsAt setup core ops (n + 1) left new
        atomic_goes front = record {
          is = record {
            site = made.site ∙ (counts.site ∙ at.is.site);
            reads = same_ops ∙ (reads ∙ at.is.reads);
            sound = made.sound;
            number = made.core ∙ (counts.core ∙ at.is.number);
            k = omega (arith, counts.k, at.is.k, made.k, made.ops);
            n = let none = ap counted is in omega (arith, counts.n, at.is.n, made.n, none);
            room = let none = ap counted is in omega (arith, counts.room, at.is.room, room, none);
          };
          replays = record {
            ran = atomic_ran ∙ ap (λ (halt : Option ℕ). Some (record { state = record (state_of next (seen_in after)) { halt = halt }; ops = after.made })) (sym (halt_is ∙ going));
            front = subst (IsFront after.made) (same_ops ∙ (reads ∙ at.is.reads)) front;
          };
        }

        pub atomic_other : (IsFront after.made after.ops.now → ⊥) → HasNoThread setup core ops (n + 1)
        atomic_other other =
            no_thread setup core ops (n + 1) (run_seen next (seen_in after)) atomic_ran (λ front. other (subst (IsFront after.made) (sym (same_ops ∙ (reads ∙ at.is.reads))) front))
