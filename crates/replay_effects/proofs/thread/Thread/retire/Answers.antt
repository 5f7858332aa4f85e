use Rattle.std.proofs.Common.{◌∙◌, ◌+◌, ℕ, Bool, false, Option, Some, IfSome, subst, sym, ap}
use Rattle.std.specs.Int.{from_bool}
use Rattle.lf_model.specs.Run.{Run, reads_of}
use Rattle.lf_model.specs.Step.{state_of}
use Rattle.replay_effects.proofs.RetiredRun.{is_halt, halted_run, completed_run, completed_reads}
use Rattle.replay_effects.proofs.thread.Thread.retire.Goals as goal
use Rattle.replay_effects.specs.Exchanges.{Exchanges}
use Rattle.replay_effects.specs.Running.{Running, next_effect}
use Rattle.replay_effects.specs.Shows.{exchange_of}
use Rattle.replay_effects.specs.Tries.{IsTried}
use Rattle.replay_effects.specs.TrialInside.{seen_in}

-- src/thread.rt:212:13
pub returns-in-Some : goal.returns-in-Some
returns-in-Some c =
    let q = c.args.self.now in
    let t = c.tried-tried.result in
    let tried = subst (λ (n : ℕ). IsTried q.setup q.core n false (next_effect q) q.run t) c.next_answer-got.ensures c.tried-tried.ensures in
    ap (λ (r : Running). record r { run = record r.run { state = record r.run.state { halt = Some c.in-Some.tt } } }) c.self.view_is
    ∙ ap (λ (run : Run). record q { run = run })
    (sym (halted_run q.setup q.core q.answers q.run c.requires.answer t tried c.in-Some.tt (is_halt t.did c.in-Some.tt (sym c.halt_of.ensures ∙ c.in-Some.is))))

-- src/thread.rt:216:9
pub keep-requires-clause-counted : goal.keep-requires-clause-counted
keep-requires-clause-counted c =
    let q = c.args.self.now in
    let t = c.tried-tried.result in
    let u = c.complete.new.self in
    let tried = subst (λ (n : ℕ). IsTried q.setup q.core n false (next_effect q) q.run t) c.next_answer-got.ensures c.tried-tried.ensures in
    let made = subst (λ (n : ℕ). IfSome (exchange_of t.did) (λ y. Exchanges y n t u)) c.next_answer-got.ensures c.complete.ensures.made in
    completed_reads q.setup q.core q.answers q.run c.requires.answer t tried (sym c.halt_of.ensures ∙ c.in_default.is) u c.complete.ensures.same made
    ∙ ap (λ (b : Bool). reads_of q.run.ops + from_bool b) (sym c.reads_memory-reads.ensures)

-- src/thread.rt:202:5
pub returns : goal.returns
returns c =
    let q = c.args.self.now in
    let t = c.tried-tried.result in
    let u = c.complete.new.self in
    let tried = subst (λ (n : ℕ). IsTried q.setup q.core n false (next_effect q) q.run t) c.next_answer-got.ensures c.tried-tried.ensures in
    let made = subst (λ (n : ℕ). IfSome (exchange_of t.did) (λ y. Exchanges y n t u)) c.next_answer-got.ensures c.complete.ensures.made in
    c.keep.ensures
    ∙ ap (λ (h : Option ℕ). record q { run = record { state = record (state_of u.arch (seen_in u.trial)) { halt = h }; ops = u.trial.made } }) c.requires.going
    ∙ ap (λ (run : Run). record q { run = run }) (completed_run q.setup q.core q.answers q.run c.requires.answer t tried (sym c.halt_of.ensures ∙ c.in_default.is) u c.complete.ensures.same made)
