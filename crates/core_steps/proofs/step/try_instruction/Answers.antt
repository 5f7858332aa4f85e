use Rattle.std.proofs.Common.{◌≡◌, ◌∙◌, nat_le, true, false, refl, sym, subst, arith}
use Rattle.std.proofs.lemmas.Bool.{le-leb, lt-leb}
use Rattle.core_parts.specs.Inside.{state_in, seen_in, room_in}
use Rattle.core_parts.specs.Work.{work_answers}
use Rattle.core_steps.proofs.Asking.{need_counts, need_asks}
use Rattle.core_steps.proofs.RunsOn.{runs_instruction, runs_snooping}
use Rattle.core_steps.proofs.Working.{over_works, trap_works}
use Rattle.core_steps.specs.Works.{Works}
use Rattle.lf_model.specs.Start.{is_text_word}
use Rattle.lf_model.specs.Step.{Does, state_of, run_seen}
use Rattle.lf_model.specs.Traps.{fetch_trap}
use Rattle.lf_model.specs.declared.bus.Why.TheVariants as whys
use Rattle.lf_model.specs.declared.step.Turn.TheVariants.{Snoop}
use Rattle.core_steps.proofs.step.try_instruction.Goals as goal

pub returns-then-quiet-window-clause-works : goal.returns-then-quiet-window-clause-works
returns-then-quiet-window-clause-works c =
    let p = c.args.parts.now in
    let a = c.args.arch.now in
    let over : nat_le p.site.config.window c.args.quiet ≡ true = rw (← c.requires.window) (le-leb c.args.window c.args.quiet c.if-quiet-window.true) in
    subst (λ b. Works b c.needs.result a a (seen_in p) (seen_in p) (state_in p) (state_in p)) (sym over)
    (over_works (state_in p) a a (seen_in p) (seen_in p) c.needs.result (state_in p) c.needs.ensures refl refl refl)

pub returns-then-quiet-window-clause-counts : goal.returns-then-quiet-window-clause-counts
returns-then-quiet-window-clause-counts c =
    let p = c.args.parts.now in
    rw c.needs.ensures (need_counts whys.Window Snoop (work_answers (state_in p)) c.args.arch.now (seen_in p) (room_in p) c.requires.core.sound)

pub returns-then-quiet-window-clause-turn : goal.returns-then-quiet-window-clause-turn
returns-then-quiet-window-clause-turn c =
    let p = c.args.parts.now in
    rw c.needs.ensures (need_asks whys.Window Snoop (work_answers (state_in p)) (seen_in p).site tt)

pub returns-then-quiet-window-clause-runs : goal.returns-then-quiet-window-clause-runs
returns-then-quiet-window-clause-runs c =
    let p = c.args.parts.now in
    runs_snooping p (work_answers (state_in p)) c.needs.result c.needs.ensures c.requires.runs

pub fetch_trap-requires-clause-sound : goal.fetch_trap-requires-clause-sound
fetch_trap-requires-clause-sound c = c.requires.core.sound

pub fetch_trap-requires-clause-instructions : goal.fetch_trap-requires-clause-instructions
fetch_trap-requires-clause-instructions c = let counted = c.requires.counted in let left = c.requires.left in let limit = c.requires.limit in omega (arith, counted, left, limit)

pub returns-then-not-is_text_word-clause-works : goal.returns-then-not-is_text_word-clause-works
returns-then-not-is_text_word-clause-works c =
    let p = c.args.parts.now in
    let a = c.args.arch.now in
    let q = c.fetch_trap.new.p in
    let b = c.fetch_trap.new.a in
    let window : nat_le p.site.config.window c.args.quiet ≡ false = rw (← c.requires.window) (lt-leb c.args.window c.args.quiet c.if-quiet-window.false) in
    let text : is_text_word p.site.image.text a.ctl.pc ≡ false = sym c.is_text_word.ensures ∙ c.if-not-is_text_word.true in
    let does = subst (λ core. Does core (work_answers (state_in p)) (fetch_trap (state_of a (seen_in p))) c.fetch_trap.result (run_seen a (seen_in p)) (run_seen b (seen_in q)))
    c.requires.core.core c.fetch_trap.ensures.does in
    subst (λ over. Works over c.fetch_trap.result a b (seen_in p) (seen_in q) (state_in p) (state_in q)) (sym window)
    (trap_works (state_in p) a b (seen_in p) (seen_in q) c.fetch_trap.result (state_in q) text does c.fetch_trap.ensures.touches c.fetch_trap.ensures.counts.n c.fetch_trap.ensures.counts.core)

pub returns-then-not-is_text_word-clause-counts : goal.returns-then-not-is_text_word-clause-counts
returns-then-not-is_text_word-clause-counts c = c.fetch_trap.ensures.counts

pub returns-then-not-is_text_word-clause-turn : goal.returns-then-not-is_text_word-clause-turn
returns-then-not-is_text_word-clause-turn c = c.fetch_trap.ensures.turn

pub returns-then-not-is_text_word-clause-runs : goal.returns-then-not-is_text_word-clause-runs
returns-then-not-is_text_word-clause-runs c =
    let p = c.args.parts.now in
    let s = state_of c.args.arch.now (seen_in p) in
    runs_instruction p p c.fetch_trap.new.p 0 (omega arith) (work_answers (state_in p)) c.args.arch.now.ctl.cwp (fetch_trap s) c.fetch_trap.result c.fetch_trap.ensures.touches c.requires.runs
    s (fetch_trap s) c.fetch_trap.ensures.does.answer c.fetch_trap.ensures.counts.room

pub fetch-requires-clause-core : goal.fetch-requires-clause-core
fetch-requires-clause-core c = c.requires.core

pub fetch-requires-clause-runs : goal.fetch-requires-clause-runs
fetch-requires-clause-runs c = c.requires.runs

pub fetch-requires-clause-text : goal.fetch-requires-clause-text
fetch-requires-clause-text c = sym c.is_text_word.ensures ∙ c.if-not-is_text_word.false

pub returns-clause-works : goal.returns-clause-works
returns-clause-works c =
    let p = c.args.parts.now in
    let q = c.fetch.new.parts in
    let window : nat_le p.site.config.window c.args.quiet ≡ false = rw (← c.requires.window) (lt-leb c.args.window c.args.quiet c.if-quiet-window.false) in
    subst (λ over. Works over c.fetch.result c.args.arch.now c.fetch.new.arch (seen_in p) (seen_in q) (state_in p) (state_in q)) (sym window) c.fetch.ensures.works

pub returns-clause-counts : goal.returns-clause-counts
returns-clause-counts c = c.fetch.ensures.counts

pub returns-clause-turn : goal.returns-clause-turn
returns-clause-turn c = c.fetch.ensures.turn

pub returns-clause-runs : goal.returns-clause-runs
returns-clause-runs c = c.fetch.ensures.runs
