use Rattle.std.proofs.Common.{◌∙◌, ◌-◌, ◌%◌, refl, sym, ap, arith}
use Rattle.core_parts.specs.Inside.{state_in, seen_in, room_in}
use Rattle.core_parts.specs.Work.{work_answers}
use Rattle.core_steps.proofs.Asking.{need_counts, need_asks}
use Rattle.core_steps.proofs.RunsOn.{runs_instruction, runs_looked, runs_fetching}
use Rattle.core_steps.proofs.Fetched.{hit_of, miss_of, word_of, hit_works}
use Rattle.core_steps.proofs.Working.{miss_works}
use Rattle.lf_model.specs.Caches.Look.{look}
use Rattle.lf_model.specs.Effects.{effect}
use Rattle.lf_model.specs.Instructions.{instruction_of}
use Rattle.lf_model.specs.Step.{state_of}
use Rattle.lf_model.specs.declared.bus.Why.TheVariants as whys
use Rattle.lf_model.specs.declared.step.Turn.TheVariants.{Fetch}
use Rattle.parity_cache.specs.CacheState.{CacheState}
use Rattle.core_steps.proofs.step.fetch.Goals as goal

pub look-requires-clause-access : goal.look-requires-clause-access
look-requires-clause-access c = record { size = (2, omega arith, refl); aligned = c.requires.core.pc }

pub look-requires-clause-room : goal.look-requires-clause-room
look-requires-clause-room c = let room = c.requires.runs.fetch_room in let left = c.requires.left in omega (arith, room, left)

pub overflow_cast-value : goal.overflow_cast-value
overflow_cast-value c = let fits = rw c.in-Hit.is at c.look.ensures.fits in omega (arith, fits)

pub exec-requires-clause-sound : goal.exec-requires-clause-sound
exec-requires-clause-sound c = c.requires.core.sound

pub exec-requires-clause-core : goal.exec-requires-clause-core
exec-requires-clause-core c = sym c.requires.core.core

pub exec-requires-clause-instructions : goal.exec-requires-clause-instructions
exec-requires-clause-instructions c = let counted = c.requires.counted in let left = c.requires.left in let limit = c.requires.limit in omega (arith, counted, left, limit)

pub exec-requires-clause-operations : goal.exec-requires-clause-operations
exec-requires-clause-operations c = let made = c.requires.operations in let left = c.requires.left in let limit = c.requires.limit in omega (arith, made, left, limit)

pub exec-requires-clause-room : goal.exec-requires-clause-room
exec-requires-clause-room c = let room = c.requires.runs.room in let left = c.requires.left in omega (arith, room, left)

pub overflow_sub-line : goal.overflow_sub-line
overflow_sub-line c = omega arith

pub returns-in-Hit-clause-works : goal.returns-in-Hit-clause-works
returns-in-Hit-clause-works c =
    let p = c.args.parts.now in
    let fc = p.arrays.fetch_cache in
    let pc = c.args.arch.now.ctl.pc in
    let hit = hit_of pc 4 fc (look pc 4 fc.cache).answer c.in-Hit.value c.in-Hit.way (sym c.in-Hit.is ∙ c.look.ensures.answer) in
    hit_works (state_in p) (state_in (record p { arrays = record p.arrays { fetch_cache = c.look.new.self } })) (state_in c.exec.new.p) c.args.arch.now c.exec.new.a (seen_in p) (seen_in c.exec.new.p) p.record.core c.in-Hit.value c.exec.result
    hit.slot (ap (λ (f : CacheState). state_in (record p { arrays = record p.arrays { fetch_cache = f } })) c.look.ensures.looked) (sym c.requires.core.core)
    (word_of p.site.image pc fc c.in-Hit.value c.in-Hit.way c.requires.core.pc (omega arith) c.requires.core.fetch_formed c.requires.core.fetch_lines (sym c.in-Hit.is ∙ c.look.ensures.answer))
    c.requires.text hit.found_is c.exec.ensures.does c.exec.ensures.touches c.exec.ensures.counts.n c.exec.ensures.counts.core

pub returns-in-Hit-clause-counts : goal.returns-in-Hit-clause-counts
returns-in-Hit-clause-counts c = c.exec.ensures.counts

pub returns-in-Hit-clause-turn : goal.returns-in-Hit-clause-turn
returns-in-Hit-clause-turn c = c.exec.ensures.turn

pub returns-in-Miss-clause-works : goal.returns-in-Miss-clause-works
returns-in-Miss-clause-works c =
    let p = c.args.parts.now in
    let fc = p.arrays.fetch_cache in
    let pc = c.args.arch.now.ctl.pc in
    miss_works (state_in p) c.args.arch.now c.args.arch.now (seen_in p) (seen_in p) c.in-Miss.why c.needs.result
    (state_in (record p { arrays = record p.arrays { fetch_cache = c.look.new.self } })) c.requires.text
    (miss_of pc 4 fc (look pc 4 fc.cache).answer c.in-Miss.why (sym c.in-Miss.is ∙ c.look.ensures.answer)) c.needs.ensures refl refl
    (ap (λ (f : CacheState). state_in (record p { arrays = record p.arrays { fetch_cache = f } })) c.look.ensures.looked)

pub returns-in-Miss-clause-counts : goal.returns-in-Miss-clause-counts
returns-in-Miss-clause-counts c =
    let p = c.args.parts.now in
    rw c.needs.ensures (need_counts whys.Miss (Fetch (c.args.arch.now.ctl.pc - c.args.arch.now.ctl.pc % 32) c.in-Miss.why) (work_answers (state_in p)) c.args.arch.now (seen_in p) (room_in p) c.requires.core.sound)

pub returns-in-Miss-clause-turn : goal.returns-in-Miss-clause-turn
returns-in-Miss-clause-turn c =
    let p = c.args.parts.now in
    rw c.needs.ensures (need_asks whys.Miss (Fetch (c.args.arch.now.ctl.pc - c.args.arch.now.ctl.pc % 32) c.in-Miss.why) (work_answers (state_in p)) (seen_in p).site tt)

pub returns-in-Hit-clause-runs : goal.returns-in-Hit-clause-runs
returns-in-Hit-clause-runs c =
    let p = c.args.parts.now in
    let mid = record p { arrays = record p.arrays { fetch_cache = c.look.new.self } } in
    let s = state_of c.args.arch.now (seen_in p) in
    let e = effect (seen_in p).site s (instruction_of c.in-Hit.value) in
    runs_instruction p mid c.exec.new.p 1 (omega arith) (work_answers (state_in mid)) c.args.arch.now.ctl.cwp e c.exec.result c.exec.ensures.touches
    (runs_looked p c.args.arch.now.ctl.pc c.look.new.self c.look.ensures.looked c.requires.runs) s e c.exec.ensures.does.answer c.exec.ensures.counts.room

pub returns-in-Miss-clause-runs : goal.returns-in-Miss-clause-runs
returns-in-Miss-clause-runs c =
    let p = c.args.parts.now in
    let pc = c.args.arch.now.ctl.pc in
    let mid = record p { arrays = record p.arrays { fetch_cache = c.look.new.self } } in
    runs_fetching p pc c.look.new.self c.look.ensures.looked c.requires.runs c.in-Miss.why (pc - pc % 32) (work_answers (state_in mid)) c.needs.result
    (miss_of pc 4 p.arrays.fetch_cache (look pc 4 p.arrays.fetch_cache.cache).answer c.in-Miss.why (sym c.in-Miss.is ∙ c.look.ensures.answer)) c.needs.ensures
