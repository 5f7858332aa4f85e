use Rattle.std.proofs.Common.{ap, sym, subst}
use Rattle.core_parts.specs.CanRun.{CanRun}
use Rattle.core_parts.specs.IsCore.{IsCore}
use Rattle.core_parts.specs.declared.parts.Parts.{Parts}
use Rattle.core_turns.proofs.CaughtUp.{is_caught, fewer_uses}
use Rattle.core_turns.proofs.CoreKept.{core_caught}
use Rattle.core_turns.proofs.RunsOn.{runs_kept, leaves_caught}
use Rattle.core_turns.proofs.turn.catch_up.Goals as goal
use Rattle.core_turns.specs.CatchingUp.{caught_up_parts}

pub returns-clause-core : goal.returns-clause-core
returns-clause-core c = λ arch is.
    subst (IsCore arch) (sym (is_caught c.args.log.now.entries c.args.parts.now c.catch_up-seen.new.cache c.see.new.self c.seen.result c.catch_up-seen.result c.seen.ensures.entries c.catch_up-seen.ensures.snooped c.catch_up-seen.ensures.seen c.see.ensures))
    (core_caught arch c.args.parts.now is c.args.log.now.entries)

pub returns-clause-runs : goal.returns-clause-runs
returns-clause-runs c = λ begun looked runs.
    let e = is_caught c.args.log.now.entries c.args.parts.now c.catch_up-seen.new.cache c.see.new.self c.seen.result c.catch_up-seen.result c.seen.ensures.entries c.catch_up-seen.ensures.snooped c.catch_up-seen.ensures.seen c.see.ensures in
    subst (CanRun begun looked) (sym e)
    (runs_kept begun looked c.args.parts.now (caught_up_parts c.args.log.now.entries c.args.parts.now)
    (leaves_caught c.args.parts.now c.args.log.now.entries
    (fewer_uses c.args.parts.now.arrays.data_cache c.catch_up-seen.new.cache (caught_up_parts c.args.log.now.entries c.args.parts.now).arrays.data_cache (ap (λ (p : Parts). p.arrays.data_cache) e) c.catch_up-seen.ensures.keeps)) runs)
