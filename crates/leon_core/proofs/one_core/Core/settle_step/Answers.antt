use Rattle.std.proofs.Common.{length, ◌∙◌, ◌<◌, ap, sym, subst, arith}
use Rattle.core_parts.specs.CoreValue.{CoreValue}
use Rattle.core_parts.specs.RecordState.{RecordState}
use Rattle.leon_core.proofs.SettledOk.{names_cell, asked_then, settles, keeps_ok, answers}
use Rattle.leon_core.proofs.Settling.{left_begun, steps_stay, made_few, is_settled, same_inside, seen_is}
use Rattle.leon_core.specs.CoreInside.{core_seen, IsKept}
use Rattle.leon_core.proofs.one_core.Core.settle_step.Goals as goal

pub name_cell-requires : goal.name_cell-requires
name_cell-requires c =
    let old = c.self.inside in
    names_cell old c.self.invariant c.attempt-did.result c.attempt-did.new.arch c.attempt-did.new.parts (c.attempt-did.ensures.tries old.room.named.items) c.self.invariant.runs.units.cells

pub end_step-requires-clause-steps : goal.end_step-requires-clause-steps
end_step-requires-clause-steps c =
    let old = c.self.inside in
    let begun = ap (λ (v : CoreValue). v.phase) c.self.view_is ∙ c.requires in
    let same = steps_stay old c.self.invariant begun c.attempt-did.result c.attempt-did.new.arch c.attempt-did.new.parts (c.attempt-did.ensures.tries old.room.named.items) in
    let left = left_begun old c.self.invariant begun in
    let limit = c.self.invariant.limit in
    let few = c.is_word.ensures in
    omega (arith, same, left, limit, few)

pub invariant_of-self : goal.invariant_of-self
invariant_of-self c =
    let old = c.self.inside in
    let is = c.self.invariant in
    let begun = ap (λ (v : CoreValue). v.phase) c.self.view_is ∙ c.requires in
    let did = c.attempt-did.result in
    let new = c.attempt-did.new in
    let t = c.attempt-did.ensures.tries old.room.named.items in
    let left = left_begun old is begun in
    let few = subst (λ n. n < 4294967296) is.limit c.is_word.ensures in
    let asked =
    asked_then old is did new.arch new.parts t (omega (arith, left)) few c.attempt-did.ensures.turn (made_few old is begun did new.arch new.parts t c.attempt-did.ensures.core) in
    subst IsKept
    (sym (same_inside old is begun did new.arch new.parts t c.name_cell.new.registers c.end_step.new.made c.end_step.new.quiet c.enter_phase.new.phase
    c.name_cell.ensures c.end_step.ensures.ended c.end_step.ensures.quiet c.enter_phase.ensures))
    (is_settled old is begun did new.arch new.parts t c.attempt-did.ensures.core c.attempt-did.ensures.runs asked)

pub returns : goal.returns
returns c =
    let old = c.self.inside in
    let is = c.self.invariant in
    let begun = ap (λ (v : CoreValue). v.phase) c.self.view_is ∙ c.requires in
    let did = c.attempt-did.result in
    let new = c.attempt-did.new in
    let t = c.attempt-did.ensures.tries old.room.named.items in
    let same =
    same_inside old is begun did new.arch new.parts t c.name_cell.new.registers c.end_step.new.made c.end_step.new.quiet c.enter_phase.new.phase
    c.name_cell.ensures c.end_step.ensures.ended c.end_step.ensures.quiet c.enter_phase.ensures in
    let seen = ap core_seen same ∙ seen_is old is begun did new.arch new.parts t in
    record {
      numbered = c.attempt-did.ensures.core.made ∙ ap (λ (r : RecordState). length r.ops) (sym c.end_step.ensures.ended);
      settles = settles old is begun did new.arch new.parts t _ _ c.self.view_is seen;
      ok = keeps_ok old is begun did new.arch new.parts t _ _ c.self.view_is seen;
      answer = answers old is begun did new.arch new.parts t _ _ c.self.view_is seen;
    }
