use Rattle.std.proofs.Common.{◌∙◌, [], sym, subst, arith}
use Rattle.core_course.proofs.Starts.{ok_at_start}
use Rattle.core_course.specs.CoreOk.{CoreOk}
use Rattle.core_parts.proofs.CoreAtReset.{core_at_reset}
use Rattle.core_parts.specs.CoreValue.{CoreValue}
use Rattle.leon_core.proofs.NewInside.{arch_new, is_new, seen_new}
use Rattle.leon_core.proofs.one_core.Core.new.Goals as goal

pub invariant_of-result : goal.invariant_of-result
invariant_of-result c =
    let setup = c.args.s.now in
    let planned = rw c.as_slice.ensures.items at c.in_ok-plan.ensures in
    let r = c.requires in
    let number = r.number in
    let cores = r.cores in
    rw (c.reset_arch.ensures ∙ sym (arch_new setup c.args.number), c.len-flips.ensures.length)
    (is_new setup c.args.number _ c.in_ok-parts.ensures.reset _ planned _ (rw c.len-flips.ensures.length at c.in_ok-room.ensures.reserved) c.in_ok-room.ensures.empty r.aims c.is_word.ensures
    (record { image = r.image; bytes = r.bytes; ram = r.ram; ram_end = r.ram_end; some_place = r.least_depth; transfers = r.transfers }) r.number
    (core_at_reset setup c.args.number _ c.in_ok-parts.ensures.reset (omega (arith, number, cores)) r.fetch_cache r.data_cache r.image.aligned r.most_depth))

pub returns-clause-reset : goal.returns-clause-reset
returns-clause-reset c =
    let setup = c.args.s.now in
    let planned = rw c.as_slice.ensures.items at c.in_ok-plan.ensures in
    rw (c.reset_arch.ensures ∙ sym (arch_new setup c.args.number))
    (seen_new setup c.args.number _ c.in_ok-parts.ensures.reset _ planned _ (rw c.len-flips.ensures.length at c.in_ok-room.ensures.reserved) c.in_ok-room.ensures.empty)

pub returns-clause-ok : goal.returns-clause-ok
returns-clause-ok c =
    subst (λ (v : CoreValue). CoreOk v [] []) (sym (returns-clause-reset c)) (ok_at_start c.args.s.now c.args.number c.requires.data_cache c.requires.fetch_cache)
