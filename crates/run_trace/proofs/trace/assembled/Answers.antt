use Rattle.std.proofs.Common.{ℕ, ◌∙◌, ◌<◌, length, arith, subst, sym}
use Rattle.run_trace.specs.Cursors.{AreReadable, IsListed}
use Rattle.run_trace.proofs.Gatherable.{readable, listed, few_entries}
use Rattle.run_trace.proofs.trace.assembled.Goals as goal

pub order_of-requires-clause-readable : goal.order_of-requires-clause-readable
order_of-requires-clause-readable c = subst AreReadable (sym (c.deref.ensures.value ∙ c.into_vec-records.ensures.items))
    (readable c.args.s.now c.args.cores c.args.bus.log.entries c.args.bus.transfers (record { addr = c.args.bus.ahb_addr; status = c.args.bus.ahb_status }) c.args.bus.fates c.args.watch
    c.requires.records.right)

pub order_of-requires-clause-listed : goal.order_of-requires-clause-listed
order_of-requires-clause-listed c = subst (λ records. (place : ℕ) → place < length c.args.bus.log.entries → IsListed records c.args.bus.log.entries place)
    (sym (c.deref.ensures.value ∙ c.into_vec-records.ensures.items))
    (listed c.args.s.now c.args.cores c.args.bus.log.entries c.args.bus.transfers (record { addr = c.args.bus.ahb_addr; status = c.args.bus.ahb_status }) c.args.bus.fates c.args.watch
    c.requires.records.right)

pub order_of-requires-clause-few : goal.order_of-requires-clause-few
order_of-requires-clause-few c =
    let few = few_entries c.args.s.now c.args.cores c.args.bus.log.entries c.args.bus.transfers (record { addr = c.args.bus.ahb_addr; status = c.args.bus.ahb_status }) c.args.bus.fates c.args.watch
    c.requires.records.right in
    omega (arith, few, c.requires.records.limits.few_steps)
