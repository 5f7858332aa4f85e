use Rattle.std.proofs.Common.{◌/◌, ◌∙◌, length, sym, ap, arith}
use Rattle.coded_words.specs.Words.{Words}
use Rattle.flip_ledger.specs.Plan.{IsPlanned}
use Rattle.flip_ledger.specs.declared.plan.Owner.TheVariants.{Memory}
use Rattle.bus_memory.proofs.InsideLemmas.{kept_new}
use Rattle.bus_memory.proofs.KeptLemmas.{length_nothing}
use Rattle.bus_memory.proofs.memory.BusMemory.new.Goals as goal

pub invariant_of-result : goal.invariant_of-result
invariant_of-result c =
    let planned : IsPlanned Memory c.args.setup.now.flips 0 c.in_ok-plan.plan = rw c.as_slice.ensures.items at c.in_ok-plan.ensures in
    record {
      kept =
          rw (c.of.ensures, c.in_ok-transfers.ensures.items)
          (kept_new c.args.setup.now c.len-flips.result c.in_ok-memory.memory c.in_ok-plan.plan c.requires.aims c.in_ok-memory.ensures c.len-flips.ensures.length planned);
      room = omega (arith, c.in_ok-transfers.ensures.exact, c.ranges.room.fits);
      within = rw c.in_ok-transfers.ensures.items (omega arith);
      flips = rw c.of.ensures (omega (arith, c.requires.flips));
      ram = sym (ap (λ (m : Words). length m.histories) c.in_ok-memory.ensures ∙ length_nothing (c.args.setup.now.config.ram / 4));
      fates = rw c.of.ensures (omega (arith, c.in_ok-fates.ensures.len, c.in_ok-fates.fates.ok.0, c.len-flips.ensures.length));
    }
