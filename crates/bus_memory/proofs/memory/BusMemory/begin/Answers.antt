use Rattle.std.proofs.Common.{◌≡◌, false, Bool, length, ap, sym, ◌∙◌, subst, arith}
use Rattle.coded_words.specs.Words.{Words}
use Rattle.flip_ledger.specs.Plan.{due_at, strikes_of}
use Rattle.flip_ledger.specs.declared.plan.Owner.TheVariants.{Memory}
use Rattle.bus_memory.proofs.BeginLemmas.{length_strikes}
use Rattle.bus_memory.specs.Kept.{IsKept}
use Rattle.bus_memory.specs.MemoryState.{MemoryState}
use Rattle.bus_memory.proofs.KeptLemmas.{kept_begun}
use Rattle.bus_memory.proofs.memory.BusMemory.begin.Goals as goal

pub invariant_of-self : goal.invariant_of-self
invariant_of-self c =
    let old = c.self.inside in
    let is = c.self.invariant in
    let not_begun : old.begun ≡ false = ap (λ (m : MemoryState). m.begun) c.self.view_is ∙ c.requires in
    let kept : IsKept old.script.value old.transfers.items false old.memory old.plan = subst (λ (b : Bool). IsKept old.script.value old.transfers.items b old.memory old.plan) not_begun is.kept in
    let turn : c.len-turn.result ≡ length old.transfers.items = omega (arith, c.len-turn.ensures, old.transfers.ok.0) in
    let struck = rw turn at c.strike_due.ensures.struck in
    let planned = rw turn at c.strike_due.ensures.planned in
    record {
      kept = rw struck (kept_begun old.script.value old.transfers.items old.memory old.plan c.strike_due.new.plan kept planned);
      room = is.room;
      within = is.within;
      flips = is.flips;
      ram = is.ram ∙ sym (ap (λ (m : Words). length m.histories) struck ∙ length_strikes (due_at (length old.transfers.items) (strikes_of Memory old.script.value)) old.memory.histories);
      fates = is.fates;
    }
