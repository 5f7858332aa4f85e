use Rattle.std.proofs.Common.{◌∙◌, ◌<◌, ℕ, refl, get_or, sym, arith, below_more, length-set}
use Rattle.lf_model.specs.Order.{StoreStoreAt}
use Rattle.lf_model.specs.Places.{AtPlace}
use Rattle.tso_audit.proofs.LargestNumber.{keeps_more}
use Rattle.tso_audit.proofs.Numbers.{store_own, number_of_store, store_store_fails, store_store_passes}
use Rattle.tso_audit.specs.LastPlaces.{store_of}
use Rattle.tso_thread.specs.ReplayState.{no_op}
use Rattle.tso_audit.proofs.sequence.first_early_store.Goals as goal

pub returns-then-is_early_store : goal.returns-then-is_early_store
returns-then-is_early_store c = record {
  first = (
    c.loop-i-test.true,
    store_store_fails c.args.order.now c.loop-i.i (get_or c.loop-i.next (get_or c.args.order.now c.loop-i.i no_op).core 0) c.loop-i.next c.loop-i-test.true
        (c.requires.cores c.loop-i.i no_op c.loop-i-test.true) refl c.loop-i.invariant.keeps (sym c.is_early_store.ensures ∙ c.if-is_early_store.true),
    c.loop-i.invariant.held,
  );
}

pub loop-i-preserved : goal.loop-i-preserved
loop-i-preserved c =
    let low : (get_or c.args.order.now c.loop-i.i no_op).core < 8 = c.requires.cores c.loop-i.i no_op c.loop-i-test.true in
    record {
      size = length-set c.loop-i.next (get_or c.args.order.now c.loop-i.i no_op).core c.max.result ∙ c.loop-i.invariant.size;
      keeps =
          keeps_more store_of store_own c.loop-i.next c.args.order.now c.loop-i.i no_op c.max.result c.loop-i-test.true (omega (arith, low, c.loop-i.invariant.size)) c.loop-i.invariant.keeps
          (omega (arith, number_of_store (get_or c.args.order.now c.loop-i.i no_op)));
      held =
          below_more (λ (j : ℕ). AtPlace StoreStoreAt c.args.order.now j) c.loop-i.i c.loop-i.invariant.held
          (store_store_passes c.args.order.now c.loop-i.i (get_or c.loop-i.next (get_or c.args.order.now c.loop-i.i no_op).core 0) c.loop-i.next c.loop-i-test.true low refl
          c.loop-i.invariant.keeps (sym c.is_early_store.ensures ∙ c.if-is_early_store.false));
    }
