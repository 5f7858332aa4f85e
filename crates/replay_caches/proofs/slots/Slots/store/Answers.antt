use Rattle.std.proofs.Common.{ℕ, ◌+◌, ◌%◌, ap, ◌∙◌}
use Rattle.lf_model.specs.Caches.Change.{stored_in}
use Rattle.replay_caches.specs.Part.{byte_stored}
use Rattle.replay_caches.specs.SlotsState.{SlotsState, slot_in, changed}
use Rattle.replay_caches.proofs.RunLemmas.{changed_as, changed_then, stored_more}
use Rattle.replay_caches.proofs.slots.Slots.store.Goals as goal

pub loop-k-preserved : goal.loop-k-preserved
loop-k-preserved c =
    let s = c.args.self.now in
    let at : ℕ = c.args.addr % 32 + c.loop-k.k in
    c.store_byte.ensures
    ∙ ap (λ (t : SlotsState). changed (byte_stored (c.args.addr % 32 + c.loop-k.k)) c.args.i t) c.loop-k.invariant
    ∙ changed_then c.args.i s (stored_in c.args.addr c.loop-k.k) (byte_stored (c.args.addr % 32 + c.loop-k.k)) c.requires
    ∙ changed_as c.args.i s (λ slot. byte_stored (c.args.addr % 32 + c.loop-k.k) (stored_in c.args.addr c.loop-k.k slot)) (stored_in c.args.addr (c.loop-k.k + 1))
    (stored_more c.args.addr c.loop-k.k (slot_in c.args.i s))
