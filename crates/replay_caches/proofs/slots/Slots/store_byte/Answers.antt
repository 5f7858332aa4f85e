use Rattle.std.proofs.Common.{◌≡◌, ◌/◌, ◌<◌, Bool, true, false, cond, length, sym, ap, ◌∙◌, arith}
use Rattle.lf_model.specs.Caches.Slot.{Slot, written, is_valid_word}
use Rattle.replay_caches.specs.Part.{befallen_in, byte_stored}
use Rattle.replay_caches.specs.SlotsInside.{seen}
use Rattle.replay_caches.specs.SlotsState.{slot_in}
use Rattle.replay_caches.specs.declared.part.Part.TheVariants.{Line}
use Rattle.replay_caches.specs.declared.stored.Stored.{Stored}
use Rattle.replay_caches.proofs.RunLemmas.{changed_as, changed_same}
use Rattle.replay_caches.proofs.SlotsLemmas.{place, slot_is}
use Rattle.replay_caches.proofs.slots.Slots.store_byte.Goals as goal

pub index-requires : goal.index-requires
index-requires c =
    let lt : c.args.i < length (seen c.self.inside).slots = rw (← c.self.view_is) at c.requires in
    let within = place c.self.inside c.self.invariant c.args.i lt in
    omega (arith, within)

pub returns-then-is_valid_word : goal.returns-then-is_valid_word
returns-then-is_valid_word c =
    let lt : c.args.i < length (seen c.self.inside).slots = rw (← c.self.view_is) at c.requires in
    let tag = ap (λ (t : Slot). t.tag) (slot_is c.self.inside c.self.invariant c.args.i lt c.index.result.now) ∙ ap (λ (t : Stored). t.tag) (sym c.index.ensures) in
    let valid : is_valid_word (slot_in c.args.i (seen c.self.inside)) (c.args.byte / 4) ≡ true = sym (c.is_valid_word.ensures (slot_in c.args.i (seen c.self.inside)) tag) ∙ c.if-is_valid_word.true in
    c.write.ensures
    ∙ (rw (← c.self.view_is)
    (changed_as c.args.i (seen c.self.inside) (befallen_in Line written c.args.byte) (byte_stored c.args.byte)
    (sym (ap (λ (b : Bool). cond b (befallen_in Line written c.args.byte (slot_in c.args.i (seen c.self.inside))) (slot_in c.args.i (seen c.self.inside))) valid))))

pub returns-else-is_valid_word : goal.returns-else-is_valid_word
returns-else-is_valid_word c =
    let lt : c.args.i < length (seen c.self.inside).slots = rw (← c.self.view_is) at c.requires in
    let tag = ap (λ (t : Slot). t.tag) (slot_is c.self.inside c.self.invariant c.args.i lt c.index.result.now) ∙ ap (λ (t : Stored). t.tag) (sym c.index.ensures) in
    let invalid : is_valid_word (slot_in c.args.i (seen c.self.inside)) (c.args.byte / 4) ≡ false = sym (c.is_valid_word.ensures (slot_in c.args.i (seen c.self.inside)) tag) ∙ c.if-is_valid_word.false in
    rw (← c.self.view_is)
    (sym (changed_same c.args.i (seen c.self.inside) (byte_stored c.args.byte)
    (ap (λ (b : Bool). cond b (befallen_in Line written c.args.byte (slot_in c.args.i (seen c.self.inside))) (slot_in c.args.i (seen c.self.inside))) invalid)))
