use Rattle.std.proofs.Common.{ℕ, List, sym, ap, ap₂, ◌∙◌}
use Rattle.flip_ledger.specs.Follows.{has_struck}
use Rattle.lf_model.specs.Fates.{fate_of}
use Rattle.lf_model.specs.Flips.{Moment}
use Rattle.replay_caches.specs.Part.{unit_in}
use Rattle.replay_caches.proofs.SlotLists.{struck_byte, byte_history, unit_within, to_come}
use Rattle.replay_caches.proofs.slots.Slots.fate.Goals as goal

pub returns-clause-struck : goal.returns-clause-struck
returns-clause-struck c =
    let hs = c.self.inside.units.histories in
    let stored = c.self.inside.stored.items in
    let all = c.self.invariant.units in
    rw (← c.self.view_is)
    (λ i byte part struck.
    let is = struck_byte hs stored all c.args.number i byte part struck in
    let same = byte_history hs stored all i is.slot part byte is.place in
    c.fate.ensures.struck (unit_in part i byte) (unit_within hs stored all i is.slot part byte is.place) (sym (ap (has_struck c.args.number) same) ∙ struck)
    ∙ ap₂ (λ (budget : ℕ) (h : List Moment). fate_of budget c.args.number h) c.self.invariant.budget (sym same))

pub returns-clause-late : goal.returns-clause-late
returns-clause-late c = rw (← c.self.view_is) (λ none. c.fate.ensures.late (to_come c.self.inside.units.histories c.self.inside.stored.items c.self.invariant.units c.args.number none))
