use Rattle.std.proofs.Common.{refl, sym, ◌∙◌}
use Rattle.std.proofs.lemmas.List.{length-set}
use Rattle.lf_model.specs.Caches.Slot.{history_at}
use Rattle.lf_model.specs.Flips.Moment.{Written}
use Rattle.flip_ledger.specs.Follows.{IsWrite}
use Rattle.replay_units.specs.Units.{written_by}
use Rattle.replay_units.specs.Ways.{how_of}
use Rattle.replay_units.specs.declared.bits.Bits.TheVariants.{Empty}
use Rattle.replay_units.proofs.UnitLemmas.{bits_set, gains, is_write}
use Rattle.replay_units.proofs.units.Units.write.Goals as goal

pub invariant_of-self : goal.invariant_of-self
invariant_of-self c =
    let units = c.self.inside in
    let hs = units.histories in
    let within = rw (← c.self.view_is) at c.requires.unit in
    let is : IsWrite c.write.result (how_of c.args.how) = rw c.write.ensures (is_write c.args.how) in
    rw c.change.ensures.value (record {
      budget = c.self.invariant.budget;
      units = c.written.ensures.keeps.units ∙ c.self.invariant.units ∙ sym (length-set hs c.args.unit (written_by (how_of c.args.how) (history_at c.args.unit hs)));
      bits = bits_set units.budget hs units.bits.items c.args.unit c.self.invariant.bits within (written_by (how_of c.args.how)) Empty refl tt;
      follows = c.written.ensures.follows units.budget (how_of c.args.how) _ _ is (gains hs c.args.unit (Written (how_of c.args.how)) within) c.self.invariant.follows;
    })
