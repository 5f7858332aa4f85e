use Rattle.std.proofs.Common.{sym, ◌∙◌, nat_lt, length, subst}
use Rattle.std.specs.List.{AllByRecursion}
use Rattle.std.proofs.lemmas.List.{length-set}
use Rattle.lf_model.specs.Caches.Slot.{history_at}
use Rattle.lf_model.specs.Course.Arrays.{struck_by}
use Rattle.lf_model.specs.Flips.{standing}
use Rattle.lf_model.specs.Flips.Moment.{Struck}
use Rattle.replay_units.specs.Bits.{bits_of, IsPlace}
use Rattle.replay_units.proofs.UnitLemmas.{bits_set, gains, flips_here, places_here, struck_bits, struck_places}
use Rattle.replay_units.proofs.units.Units.strike.Goals as goal

pub invariant_of-self : goal.invariant_of-self
invariant_of-self c =
    let units = c.self.inside in
    let hs = units.histories in
    let within = rw (← c.self.view_is) at c.requires.unit in
    let here = flips_here units.budget hs units.bits.items c.args.unit c.self.invariant.bits within c.index-bits.ensures in
    let places = places_here units.budget hs units.bits.items c.args.unit c.self.invariant.bits within c.index-bits.ensures in
    rw c.change.ensures.value (record {
      budget = c.self.invariant.budget;
      units = c.note_flip.ensures.keeps.units ∙ c.self.invariant.units ∙ sym (length-set hs c.args.unit (struck_by c.args.number c.args.bit (history_at c.args.unit hs)));
      bits = bits_set units.budget hs units.bits.items c.args.unit c.self.invariant.bits within (struck_by c.args.number c.args.bit) c.struck.result
          (struck_bits units.budget c.args.number c.args.bit (standing units.budget (history_at c.args.unit hs)) _ here ∙ sym c.struck.ensures)
          (subst (AllByRecursion IsPlace) (sym c.struck.ensures) (struck_places c.args.bit _ (nat_lt (length (bits_of c.index-bits.result.now)) units.budget) c.requires.bit places));
      follows = c.note_flip.ensures.follows c.args.bit _ _ (gains hs c.args.unit (Struck c.args.number c.args.bit) within) c.self.invariant.follows;
    })
