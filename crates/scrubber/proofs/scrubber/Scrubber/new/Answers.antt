use Rattle.std.proofs.Common.{◌+◌, sym, ap, subst, arith}
use Rattle.std.specs.List.{AllByRecursion}
use Rattle.lf_model.specs.declared.config.Config.{Config}
use Rattle.scrubber.specs.Inside.{IsWordOfRam}
use Rattle.scrubber.specs.WalkState.{IsScrubRange}
use Rattle.scrubber.proofs.WalkLemmas.{IsLine, first_is_line}
use Rattle.scrubber.proofs.scrubber.Scrubber.new.Goals as goal

pub invariant_of-result : goal.invariant_of-result
invariant_of-result c =
    let config = c.args.config.now in
    let same = c.of.ensures in
    let range : IsScrubRange c.of.result.value = subst IsScrubRange (sym same) c.requires in
    let line : IsLine c.of.result.value c.args.config.now.scrub.first = subst (λ (x : Config). IsLine x c.args.config.now.scrub.first) (sym same) (first_is_line config c.requires) in
    record {
      range = range;
      first = ap (λ (x : Config). x.scrub.first) (sym same);
      end = ap (λ (x : Config). x.scrub.first + x.scrub.length) (sym same);
      most = ap (λ (x : Config). x.scrub_turns) (sym same);
      turns = omega arith;
      few = let most = range.turns in omega (arith, most);
      aligned = line.aligned;
      low = line.low;
      high = line.high;
      noted = subst (AllByRecursion (IsWordOfRam c.of.result.value.ram)) (sym c.new.ensures) tt;
    }
