-- The setup can be played, and in no run of it has a word or a register cell two flipped bits.
use Rattle.std.proofs.Common.{List, ◌∙◌, All, length, ap, sym, subst, arith}
use Rattle.lf_model.specs.declared.config.Config.{Config}
use Rattle.lf_model.specs.declared.flip.Flip.{Flip}
use Rattle.run_texts.specs.FlipLine.{IsOfMachine}
use Rattle.work_gen.specs.Drill.{drill_config, IsCorrectable}
use Rattle.work_gen.proofs.Upsets.{fit, correctable, length-drill_flips}
use Rattle.work_gen.proofs.NeverStruck.{never_two_flipped}
use Rattle.work_gen.proofs.drill.make_setup.Goals as goal

pub returns-clause-loadable : goal.returns-clause-loadable
returns-clause-loadable c =
    let ram = ap (λ (config : Config). config.ram) c.config_of.ensures in c.in_ok-image.ensures.loadable c.config_of.result.ram (omega (arith, ram))

pub returns-clause-count : goal.returns-clause-count
returns-clause-count c = ap (λ (flips : List Flip). length flips) c.in_ok-flips.ensures ∙ length-drill_flips c.args.size c.args.start c.args.flips

pub returns-clause-of_machine : goal.returns-clause-of_machine
returns-clause-of_machine c =
    subst (λ (config : Config). All (IsOfMachine config) c.in_ok-flips.flips) (sym c.config_of.ensures)
    (subst (λ (flips : List Flip). All (IsOfMachine (drill_config c.args.size)) flips) (sym c.in_ok-flips.ensures)
    (fit c.args.size c.args.start c.args.flips (omega arith) c.requires.flips_few))

pub returns-clause-correctable : goal.returns-clause-correctable
returns-clause-correctable c =
    subst (λ (flips : List Flip). IsCorrectable flips) (sym c.in_ok-flips.ensures) (correctable c.args.size c.args.start c.args.flips)

pub returns-clause-never_two_flipped : goal.returns-clause-never_two_flipped
returns-clause-never_two_flipped c =
    never_two_flipped _ (subst (λ (flips : List Flip). IsCorrectable flips) (sym c.in_ok-flips.ensures) (correctable c.args.size c.args.start c.args.flips))
