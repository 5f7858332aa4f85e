use Rattle.std.proofs.Common.{◌<◌, ◌∙◌, ℕ, ap, sym, subst}
use Rattle.std.specs.Prelude.{All}
use Rattle.lf_model.specs.Course.Arrays.{register_cells}
use Rattle.lf_model.specs.Start.{is_text_word}
use Rattle.replay_course.proofs.BadCells.{bad_low}
use Rattle.replay_course.proofs.core_arrays.CoreArrays.attempt.Goals as goal
use Rattle.replay_effects.proofs.FootprintCells.{reads_low}
use Rattle.replay_effects.specs.Running.{next_effect}

-- src/core_arrays.rt:80:9
pub attempt-requires-clause-cells : goal.attempt-requires-clause-cells
attempt-requires-clause-cells c =
    let r = c.args.thread.now in
    reads_low r.run.state.ctl.cwp (next_effect r) c.args.footprint.now c.requires.footprint

-- src/core_arrays.rt:71:5
pub returns-clause-cell : goal.returns-clause-cell
returns-clause-cell c =
    let r = c.args.thread.now in
    let text = ap (λ (pc : ℕ). is_text_word r.setup.image.text pc) c.pc.ensures ∙ sym c.is_text.ensures in
    bad_low r.setup.image r.run.state (next_effect r) c.args.self.now.arrays.arrays c.attempt.new.arrays.arrays.arrays c.attempt.result
    (c.attempt.ensures.comes r.setup.image r.run.state (next_effect r) text (sym c.pc.ensures) c.requires.footprint)
    (subst (All (λ c. c < register_cells)) c.requires.footprint.reads (reads_low r.run.state.ctl.cwp (next_effect r) c.args.footprint.now c.requires.footprint))
