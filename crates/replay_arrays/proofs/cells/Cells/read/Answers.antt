use Rattle.std.proofs.Common.{ℕ, ◌+◌, List, drop, sym, ap, ap₂, ◌∙◌}
use Rattle.lf_model.specs.Course.Arrays.{CellsRead, read_cells}
use Rattle.lf_model.specs.Flips.{Moment}
use Rattle.replay_arrays.specs.CellsState.{CellsState}
use Rattle.replay_arrays.proofs.CellLemmas.{read_bad, read_good}
use Rattle.replay_arrays.proofs.cells.Cells.read.Goals as goal

pub returns-then-bad-clause-bad : goal.returns-then-bad-clause-bad
returns-then-bad-clause-bad c =
    sym (ap (λ (r : CellsRead). r.bad) (sym c.loop-i.invariant.0 ∙ read_bad c.args.cells.now c.loop-i.i c.loop-i-test.true c.loop-i.self.histories c.if-bad.true c.is_bad-bad.ensures))

pub returns-then-bad-clause-cells : goal.returns-then-bad-clause-cells
returns-then-bad-clause-cells c =
    c.read_back.ensures
    ∙ ap₂ (λ (histories : List (List Moment)) (flips : ℕ). record { histories = histories; flips = flips })
    (sym (ap (λ (r : CellsRead). r.cells) (sym c.loop-i.invariant.0 ∙ read_bad c.args.cells.now c.loop-i.i c.loop-i-test.true c.loop-i.self.histories c.if-bad.true c.is_bad-bad.ensures)))
    c.loop-i.invariant.1

pub loop-i-preserved : goal.loop-i-preserved
loop-i-preserved c = (
  ap (λ (s : CellsState). read_cells (drop (c.loop-i.i + 1) c.args.cells.now) s.histories) c.read_back.ensures
      ∙ sym (read_good c.args.cells.now c.loop-i.i c.loop-i-test.true c.loop-i.self.histories c.if-bad.false c.is_bad-bad.ensures)
      ∙ c.loop-i.invariant.0,
  ap (λ (s : CellsState). s.flips) c.read_back.ensures ∙ c.loop-i.invariant.1,
)
