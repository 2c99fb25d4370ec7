-- `goes_on_law` is the test of a block after, by direction.
use mathlib.Core.Path.{sym, ◌∙◌}
use Rattle.axis.specs.Axis.{forward, backward}
use Rattle.axis.proofs.Passes.{runs_forward, runs_backward}
use Rattle.grid.proofs.Shapes.{goes_on_law}
use Rattle.grid.proofs.Grid.goes_on.Goals as goal

pub returns-then-is_backward : goal.returns-then-is_backward
returns-then-is_backward c =
    goes_on_law _ _ _ backward (runs_backward _ (sym c.is_backward.ensures ∙ c.if-is_backward.true)) _ c.block_line-line.ensures

pub returns-else-is_backward : goal.returns-else-is_backward
returns-else-is_backward c =
    goes_on_law _ _ _ forward (runs_forward _ (sym c.is_backward.ensures ∙ c.if-is_backward.false)) _ c.block_line-line.ensures
