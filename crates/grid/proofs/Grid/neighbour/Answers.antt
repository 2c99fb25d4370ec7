-- `neighbour` is the block before, by direction.
use native.Mathlib.Omega.{arith}
use mathlib.Core.Path.{sym, ◌∙◌}
use borrow.Author.Tests.{lt-ltb, le-ltb}
use Rattle.axis.specs.Axis.{forward, backward}
use Rattle.axis.proofs.Passes.{runs_forward, runs_backward}
use Rattle.grid.proofs.Shapes.{in_blocks, LineFits, line_fits, found_before, none_before}
use Rattle.grid.proofs.Grid.neighbour.Goals as goal
use Rattle.grid.proofs.Grid.neighbour.Goals.{After-block_line-line}

-- The bounds of the line of blocks.
fits : (c : After-block_line-line) → LineFits c.args.k c.block_line-line.result
fits c =
    rw (c.block_line-line.ensures, c.position.ensures)
    (line_fits c.args.self c.args.k c.args.pass c.requires.kept c.requires.inside)

pub block_line-line-requires : goal.block_line-line-requires
block_line-line-requires c =
    in_blocks c.args.self c.args.k c.position.ensures c.requires.kept c.requires.inside

pub overflow_add-result : goal.overflow_add-result
overflow_add-result c =
    let f = fits (goal.at.overflow_add-result c).After-block_line-line in omega (arith, f.step_high, f.number_high)

pub overflow_sub-result : goal.overflow_sub-result
overflow_sub-result c =
    (fits (goal.at.overflow_sub-result c).After-block_line-line).step_below c.if-line-gt0.true

pub returns-then-line : goal.returns-then-line
returns-then-line c =
    found_before _ _ _ backward
    (runs_backward _ (sym c.is_backward.ensures ∙ c.if-is_backward.true)) _ _ c.position.ensures
    c.block_line-line.ensures
    c.if-line.true

pub returns-else-line : goal.returns-else-line
returns-else-line c =
    none_before _ _ _ backward
    (runs_backward _ (sym c.is_backward.ensures ∙ c.if-is_backward.true)) _ _ c.position.ensures
    c.block_line-line.ensures
    c.if-line.false

pub returns-then-line-gt0 : goal.returns-then-line-gt0
returns-then-line-gt0 c =
    found_before _ _ _ forward
    (runs_forward _ (sym c.is_backward.ensures ∙ c.if-is_backward.false)) _ _ c.position.ensures
    c.block_line-line.ensures
    (lt-ltb _ _ c.if-line-gt0.true)

pub returns-else-line-gt0 : goal.returns-else-line-gt0
returns-else-line-gt0 c =
    none_before _ _ _ forward
    (runs_forward _ (sym c.is_backward.ensures ∙ c.if-is_backward.false)) _ _ c.position.ensures
    c.block_line-line.ensures
    (le-ltb _ _ c.if-line-gt0.false)
