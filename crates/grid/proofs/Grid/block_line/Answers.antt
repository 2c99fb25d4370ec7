-- `block_line` is the row or the column of blocks that the pass runs along.
use Prim.Native.Nat.{◌+◌, ◌≤◌, ◌<◌}
use native.Mathlib.Omega.{arith}
use native.Mathlib.Nat.{mul-le-mul}
use Rattle.grid.proofs.Blocks.{ranges}
use Rattle.grid.proofs.Shapes.{line_is, index_high}
use Rattle.grid.proofs.Grid.block_line.Goals as goal
use Rattle.grid.proofs.Grid.block_line.Goals.{After-along-index}

-- The index is small.
index_small : (c : After-along-index) → c.along-index.result < 4096
index_small c =
    rw c.along-index.ensures (index_high c.args.self c.args.at c.args.pass c.requires)

pub overflow_add-result : goal.overflow_add-result
overflow_add-result c = omega (arith, index_small (goal.at.overflow_add-result c).After-along-index)

pub overflow_mul-result : goal.overflow_mul-result
overflow_mul-result c =
    let index : c.along-index.result + 1 ≤ 4096 = omega (arith, index_small (goal.at.overflow_mul-result c).After-along-index) in
    omega (arith, mul-le-mul index (ranges c.args.self c.requires.kept).side_high)

pub returns : goal.returns
returns c =
    line_is _ _ _ (ranges c.args.self c.requires.kept).side_low c.along-index.ensures c.along-length.ensures
    c.block_columns.ensures c.along.ensures
