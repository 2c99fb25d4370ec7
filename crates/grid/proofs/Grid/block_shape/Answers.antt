-- `block_shape` is where block k lies.
use native.Mathlib.Omega.{arith}
use Rattle.grid.specs.Shapes.{position_of}
use Rattle.grid.proofs.Blocks.{Located, located}
use Rattle.grid.proofs.Shapes.{shape_is}
use Rattle.grid.proofs.Grid.block_shape.Goals as goal
use Rattle.grid.proofs.Grid.block_shape.Goals.{After-position-at}

-- Where block k lies among the blocks.
lies : (c : After-position-at) → Located c.args.self c.args.k
lies c = located c.args.self c.args.k c.requires.kept c.requires.inside

pub overflow_mul-result : goal.overflow_mul-result
unfolding position_of
overflow_mul-result c =
    rw c.position-at.ensures (omega (arith, (lies (goal.at.overflow_mul-result c).After-position-at).first_row_high))

pub overflow_mul-result-2 : goal.overflow_mul-result-2
unfolding position_of
overflow_mul-result-2 c =
    rw c.position-at.ensures (omega (arith, (lies (goal.at.overflow_mul-result-2 c).After-position-at).row_start_high))

pub overflow_mul-result-3 : goal.overflow_mul-result-3
unfolding position_of
overflow_mul-result-3 c =
    rw c.position-at.ensures (omega (arith, (lies (goal.at.overflow_mul-result-3 c).After-position-at).first_column_high))

pub overflow_add-result : goal.overflow_add-result
unfolding position_of
overflow_add-result c =
    rw c.position-at.ensures (omega (arith, (lies (goal.at.overflow_add-result c).After-position-at).row_start_high, (lies (goal.at.overflow_add-result c).After-position-at).first_column_high))

pub counted_extent-requires : goal.counted_extent-requires
unfolding position_of
counted_extent-requires c =
    rw c.position-at.ensures (lies (goal.at.counted_extent-requires c).After-position-at).row_counted

pub counted_extent-requires-2 : goal.counted_extent-requires-2
unfolding position_of
counted_extent-requires-2 c =
    rw c.position-at.ensures (lies (goal.at.counted_extent-requires-2 c).After-position-at).column_counted

pub returns : goal.returns
returns c = shape_is _ _ c.position-at.ensures c.counted_extent.ensures c.counted_extent-2.ensures
