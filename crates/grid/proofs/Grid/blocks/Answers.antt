-- The product stays small.
use native.Mathlib.Omega.{arith}
use Rattle.grid.proofs.Blocks.{ranges}
use Rattle.grid.proofs.Grid.blocks.Goals as goal

pub overflow_mul-result : goal.overflow_mul-result
overflow_mul-result c =
    rw (c.block_rows.ensures, c.block_columns.ensures) (omega (arith, (ranges c.args.self c.requires).total_high))
