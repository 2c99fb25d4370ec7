-- A counted block starts inside the length, so that the rest is not below 0.
use native.Mathlib.Omega.{arith}
use Rattle.grid.specs.Grid.{block_extent}
use Rattle.grid.proofs.Extents.{counted_start}
use Rattle.grid.proofs.counted_extent.Goals as goal

pub overflow_mul-block : goal.overflow_mul-block
overflow_mul-block c = omega (arith, counted_start _ _ _ c.requires)

pub overflow_sub-length : goal.overflow_sub-length
overflow_sub-length c = omega (arith, counted_start _ _ _ c.requires)

pub returns : goal.returns
unfolding block_extent
returns c = c.min.ensures
