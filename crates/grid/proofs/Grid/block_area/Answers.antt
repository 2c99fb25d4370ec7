-- Both extents are at most the side.
use native.Mathlib.Omega.{arith}
use mathlib.Core.Path.{ap}
use Prim.Native.Nat.{◌*◌, ◌≤◌}
use native.Mathlib.Nat.{mul-le-mul}
use Rattle.grid.specs.Grid.{block_area}
use Rattle.grid.specs.Shapes.{shape_of}
use Rattle.grid.proofs.Extents.{extent_in_side}
use Rattle.grid.proofs.Blocks.{ranges}
use Rattle.grid.proofs.Grid.block_area.Goals as goal

pub overflow_mul-result : goal.overflow_mul-result
unfolding shape_of
overflow_mul-result c =
    let self = c.args.self in
    let known = ranges self c.requires.kept in
    let tall : c.block_shape-shape.result.rows ≤ self.side = rw c.block_shape-shape.ensures (extent_in_side _ self.side _) in
    let wide : c.block_shape-shape.result.columns ≤ self.side = rw c.block_shape-shape.ensures (extent_in_side _ self.side _) in
    omega (arith, mul-le-mul tall wide, mul-le-mul known.side_high known.side_high)

pub returns : goal.returns
unfolding block_area shape_of
returns c = ap (λ shape. shape.rows * shape.columns) c.block_shape-shape.ensures
