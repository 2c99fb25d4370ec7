-- There is a column of blocks to divide by, and what the whole rows leave of k is the remainder.
use mathlib.Core.Path.{◌≡◌, ap}
use Prim.Native.Nat.{◌-◌, ◌*◌, ◌/◌}
use native.Mathlib.Omega.{arith}
use native.Mathlib.Nat.{div-add-mod'}
use Rattle.grid.specs.Grid.{block_columns_of, block_row, block_column}
use Rattle.grid.specs.Shapes.{position_of}
use Rattle.grid.proofs.Blocks.{ranges}
use Rattle.grid.proofs.Grid.position.Goals as goal

pub nonzero_div-row : goal.nonzero_div-row
nonzero_div-row c =
    omega (arith, c.block_columns-block_columns.ensures, (ranges c.args.self c.requires).block_columns_low)

pub returns : goal.returns
unfolding position_of block_row block_column
returns c =
    let k = c.args.k in
    let n = block_columns_of c.args.self in
    let rest : k - k / n * n ≡ block_column c.args.self k = omega (arith, div-add-mod' k n) in
    rw c.block_columns-block_columns.ensures (ap (λ column. record { row = k / n; column = column }) rest)
