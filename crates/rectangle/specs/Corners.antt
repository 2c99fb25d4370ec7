-- Inner: what the sum requires of each corner that it reads.
use Rattle.std.specs.Prelude.{ℕ, ◌≤◌}
use Rattle.plan.specs.declared.Plan.{Plan}
use Rattle.plan.specs.Sizes.{needed_pixels}

-- A corner of a rectangle of the map, and a table of n words that holds the whole map.
pub record CornerFits (plan : Plan) (n row column : ℕ) : Type 0 where
  pub row_low : row ≤ plan.grid.rows
  pub column_low : column ≤ plan.grid.columns
  pub table_long : needed_pixels plan ≤ n
