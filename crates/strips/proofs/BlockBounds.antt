-- The rows and the columns of a block of a plan: at least one, and no more than the longest side. Assumes nothing.
use mathlib.Core.Path.{◌≡◌}
use mathlib.Core.Bool.{true}
use Prim.Native.Nat.{ℕ, ◌≤◌, ◌<◌}
use native.Mathlib.Omega.{arith}
use Rattle.axis.specs.Axis.{Axis, columns, rows, along, across}
use Rattle.grid.specs.declared.Grid.{Grid}
use Rattle.grid.specs.Grid.{block_row, block_column, rows_of, columns_of}
use Rattle.grid.proofs.Extents.{extent_positive}
use Rattle.grid.proofs.Blocks.{block_row_below, block_column_below, lines_in_side}
use Rattle.plan.specs.declared.Plan.{Plan}
use Rattle.plan.specs.Rules.{keeps_rules}
use Rattle.plan.specs.Sizes.{needed_marks}
use Rattle.plan.proofs.Record.{rules}

pub record Bounded (grid : Grid) (k : ℕ) : Type 0 where
  pub tall : 0 < rows_of grid k
  pub wide : 0 < columns_of grid k
  pub rows_high : rows_of grid k ≤ 32
  pub columns_high : columns_of grid k ≤ 32

pub bounded : (plan : Plan) (k : ℕ) → keeps_rules plan ≡ true → k < needed_marks plan → Bounded plan.grid k
bounded plan k kept here =
    let grid = plan.grid in
    let side = (rules plan kept).side_high in
    record {
      tall = extent_positive grid.rows grid.side (block_row grid k) (block_row_below grid k here);
      wide = extent_positive grid.columns grid.side (block_column grid k) (block_column_below grid k here);
      rows_high = omega (arith, lines_in_side grid k rows);
      columns_high = omega (arith, lines_in_side grid k columns);
    }

-- What holds of a height and a width holds along an axis and across it.
pub of_axis : (a : Axis) (P : ℕ → Type 0) (h w : ℕ) → P h → P w → P (along a h w) × P (across a h w)
of_axis columns P h w p q = (p, q)
of_axis rows P h w p q = (q, p)
