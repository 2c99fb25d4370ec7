-- What the laws ask of a plan, and a block's place in its map. Assumes nothing.
use mathlib.Core.Path.{◌≡◌}
use mathlib.Core.Bool.{true}
use Prim.Native.Nat.{ℕ, ◌≤◌, ◌<◌}
use Rattle.grid.specs.Grid.{block_row, block_column, first_row, first_column, rows_of, columns_of}
use Rattle.grid.proofs.Extents.{extent_inside}
use Rattle.grid.proofs.Blocks.{block_row_below, block_column_below}
use Rattle.plan.specs.declared.Plan.{Plan}
use Rattle.plan.specs.Rules.{keeps_rules}
use Rattle.plan.specs.Sizes.{order_of, needed_marks}
use Rattle.plan.proofs.Record.{rules}
use Rattle.passes.proofs.Blocks.{BlockPlace}

-- What the laws ask of a plan: b is at least 1 and at least each order.
pub record SideFits (plan : Plan) : Type 0 where
  pub side_low : 1 ≤ plan.grid.side
  pub order_in_side : (pass : ℕ) → pass < 4 → order_of plan pass ≤ plan.grid.side

pub side_fits : (plan : Plan) → keeps_rules plan ≡ true → SideFits plan
side_fits plan kept =
    let known = rules plan kept in
    record { side_low = known.side_low; order_in_side = λ pass h. (known.pass_kept_law pass h).order_in_side }

-- Block k's place in the map, for the laws of crate `passes`.
unfoldable pub place_of : (plan : Plan) (k : ℕ) → k < needed_marks plan → BlockPlace
place_of plan k here =
    record {
      map_height = plan.grid.rows;
      map_width = plan.grid.columns;
      top = first_row plan.grid k;
      left = first_column plan.grid k;
      height = rows_of plan.grid k;
      width = columns_of plan.grid k;
      in_height = extent_inside plan.grid.rows plan.grid.side (block_row plan.grid k) (block_row_below plan.grid k here);
      in_width = extent_inside plan.grid.columns plan.grid.side (block_column plan.grid k) (block_column_below plan.grid k here);
    }
