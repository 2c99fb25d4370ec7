-- Every pixel of the map is in a block.
-- Assumes nothing.
use mathlib.Core.Path.{◌≡◌, ap₂, ◌∙◌}
use Prim.Native.Nat.{ℕ, ◌+◌, ◌*◌, ◌/◌, ◌%◌, ◌≤◌, ◌<◌}
use native.Mathlib.Nat.{div-add-mod'}
use Rattle.plan.specs.declared.Plan.{Plan}
use Rattle.plan.specs.Sizes.{needed_marks, needed_pixels}
use Rattle.grid.proofs.Extents.{place_counted, place_in_extent}
use Rattle.grid.specs.Grid.{block_number, first_row, first_column, rows_of, columns_of, block_pixel_place}
use Rattle.number.proofs.RowMajor.{row_below, column_below}
use Rattle.grid.proofs.Blocks.{number_below, row_of_number, column_of_number}

-- The block and the pixel there that a place of the map is.
pub record PixelOf (plan : Plan) (q : ℕ) : Type 0 where
  pub block : ℕ
  pub y : ℕ
  pub x : ℕ
  pub block_below : block < needed_marks plan
  pub row_below : y < rows_of plan.grid block
  pub column_below : x < columns_of plan.grid block
  pub row_is : first_row plan.grid block + y ≡ q / plan.grid.columns
  pub column_is : first_column plan.grid block + x ≡ q % plan.grid.columns
  pub place_is : block_pixel_place plan.grid block y x ≡ q

pub pixel_of : (plan : Plan) → 1 ≤ plan.grid.side → (q : ℕ) → q < needed_pixels plan → PixelOf plan q
unfolding block_pixel_place
pixel_of plan side q h =
    let b = plan.grid.side in
    let row = q / plan.grid.columns in
    let column = q % plan.grid.columns in
    let in_rows = row_below plan.grid.rows plan.grid.columns q h in
    let in_columns = column_below plan.grid.rows plan.grid.columns q h in
    let m = place_counted plan.grid.rows b side row in_rows in
    let n = place_counted plan.grid.columns b side column in_columns in
    let m_is = row_of_number plan.grid (row / b) (column / b) n in
    let n_is = column_of_number plan.grid (row / b) (column / b) n in
    record {
      block = block_number plan.grid (row / b) (column / b);
      y = row % b;
      x = column % b;
      block_below = number_below plan.grid (row / b) (column / b) m n;
      row_below = rw m_is (place_in_extent plan.grid.rows b row side in_rows);
      column_below = rw n_is (place_in_extent plan.grid.columns b column side in_columns);
      row_is = rw m_is (div-add-mod' row b);
      column_is = rw n_is (div-add-mod' column b);
      place_is =
          rw (m_is, n_is)
          (ap₂ (λ v u. v * plan.grid.columns + u) (div-add-mod' row b) (div-add-mod' column b) ∙ div-add-mod' q plan.grid.columns);
    }
