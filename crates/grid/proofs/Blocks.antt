-- Block numbers, rows and columns of blocks, the bounds of a grid whose sizes are in range, and where a block's pixels lie.
-- Assumes nothing.
use mathlib.Core.Path.{◌≡◌, ap₂, sym, ◌∙◌}
use mathlib.Core.Bool.{true, ◌&&◌}
use Prim.Native.Nat.{ℕ, ◌*◌, ◌≤◌, ◌<◌}
use native.Mathlib.Nat.{div-add-mod', mul-le-mul, le_trans}
use native.Mathlib.Omega.{arith}
use Rattle.number.specs.Numbers.{within}
use Rattle.number.proofs.Tests.{and_left, and_right, within_bounds}
use Rattle.number.proofs.RowMajor.{row_of, column_of, place_below, same_row_column, row_below, column_below}
use Rattle.axis.specs.Axis.{Axis, columns, rows, across}
use Rattle.grid.specs.declared.Grid.{Grid}
use Rattle.grid.specs.Grid.{grid_kept, block_rows_of, block_columns_of, block_total, block_number, block_row, block_column, first_row, first_column, rows_of, columns_of, block_pixel_place}
use Rattle.grid.proofs.Extents.{count_bounded, count_positive, extent_in_side, extent_place}

-- ---- numbers of blocks

module _ (grid : Grid) where
  pub block_row_below : (k : ℕ) → k < block_total grid → block_row grid k < block_rows_of grid
  unfolding block_row
  block_row_below k h = row_below (block_rows_of grid) (block_columns_of grid) k h

  pub block_column_below : (k : ℕ) → k < block_total grid → block_column grid k < block_columns_of grid
  unfolding block_column
  block_column_below k h = column_below (block_rows_of grid) (block_columns_of grid) k h

  pub number_below : (m n : ℕ) → m < block_rows_of grid → n < block_columns_of grid → block_number grid m n < block_total grid
  unfolding block_number
  number_below m n a b = place_below (block_rows_of grid) (block_columns_of grid) m n a b

  pub row_of_number : (m n : ℕ) → n < block_columns_of grid → block_row grid (block_number grid m n) ≡ m
  unfolding block_row block_number
  row_of_number m n h = row_of (block_columns_of grid) m n h

  pub column_of_number : (m n : ℕ) → n < block_columns_of grid → block_column grid (block_number grid m n) ≡ n
  unfolding block_column block_number
  column_of_number m n h = column_of (block_columns_of grid) m n h

  pub number_of_block : (k : ℕ) → block_number grid (block_row grid k) (block_column grid k) ≡ k
  unfolding block_number block_row block_column
  number_of_block k = div-add-mod' k (block_columns_of grid)

-- ---- sizes in range

-- What the check of the sizes says.
pub record Ranges (grid : Grid) : Type 0 where
  pub rows_low : 1 ≤ grid.rows
  pub rows_high : grid.rows ≤ 4096
  pub columns_low : 1 ≤ grid.columns
  pub columns_high : grid.columns ≤ 4096
  pub side_low : 1 ≤ grid.side
  pub side_high : grid.side ≤ 32
  pub block_rows_low : 1 ≤ block_rows_of grid
  pub block_rows_high : block_rows_of grid ≤ 4096
  pub block_columns_low : 1 ≤ block_columns_of grid
  pub block_columns_high : block_columns_of grid ≤ 4096
  pub total_high : block_total grid ≤ 16777216
  pub pixels_high : grid.rows * grid.columns ≤ 16777216

pub ranges : (grid : Grid) → grid_kept grid ≡ true → Ranges grid
unfolding grid_kept
ranges grid e =
    let tall = within grid.rows 4096 in
    let wide = within grid.columns 4096 in
    let cut = within grid.side 32 in
    let r = within_bounds grid.rows 4096 (and_left tall (wide && cut) e) in
    let c = within_bounds grid.columns 4096 (and_left wide cut (and_right tall (wide && cut) e)) in
    let s = within_bounds grid.side 32 (and_right wide cut (and_right tall (wide && cut) e)) in
    let m : block_rows_of grid ≤ 4096 = le_trans (count_bounded grid.rows grid.side) r.1 in
    let n : block_columns_of grid ≤ 4096 = le_trans (count_bounded grid.columns grid.side) c.1 in
    record {
      rows_low = r.0;
      rows_high = r.1;
      columns_low = c.0;
      columns_high = c.1;
      side_low = s.0;
      side_high = s.1;
      block_rows_low = count_positive grid.rows grid.side s.0 r.0;
      block_rows_high = m;
      block_columns_low = count_positive grid.columns grid.side s.0 c.0;
      block_columns_high = n;
      total_high = mul-le-mul m n;
      pixels_high = mul-le-mul r.1 c.1;
    }

-- Block k among the rows and columns of blocks.
pub record Located (grid : Grid) (k : ℕ) : Type 0 where
  pub row_counted : block_row grid k < block_rows_of grid
  pub column_counted : block_column grid k < block_columns_of grid
  pub rows_high : block_rows_of grid ≤ 4096
  pub columns_high : block_columns_of grid ≤ 4096
  pub number_high : k < 16777216
  pub side_low : 1 ≤ grid.side
  pub side_high : grid.side ≤ 32
  pub first_row_high : first_row grid k ≤ 4096 * 32
  pub first_column_high : first_column grid k ≤ 4096 * 32
  pub row_start_high : first_row grid k * grid.columns ≤ 4096 * 32 * 4096

pub located : (grid : Grid) (k : ℕ) → grid_kept grid ≡ true → k < block_total grid → Located grid k
located grid k kept here =
    let known = ranges grid kept in
    let row : block_row grid k < block_rows_of grid = block_row_below grid k here in
    let column : block_column grid k < block_columns_of grid = block_column_below grid k here in
    let row_high : block_row grid k ≤ 4096 = omega (arith, known.block_rows_high) in
    let column_high : block_column grid k ≤ 4096 = omega (arith, known.block_columns_high) in
    let first_row : first_row grid k ≤ 4096 * 32 = mul-le-mul row_high known.side_high in
    record {
      row_counted = row;
      column_counted = column;
      rows_high = known.block_rows_high;
      columns_high = known.block_columns_high;
      number_high = omega (arith, known.total_high);
      side_low = known.side_low;
      side_high = known.side_high;
      first_row_high = first_row;
      first_column_high = mul-le-mul column_high known.side_high;
      row_start_high = mul-le-mul first_row known.columns_high;
    }

-- The lines of a block that a pass runs along are at most b.
pub lines_in_side : (grid : Grid) (k : ℕ) (a : Axis) → across a (rows_of grid k) (columns_of grid k) ≤ grid.side
lines_in_side grid k columns = extent_in_side grid.columns grid.side (block_column grid k)
lines_in_side grid k rows = extent_in_side grid.rows grid.side (block_row grid k)

-- ---- a block's pixels in a row-major list

pub pixel_below : (grid : Grid) (k y x : ℕ) → y < rows_of grid k → x < columns_of grid k
    → block_pixel_place grid k y x < grid.rows * grid.columns
unfolding block_pixel_place
pixel_below grid k y x a b =
    place_below grid.rows grid.columns _ _ (extent_place grid.rows grid.side (block_row grid k) y a)
    (extent_place grid.columns grid.side (block_column grid k) x b)

-- A place is that of one pixel of one block.
pub same_pixel : (grid : Grid) (k y x j v u : ℕ) → y < rows_of grid k → x < columns_of grid k → v < rows_of grid j
    → u < columns_of grid j → block_pixel_place grid k y x ≡ block_pixel_place grid j v u → (k ≡ j) × (y ≡ v) × (x ≡ u)
unfolding block_pixel_place
same_pixel grid k y x j v u a b c d e =
    let whole =
    same_row_column grid.columns _ _ _ _
    (extent_place grid.columns grid.side (block_column grid k) x b)
    (extent_place grid.columns grid.side (block_column grid j) u d) e in
    let down =
    same_row_column grid.side (block_row grid k) y (block_row grid j) v
    (less a (extent_in_side _ _ _)) (less c (extent_in_side _ _ _)) whole.0 in
    let right =
    same_row_column grid.side (block_column grid k) x (block_column grid j) u
    (less b (extent_in_side _ _ _)) (less d (extent_in_side _ _ _)) whole.1 in (
      sym (number_of_block grid k) ∙ ap₂ (block_number grid) down.0 right.0
          ∙ number_of_block grid j,
      down.1,
      right.1,
    )
  where
    less : {m n o : ℕ} → m < n → n ≤ o → m < o
    less p q = omega arith
