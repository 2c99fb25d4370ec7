-- The values of the code: where a block lies, the blocks in line with it, and its neighbours by the code's tests.
-- Assumes nothing.
use mathlib.Core.Path.{◌≡◌, refl, sym, ap, ◌∙◌}
use mathlib.Core.Bool.{Bool, true, false, cond}
use Rattle.std.specs.Prelude.{Some, None}
use Prim.Native.Nat.{ℕ, ◌+◌, ◌*◌, ◌≤◌, ◌<◌}
use native.Mathlib.Nat.{div-add-mod', mul-le-mul_right}
use native.Mathlib.Omega.{arith}
use lib.Dec.{ltb}
use Rattle.axis.specs.Axis.{Axis, columns, rows, Direction, forward, backward, axis_of, direction_of, along}
use Rattle.grid.specs.declared.Grid.{Grid}
use Rattle.grid.specs.declared.Position.{Position}
use Rattle.grid.specs.declared.BlockLine.{BlockLine}
use Rattle.grid.specs.Grid.{grid_kept, block_rows_of, block_columns_of, block_total, block_height, block_width, block_row, block_column, rows_of, columns_of, block_pixel_place, line_index, line_count, line_step_of, has_before, has_after, step_before, neighbour, goes_on}
use Rattle.grid.specs.Shapes.{InBlocks, position_of, index_along, shape_of, line_of_blocks}
use Rattle.grid.proofs.Extents.{counted_test}
use Rattle.grid.proofs.Blocks.{ranges, located}

-- Block k stands among the blocks.
pub in_blocks : (grid : Grid) (k : ℕ) {at : Position} → at ≡ position_of grid k → grid_kept grid ≡ true → k < block_total grid
    → InBlocks grid at
unfolding position_of
in_blocks grid k is kept here =
    let lies = located grid k kept here in
    rw is record { kept = kept; row_counted = lies.row_counted; column_counted = lies.column_counted }

pub shape_is : (grid : Grid) (k : ℕ) {at : Position} {h w : ℕ} → at ≡ position_of grid k → h ≡ block_height grid at.row
    → w ≡ block_width grid at.column
    → record { start = at.row * grid.side * grid.columns + at.column * grid.side; rows = h; columns = w } ≡ shape_of grid k
unfolding shape_of block_pixel_place position_of
shape_is grid k is tall wide =
    rw (tall, wide, is) (ap (λ z. record { start = z; rows = rows_of grid k; columns = columns_of grid k }) (omega arith))

-- ---- a block among those in line with it

-- That another follows it, as the code tests it.
followed_is : (grid : Grid) (pass i : ℕ) → 1 ≤ grid.side
    → ltb (i * grid.side) (along (axis_of pass) grid.rows grid.columns) ≡ ltb i (line_count grid pass)
followed_is grid pass i side = by (axis_of pass)
  where
    by : (a : Axis)
        → ltb (i * grid.side) (along a grid.rows grid.columns) ≡ ltb i (along a (block_rows_of grid) (block_columns_of grid))
    by columns = counted_test grid.rows grid.side i side
    by rows = counted_test grid.columns grid.side i side

pub line_is : (grid : Grid) (at : Position) (pass : ℕ) → 1 ≤ grid.side → {n i length step : ℕ} → i ≡ index_along at pass
    → length ≡ along (axis_of pass) grid.rows grid.columns → n ≡ block_columns_of grid → step ≡ along (axis_of pass) n 1
    → record { index = i; followed = ltb ((i + 1) * grid.side) length; step = step } ≡ line_of_blocks grid at pass
unfolding line_of_blocks
line_is grid at pass side index long wide apart =
    rw (index, long, apart, wide)
    (ap (λ z. record { index = index_along at pass; followed = z; step = line_step_of grid pass })
    (followed_is grid pass (index_along at pass + 1) side))

-- Whether there is a block before, and one after, by what the code has of the line.
abbrev before_in : Direction → BlockLine → Bool
before_in forward line = ltb 0 line.index
before_in backward line = line.followed

abbrev after_in : Direction → BlockLine → Bool
after_in forward line = line.followed
after_in backward line = ltb 0 line.index

module _ (grid : Grid) (pass : ℕ) (line : BlockLine) (d : Direction) (runs : direction_of pass ≡ d) where
  module _ (k : ℕ) (at : Position) (stands : at ≡ position_of grid k) (is : line ≡ line_of_blocks grid at pass) where
    before_is : neighbour grid k pass ≡ cond (before_in d line) (Some (step_before d line.step k)) None
    unfolding neighbour line_of_blocks position_of
    before_is = rw (is, stands, runs) (ap (λ z. cond z (Some (step_before d (line_step_of grid pass) k)) None) (by d))
      where
        by : (e : Direction)
            → has_before e (line_count grid pass) (line_index grid k pass) ≡ before_in e (line_of_blocks grid (position_of grid k) pass)
        by forward = refl
        by backward = refl

    -- A block before, or none.
    pub found_before : before_in d line ≡ true → Some (step_before d line.step k) ≡ neighbour grid k pass
    found_before e = sym (before_is ∙ ap (λ z. cond z (Some (step_before d line.step k)) None) e)

    pub none_before : before_in d line ≡ false → None ≡ neighbour grid k pass
    none_before e = sym (before_is ∙ ap (λ z. cond z (Some (step_before d line.step k)) None) e)

  -- Whether there is one after.
  pub goes_on_law : (at : Position) → line ≡ line_of_blocks grid at pass
      → after_in d line ≡ has_after (direction_of pass) (line_count grid pass) (index_along at pass)
  unfolding line_of_blocks
  goes_on_law at is = rw (is, runs) (by d)
    where
      by : (e : Direction)
          → after_in e (line_of_blocks grid at pass) ≡ has_after e (line_count grid pass) (index_along at pass)
      by forward = refl
      by backward = refl

-- A block goes on by position as by number.
pub goes_on_at : (grid : Grid) (k pass : ℕ) {at : Position} → at ≡ position_of grid k
    → has_after (direction_of pass) (line_count grid pass) (index_along at pass) ≡ goes_on grid k pass
unfolding goes_on position_of
goes_on_at grid k pass is = rw is

-- The arithmetic on a line of blocks.
pub index_high : (grid : Grid) (at : Position) (pass : ℕ) → InBlocks grid at → index_along at pass < 4096
index_high grid at pass stands = by (axis_of pass)
  where
    by : (a : Axis) → along a at.row at.column < 4096
    by columns = omega (arith, stands.row_counted, (ranges grid stands.kept).block_rows_high)
    by rows = omega (arith, stands.column_counted, (ranges grid stands.kept).block_columns_high)

pub record LineFits (k : ℕ) (line : BlockLine) : Type 0 where
  pub step_high : line.step ≤ 4096
  pub step_below : 0 < line.index → line.step ≤ k
  pub number_high : k < 16777216

pub line_fits : (grid : Grid) (k pass : ℕ) → grid_kept grid ≡ true → k < block_total grid
    → LineFits k (line_of_blocks grid (position_of grid k) pass)
unfolding line_of_blocks position_of block_row block_column
line_fits grid k pass kept here = by (axis_of pass)
  where
    by : (a : Axis)
        → LineFits k
        record {
          index = along a (block_row grid k) (block_column grid k);
          followed = ltb (along a (block_row grid k) (block_column grid k) + 1) (along a (block_rows_of grid) (block_columns_of grid));
          step = along a (block_columns_of grid) 1;
        }
    by columns =
        let known = located grid k kept here in
        record {
          step_high = known.columns_high;
          step_below =
              λ h.
              let whole = div-add-mod' k (block_columns_of grid) in
              let once : 1 * block_columns_of grid ≤ block_row grid k * block_columns_of grid = mul-le-mul_right (block_columns_of grid) h in
              omega arith;
          number_high = known.number_high;
        }
    by rows =
        let known = located grid k kept here in
        record {
          step_high = omega arith;
          step_below = λ h. let whole = div-add-mod' k (block_columns_of grid) in omega arith;
          number_high = known.number_high;
        }
