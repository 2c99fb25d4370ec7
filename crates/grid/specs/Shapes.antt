-- Inner: the values of the code's records, and what inner functions ask of their callers.
use Rattle.std.specs.Prelude.{◌≡◌, true, ℕ, ◌+◌, ◌<◌, ltb}
use Rattle.axis.specs.Axis.{axis_of, along, across}
use Rattle.grid.specs.declared.Grid.{Grid}
use Rattle.grid.specs.declared.Position.{Position}
use Rattle.grid.specs.declared.BlockShape.{BlockShape}
use Rattle.grid.specs.declared.BlockLine.{BlockLine}
use Rattle.grid.specs.Grid.{grid_kept, block_rows_of, block_columns_of, block_total, block_row, block_column, rows_of, columns_of, block_pixel_place, line_count, line_step_of}

-- The sizes are in range, and block k is in the map.
pub record InGrid (grid : Grid) (k : ℕ) : Type 0 where
  pub kept : grid_kept grid ≡ true
  pub inside : k < block_total grid

-- Where block k stands among the blocks.
unfoldable pub position_of : Grid → ℕ → Position
position_of grid k = record { row = block_row grid k; column = block_column grid k }

-- The sizes are in range, and a position is that of a block.
pub record InBlocks (grid : Grid) (at : Position) : Type 0 where
  pub kept : grid_kept grid ≡ true
  pub row_counted : at.row < block_rows_of grid
  pub column_counted : at.column < block_columns_of grid

-- The number of a block among those in line with it, along a pass.
abbrev pub index_along : Position → (pass : ℕ) → ℕ
index_along at pass = along (axis_of pass) at.row at.column

-- Where block k lies, and its extent.
unfoldable pub shape_of : Grid → ℕ → BlockShape
shape_of grid k =
    record {
      start = block_pixel_place grid k 0 0;
      rows = rows_of grid k;
      columns = columns_of grid k;
    }

-- The places of a block of a shape along a pass,
abbrev pub shape_extent : BlockShape → (pass : ℕ) → ℕ
shape_extent shape pass = along (axis_of pass) shape.rows shape.columns

-- and the lines of it that the pass runs along.
abbrev pub shape_lines : BlockShape → (pass : ℕ) → ℕ
shape_lines shape pass = across (axis_of pass) shape.rows shape.columns

-- A block among the blocks in line with it, along a pass.
unfoldable pub line_of_blocks : Grid → Position → (pass : ℕ) → BlockLine
line_of_blocks grid at pass =
    record {
      index = index_along at pass;
      followed = ltb (index_along at pass + 1) (line_count grid pass);
      step = line_step_of grid pass;
    }
