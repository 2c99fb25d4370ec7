-- The blocks of a map: document 01, 'Blocks, marks and strips'. A map of h rows and w columns is cut into blocks of side b, in
-- M rows and N columns of blocks; block k is block (m, n) with k = m×N + n.
use Rattle.std.specs.Prelude.{Bool, ◌&&◌, cond, ℕ, ◌+◌, ◌-◌, ◌*◌, ◌/◌, ◌%◌, min, ltb, Option, None, Some}
use Rattle.number.specs.Numbers.{within, row_major}
use Rattle.axis.specs.Axis.{Direction, forward, backward, axis_of, direction_of, along, across}
use Rattle.grid.specs.declared.Grid.{Grid}

-- The most rows and the most columns of a map,
abbrev pub size_limit : ℕ
size_limit = 4096

-- and the longest side of a block.
abbrev pub side_limit : ℕ
side_limit = 32

-- 1 to 4,096 rows and columns, and a block side of 1 to 32.
unfoldable pub grid_kept : Grid → Bool
grid_kept grid = within grid.rows size_limit && (within grid.columns size_limit && within grid.side side_limit)

-- ---- rows and columns of blocks

-- A length divided by the block side, rounded up.
unfoldable pub block_count : ℕ → ℕ → ℕ
block_count length side = (length + (side - 1)) / side

-- How much of a length block m has: the side, or what is left of the length.
unfoldable pub block_extent : ℕ → ℕ → ℕ → ℕ
block_extent length side m = min side (length - m * side)

-- M, the number of rows of blocks.
abbrev pub block_rows_of : Grid → ℕ
block_rows_of grid = block_count grid.rows grid.side

-- N, the number of columns of blocks.
abbrev pub block_columns_of : Grid → ℕ
block_columns_of grid = block_count grid.columns grid.side

-- M×N, the number of blocks.
abbrev pub block_total : Grid → ℕ
block_total grid = block_rows_of grid * block_columns_of grid

-- The number of block (m, n): m×N + n.
unfoldable pub block_number : Grid → ℕ → ℕ → ℕ
block_number grid m n = row_major (block_columns_of grid) m n

-- m, the row of blocks that block k stands in.
unfoldable pub block_row : Grid → ℕ → ℕ
block_row grid k = k / block_columns_of grid

-- n, the column of blocks that block k stands in.
unfoldable pub block_column : Grid → ℕ → ℕ
block_column grid k = k % block_columns_of grid

-- ---- a block in the map

-- The rows of block (m, n): the last row and column of blocks may be narrower.
abbrev pub block_height : Grid → ℕ → ℕ
block_height grid m = block_extent grid.rows grid.side m

-- The columns of block (m, n).
abbrev pub block_width : Grid → ℕ → ℕ
block_width grid n = block_extent grid.columns grid.side n

-- The first row of block k: m×b.
abbrev pub first_row : Grid → ℕ → ℕ
first_row grid k = block_row grid k * grid.side

-- The first column of block k: n×b.
abbrev pub first_column : Grid → ℕ → ℕ
first_column grid k = block_column grid k * grid.side

-- How many rows block k has.
abbrev pub rows_of : Grid → ℕ → ℕ
rows_of grid k = block_height grid (block_row grid k)

-- How many columns block k has.
abbrev pub columns_of : Grid → ℕ → ℕ
columns_of grid k = block_width grid (block_column grid k)

-- The area of block k: its rows times its columns, as many words as finish writes.
unfoldable pub block_area : Grid → ℕ → ℕ
block_area grid k = rows_of grid k * columns_of grid k

-- The places of block k along a pass: its rows (down, up) or its columns (right, left).
abbrev pub extent_along : Grid → (k pass : ℕ) → ℕ
extent_along grid k pass = along (axis_of pass) (rows_of grid k) (columns_of grid k)

-- The lines of block k that a pass runs along: its columns (down, up) or its rows (right, left).
abbrev pub lines_across : Grid → (k pass : ℕ) → ℕ
lines_across grid k pass = across (axis_of pass) (rows_of grid k) (columns_of grid k)

-- The part of a map that is block k.
abbrev pub part_of : Grid → ℕ → (ℕ → ℕ → ℕ) → ℕ → ℕ → ℕ
part_of grid k X y x = X (first_row grid k + y) (first_column grid k + x)

-- Where pixel (y, x) of block k stands in a row-major list of h×w words.
unfoldable pub block_pixel_place : Grid → ℕ → ℕ → ℕ → ℕ
block_pixel_place grid k y x = part_of grid k (row_major grid.columns) y x

-- ---- neighbours along a pass

-- The blocks in line with block k along a pass are those of its column of blocks (down, up) or of its row of blocks (right,
-- left). The number of block k among them,
abbrev pub line_index : Grid → (k pass : ℕ) → ℕ
line_index grid k pass = along (axis_of pass) (block_row grid k) (block_column grid k)

-- how many there are,
abbrev pub line_count : Grid → (pass : ℕ) → ℕ
line_count grid pass = along (axis_of pass) (block_rows_of grid) (block_columns_of grid)

-- and how far apart their block numbers lie.
abbrev pub line_step_of : Grid → (pass : ℕ) → ℕ
line_step_of grid pass = along (axis_of pass) (block_columns_of grid) 1

-- Of `count` blocks in a line, whether there is one before number i as a pass comes to it,
abbrev pub has_before : Direction → (count i : ℕ) → Bool
has_before forward count i = ltb 0 i
has_before backward count i = ltb (i + 1) count

-- whether there is one after it,
abbrev pub has_after : Direction → (count i : ℕ) → Bool
has_after forward count i = ltb (i + 1) count
has_after backward count i = ltb 0 i

-- and the number of the block that lies a step before block k.
abbrev pub step_before : Direction → (step k : ℕ) → ℕ
step_before forward step k = k - step
step_before backward step k = k + step

-- The neighbour that a pass comes from: above (down), below (up), left (right), right (left); none beyond the map.
unfoldable pub neighbour : Grid → (k pass : ℕ) → Option ℕ
neighbour grid k pass =
    cond (has_before (direction_of pass) (line_count grid pass) (line_index grid k pass))
    (Some (step_before (direction_of pass) (line_step_of grid pass) k))
    None

-- Whether a pass goes on from block k to another block of the map, which then needs block k's strip of the pass: m < M-1
-- (down), m > 0 (up), n < N-1 (right), n > 0 (left).
unfoldable pub goes_on : Grid → (k pass : ℕ) → Bool
goes_on grid k pass = has_after (direction_of pass) (line_count grid pass) (line_index grid k pass)

-- What f gives for a neighbour, and 0 where there is none.
abbrev pub or_zero : (ℕ → ℕ) → Option ℕ → ℕ
or_zero f None = 0
or_zero f (Some j) = f j
