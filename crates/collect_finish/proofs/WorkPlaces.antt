-- Places of the work array: what fits it, that its lines are apart, and which places lie outside the block.
-- Assumes nothing.
use mathlib.Core.Path.{◌≡◌, refl, ◌∙◌}
use mathlib.Core.Logic.{◌≢◌}
use Prim.Native.Nat.{ℕ, ◌+◌, ◌*◌, ◌≤◌, ◌<◌}
use native.Mathlib.Nat.{mul-le-mul_right}
use native.Mathlib.Omega.{arith}
use Rattle.plan.specs.declared.Plan.{Plan}
use Rattle.plan.specs.Rules.{order_limit}
use Rattle.plan.specs.Sizes.{needed_pixels, order_of}
use Rattle.plan.proofs.Record.{order_limited_at}
use Rattle.grid.proofs.Extents.{extent_inside}
use Rattle.axis.specs.Axis.{Axis, columns, rows, Direction, forward, backward, axis_of, along, across, is_backward, if_forward, if_backward}
use Rattle.filter.specs.Windows.{WindowFits}
use Rattle.grid.specs.Grid.{side_limit, block_row, block_column, first_row, rows_of, columns_of, block_pixel_place}
use Rattle.grid.proofs.Blocks.{block_row_below, block_column_below}
use Rattle.number.proofs.RowMajor.{same_row_column, place_below}
use Rattle.grid.specs.declared.Grid.{Grid}
use Rattle.grid.specs.declared.BlockShape.{BlockShape}
use Rattle.grid.specs.Shapes.{shape_of, shape_extent, shape_lines}
use Rattle.buffer.specs.Copies.{stride_place, StrideFits}
use Rattle.collect_finish.specs.Work.{work_stride, work_words, work_corner, work_window, pixel_in, work_place, ShapeFits}
use Rattle.strips.specs.StripRecord.{EdgeFits}
use Rattle.strips.proofs.BlockBounds.{bounded, of_axis}
use Rattle.collect_finish.specs.WorkFits.{BlockOf, ShapedBlock, StripMoves}

-- ---- what fits

-- A block and the words past its edge lie in the work array.
pub window_fits : (a : Axis) (d : Direction) {h w : ℕ} (order n : ℕ) → (0 < h) × (h ≤ side_limit) → (0 < w) × (w ≤ side_limit)
    → order ≤ order_limit → n ≡ work_words → WindowFits n a d (work_window h w) order
window_fits a d {h} {w} order n high wide limited e =
    let room = by a d in
    record { tall = high.0; wide = wide.0; start = room.0; in_row = room.1; in_buffer = room.2 }
  where
    by : (a : Axis) (d : Direction)
        → (if_forward (is_backward d) order ≤ along a order_limit order_limit)
        × (order_limit + w + along a 0 (if_backward (is_backward d) order) ≤ work_stride)
        × ((order_limit + h + along a (if_backward (is_backward d) order) 0) * work_stride ≤ n)
    by columns forward = omega arith
    by columns backward = omega arith
    by rows forward = omega arith
    by rows backward = omega arith

pub block_grid_fits : {shape : BlockShape} {n : ℕ} → ShapeFits shape → n ≡ work_words
    → StrideFits n work_corner work_stride shape.rows shape.columns
block_grid_fits fits e = record { row = λ y c. omega arith }

-- A block of a plan fits the array, and its rows lie in a map of h×w words.
module _ {plan : Plan} {k : ℕ} (block : BlockOf plan k) where
  abbrev grid : Grid
  grid = plan.grid

  pub shape_fits : ShapeFits (shape_of plan.grid k)
  unfolding shape_of
  shape_fits =
      let b = bounded plan k block.kept block.counted in
      record { tall = b.tall; wide = b.wide; rows_high = b.rows_high; columns_high = b.columns_high }

  rows_fit : (n : ℕ) → needed_pixels plan ≤ n
      → StrideFits n (block_pixel_place grid k 0 0) grid.columns (rows_of grid k) (columns_of grid k)
  unfolding block_pixel_place
  rows_fit n long =
      record {
        row =
            λ y h.
            let down = extent_inside grid.rows grid.side (block_row grid k) (block_row_below grid k block.counted) in
            let right =
            extent_inside grid.columns grid.side (block_column grid k) (block_column_below grid k block.counted) in
            let rest : (first_row grid k + y + 1) * grid.columns ≤ grid.rows * grid.columns =
            mul-le-mul_right grid.columns (omega arith) in
            omega arith;
      }

  columns_fit : columns_of grid k ≤ grid.columns
  columns_fit =
      omega (
        arith,
        extent_inside grid.columns grid.side (block_column grid k) (block_column_below grid k block.counted),
      )

-- The same with the code's shape of the block.
pub placed_block : {plan : Plan} {k : ℕ} {shape : BlockShape} → BlockOf plan k → shape ≡ shape_of plan.grid k
    → ShapedBlock plan k shape
placed_block block shaped = record { block = block; shaped = shaped }

module _ {plan : Plan} {k : ℕ} {shape : BlockShape} (placed : ShapedBlock plan k shape) where
  pub shape_in_work : ShapeFits shape
  shape_in_work = rw placed.shaped (shape_fits placed.block)

  pub block_in_work : {n : ℕ} → n ≡ work_words → StrideFits n work_corner work_stride shape.rows shape.columns
  block_in_work e = block_grid_fits shape_in_work e

  pub block_in_map : {n : ℕ} → needed_pixels plan ≤ n
      → StrideFits n shape.start plan.grid.columns shape.rows shape.columns
  unfolding shape_of
  block_in_map {n} long = rw placed.shaped (rows_fit placed.block n long)

  -- No row of the block reaches into the map's next one.
  pub block_narrow : shape.columns ≤ plan.grid.columns
  unfolding shape_of
  block_narrow = rw placed.shaped (columns_fit placed.block)

-- ---- rectangles of lines

-- The place of the first line's index i as the code chooses it,
pub place_along : (a : Axis) (i : ℕ) → along a (i * work_stride + order_limit) (order_limit * work_stride + i) ≡ work_place a 0 i
place_along columns i = refl
place_along rows i = refl

-- and the places of a rectangle that starts there.
pub line_place_law : (a : Axis) (i y x : ℕ)
    → stride_place (work_place a 0 i) work_stride y x ≡ work_place a (across a y x) (i + along a y x)
line_place_law columns i y x = omega arith
line_place_law rows i y x = omega arith

pub lines_fit : (a : Axis) (i places lines n : ℕ) → i + places ≤ work_stride → lines ≤ 32 → n ≡ work_words
    → StrideFits n (work_place a 0 i) work_stride (along a places lines) (across a places lines)
lines_fit columns i places lines n h s e = record { row = λ y c. omega arith }
lines_fit rows i places lines n h s e = record { row = λ y c. omega arith }

-- No row of such a rectangle reaches into the next.
pub lines_narrow : (a : Axis) (i places lines : ℕ) → i + places ≤ work_stride → lines ≤ 32
    → across a places lines ≤ work_stride
lines_narrow columns i places lines h s = omega arith
lines_narrow rows i places lines h s = omega arith

-- ---- lines are apart

pub work_apart : (a : Axis) (l i m j : ℕ) → order_limit + l < work_stride → i < work_stride → order_limit + m < work_stride
    → j < work_stride → work_place a l i ≡ work_place a m j → (l ≡ m) × (i ≡ j)
work_apart columns l i m j hl hi hm hj e =
    let s = same_row_column work_stride i (order_limit + l) j (order_limit + m) hl hm e in (omega arith, s.0)
work_apart rows l i m j hl hi hm hj e =
    let s = same_row_column work_stride (order_limit + l) i (order_limit + m) j hi hj e in (omega arith, s.1)

pub work_below : (a : Axis) (l i : ℕ) → order_limit + l < work_stride → i < work_stride → work_place a l i < work_words
work_below columns l i hl hi = place_below work_stride work_stride i (order_limit + l) hi hl
work_below rows l i hl hi = place_below work_stride work_stride (order_limit + l) i hl hi

-- A pixel of the block is a place of a line.
pub pixel_on_line : (a : Axis) (y x : ℕ)
    → pixel_in y x ≡ work_place a (across a y x) (order_limit + along a y x)
pixel_on_line columns y x = refl
pixel_on_line rows y x = refl

pub across_below : (a : Axis) (h w y x : ℕ) → y < h → x < w → across a y x < across a h w
across_below columns h w y x p q = q
across_below rows h w y x p q = p

pub along_below : (a : Axis) (h w y x : ℕ) → y < h → x < w → along a y x < along a h w
along_below columns h w y x p q = p
along_below rows h w y x p q = q

module _ {shape : BlockShape} (fits : ShapeFits shape) (pass : ℕ) where
  small : (shape_extent shape pass ≤ 32) × (shape_lines shape pass ≤ 32)
  small = of_axis (axis_of pass) (λ z. z ≤ 32) shape.rows shape.columns fits.rows_high fits.columns_high

  pub lines_small : shape_lines shape pass ≤ 32
  lines_small = small.1

  pub extent_small : shape_extent shape pass ≤ 32
  extent_small = small.0

  -- Index i of line l lies outside the block.
  pub outside_block : (l i : ℕ) → order_limit + l < work_stride → i < work_stride
      → (l < shape_lines shape pass → order_limit ≤ i → i < order_limit + shape_extent shape pass → ⊥)
      → (y x : ℕ) → y < shape.rows → x < shape.columns → work_place (axis_of pass) l i ≢ pixel_in y x
  outside_block l i hl hi out y x p q e =
      let a = axis_of pass in
      let line = across_below a shape.rows shape.columns y x p q in
      let index = along_below a shape.rows shape.columns y x p q in
      let s =
      work_apart a l i (across a y x) (order_limit + along a y x) hl hi (omega (arith, lines_small)) (omega (arith, extent_small))
      (e ∙ pixel_on_line a y x) in
      out (omega (arith, s.0)) (omega (arith, s.1)) (omega (arith, s.1))

-- ---- strips that are moved

module _ {plan : Plan} {k pass : ℕ} {shape : BlockShape} {n m : ℕ} (placed : ShapedBlock plan k shape) (moves : StripMoves plan pass n m) where
  pub move_limited : order_of plan pass ≤ order_limit
  move_limited = order_limited_at plan placed.block.kept pass moves.pass_below

  -- What the first index of an edge or of a margin asks.
  pub edge_asked : {extent : ℕ} → extent ≡ shape_extent shape pass → EdgeFits (order_of plan pass) extent
  edge_asked e = record { limited = move_limited; extent_small = rw e (extent_small (shape_in_work placed) pass) }
