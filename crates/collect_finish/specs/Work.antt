-- Inner: the work array of collect and finish, rows of padded_line words, the block at row and column order_limit,
-- and around it margins for the words past its edges.
use Rattle.std.specs.Prelude.{cond, List, ◌≢◌, ◌≡◌, ℕ, ◌+◌, ◌-◌, ◌*◌, ◌<◌, ◌≤◌, length}
use Rattle.word.specs.Word.{◌⊗◌}
use Rattle.plan.specs.declared.Plan.{Plan}
use Rattle.plan.specs.Rules.{order_limit}
use Rattle.plan.specs.PaddedLine.{padded_line}
use Rattle.buffer.specs.Lists.{word_at}
use Rattle.passes.specs.Filter.{Filter}
use Rattle.passes.specs.Passes.{filter_lines, passes_over}
use Rattle.axis.specs.Axis.{Axis, Direction, forward, backward, axis_of, direction_of, line_of}
use Rattle.filter.specs.declared.Window.{Window}
use Rattle.number.specs.Numbers.{row_major}
use Rattle.filter.specs.Windows.{window_written, words_beside_window, window_pass}
use Rattle.filter.specs.FilterWords.{gains_first_filters}
use Rattle.grid.specs.Grid.{goes_on, side_limit}
use Rattle.plan.specs.Sizes.{order_of}
use Rattle.grid.specs.declared.BlockShape.{BlockShape}
use Rattle.grid.specs.Shapes.{shape_of, shape_extent, shape_lines}
use Rattle.task_words.specs.ScaledEdges.{scaled_edges}
use Rattle.strips.specs.declared.Strip.{Strip}
use Rattle.strips.specs.StripRecord.{strip_read, edge_start}

-- The words of a row.
abbrev pub work_stride : ℕ
work_stride = padded_line

-- The words of the array.
abbrev pub work_words : ℕ
work_words = work_stride * work_stride

-- The window that a block of h rows and w columns takes.
abbrev pub work_window : (h w : ℕ) → Window
work_window h w = record { stride = work_stride; top = order_limit; left = order_limit; height = h; width = w }

-- A block that the array holds.
pub record ShapeFits (shape : BlockShape) : Type 0 where
  pub tall : 0 < shape.rows
  pub wide : 0 < shape.columns
  pub rows_high : shape.rows ≤ side_limit
  pub columns_high : shape.columns ≤ side_limit

-- The place of a pixel of the block.
abbrev pub pixel_in : ℕ → ℕ → ℕ
pixel_in y x = row_major work_stride (order_limit + y) (order_limit + x)

-- A place that is no pixel of the block.
abbrev pub OutsideBlock : BlockShape → ℕ → Type 0
OutsideBlock shape z = (y x : ℕ) → y < shape.rows → x < shape.columns → z ≢ pixel_in y x

-- The words of the block in the array.
abbrev pub block_words : List ℕ → ℕ → ℕ → ℕ
block_words work y x = word_at work (pixel_in y x)

-- The first word of the block.
abbrev pub work_corner : ℕ
work_corner = pixel_in 0 0

-- The array after the block's words have been put into it.
abbrev pub block_loaded : BlockShape → (words : ℕ → ℕ → ℕ) → List ℕ → List ℕ
block_loaded shape words work =
    window_written (work_window shape.rows shape.columns) words shape.rows work

-- The place of an index of line l of the block, counted from the array's edge.
abbrev pub work_place : Axis → ℕ → ℕ → ℕ
work_place a l i = line_of a (row_major work_stride) (order_limit + l) i

-- ---- margins

-- The first index of the words past the edge that a pass comes from, of a block of n places along the pass.
abbrev pub margin_start : Direction → (order n : ℕ) → ℕ
margin_start forward order n = order_limit - order
margin_start backward order n = order_limit + n

-- The first index of the margin of a pass.
abbrev pub margin_first : Plan → BlockShape → ℕ → ℕ
margin_first plan shape pass = margin_start (direction_of pass) (order_of plan pass) (shape_extent shape pass)

-- The place of line l and place i of the margin of a pass.
abbrev pub margin_place : Plan → BlockShape → ℕ → ℕ → ℕ → ℕ
margin_place plan shape pass l i = work_place (axis_of pass) l (margin_first plan shape pass + i)

-- A place that is none of the margin of a pass.
abbrev pub OutsideMargin : Plan → BlockShape → (pass z : ℕ) → Type 0
OutsideMargin plan shape pass z =
    (l i : ℕ) → l < shape_lines shape pass → i < order_of plan pass → z ≢ margin_place plan shape pass l i

-- The margin of a pass is 0.
pub record MarginClear (plan : Plan) (shape : BlockShape) (pass : ℕ) (work : List ℕ) : Type 0 where
  pub at : (l i : ℕ) → l < shape_lines shape pass → i < order_of plan pass
      → word_at work (margin_place plan shape pass l i) ≡ 0

-- The array after a strip, times a gain, has gone into the margin of a pass.
pub record MarginLoaded (plan : Plan) (shape : BlockShape) (pass gain : ℕ) (strip : Strip) (strips before after : List ℕ)
    : Type 0 where
  pub length_kept : length after ≡ length before
  pub at : (l i : ℕ) → l < shape_lines shape pass → i < order_of plan pass
      → word_at after (margin_place plan shape pass l i) ≡ gain ⊗ strip_read strip strips l i
  pub elsewhere : (z : ℕ) → OutsideMargin plan shape pass z → word_at after z ≡ word_at before z

-- ---- passes

-- The words past line l of the block on the side where a pass comes from, nearest first, as the array has them: a pass
-- reads as many as its order.
abbrev pub margin_words : BlockShape → (pass : ℕ) → List ℕ → ℕ → ℕ → ℕ
margin_words shape pass work =
    words_beside_window (axis_of pass) (direction_of pass) (work_window shape.rows shape.columns) work

-- The array after a pass of a filter over the block, the words of the margin standing past the block's edge: the pass's
-- word at each pixel of the block, and what stood there at every other place.
unfoldable pub block_pass : BlockShape → ℕ → Filter → List ℕ → List ℕ
block_pass shape pass f work = window_pass pass (work_window shape.rows shape.columns) f.order f work

-- The same place by place.
pub record BlockPassed (shape : BlockShape) (pass : ℕ) (f : Filter) (before after : List ℕ) : Type 0 where
  pub inside : (y x : ℕ) → y < shape.rows → x < shape.columns
      → block_words after y x
      ≡ filter_lines (axis_of pass) (direction_of pass) f (shape_extent shape pass) (margin_words shape pass before)
      (block_words before) y x
  pub elsewhere : (z : ℕ) → OutsideBlock shape z → word_at after z ≡ word_at before z
  pub length_kept : length after ≡ length before

-- This holds of every pass of an allowed order over a block that the array holds.
abbrev pub PassesInPlace : Type 0
PassesInPlace =
    (shape : BlockShape) → ShapeFits shape → (pass : ℕ) (f : Filter) → f.order ≤ order_limit → (work : List ℕ)
    → length work ≡ work_words → BlockPassed shape pass f work (block_pass shape pass f work)

-- The array after the first t passes of finish: at each pixel of the block their word over the words that stood there,
-- all gains in the first pass and the strips past the block's edges times the gains of the passes after their own; at
-- every other place what stood there, but for the margins of these passes, of which nothing is said.
pub record PassesRun (plan : Plan) (k : ℕ) (shape : BlockShape) (strips : List ℕ) (t : ℕ) (before after : List ℕ) : Type 0
  where
    pub inside : (y x : ℕ) → y < shape.rows → x < shape.columns
        → block_words after y x
        ≡ passes_over (gains_first_filters plan) shape.rows shape.columns (scaled_edges plan strips k 3) (block_words before)
        t y x
    pub elsewhere : (z : ℕ) → OutsideBlock shape z → ((pass : ℕ) → pass < t → OutsideMargin plan shape pass z)
        → word_at after z ≡ word_at before z
    pub length_kept : length after ≡ length before

-- ---- strips

-- The first index of the strip of a pass.
abbrev pub edge_first : Plan → BlockShape → ℕ → ℕ
edge_first plan shape pass = edge_start (direction_of pass) (order_of plan pass) (shape_extent shape pass)

-- Block k's strip of a pass as the array has it, times a gain, 0 where no neighbour needs it.
unfoldable pub work_edge : Plan → (k pass gain : ℕ) → List ℕ → ℕ → ℕ → ℕ
work_edge plan k pass gain work line place =
    cond (goes_on plan.grid k pass)
    (gain ⊗ word_at work (work_place (axis_of pass) line (edge_first plan (shape_of plan.grid k) pass + place)))
    0
