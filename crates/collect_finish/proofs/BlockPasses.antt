-- The block in the work array: its pixels before the passes, and one pass in place. Assumes nothing.
use mathlib.Core.Path.{◌≡◌, refl, ap, ◌∙◌}
use mathlib.Core.List.{List}
use Prim.Native.Nat.{ℕ, ◌+◌, ◌<◌}
use native.Mathlib.Numerals.{add-one}
use native.Mathlib.Omega.{arith}
use lib.IntN.{ℤ, pos}
use lib.ListN.{length, get_or, replicate}
use Rattle.plan.specs.declared.Plan.{Plan}
use Rattle.plan.specs.Sizes.{order_of}
use Rattle.plan.proofs.Record.{order_limited_at}
use Rattle.buffer.specs.Lists.{word_at}
use Rattle.buffer.specs.Pixel.{pixel, height_map}
use Rattle.buffer.specs.Copies.{stride_heights}
use Rattle.passes.specs.Filter.{Filter}
use Rattle.passes.specs.Passes.{passes_over}
use Rattle.passes.proofs.Passes.{filter_lines_reads}
use Rattle.axis.specs.Axis.{axis_of, direction_of, across}
use Rattle.filter.specs.Windows.{words_beside_window}
use Rattle.filter.proofs.Windows.{window_pass_passed}
use Rattle.grid.specs.Grid.{rows_of, columns_of, block_pixel_place, part_of}
use Rattle.grid.specs.declared.BlockShape.{BlockShape}
use Rattle.grid.specs.Shapes.{shape_of}
use Rattle.filter.specs.PlanFilters.{map_of}
use Rattle.collect_finish.specs.Work.{work_words, work_window, pixel_in, block_loaded, block_pass, BlockPassed, PassesInPlace}
use Rattle.collect_finish.specs.WorkFits.{BlockOf, ShapedBlock}
use Rattle.collect_finish.proofs.WorkPlaces.{shape_fits, window_fits}
use Rattle.collect_finish.proofs.WorkCells.{ClearOutside, BlockRead, block_read}

-- The work array holds the block after t passes of these filters over Z, with H past its edges.
pub record Holds (plan : Plan) (k : ℕ) (filters : ℕ → Filter) (H : ℕ → ℕ → ℕ → ℕ) (Z : ℕ → ℕ → ℕ) (t : ℕ) (work : List ℕ)
    : Type 0 where
  pub sized : length work ≡ work_words
  pub inside : (y x : ℕ) → y < rows_of plan.grid k → x < columns_of plan.grid k
      → word_at work (pixel_in y x) ≡ passes_over filters (rows_of plan.grid k) (columns_of plan.grid k) H Z t y x

-- ---- before the passes

-- The work array, which was blank, holds the pixels of a block of a map.
abbrev pub PixelsLoaded : Plan → BlockShape → List ℤ → List ℕ → Type 0
PixelsLoaded plan shape heights work =
    work ≡ block_loaded shape (stride_heights heights shape.start plan.grid.columns) (replicate work_words 0)

module _ {plan : Plan} {k : ℕ} {shape : BlockShape} (placed : ShapedBlock plan k shape) (heights : List ℤ) {work : List ℕ}
    (loads : PixelsLoaded plan shape heights work) where
  abbrev corner : ℕ
  corner = block_pixel_place plan.grid k 0 0

  pixel_is : (y x : ℕ) → stride_heights heights corner plan.grid.columns y x ≡ part_of plan.grid k (map_of plan heights) y x
  unfolding height_map block_pixel_place
  pixel_is y x = ap (λ z. pixel (get_or heights z (pos 0))) (omega arith)

  read : BlockRead (shape_of plan.grid k) (stride_heights heights corner plan.grid.columns) work
  unfolding shape_of
  read = block_read _ (shape_fits placed.block) (rw placed.shaped at loads)

  pub pixels_loaded : (y x : ℕ) → y < rows_of plan.grid k → x < columns_of plan.grid k
      → word_at work (pixel_in y x) ≡ part_of plan.grid k (map_of plan heights) y x
  unfolding shape_of
  pixels_loaded y x p q = read.inside y x p q ∙ pixel_is y x

  pub holds_start : (filters : ℕ → Filter) (H : ℕ → ℕ → ℕ → ℕ)
      → Holds plan k filters H (part_of plan.grid k (map_of plan heights)) 0 work
  unfolding passes_over
  holds_start filters H = record { sized = read.clear.sized; inside = pixels_loaded }

  -- Zeros stand around it.
  pub clear_start : ClearOutside (shape_of plan.grid k) work
  clear_start = read.clear

-- ---- one pass more

pub passes_in_place : PassesInPlace
unfolding block_pass
passes_in_place shape fits pass f limited work sized =
    let a = axis_of pass in
    let d = direction_of pass in
    let W = work_window shape.rows shape.columns in
    let passed =
    window_pass_passed pass W f f.order work
    (window_fits a d f.order _ (fits.tall, fits.rows_high) (fits.wide, fits.columns_high) limited sized)
    (words_beside_window a d W work) (record { near = λ l k h b e. refl; far = λ l k h b e. absurd (omega arith) }) in
    record { inside = passed.at; elsewhere = passed.elsewhere; length_kept = passed.length_kept }

module _ {plan : Plan} {k : ℕ} (block : BlockOf plan k) (filters : ℕ → Filter) (H : ℕ → ℕ → ℕ → ℕ) (Z : ℕ → ℕ → ℕ) (t : ℕ)
    (below : t < 4) (ordered : (filters t).order ≡ order_of plan t) (work : List ℕ) (holds : Holds plan k filters H Z t work) where
  abbrev h : ℕ
  h = rows_of plan.grid k

  abbrev w : ℕ
  w = columns_of plan.grid k

  abbrev after : List ℕ
  after = block_pass (shape_of plan.grid k) t (filters t) work

  pub pass_in_place : BlockPassed (shape_of plan.grid k) t (filters t) work after
  pass_in_place =
      passes_in_place _ (shape_fits block) t (filters t) (omega (arith, order_limited_at plan block.kept t below)) work
      holds.sized

  -- The words past the block's edge are what H has.
  pub holds_more : ((l i : ℕ) → l < across (axis_of t) h w → i < order_of plan t
      → words_beside_window (axis_of t) (direction_of t) (work_window h w) work l i ≡ H t l i)
      → Holds plan k filters H Z (t + 1) after
  unfolding passes_over shape_of
  holds_more near =
      rw (add-one t)
      record {
        sized = pass_in_place.length_kept ∙ holds.sized;
        inside =
            λ y x p q.
            pass_in_place.inside y x p q
            ∙ filter_lines_reads (axis_of t) (direction_of t) (filters t) h w _ (H t) _ _ (λ l i a b. near l i a (omega arith))
            holds.inside y x p q;
      }
