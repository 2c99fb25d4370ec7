-- The block's pixels in the work array: their places, and the array once they are put in. Assumes nothing.
use mathlib.Core.Path.{◌≡◌, ap, ◌∙◌, fun_ext}
use mathlib.Core.List.{List}
use Prim.Native.Nat.{ℕ, ◌<◌}
use native.Mathlib.Omega.{arith}
use lib.ListN.{length, replicate, length-replicate}
use Rattle.buffer.specs.Lists.{word_at}
use Rattle.buffer.specs.Copies.{stride_place, stride_written}
use Rattle.buffer.specs.Written.{rectangle_written}
use Rattle.buffer.proofs.Listed.{zeros_at}
use Rattle.axis.specs.Axis.{columns, forward}
use Rattle.filter.specs.Windows.{window_written}
use Rattle.filter.proofs.WindowWords.{window_written_law}
use Rattle.grid.specs.declared.BlockShape.{BlockShape}
use Rattle.collect_finish.specs.Work.{work_stride, work_words, work_corner, work_window, pixel_in, OutsideBlock, ShapeFits, block_loaded}
use Rattle.collect_finish.proofs.WorkPlaces.{window_fits}

-- The array is 0 outside the block.
pub record ClearOutside (shape : BlockShape) (work : List ℕ) : Type 0 where
  pub sized : length work ≡ work_words
  pub around : (z : ℕ) → OutsideBlock shape z → word_at work z ≡ 0

-- The array holds the block's words, and zeros around them.
pub record BlockRead (shape : BlockShape) (words : ℕ → ℕ → ℕ) (work : List ℕ) : Type 0 where
  pub clear : ClearOutside shape work
  pub inside : (y x : ℕ) → y < shape.rows → x < shape.columns → word_at work (pixel_in y x) ≡ words y x

-- The array as it begins.
pub blank_sized : length {A = ℕ} (replicate work_words 0) ≡ work_words
blank_sized = length-replicate {A = ℕ} work_words 0

-- A rectangle of rows from the block's first word on is the block.
pub cell_is : (y x : ℕ) → stride_place work_corner work_stride y x ≡ pixel_in y x
cell_is y x = omega arith

pub cells_written : (h w : ℕ) (words : ℕ → ℕ → ℕ) (work : List ℕ)
    → stride_written work_corner work_stride w words h work ≡ window_written (work_window h w) words h work
cells_written h w words work =
    ap (λ place. rectangle_written place words w h work) (fun_ext λ y. fun_ext λ x. cell_is y x)

-- An array that was blank.
pub block_read : (shape : BlockShape) {words : ℕ → ℕ → ℕ} {work : List ℕ} → ShapeFits shape
    → work ≡ block_loaded shape words (replicate work_words 0) → BlockRead shape words work
block_read shape {words} fits e =
    let written =
    window_written_law (replicate work_words 0)
    (window_fits columns forward 0 _ (fits.tall, fits.rows_high) (fits.wide, fits.columns_high) (omega arith) blank_sized)
    words in
    rw e
    record {
      clear =
          record {
            sized = written.length_kept ∙ blank_sized;
            around = λ z out. written.elsewhere z out ∙ zeros_at work_words z;
          };
      inside = written.at;
    }
