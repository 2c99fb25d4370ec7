-- A block written into a row-major list: its pixels read as they were written, and no other word changes.
-- Assumes nothing.
use mathlib.Core.Path.{◌≡◌}
use mathlib.Core.List.{List}
use mathlib.Core.Logic.{◌≢◌}
use Prim.Native.Nat.{ℕ, ◌≤◌, ◌<◌}
use native.Mathlib.Omega.{arith}
use lib.ListN.{length}
use Rattle.plan.specs.declared.Plan.{Plan}
use Rattle.plan.specs.Sizes.{needed_pixels}
use Rattle.buffer.specs.Lists.{word_at}
use Rattle.grid.specs.Grid.{rows_of, columns_of, block_pixel_place}
use Rattle.task_words.specs.Writes.{block_written}
use Rattle.buffer.proofs.Copies.{rectangle_length, rectangle_at, rectangle_other}
use Rattle.grid.proofs.Blocks.{pixel_below, same_pixel}

module _ (plan : Plan) (k : ℕ) (words : ℕ → ℕ → ℕ) where
  pub block_length : (output : List ℕ) → length (block_written plan k words output) ≡ length output
  unfolding block_written
  block_length output = rectangle_length _ _ _ _ output

  -- Each pixel of the block reads as it was written,
  pub block_holds : (output : List ℕ) (y x : ℕ) → needed_pixels plan ≤ length output → y < rows_of plan.grid k
      → x < columns_of plan.grid k
      → word_at (block_written plan k words output) (block_pixel_place plan.grid k y x) ≡ words y x
  unfolding block_written
  block_holds output y x long a b =
      rectangle_at (block_pixel_place plan.grid k) words (columns_of plan.grid k) (rows_of plan.grid k) output
      (λ y x v u c d e f same. let s = same_pixel plan.grid k y x k v u c d e f same in (s.1, s.2))
      (λ y x c d. omega (arith, pixel_below plan.grid k y x c d)) y x a b

  -- and every other word is as it was.
  pub block_outside : (output : List ℕ) (q : ℕ)
      → ((y x : ℕ) → y < rows_of plan.grid k → x < columns_of plan.grid k → q ≢ block_pixel_place plan.grid k y x)
      → word_at (block_written plan k words output) q ≡ word_at output q
  unfolding block_written
  block_outside output q out =
      rectangle_other (block_pixel_place plan.grid k) words (columns_of plan.grid k) (rows_of plan.grid k) output q out
