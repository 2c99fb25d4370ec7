-- The tally: with all tasks done it is two for each pixel; and the bounds that keep the code's sums and products from wrapping.
-- Assumes nothing.
use mathlib.Core.Path.{◌≡◌, ap₂, ◌∙◌}
use mathlib.Core.Bool.{Bool}
use Prim.Native.Nat.{ℕ, zero, suc, ◌+◌, ◌*◌, ◌<◌, ◌≤◌, min}
use native.Mathlib.Omega.{arith}
use native.Mathlib.Nat.{mul-le-mul, le_trans}
use Rattle.number.specs.Numbers.{total, one}
use Rattle.number.proofs.Sums.{one_most, total_same, total_affine}
use Rattle.grid.specs.declared.Grid.{Grid}
use Rattle.grid.specs.Grid.{block_count, block_extent, block_rows_of, block_columns_of, block_total, block_number, block_row, block_column, block_height, block_width, block_area}
use Rattle.grid.proofs.Extents.{extent_in_side, length_covered}
use Rattle.grid.proofs.Blocks.{row_of_number, column_of_number}
use Rattle.tasks.specs.Tasks.{has_task}
use Rattle.tasks.proofs.Existence.{exists_at}
use Rattle.tasks.proofs.Needs.{All}
use Rattle.tasks.proofs.Counting.{over_blocks}
use Rattle.report.specs.Tally.{tally_at, tally}

-- The extents of the first i blocks along a length n.
extents : (n b i : ℕ) → total (block_extent n b) i ≡ min (i * b) n
unfolding total block_extent
extents n b zero = omega arith
extents n b (suc i) = let e = extents n b i in omega arith

-- The blocks share out the length.
extents_whole : (n b : ℕ) → 1 ≤ b → total (block_extent n b) (block_count n b) ≡ n
extents_whole n b h = extents n b (block_count n b) ∙ omega (arith, length_covered n b h)

times : (c : ℕ) (f : ℕ → ℕ) (n : ℕ) → total (λ i. c * f i) n ≡ c * total f n
times c f n = total_same (λ i. c * f i) (λ i. 0 + c * f i) n (λ i h. omega arith) ∙ total_affine 0 c f n ∙ omega arith

tally_both : (grid : Grid) (done : ℕ → ℕ → Bool) → All grid done → (m n : ℕ) → m < block_rows_of grid → n < block_columns_of grid
    → tally_at grid done (block_number grid m n) ≡ (2 * block_height grid m) * block_width grid n
unfolding tally_at block_area has_task
tally_both grid done all m n l k =
    rw (
      all 0 (block_number grid m n) (exists_at grid m n 0 l k),
      all 5 (block_number grid m n) (exists_at grid m n 5 l k),
      row_of_number grid m n k,
      column_of_number grid m n k,
    )
    (omega arith)

-- With all done the tally is two for each pixel.
pub tally_whole : (grid : Grid) (done : ℕ → ℕ → Bool) → 1 ≤ grid.side → All grid done
    → tally grid done ≡ 2 * (grid.rows * grid.columns)
unfolding tally
tally_whole grid done side all =
    over_blocks grid _ _ (tally_both grid done all)
    ∙ total_same _ (λ m. (2 * grid.columns) * block_height grid m) (block_rows_of grid)
    (λ m l.
    times (2 * block_height grid m) (block_width grid) (block_columns_of grid)
    ∙ rw (extents_whole grid.columns grid.side side) (omega arith))
    ∙ times (2 * grid.columns) (block_height grid) (block_rows_of grid)
    ∙ rw (extents_whole grid.rows grid.side side) (omega arith)

-- Only tasks 0 and 5 of blocks of the map are tallied.
pub tally_same : (grid : Grid) (p q : ℕ → ℕ → Bool) → ((t k : ℕ) → t < 6 → k < block_total grid → p t k ≡ q t k)
    → tally grid p ≡ tally grid q
unfolding tally tally_at
tally_same grid p q same =
    total_same _ _ (block_total grid)
    (λ k l. ap₂ (λ x y. (one x + one y) * block_area grid k) (same 0 k (omega arith) l) (same 5 k (omega arith) l))

-- An area and a block's tally are small.
module _ (grid : Grid) (side : grid.side ≤ 32) (k : ℕ) where
  pub area_most : block_area grid k ≤ 1024
  unfolding block_area
  area_most =
      mul-le-mul (le_trans (extent_in_side grid.rows grid.side (block_row grid k)) side)
      (le_trans (extent_in_side grid.columns grid.side (block_column grid k)) side)

  pub tally_at_most : (done : ℕ → ℕ → Bool) → tally_at grid done k ≤ 2048
  unfolding tally_at
  tally_at_most done = mul-le-mul {n₂ = 2} {m₂ = 1024} (omega (arith, one_most (done 0 k), one_most (done 5 k))) area_most
