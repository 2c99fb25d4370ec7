-- How many tasks exist, and when all are done. Assumes nothing.
use mathlib.Core.Path.{◌≡◌, refl, ap, ◌∙◌}
use mathlib.Core.Bool.{Bool, true, false}
use Prim.Native.Nat.{ℕ, zero, suc, ◌+◌, ◌-◌, ◌*◌, ◌<◌, ◌≤◌}
use native.Mathlib.Omega.{arith}
use lib.Dec.{ltb}
use Rattle.number.specs.Numbers.{total, one}
use Rattle.number.proofs.Tests.{same_test}
use Rattle.number.proofs.Sums.{one_most, total_same, total_le, total_most, total_tight, total_zero, total_affine, total_add, total_grid, count_not_first, count_not_last}
use Rattle.grid.specs.declared.Grid.{Grid}
use Rattle.grid.specs.Grid.{block_rows_of, block_columns_of, block_total, block_number}
use Rattle.tasks.specs.Tasks.{has_task, exists, nothing_done}
use Rattle.tasks.specs.Counts.{one_at, done_at, done_count}
use Rattle.tasks.proofs.Existence.{exists_at, exists_block, exists_task}
use Rattle.tasks.proofs.Needs.{All}

-- A sum over all blocks, row after row.
pub over_blocks : (grid : Grid) (f : ℕ → ℕ) (g : ℕ → ℕ → ℕ)
    → ((m n : ℕ) → m < block_rows_of grid → n < block_columns_of grid → f (block_number grid m n) ≡ g m n)
    → total f (block_total grid) ≡ total (λ m. total (g m) (block_columns_of grid)) (block_rows_of grid)
unfolding block_number
over_blocks grid f g e =
    total_grid f (block_rows_of grid) (block_columns_of grid)
    ∙ total_same _ _ (block_rows_of grid) (λ m h. total_same _ _ (block_columns_of grid) (λ n l. e m n h l))

-- The links of one axis at row, or column, m of M: one but at the first, one but at the last.
abbrev links : ℕ → ℕ → ℕ
links M m = one (ltb 0 m) + one (ltb (m + 1) M)

count_links : (M : ℕ) → total (links M) M ≡ 2 * (M - 1)
count_links M =
    total_add (λ i. one (ltb 0 i)) (λ i. one (ltb (i + 1) M)) M
    ∙ omega (arith, count_not_first M, count_not_last M)

tasks_at : (grid : Grid) (m n : ℕ) → m < block_rows_of grid → n < block_columns_of grid
    → done_at (exists grid) (block_number grid m n) ≡ (2 + links (block_rows_of grid) m) + 1 * links (block_columns_of grid) n
unfolding done_at total has_task
tasks_at grid m n h l =
    rw (
      exists_at grid m n 0 h l,
      exists_at grid m n 1 h l,
      exists_at grid m n 2 h l,
      exists_at grid m n 3 h l,
      exists_at grid m n 4 h l,
      exists_at grid m n 5 h l,
    )
    (omega arith)

-- The number of tasks of M by N blocks.
pub task_count_law : (grid : Grid) → 1 ≤ block_rows_of grid → 1 ≤ block_columns_of grid
    → done_count grid (exists grid) ≡ 6 * block_total grid - 2 * block_rows_of grid - 2 * block_columns_of grid
unfolding done_count
task_count_law grid p q =
    over_blocks grid (done_at (exists grid)) _ (tasks_at grid) ∙ sums (block_rows_of grid) (block_columns_of grid) p q
  where
    take_one : (n : ℕ) → suc n - 1 ≡ n
    take_one n = omega arith

    all_links : (M N : ℕ) → 1 ≤ M → 1 ≤ N → M * (2 * N + 2 * (N - 1)) + N * (2 * (M - 1)) ≡ 6 * (M * N) - 2 * M - 2 * N
    all_links zero N p q = absurd (omega arith)
    all_links (suc M) zero p q = absurd (omega arith)
    all_links (suc M) (suc N) p q = rw (take_one M, take_one N) (omega arith)

    sums : (M N : ℕ) → 1 ≤ M → 1 ≤ N
        → total (λ m. total (λ n. (2 + links M m) + 1 * links N n) N) M ≡ 6 * (M * N) - 2 * M - 2 * N
    sums M N p q =
        total_same _ (λ m. (2 * N + 2 * (N - 1)) + N * links M m) M
        (λ m h. total_affine (2 + links M m) 1 (links N) N ∙ rw (count_links N) (omega arith))
        ∙ total_affine (2 * N + 2 * (N - 1)) N (links M) M
        ∙ rw (count_links M) (all_links M N p q)

-- Of tasks 0 to 5 of blocks of the map, only those that exist are done.
abbrev pub Only : Grid → (ℕ → ℕ → Bool) → Type 0
Only grid done = (t k : ℕ) → t < 6 → k < block_total grid → done t k ≡ true → exists grid t k ≡ true

one_le : (a b : Bool) → (a ≡ true → b ≡ true) → one a ≤ one b
one_le true b h = rw (h refl) (omega arith)
one_le false b h = omega arith

one_same : (a b : Bool) → one a ≡ one b → b ≡ true → a ≡ true
one_same true b e h = refl
one_same false true e h = absurd (omega arith)
one_same false false e h = h

module _ (grid : Grid) (done : ℕ → ℕ → Bool) (only : Only grid done) where
  at_le : (k : ℕ) → k < block_total grid → (t : ℕ) → t < 6 → one_at done k t ≤ one_at (exists grid) k t
  at_le k h t l = one_le (done t k) (exists grid t k) (only t k l h)

  block_le : (k : ℕ) → k < block_total grid → done_at done k ≤ done_at (exists grid) k
  unfolding done_at
  block_le k h = total_le (one_at done k) (one_at (exists grid) k) 6 (at_le k h)

  pub count_all : All grid done → done_count grid done ≡ done_count grid (exists grid)
  unfolding done_count done_at
  count_all all =
      total_same _ _ (block_total grid)
      (λ k h. total_same _ _ 6 (λ t l. ap one (same_test (done t k) (exists grid t k) (only t k l h) (all t k))))

  -- As many as exist are done only if all are.
  pub all_of_count : done_count grid done ≡ done_count grid (exists grid) → All grid done
  unfolding done_count done_at
  all_of_count e t k x =
      let l = exists_task grid t k x in
      let h = exists_block grid t k x in
      one_same (done t k) (exists grid t k)
      (total_tight (one_at done k) (one_at (exists grid) k) 6 (at_le k h)
      (total_tight (done_at done) (done_at (exists grid)) (block_total grid) block_le e k h) t l)
      x

  -- Never more are done than exist.
  pub count_most : done_count grid done ≤ done_count grid (exists grid)
  unfolding done_count
  count_most = total_le (done_at done) (done_at (exists grid)) (block_total grid) block_le

-- Only tasks 0 to 5 of blocks of the map are counted.
pub count_same : (grid : Grid) (p q : ℕ → ℕ → Bool) → ((t k : ℕ) → t < 6 → k < block_total grid → p t k ≡ q t k)
    → done_count grid p ≡ done_count grid q
unfolding done_count done_at
count_same grid p q same = total_same _ _ (block_total grid) (λ k h. total_same _ _ 6 (λ t l. ap one (same t k l h)))

pub count_nothing : (grid : Grid) → done_count grid nothing_done ≡ 0
unfolding done_count done_at
count_nothing grid = total_zero _ (block_total grid) (λ k h. total_zero _ 6 (λ t l. refl))

pub done_at_most : (done : ℕ → ℕ → Bool) (k : ℕ) → done_at done k ≤ 6
unfolding done_at
done_at_most done k = total_most (one_at done k) 1 6 (λ t h. one_most (done t k))
