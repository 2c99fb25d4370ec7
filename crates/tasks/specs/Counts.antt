-- How many tasks are done.
use Rattle.std.specs.Prelude.{Bool, ℕ}
use Rattle.number.specs.Numbers.{total, one}
use Rattle.grid.specs.declared.Grid.{Grid}
use Rattle.grid.specs.Grid.{block_total}

-- 1 where task t of block k is done.
abbrev pub one_at : (ℕ → ℕ → Bool) → ℕ → ℕ → ℕ
one_at done k t = one (done t k)

-- How many of tasks 0 to 5 are done at block k.
unfoldable pub done_at : (ℕ → ℕ → Bool) → ℕ → ℕ
done_at done k = total (one_at done k) 6

-- How many are done at the M×N blocks.
unfoldable pub done_count : Grid → (ℕ → ℕ → Bool) → ℕ
done_count grid done = total (done_at done) (block_total grid)
