-- The tally: the area of a block for its task 0 done, and once more for its task 5 done.
use Rattle.std.specs.Prelude.{Bool, ℕ, ◌+◌, ◌*◌}
use Rattle.number.specs.Numbers.{total, one}
use Rattle.grid.specs.declared.Grid.{Grid}
use Rattle.grid.specs.Grid.{block_total, block_area}

-- What block k adds to the tally.
unfoldable pub tally_at : Grid → (ℕ → ℕ → Bool) → ℕ → ℕ
tally_at grid done k = (one (done 0 k) + one (done 5 k)) * block_area grid k

-- The tally of all blocks.
unfoldable pub tally : Grid → (ℕ → ℕ → Bool) → ℕ
tally grid done = total (tally_at grid done) (block_total grid)
