-- Inner: what the sums over all blocks are.
use Rattle.std.specs.Prelude.{◌≡◌, Bool, ℕ}
use Rattle.grid.specs.declared.Grid.{Grid}
use Rattle.tasks.specs.Counts.{done_count}
use Rattle.report.specs.declared.Sums.{Sums}
use Rattle.report.specs.Tally.{tally}

-- The sums where `done` tells what is done.
pub record Summed (grid : Grid) (done : ℕ → ℕ → Bool) (sums : Sums) : Type 0 where
  pub marked : sums.marked ≡ done_count grid done
  pub tally : sums.tally ≡ tally grid done
