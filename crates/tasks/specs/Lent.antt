-- Inner: what inner functions ask of their callers.
use Rattle.std.specs.Prelude.{◌≡◌, true, ℕ, ◌≤◌, ◌<◌}
use Rattle.grid.specs.declared.Grid.{Grid}
use Rattle.grid.specs.Grid.{grid_kept, block_total}

-- The sizes are in range, and as many marks are lent as are needed.
pub record Lent (grid : Grid) (length : ℕ) : Type 0 where
  pub kept : grid_kept grid ≡ true
  pub enough : block_total grid ≤ length

-- The same, and block k is in the map.
pub record LentAt (grid : Grid) (length k : ℕ) : Type 0 where
  pub lent : Lent grid length
  pub inside : k < block_total grid
