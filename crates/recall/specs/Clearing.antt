-- Inner: what the code goes by where it clears marks.
use Rattle.std.specs.Prelude.{◌≡◌, true, cond, List, ℕ, ◌<◌, ltb, length}
use Rattle.grid.specs.declared.Grid.{Grid}
use Rattle.grid.specs.declared.Position.{Position}
use Rattle.grid.specs.Grid.{block_total}
use Rattle.tasks.specs.Marks.{mark_valid_at}
use Rattle.tasks.specs.Lent.{LentAt}

-- The first task that a recall reaches at a block, by where the two blocks stand: it reaches every later one too.
unfoldable pub first_reached : (recalled at : Position) → ℕ
first_reached recalled at =
    cond (ltb at.column recalled.column) 4
    (cond (ltb recalled.column at.column) 3
    (cond (ltb at.row recalled.row) 2
    (cond (ltb recalled.row at.row) 1
    0)))

-- The marks are enough and none is broken, and block k is in the map.
pub record Clearable (grid : Grid) (marks : List ℕ) (k : ℕ) : Type 0 where
  pub lent_at : LentAt grid (length marks) k
  pub valid : (j : ℕ) → j < block_total grid → mark_valid_at grid marks j ≡ true
