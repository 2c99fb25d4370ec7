-- Document 01's tables of tasks and needs beside the geometry of blocks: they say the same. The code goes by the geometry, pass by
-- pass.
use Rattle.std.specs.Prelude.{Bool, true, ◌&&◌, List, ◌≡◌, ℕ, suc, ◌<◌, min, Option, None, Some}
use Rattle.number.specs.Numbers.{all_below}
use Rattle.grid.specs.declared.Grid.{Grid}
use Rattle.grid.specs.Grid.{block_total, block_row, block_column, neighbour, goes_on}
use Rattle.tasks.specs.Tasks.{has_task, needs_of, all_done}
use Rattle.tasks.specs.Verdict.{broken_at}

-- The link of a pass is done at a neighbour; nothing is asked where there is none.
abbrev pub link_done_at : (ℕ → ℕ → Bool) → (pass : ℕ) → Option ℕ → Bool
link_done_at done pass None = true
link_done_at done pass (Some j) = done (suc pass) j

-- The link of a pass is done at the neighbour of block k that the pass comes from.
unfoldable pub link_done : Grid → (ℕ → ℕ → Bool) → (k pass : ℕ) → Bool
link_done grid done k pass = link_done_at done pass (neighbour grid k pass)

-- A link exists exactly where its pass goes on from the block: down where m < M-1, up where m > 0, right where n < N-1, left where
-- n > 0.
abbrev pub LinkExists : Type 0
LinkExists =
    (grid : Grid) (k pass : ℕ) → pass < 4
    → has_task grid (suc pass) (block_row grid k) (block_column grid k) ≡ goes_on grid k pass

-- The needs of a task after collect are done exactly where the block is collected and the links of the task's passes, those of the
-- first min t 4, are done at the neighbours that the passes come from.
abbrev pub NeedsDone : Type 0
NeedsDone =
    (done : ℕ → ℕ → Bool) (grid : Grid) (t k : ℕ) → t < 5
    → all_done done (needs_of grid (suc t) k) ≡ (done 0 k && all_below (link_done grid done k) (min (suc t) 4))

-- A neighbour whose mark has a wrong kind or a spare bit; M×N where it has not, or where there is none.
abbrev pub broken_in : Grid → List ℕ → Option ℕ → ℕ
broken_in grid marks None = block_total grid
broken_in grid marks (Some j) = broken_at grid marks j

-- The same of the neighbour of block k that a pass comes from.
unfoldable pub broken_beside : Grid → List ℕ → (k pass : ℕ) → ℕ
broken_beside grid marks k pass = broken_in grid marks (neighbour grid k pass)
