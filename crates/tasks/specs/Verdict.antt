-- What the marks say to a call of task t at block k: rows 8 to 11 of the table of refused calls; row 9 for the report
-- too.
use Rattle.std.specs.Prelude.{Bool, not, cond, List, [], ◌∷◌, ◌++◌, ℕ, min, ltb}
use Rattle.refusal.specs.Table.{Row, ◌at◌when◌}
use Rattle.buffer.specs.Lists.{list_of}
use Rattle.grid.specs.declared.Grid.{Grid}
use Rattle.grid.specs.Grid.{block_total}
use Rattle.tasks.specs.Tasks.{BlockTask, exists, needs_of, all_done}
use Rattle.tasks.specs.Marks.{is_marked, mark_valid_at}

-- The blocks of some tasks.
unfoldable pub blocks_of : List BlockTask → List ℕ
blocks_of [] = []
blocks_of (need ∷ needs) = need.block ∷ blocks_of needs

-- The blocks whose marks the call looks at: its own and those in its needs.
unfoldable pub looked_at : Grid → ℕ → ℕ → List ℕ
looked_at grid t k = k ∷ blocks_of (needs_of grid t k)

-- The blocks whose marks the report looks at: all.
unfoldable pub all_blocks : Grid → List ℕ
all_blocks grid = list_of (λ k. k) (block_total grid)

-- Block k where its mark has a wrong kind or a spare bit; M×N where not.
abbrev pub broken_at : Grid → List ℕ → ℕ → ℕ
broken_at grid marks k = cond (mark_valid_at grid marks k) (block_total grid) k

-- The least of some blocks whose mark has a wrong kind or a spare bit; M×N where there is none.
unfoldable pub least_broken_of : Grid → List ℕ → List ℕ → ℕ
least_broken_of grid marks [] = block_total grid
least_broken_of grid marks (k ∷ ks) = min (broken_at grid marks k) (least_broken_of grid marks ks)

-- The least such block that the call looks at.
unfoldable pub least_broken : Grid → List ℕ → ℕ → ℕ → ℕ
least_broken grid marks t k = least_broken_of grid marks (looked_at grid t k)

-- Refused 9 at the least broken block of those looked at; not due where that is M×N, so that none is broken.
abbrev pub broken_row : Grid → (least : ℕ) → Row
broken_row grid least = 9 at least when ltb least (block_total grid)

-- What a call of task t at block k is refused by: 8 where there is no such block or task, 10 where the task is done, 11
-- where a need of it is not. The tests of marks, if any, stand between 8 and 10.
abbrev pub task_rows : Grid → (done : ℕ → ℕ → Bool) → (broken : List Row) → ℕ → ℕ → List Row
task_rows grid done broken t k =
    8 at 0 when not (exists grid t k)
    ∷ (broken
    ++ (10 at 0 when done t k
    ∷ 11 at 0 when not (all_done done (needs_of grid t k))
    ∷ []))

-- What the marks say to the call: 8 no such block or task, 9 at the least broken mark that is looked at, 10 marked, 11
-- a need that is not.
unfoldable pub verdict_rows : Grid → List ℕ → ℕ → ℕ → List Row
verdict_rows grid marks t k =
    task_rows grid (is_marked marks) (broken_row grid (least_broken grid marks t k) ∷ []) t k

-- The same by what is done alone, with no look at marks, so that no mark can be broken.
unfoldable pub done_rows : Grid → (ℕ → ℕ → Bool) → ℕ → ℕ → List Row
done_rows grid done t k = task_rows grid done [] t k
