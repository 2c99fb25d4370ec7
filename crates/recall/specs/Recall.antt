-- Which tasks a recall of a block clears: by the table of needs, and the same by place. Document 02, CR 8.
use Rattle.std.specs.Prelude.{◌≡◌, Bool, true, false, not, ◌&&◌, cond, ℕ, ◌<◌, eqb, leb}
use mathlib.Core.List.{Memᴰ}
use Rattle.grid.specs.declared.Grid.{Grid}
use Rattle.grid.specs.Grid.{block_total, block_row, block_column}
use Rattle.tasks.specs.Tasks.{BlockTask, exists, needs_of, all_done}

-- Task t of block j is one of block k's tasks, or has among its needs a task that needs block k: it needs the block, directly
-- or through others, whatever is marked between.
pub data NeedsBlock (grid : Grid) (k : ℕ) : ℕ → ℕ → Type 0 where
  its_own : (t : ℕ) → exists grid t k ≡ true → NeedsBlock grid k t k
  through : (t j : ℕ) → exists grid t j ≡ true → (need : BlockTask) → Memᴰ need (needs_of grid t j)
      → NeedsBlock grid k need.task need.block → NeedsBlock grid k t j

-- The same of a task that exists, by place alone: collect of block k; the down links of its column from its row on; all up
-- links of its column; all right links from its column on; all left links; all finishes.
unfoldable pub reaches : Grid → ℕ → ℕ → ℕ → Bool
reaches grid k t j =
    cond (eqb t 0) (eqb j k)
    (cond (eqb t 1) (eqb (block_column grid j) (block_column grid k) && leb (block_row grid k) (block_row grid j))
    (cond (eqb t 2) (eqb (block_column grid j) (block_column grid k))
    (cond (eqb t 3) (leb (block_column grid k) (block_column grid j))
    true)))

-- A recall of block k clears task t of block j.
unfoldable pub clears : Grid → ℕ → ℕ → ℕ → Bool
clears grid k t j = exists grid t j && reaches grid k t j

-- What was done and is not cleared by a recall of block k.
unfoldable pub done_without : Grid → (ℕ → ℕ → Bool) → ℕ → ℕ → ℕ → Bool
done_without grid done k t j = done t j && not (clears grid k t j)

-- A recall clears exactly the tasks that need the block, for every grid, block of it and task.
abbrev pub ClearsWhatNeedsIt : Type 0
ClearsWhatNeedsIt =
    (grid : Grid) (k t j : ℕ) → k < block_total grid
    → (NeedsBlock grid k t j → clears grid k t j ≡ true) × (clears grid k t j ≡ true → NeedsBlock grid k t j)

-- A task that exists and is not cleared has only needs that are not cleared.
abbrev pub SparedNeedsSpared : Type 0
SparedNeedsSpared =
    (grid : Grid) (k t j : ℕ) → exists grid t j ≡ true → clears grid k t j ≡ false
    → all_done (λ u i. not (clears grid k u i)) (needs_of grid t j) ≡ true
