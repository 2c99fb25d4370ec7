-- The tasks of the blocks of a map: which exist, what each needs, and which are ready. There are M rows and N columns of blocks
-- (`block_rows_of`, `block_columns_of`); block k is block (m, n). What is done is a test of a task number and a block number.
use Rattle.std.specs.Prelude.{Bool, true, false, not, ◌&&◌, ◌||◌, cond, List, [], ◌∷◌, ◌++◌, ℕ, ◌+◌, ◌-◌, ltb, eqb}
use Rattle.grid.specs.declared.Grid.{Grid}
use Rattle.grid.specs.Grid.{block_rows_of, block_columns_of, block_total, block_row, block_column}

-- The column "exists" of the table of tasks, for the block (m, n): 0 collect and 5 finish always, the down link where
-- m < M-1, the up link where m > 0, the right link where n < N-1, the left link where n > 0.
unfoldable pub has_task : Grid → ℕ → ℕ → ℕ → Bool
has_task grid t m n =
    cond (eqb t 0) true
    (cond (eqb t 1) (ltb (m + 1) (block_rows_of grid))
    (cond (eqb t 2) (ltb 0 m)
    (cond (eqb t 3) (ltb (n + 1) (block_columns_of grid))
    (cond (eqb t 4) (ltb 0 n)
    (eqb t 5)))))

-- Task t exists at block k: there is such a block, and it has the task.
unfoldable pub exists : Grid → ℕ → ℕ → Bool
exists grid t k = ltb k (block_total grid) && has_task grid t (block_row grid k) (block_column grid k)

-- A task of a block: what a call names, and what a need is.
pub record BlockTask : Type 0 where
  pub task : ℕ
  pub block : ℕ

-- One need, or none where the neighbour lies beyond the map.
abbrev pub need_if : Bool → ℕ → ℕ → List BlockTask
need_if true t k = record { task = t; block = k } ∷ []
need_if false t k = []

-- Own 0.
abbrev pub own_collect : ℕ → List BlockTask
own_collect k = need_if true 0 k

-- 1 of above.
abbrev pub down_of_above : Grid → ℕ → List BlockTask
down_of_above grid k = need_if (ltb 0 (block_row grid k)) 1 (k - block_columns_of grid)

-- 2 of below.
abbrev pub up_of_below : Grid → ℕ → List BlockTask
up_of_below grid k = need_if (ltb (block_row grid k + 1) (block_rows_of grid)) 2 (k + block_columns_of grid)

-- 3 of left.
abbrev pub right_of_left : Grid → ℕ → List BlockTask
right_of_left grid k = need_if (ltb 0 (block_column grid k)) 3 (k - 1)

-- 4 of right.
abbrev pub left_of_right : Grid → ℕ → List BlockTask
left_of_right grid k = need_if (ltb (block_column grid k + 1) (block_columns_of grid)) 4 (k + 1)

-- The column "needs" of the table of tasks, for block k, without those that fall away; collect needs nothing.
unfoldable pub needs_of : Grid → ℕ → ℕ → List BlockTask
needs_of grid t k =
    cond (eqb t 1) (own_collect k ++ down_of_above grid k)
    (cond (eqb t 2) (own_collect k ++ (down_of_above grid k ++ up_of_below grid k))
    (cond (eqb t 3) (own_collect k ++ (down_of_above grid k ++ (up_of_below grid k ++ right_of_left grid k)))
    (cond (eqb t 4) (own_collect k ++ (down_of_above grid k ++ (up_of_below grid k ++ (right_of_left grid k ++ left_of_right grid k))))
    (cond (eqb t 5) (own_collect k ++ (down_of_above grid k ++ (up_of_below grid k ++ (right_of_left grid k ++ left_of_right grid k))))
    []))))

-- Each of these tasks is done.
unfoldable pub all_done : (ℕ → ℕ → Bool) → List BlockTask → Bool
all_done done [] = true
all_done done (need ∷ needs) = done need.task need.block && all_done done needs

-- Ready: the task exists there, is not done, and its needs are all done.
unfoldable pub ready : Grid → (ℕ → ℕ → Bool) → ℕ → ℕ → Bool
ready grid done t k = exists grid t k && (not (done t k) && all_done done (needs_of grid t k))

-- Nothing is done.
abbrev pub nothing_done : ℕ → ℕ → Bool
nothing_done t k = false

-- What was done, and task t of block k.
unfoldable pub also_done : (ℕ → ℕ → Bool) → ℕ → ℕ → ℕ → ℕ → Bool
also_done done t k u j = done u j || (eqb u t && eqb j k)
