-- Which tasks exist: only tasks 0 to 5 of blocks of the map, and a link exactly where its pass goes on from the block.
-- Assumes nothing.
use mathlib.Core.Path.{◌≡◌, refl, sym, ◌∙◌}
use mathlib.Core.Bool.{Bool, true, false, true≢false}
use Rattle.std.specs.Prelude.{Some}
use Prim.Native.Nat.{ℕ, zero, suc, ◌-◌, ◌<◌, ◌≤◌}
use native.Mathlib.Omega.{arith}
use lib.Dec.{ltb, eqb}
use borrow.Author.Tests.{lt-ltb, ltb-true, ltb-false, ne_eqb}
use Rattle.number.proofs.Tests.{and_left, and_right}
use Rattle.grid.specs.declared.Grid.{Grid}
use Rattle.grid.specs.Grid.{block_rows_of, block_columns_of, block_total, block_number, block_row, block_column, line_count, has_after, neighbour}
use Rattle.grid.specs.declared.Position.{Position}
use Rattle.grid.specs.Shapes.{position_of, index_along}
use Rattle.grid.proofs.Shapes.{goes_on_at}
use Rattle.axis.specs.Axis.{direction_of}
use Rattle.grid.proofs.Blocks.{number_below, row_of_number, column_of_number}
use Rattle.grid.proofs.Neighbours.{next_block, neighbour_below, neighbour_goes_on, next_below, next_neighbour}
use Rattle.tasks.specs.Neighbours.{LinkExists}
use Rattle.tasks.specs.Tasks.{has_task, exists}

pub exists_at : (grid : Grid) (m n t : ℕ) → m < block_rows_of grid → n < block_columns_of grid
    → exists grid t (block_number grid m n) ≡ has_task grid t m n
unfolding exists
exists_at grid m n t h l =
    rw (lt-ltb _ (block_total grid) (number_below grid m n h l), row_of_number grid m n l, column_of_number grid m n l)

pub has_exists : (grid : Grid) (k : ℕ) → k < block_total grid → (t : ℕ)
    → has_task grid t (block_row grid k) (block_column grid k) ≡ true → exists grid t k ≡ true
unfolding exists
has_exists grid k h t e = rw (lt-ltb k (block_total grid) h) e

-- Past the links there is only finish.
pub past_links : (grid : Grid) (t m n : ℕ) → 4 < t → eqb t 5 ≡ has_task grid t m n
unfolding has_task
past_links grid t m n h =
    rw (
      ne_eqb t 0 (λ e. omega arith),
      ne_eqb t 1 (λ e. omega arith),
      ne_eqb t 2 (λ e. omega arith),
      ne_eqb t 3 (λ e. omega arith),
      ne_eqb t 4 (λ e. omega arith),
    )

has_none : (grid : Grid) (t m n : ℕ) → 6 ≤ t → has_task grid t m n ≡ false
has_none grid t m n h = sym (past_links grid t m n (omega arith)) ∙ ne_eqb t 5 (λ e. omega arith)

-- Only tasks 0 to 5 of blocks of the map exist.
module _ (grid : Grid) (t k : ℕ) (e : exists grid t k ≡ true) where
  pub exists_block : k < block_total grid
  unfolding exists
  exists_block = ltb-true k (block_total grid) (and_left (ltb k (block_total grid)) _ e)

  pub exists_has : has_task grid t (block_row grid k) (block_column grid k) ≡ true
  unfolding exists
  exists_has = and_right (ltb k (block_total grid)) _ e

  pub exists_task : t < 6
  exists_task = by (ltb t 6) refl
    where
      by : (b : Bool) → ltb t 6 ≡ b → t < 6
      by true q = ltb-true t 6 q
      by false q = absurd (true≢false (sym exists_has ∙ has_none grid t _ _ (ltb-false t 6 q)))

-- The table of tasks by the geometry of blocks: a block has the link of a pass where the pass goes on from it.
link_at : (grid : Grid) (at : Position) (pass : ℕ) → pass < 4
    → has_task grid (suc pass) at.row at.column ≡ has_after (direction_of pass) (line_count grid pass) (index_along at pass)
unfolding has_task
link_at grid at zero h = refl
link_at grid at (suc zero) h = refl
link_at grid at (suc (suc zero)) h = refl
link_at grid at (suc (suc (suc zero))) h = refl
link_at grid at (suc (suc (suc (suc pass)))) h = absurd (omega arith)

pub link_exists : LinkExists
unfolding position_of
link_exists grid k pass h = link_at grid (position_of grid k) pass h ∙ goes_on_at grid k pass refl

-- The same by the number of the task, as the code has it.
pub link_has : (grid : Grid) (at : Position) (t : ℕ) → 1 ≤ t → t ≤ 4
    → has_after (direction_of (t - 1)) (line_count grid (t - 1)) (index_along at (t - 1)) ≡ has_task grid t at.row at.column
link_has grid at zero h l = absurd (omega arith)
link_has grid at (suc pass) h l =
    let e : suc pass - 1 ≡ pass = omega arith in rw e (sym (link_at grid at pass (omega arith)))

-- So a link exists exactly where a neighbour needs it: at the neighbour that a pass comes from,
pub neighbour_linked : (grid : Grid) (k pass j : ℕ) → k < block_total grid → pass < 4 → neighbour grid k pass ≡ Some j
    → exists grid (suc pass) j ≡ true
neighbour_linked grid k pass j here l e =
    has_exists grid j (neighbour_below grid k pass j here e) (suc pass)
    (link_exists grid j pass l ∙ neighbour_goes_on grid k pass j here e)

-- and nowhere else.
pub link_needed : (grid : Grid) (j pass : ℕ) → pass < 4 → exists grid (suc pass) j ≡ true
    → (next_block grid j pass < block_total grid) × (neighbour grid (next_block grid j pass) pass ≡ Some j)
link_needed grid j pass l e =
    let here = exists_block grid (suc pass) j e in
    let on = sym (link_exists grid j pass l) ∙ exists_has grid (suc pass) j e in
    (next_below grid j pass here on, next_neighbour grid j pass here on)
