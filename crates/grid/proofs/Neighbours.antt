-- Neighbours along a pass: a neighbour is the block before in its row or column of blocks, the pass goes on from it, and a block
-- that a pass goes on from is the neighbour of the block that it goes on to. Assumes nothing.
use mathlib.Core.Path.{◌≡◌, refl, ap, sym, ◌∙◌}
use mathlib.Core.Bool.{Bool, true, false, cond}
use Rattle.std.specs.Prelude.{Option, None, Some, option_map}
use Prim.Native.Nat.{ℕ, zero, suc, ◌+◌, ◌*◌, ◌-◌, ◌<◌}
use native.Mathlib.Omega.{arith}
use lib.Dec.{ltb}
use borrow.Author.Tests.{ltb-true, lt-ltb}
use Rattle.axis.specs.Axis.{Axis, columns, rows, Direction, forward, backward, axis_of, direction_of, along, across}
use Rattle.grid.specs.declared.Grid.{Grid}
use Rattle.grid.specs.Grid.{block_extent, block_rows_of, block_columns_of, block_total, block_number, block_row, block_column, rows_of, columns_of, line_index, line_count, has_before, has_after, step_before, neighbour, goes_on}
use Rattle.grid.proofs.Blocks.{block_row_below, block_column_below, number_below, row_of_number, column_of_number, number_of_block}

-- ---- a line of blocks

-- The index before m in a direction, the block there or none, and the index after m.
abbrev pub index_before : Direction → ℕ → ℕ
index_before forward m = m - 1
index_before backward m = m + 1

abbrev pub block_before : Direction → (count m : ℕ) → Option ℕ
block_before d count m = cond (has_before d count m) (Some (index_before d m)) None

abbrev pub index_after : Direction → ℕ → ℕ
index_after forward m = m + 1
index_after backward m = m - 1

-- What a test chooses where the choice is `some`.
pub chosen : (test : Bool) (v j : ℕ) → cond test (Some v) None ≡ Some j → (test ≡ true) × (v ≡ j)
chosen true v j e = (refl, cc)
chosen false v j e = cc

pub before_below : (d : Direction) (count m j : ℕ) → m < count → block_before d count m ≡ Some j → j < count
before_below forward count m j h e = let q : m - 1 ≡ j = (chosen (ltb 0 m) _ j e).1 in omega arith
before_below backward count m j h e =
    let c = chosen _ _ j e in
    let p = ltb-true (m + 1) count c.0 in
    let q = c.1 in
    omega arith

before_goes_on : (d : Direction) (count m j : ℕ) → m < count → block_before d count m ≡ Some j → has_after d count j ≡ true
before_goes_on forward count m j h e =
    let c = chosen _ _ j e in
    let p = ltb-true 0 m c.0 in
    let q = c.1 in
    lt-ltb (j + 1) count (omega arith)
before_goes_on backward count m j h e = let q : m + 1 ≡ j = (chosen (ltb (m + 1) count) _ j e).1 in lt-ltb 0 j (omega arith)

after_below : (d : Direction) (count m : ℕ) → m < count → has_after d count m ≡ true → index_after d m < count
after_below forward count m h e = ltb-true (m + 1) count e
after_below backward count m h e = omega arith

before_after : (d : Direction) (count m : ℕ) → m < count → has_after d count m ≡ true
    → block_before d count (index_after d m) ≡ Some m
before_after forward count m h e = rw (lt-ltb 0 (m + 1) (omega arith)) (ap Some (omega arith))
before_after backward count m h e =
    let p : 0 < m = ltb-true 0 m e in
    let q : (m - 1) + 1 ≡ m = omega arith in
    rw q (rw (lt-ltb m count h))

-- ---- neighbours

-- The block of a number along an axis, in line with block k: in its column of blocks, or in its row.
abbrev pub block_beside : Axis → Grid → ℕ → ℕ → ℕ
block_beside columns grid k m = block_number grid m (block_column grid k)
block_beside rows grid k n = block_number grid (block_row grid k) n

mapped : (g : ℕ → ℕ) (test : Bool) (v j : ℕ) → (test ≡ true → g v ≡ j)
    → cond test (Some j) None ≡ option_map g (cond test (Some v) None)
mapped g true v j e = ap Some (sym (e refl))
mapped g false v j e = refl

row_above : (m n w k : ℕ) → m * w + n ≡ k → 0 < m → (m - 1) * w + n ≡ k - w
row_above zero n w k e h = absurd (omega arith)
row_above (suc m) n w k e h = let f : suc m - 1 ≡ m = omega arith in rw f (omega arith)

-- A step back is the block of the index before.
step_is_beside : (grid : Grid) (k : ℕ) (a : Axis) (d : Direction)
    → has_before d (along a (block_rows_of grid) (block_columns_of grid)) (along a (block_row grid k) (block_column grid k)) ≡ true
    → block_beside a grid k (index_before d (along a (block_row grid k) (block_column grid k)))
    ≡ step_before d (along a (block_columns_of grid) 1) k
unfolding block_number
step_is_beside grid k columns forward e =
    row_above (block_row grid k) (block_column grid k) (block_columns_of grid) k (number_of_block grid k) (ltb-true _ _ e)
step_is_beside grid k columns backward e =
    let z : block_row grid k * block_columns_of grid + block_column grid k ≡ k = number_of_block grid k in omega arith
step_is_beside grid k rows forward e =
    let z : block_row grid k * block_columns_of grid + block_column grid k ≡ k = number_of_block grid k in
    let p = ltb-true 0 (block_column grid k) e in
    omega arith
step_is_beside grid k rows backward e =
    let z : block_row grid k * block_columns_of grid + block_column grid k ≡ k = number_of_block grid k in omega arith

-- The neighbour is the block before in the line of block k.
pub neighbour_beside : (grid : Grid) (k pass : ℕ)
    → neighbour grid k pass
    ≡ option_map (block_beside (axis_of pass) grid k)
    (block_before (direction_of pass) (line_count grid pass) (line_index grid k pass))
unfolding neighbour
neighbour_beside grid k pass =
    mapped _ (has_before (direction_of pass) (line_count grid pass) (line_index grid k pass)) _ _
    (step_is_beside grid k (axis_of pass) (direction_of pass))

-- The block in line with block k, at m along the axis: its own row and column of blocks.
module _ (grid : Grid) (k : ℕ) (here : k < block_total grid) where
  pub beside_along : (a : Axis) (m : ℕ) → m < along a (block_rows_of grid) (block_columns_of grid)
      → along a (block_row grid (block_beside a grid k m)) (block_column grid (block_beside a grid k m)) ≡ m
  beside_along columns m h = row_of_number grid m (block_column grid k) (block_column_below grid k here)
  beside_along rows m h = column_of_number grid (block_row grid k) m h

  beside_across : (a : Axis) (m : ℕ) → m < along a (block_rows_of grid) (block_columns_of grid)
      → across a (block_row grid (block_beside a grid k m)) (block_column grid (block_beside a grid k m))
      ≡ across a (block_row grid k) (block_column grid k)
  beside_across columns m h = column_of_number grid m (block_column grid k) (block_column_below grid k here)
  beside_across rows m h = row_of_number grid (block_row grid k) m h

  beside_below : (a : Axis) (m : ℕ) → m < along a (block_rows_of grid) (block_columns_of grid)
      → block_beside a grid k m < block_total grid
  beside_below columns m h = number_below grid m (block_column grid k) h (block_column_below grid k here)
  beside_below rows m h = number_below grid (block_row grid k) m (block_row_below grid k here) h

  pub index_below : (a : Axis)
      → along a (block_row grid k) (block_column grid k) < along a (block_rows_of grid) (block_columns_of grid)
  index_below columns = block_row_below grid k here
  index_below rows = block_column_below grid k here

  beside_self : (a : Axis) → block_beside a grid k (along a (block_row grid k) (block_column grid k)) ≡ k
  beside_self columns = number_of_block grid k
  beside_self rows = number_of_block grid k

mapped_some : (g : ℕ → ℕ) (o : Option ℕ) (j : ℕ) (P : ℕ → Type 0) → ((m : ℕ) → o ≡ Some m → P (g m))
    → option_map g o ≡ Some j → P j
mapped_some g None j P f e = cc
mapped_some g (Some m) j P f e = let same : g m ≡ j = cc in rw (← same) (f m refl)

-- Block j is the one before block k in its line along a pass: next to it along the pass, and at the same place across it.
pub record StandsBefore (grid : Grid) (k pass j : ℕ) : Type 0 where
  pub has_before_law : has_before (direction_of pass) (line_count grid pass) (line_index grid k pass) ≡ true
  pub along_pass : line_index grid j pass ≡ index_before (direction_of pass) (line_index grid k pass)
  pub across_pass : across (axis_of pass) (block_row grid j) (block_column grid j)
      ≡ across (axis_of pass) (block_row grid k) (block_column grid k)

module _ (grid : Grid) (k pass j : ℕ) (here : k < block_total grid) (e : neighbour grid k pass ≡ Some j) where
  -- What holds of every block before block k in its line holds of the neighbour.
  neighbour_has : (P : ℕ → Type 0)
      → ((m : ℕ) → m < line_count grid pass → block_before (direction_of pass) (line_count grid pass) (line_index grid k pass) ≡ Some m
      → P (block_beside (axis_of pass) grid k m))
      → P j
  neighbour_has P f =
      mapped_some _ _ j P
      (λ m b. f m (before_below (direction_of pass) _ _ m (index_below grid k here (axis_of pass)) b) b)
      (sym (neighbour_beside grid k pass) ∙ e)

  -- A neighbour is a block of the map,
  pub neighbour_below : j < block_total grid
  neighbour_below = neighbour_has (λ j. j < block_total grid) (λ m h b. beside_below grid k here (axis_of pass) m h)

  -- it stands before block k,
  pub neighbour_stands : StandsBefore grid k pass j
  neighbour_stands =
      neighbour_has (StandsBefore grid k pass)
      (λ m h b.
      let (before, index) = chosen (has_before (direction_of pass) (line_count grid pass) (line_index grid k pass)) _ m b in
      record {
        has_before_law = before;
        along_pass = beside_along grid k here (axis_of pass) m h ∙ sym index;
        across_pass = beside_across grid k here (axis_of pass) m h;
      })

  -- and the pass goes on from it.
  pub neighbour_goes_on : goes_on grid j pass ≡ true
  unfolding goes_on
  neighbour_goes_on =
      neighbour_has (λ j. has_after (direction_of pass) (line_count grid pass) (line_index grid j pass) ≡ true)
      (λ m h b.
      ap (has_after (direction_of pass) (line_count grid pass)) (beside_along grid k here (axis_of pass) m h)
      ∙ before_goes_on (direction_of pass) _ _ m (index_below grid k here (axis_of pass)) b)

  -- A neighbour has the same lines.
  pub neighbour_lines : across (axis_of pass) (rows_of grid j) (columns_of grid j)
      ≡ across (axis_of pass) (rows_of grid k) (columns_of grid k)
  neighbour_lines =
      neighbour_has
      (λ j. across (axis_of pass) (rows_of grid j) (columns_of grid j) ≡ across (axis_of pass) (rows_of grid k) (columns_of grid k))
      (λ m h b. same (axis_of pass) m h)
    where
      same : (a : Axis) (m : ℕ) → m < along a (block_rows_of grid) (block_columns_of grid)
          → across a (rows_of grid (block_beside a grid k m)) (columns_of grid (block_beside a grid k m))
          ≡ across a (rows_of grid k) (columns_of grid k)
      same columns m b = ap (block_extent grid.columns grid.side) (beside_across grid k here columns m b)
      same rows m b = ap (block_extent grid.rows grid.side) (beside_across grid k here rows m b)

-- ---- the block that a pass goes on to

abbrev pub next_block : Grid → (k pass : ℕ) → ℕ
next_block grid k pass = block_beside (axis_of pass) grid k (index_after (direction_of pass) (line_index grid k pass))

module _ (grid : Grid) (k pass : ℕ) (here : k < block_total grid) (on : goes_on grid k pass ≡ true) where
  has_after_law : has_after (direction_of pass) (line_count grid pass) (line_index grid k pass) ≡ true
  unfolding goes_on
  has_after_law = on

  after_counted : index_after (direction_of pass) (line_index grid k pass) < line_count grid pass
  after_counted = after_below (direction_of pass) _ _ (index_below grid k here (axis_of pass)) has_after_law

  pub next_below : next_block grid k pass < block_total grid
  next_below = beside_below grid k here (axis_of pass) _ after_counted

  -- Block k is the neighbour that the pass comes from there.
  pub next_neighbour : neighbour grid (next_block grid k pass) pass ≡ Some k
  next_neighbour =
      neighbour_beside grid (next_block grid k pass) pass
      ∙ ap
      (λ m.
      option_map (block_beside (axis_of pass) grid (next_block grid k pass))
      (block_before (direction_of pass) (line_count grid pass) m))
      (beside_along grid k here (axis_of pass) _ after_counted)
      ∙ ap (option_map (block_beside (axis_of pass) grid (next_block grid k pass)))
      (before_after (direction_of pass) _ _ (index_below grid k here (axis_of pass)) has_after_law)
      ∙ ap Some (back (axis_of pass) _ after_counted ∙ beside_self grid k here (axis_of pass))
    where
      back : (a : Axis) (m : ℕ) → m < along a (block_rows_of grid) (block_columns_of grid)
          → block_beside a grid (block_beside a grid k m) (along a (block_row grid k) (block_column grid k))
          ≡ block_beside a grid k (along a (block_row grid k) (block_column grid k))
      back columns m b = ap (block_number grid (block_row grid k)) (beside_across grid k here columns m b)
      back rows m b = ap (λ z. block_number grid z (block_column grid k)) (beside_across grid k here rows m b)
