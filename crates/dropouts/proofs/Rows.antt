-- The dropouts of a rectangle row by row: that a row is counted, how many the rows can have, and that they make the
-- rectangle. Assumes nothing.
use mathlib.Core.Path.{◌≡◌, refl, sym, ap, ap₂, ◌∙◌}
use mathlib.Core.Bool.{Bool, true, false, cond}
use mathlib.Core.List.{List}
use Prim.Native.Nat.{ℕ, zero, suc, ◌+◌, ◌-◌, ◌*◌, ◌≤◌, ◌<◌}
use native.Mathlib.Nat.{mul-le-mul, le_trans}
use native.Mathlib.Numerals.{add-one}
use native.Mathlib.Omega.{arith}
use lib.IntN.{ℤ, pos}
use lib.ListN.{length, take, drop}
use Rattle.std.specs.List.{count_by}
use Rattle.std.proofs.lemmas.List.{get_or-drop, length-drop}
use Rattle.std.proofs.lemmas.List.Sums.{sum_by_more}
use Rattle.number.specs.Numbers.{total, one}
use Rattle.number.proofs.Sums.{one_most, sum_on, total_most, total_same, total_exchange}
use Rattle.buffer.specs.Lists.{number_at}
use Rattle.buffer.specs.Pixel.{is_dropout, height_at}
use Rattle.plan.specs.declared.Plan.{Plan}
use Rattle.plan.specs.Sizes.{needed_pixels}
use Rattle.rectangle.specs.Rectangle.{Inside}
use Rattle.dropouts.specs.Dropouts.{dropouts_inside}

cond_one : (test : Bool) → cond test 1 0 ≡ one test
cond_one true = refl
cond_one false = refl

-- Heights that stand one after another, counted one by one.
counted_from : (heights : List ℤ) (start count : ℕ) → start + count ≤ length heights
    → count_by is_dropout (take count (drop start heights)) ≡ total (λ i. one (is_dropout (number_at heights (start + i)))) count
unfolding total
counted_from heights start zero h = refl
counted_from heights start (suc count) h =
    let more = sum_by_more (λ height. cond (is_dropout height) 1 0) (drop start heights) count (pos 0)
    (omega (arith, length-drop start heights)) in
    (rw (add-one count, get_or-drop start heights count (pos 0)) at more)
    ∙ ap₂ ◌+◌ (counted_from heights start count (omega arith)) (cond_one (is_dropout (number_at heights (start + count))))

module _ (plan : Plan) (heights : List ℤ) (top left bottom right : ℕ) where
  -- The dropouts of the rectangle in a row of the map,
  abbrev pub in_row : ℕ → ℕ
  in_row row = total (λ k. one (is_dropout (height_at plan.grid.columns heights row (left + k)))) (right - left)

  -- and in its first rows.
  abbrev pub in_rows : ℕ → ℕ
  in_rows count = total (λ j. in_row (top + j)) count

  pub rows_are : in_rows (bottom - top) ≡ dropouts_inside plan heights top left bottom right
  unfolding dropouts_inside
  rows_are =
      sym
      (total_exchange (λ j k. one (is_dropout (height_at plan.grid.columns heights (top + j) (left + k)))) (bottom - top) (right - left))

  module _ (inside : Inside plan top left bottom right) (long : needed_pixels plan ≤ length heights)
      (row : ℕ) (past : top ≤ row) (below : row < bottom) where
    row_in_map : row * plan.grid.columns + left + (right - left) ≤ length heights
    row_in_map =
        let w = plan.grid.columns in
        let rows : (row + 1) * w ≤ plan.grid.rows * w = mul-le-mul (omega (arith, inside.bottom_low)) (omega arith) in
        omega (arith, inside.left_right, inside.right_low)

    -- One more row counted,
    pub row_on : {found counted : ℕ} → found ≡ in_rows (row - top)
        → (let start = row * plan.grid.columns + left in
        counted ≡ count_by is_dropout (take (start + (right - left) - start) (drop start heights)))
        → found + counted ≡ in_rows (row + 1 - top)
    row_on so_far here =
        let start = row * plan.grid.columns + left in
        let width : start + (right - left) - start ≡ right - left = omega arith in
        let next : row + 1 - top ≡ row - top + 1 = omega arith in
        let at : top + (row - top) ≡ row = omega arith in
        rw next
        (sum_on (λ j. in_row (top + j)) (row - top) _ _ so_far
        ((rw width at here)
        ∙ counted_from heights start (right - left) row_in_map
        ∙ total_same _ _ (right - left) (λ k h. ap (λ place. one (is_dropout (number_at heights place))) (omega arith))
        ∙ sym (ap in_row at)))

    rows_in_map : in_rows (row + 1 - top) ≤ length heights
    rows_in_map =
        let each : (j : ℕ) → j < row + 1 - top → in_row (top + j) ≤ right - left =
        λ j h. omega (arith, total_most _ 1 (right - left) (λ k i. one_most (is_dropout (height_at plan.grid.columns heights (top + j) (left + k))))) in
        let most = total_most (λ j. in_row (top + j)) (right - left) (row + 1 - top) each in
        le_trans most
        (le_trans (mul-le-mul {n₂ = plan.grid.rows} (omega (arith, inside.bottom_low)) (omega (arith, inside.right_low))) long)

    -- and the count is no more than the map has heights.
    pub count_fits : {found counted : ℕ} → found ≡ in_rows (row - top)
        → (let start = row * plan.grid.columns + left in
        counted ≡ count_by is_dropout (take (start + (right - left) - start) (drop start heights)))
        → found + counted ≤ length heights
    count_fits so_far here = rw (row_on so_far here) rows_in_map
