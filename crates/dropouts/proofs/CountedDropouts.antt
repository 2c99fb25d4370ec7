-- What a count says of the heights in its rectangle. Assumes nothing.
use mathlib.Core.Path.{◌≡◌, refl, sym, ap, ap₂, ◌∙◌}
use mathlib.Core.Bool.{Bool, true, false, true≢false}
use mathlib.Core.List.{List}
use Prim.Native.Nat.{ℕ, zero, suc, ◌+◌, ◌-◌, ◌*◌, ◌≤◌, ◌<◌}
use native.Mathlib.Nat.{mul-zero, mul-add, mul_comm}
use native.Mathlib.Omega.{arith}
use lib.IntN.{ℤ, pos, neg_ℤ, ◌+ℤ◌, ◌-ℤ◌, +ℤ_idl, +ℤ_idr, +ℤ_assoc, +ℤ_comm, neg_ℤ-+ℤ}
use Rattle.number.specs.Numbers.{total, one}
use Rattle.number.proofs.Sums.{one_most, total_most, total_nothing, total_full}
use Rattle.buffer.specs.Pixel.{is_dropout, reading, height_at}
use Rattle.buffer.proofs.Pixel.{dropout_is, is_dropout_law, reading_dropout, reading_other}
use Rattle.passes.specs.Table.{signed_sum_of, heights_inside}
use Rattle.plan.specs.declared.Plan.{Plan}
use Rattle.rectangle.specs.Heights.{height_sum}
use Rattle.dropouts.specs.Dropouts.{dropouts_inside}
use Rattle.dropouts.specs.CountedDropouts.{PixelOf, DropoutsTold}

-- ---- sums that differ by so much for each dropout

-- (y - p) + (x - q) is y + x - (p + q).
less_both : (y x : ℤ) (p q : ℕ) → (y -ℤ pos p) +ℤ (x -ℤ pos q) ≡ (y +ℤ x) -ℤ pos (p + q)
less_both y x p q =
    +ℤ_assoc y (neg_ℤ (pos p)) (x -ℤ pos q)
    ∙ ap (y +ℤ◌)
    (sym (+ℤ_assoc (neg_ℤ (pos p)) x (neg_ℤ (pos q)))
    ∙ ap (◌-ℤ pos q) (+ℤ_comm (neg_ℤ (pos p)) x)
    ∙ +ℤ_assoc x (neg_ℤ (pos p)) (neg_ℤ (pos q))
    ∙ ap (x +ℤ◌) (sym (neg_ℤ-+ℤ (pos p) (pos q))))
    ∙ sym (+ℤ_assoc y x (neg_ℤ (pos (p + q))))

-- Numbers that each lie below others by a multiple of `each`: their sums do by the sum of the multiples.
sum_less : (each : ℕ) (x y : ℕ → ℤ) (f : ℕ → ℕ) → ((k : ℕ) → x k ≡ y k -ℤ pos (each * f k))
    → (n : ℕ) → signed_sum_of n x ≡ signed_sum_of n y -ℤ pos (each * total f n)
unfolding signed_sum_of total
sum_less each x y f e zero = rw (mul-zero each)
sum_less each x y f e (suc n) =
    ap₂ ◌+ℤ◌ (sum_less each x y f e n) (e n)
    ∙ less_both (signed_sum_of n y) (y n) (each * total f n) (each * f n)
    ∙ ap (λ (z : ℕ). (signed_sum_of n y +ℤ y n) -ℤ pos z) (sym (mul-add each (total f n) (f n)))

sum_of_zeros : (z : ℕ → ℤ) (n : ℕ) → ((k : ℕ) → k < n → z k ≡ pos 0) → signed_sum_of n z ≡ pos 0
unfolding signed_sum_of
sum_of_zeros z zero e = refl
sum_of_zeros z (suc n) e = ap₂ ◌+ℤ◌ (sum_of_zeros z n (λ k h. e k (omega arith))) (e n (omega arith))

-- ---- one height

height_less : (z : ℤ) → z ≡ reading z -ℤ pos (2147483648 * one (is_dropout z))
height_less z = by (is_dropout z) refl
  where
    by : (dropped : Bool) → is_dropout z ≡ dropped → z ≡ reading z -ℤ pos (2147483648 * one dropped)
    by true e = dropout_is z e ∙ sym (rw (reading_dropout z e) (+ℤ_idl (neg_ℤ (pos 2147483648))))
    by false e = sym (rw (reading_other z e) (+ℤ_idr z))

one_zero : (dropped : Bool) → one dropped ≡ 0 → dropped ≡ true → ⊥
one_zero true e f = absurd (omega arith)
one_zero false e f = true≢false (sym f)

one_one : (dropped : Bool) → one dropped ≡ 1 → dropped ≡ true
one_one true e = refl
one_one false e = absurd (omega arith)

-- ---- a rectangle

module _ (plan : Plan) (heights : List ℤ) (top left bottom right : ℕ) where
  abbrev height_in : ℕ → ℕ → ℤ
  height_in k j = height_at plan.grid.columns heights (top + j) (left + k)

  -- The dropouts of a column of the rectangle.
  abbrev in_column : ℕ → ℕ
  in_column k = total (λ j. one (is_dropout (height_in k j))) (bottom - top)

  column_most : (k : ℕ) → in_column k ≤ bottom - top
  column_most k = omega (arith, total_most _ 1 (bottom - top) (λ j h. one_most (is_dropout (height_in k j))))

  each_once : heights_inside (height_at plan.grid.columns heights) top left bottom right
      ≡ height_sum plan heights top left bottom right -ℤ pos (2147483648 * dropouts_inside plan heights top left bottom right)
  unfolding heights_inside dropouts_inside
  each_once =
      sum_less 2147483648 _ _ in_column
      (λ k. sum_less 2147483648 (height_in k) _ _ (λ j. height_less (height_in k j)) (bottom - top)) (right - left)

  at_most_pixels : dropouts_inside plan heights top left bottom right ≤ (bottom - top) * (right - left)
  unfolding dropouts_inside
  at_most_pixels =
      rw (mul_comm (bottom - top) (right - left)) (total_most in_column (bottom - top) (right - left) (λ k h. column_most k))

  all_seen : dropouts_inside plan heights top left bottom right ≡ 0
      → (row column : ℕ) → PixelOf top left bottom right row column
      → height_at plan.grid.columns heights row column ≡ neg_ℤ (pos 2147483648) → ⊥
  unfolding dropouts_inside
  all_seen none row column p e =
      let k = column - left in
      let j = row - top in
      let in_column : in_column k ≡ 0 = total_nothing in_column (right - left) none k (omega (arith, p.past_left, p.before_right)) in
      let not_one = total_nothing _ (bottom - top) in_column j (omega (arith, p.below_top, p.above_bottom)) in
      let y : top + j ≡ row = omega (arith, p.below_top) in
      let x : left + k ≡ column = omega (arith, p.past_left) in
      one_zero (is_dropout (height_in k j)) not_one
      (is_dropout_law (height_in k j) (ap₂ (height_at plan.grid.columns heights) y x ∙ e))

  module _ (all : dropouts_inside plan heights top left bottom right ≡ (bottom - top) * (right - left)) where
    each_dropped : (k j : ℕ) → k < right - left → j < bottom - top → is_dropout (height_in k j) ≡ true
    unfolding dropouts_inside
    each_dropped k j h i =
        let full : in_column k ≡ (bottom - top) * 1 =
        total_full in_column (bottom - top) (right - left) (λ i g. column_most i) (all ∙ mul_comm (bottom - top) (right - left)) k h
        ∙ omega arith in
        one_one (is_dropout (height_in k j))
        (total_full _ 1 (bottom - top) (λ i g. one_most (is_dropout (height_in k i))) full j i)

    none_seen : (row column : ℕ) → PixelOf top left bottom right row column
        → height_at plan.grid.columns heights row column ≡ neg_ℤ (pos 2147483648)
    none_seen row column p =
        let y : top + (row - top) ≡ row = omega (arith, p.below_top) in
        let x : left + (column - left) ≡ column = omega (arith, p.past_left) in
        sym (ap₂ (height_at plan.grid.columns heights) y x)
        ∙ dropout_is _
        (each_dropped (column - left) (row - top) (omega (arith, p.past_left, p.before_right))
        (omega (arith, p.below_top, p.above_bottom)))

    nothing_summed : height_sum plan heights top left bottom right ≡ pos 0
    unfolding heights_inside
    nothing_summed =
        sum_of_zeros _ (right - left) (λ k h.
        sum_of_zeros _ (bottom - top) (λ j i. reading_dropout (height_in k j) (each_dropped k j h i)))

pub dropouts_told : DropoutsTold
dropouts_told plan heights top left bottom right =
    record {
      each_once = each_once plan heights top left bottom right;
      at_most_pixels = at_most_pixels plan heights top left bottom right;
      all_seen = all_seen plan heights top left bottom right;
      none_seen = none_seen plan heights top left bottom right;
      nothing_summed = nothing_summed plan heights top left bottom right;
    }
