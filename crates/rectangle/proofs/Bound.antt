-- The size of a sum of heights: at most 2^31 for each pixel of the rectangle, so at most 2^55, and it is a number of
-- signed 64 bits. Assumes nothing.
use mathlib.Core.Path.{◌≡◌, refl}
use mathlib.Core.Bool.{Bool, true, false}
use mathlib.Core.Logic.{⊎_elim}
use mathlib.Core.List.{List}
use Prim.Native.Nat.{ℕ, zero, suc, ◌+◌, ◌-◌, ◌*◌, ◌≤◌, ◌<◌, ◌^◌}
use native.Mathlib.Nat.{mul-le-mul, le_refl, le_trans}
use native.Mathlib.Omega.{arith}
use lib.IntN.{ℤ, pos, negsuc, nat_abs, sub_ℕ, ◌+ℤ◌}
use borrow.Author.Tests.{lt-ltb, le-ltb, ltb-true}
use Rattle.number.specs.Numbers.{row_major}
use Rattle.number.specs.SignedBits.{in_signed}
use Rattle.number.proofs.Tests.{lt_or_ge}
use Rattle.number.proofs.RowMajor.{place_below}
use Rattle.plan.specs.declared.Plan.{Plan}
use Rattle.plan.specs.Rules.{keeps_rules}
use Rattle.plan.proofs.Record.{rules}
use Rattle.buffer.specs.Pixel.{is_dropout, reading, height_at, reading_at}
use Rattle.buffer.proofs.Pixel.{reading_dropout, reading_other}
use Rattle.passes.specs.Table.{signed_sum_of, heights_inside}
use Rattle.rectangle.specs.Rectangle.{Inside}
use Rattle.rectangle.specs.Heights.{HeightFits, HeightsFit, height_sum, SumsBounded}

-- ---- sizes of sums

size_of_difference : (a b : ℕ) → nat_abs (sub_ℕ a b) ≤ a + b
size_of_difference a b =
    ⊎_elim (λ l. simp (lt-ltb a b l) (omega arith)) (λ l. simp (le-ltb a b l) (omega arith)) (lt_or_ge a b)

size_of_sum : (y z : ℤ) → nat_abs (y +ℤ z) ≤ nat_abs y + nat_abs z
size_of_sum (pos a) (pos b) = le_refl _
size_of_sum (pos a) (negsuc b) = size_of_difference a (suc b)
size_of_sum (negsuc a) (pos b) = omega (arith, size_of_difference b (suc a))
size_of_sum (negsuc a) (negsuc b) = omega arith

-- A sum of n numbers of a size of `most` or less.
sum_bounded : (n most : ℕ) (z : ℕ → ℤ) → ((k : ℕ) → k < n → nat_abs (z k) ≤ most) → nat_abs (signed_sum_of n z) ≤ n * most
unfolding signed_sum_of
sum_bounded zero most z h = omega arith
sum_bounded (suc n) most z h =
    omega (
      arith,
      size_of_sum (signed_sum_of n z) (z n),
      sum_bounded n most z (λ k below. h k (omega arith)),
      h n (omega arith),
    )

-- ---- heights

height_bounded : (z : ℤ) → HeightFits z → nat_abs z ≤ 2 ^ 31
height_bounded (pos n) fit = omega (arith, ltb-true n _ fit)
height_bounded (negsuc n) fit = omega (arith, ltb-true n _ fit)

reading_bounded : (z : ℤ) → HeightFits z → nat_abs (reading z) ≤ 2 ^ 31
reading_bounded z fit = by (is_dropout z) refl
  where
    by : (dropped : Bool) → is_dropout z ≡ dropped → nat_abs (reading z) ≤ 2 ^ 31
    by true e = rw (reading_dropout z e) (omega arith)
    by false e = rw (reading_other z e) (height_bounded z fit)

reading_at_bounded : (plan : Plan) (heights : List ℤ) → HeightsFit plan heights
    → (y x : ℕ) → y < plan.grid.rows → x < plan.grid.columns
    → nat_abs (reading_at plan.grid.columns heights y x) ≤ 2 ^ 31
reading_at_bounded plan heights fit y x a b =
    let w = plan.grid.columns in
    reading_bounded (height_at w heights y x) (fit (row_major w y x) (place_below plan.grid.rows w y x a b))

-- 2^31 for each pixel of the rectangle,
pub rectangle_bounded : (plan : Plan) (heights : List ℤ) → HeightsFit plan heights
    → (top left bottom right : ℕ) → Inside plan top left bottom right
    → nat_abs (height_sum plan heights top left bottom right) ≤ (right - left) * ((bottom - top) * 2 ^ 31)
unfolding heights_inside
rectangle_bounded plan heights fit top left bottom right inside =
    sum_bounded (right - left) ((bottom - top) * 2 ^ 31) _ (λ k a.
    sum_bounded (bottom - top) (2 ^ 31) (λ j. reading_at plan.grid.columns heights (top + j) (left + k)) (λ j b.
    reading_at_bounded plan heights fit (top + j) (left + k)
    (omega (arith, inside.bottom_low)) (omega (arith, inside.right_low))))

-- and there are at most 2^24 of them.
pub sums_bounded : SumsBounded
sums_bounded plan kept heights fit top left bottom right inside =
    let known = rules plan kept in
    let high : bottom - top ≤ 4096 = omega (arith, inside.bottom_low, known.rows_high) in
    let wide : right - left ≤ 4096 = omega (arith, inside.right_low, known.columns_high) in
    le_trans (rectangle_bounded plan heights fit top left bottom right inside)
    (mul-le-mul {n₂ = 4096} wide (mul-le-mul {n₂ = 4096} high (le_refl (2 ^ 31))))

-- So it is a number of signed 64 bits.
pub sum_in_range : (plan : Plan) → keeps_rules plan ≡ true → (heights : List ℤ) → HeightsFit plan heights
    → (top left bottom right : ℕ) → Inside plan top left bottom right
    → in_signed 64 (height_sum plan heights top left bottom right) ≡ true
sum_in_range plan kept heights fit top left bottom right inside =
    by (height_sum plan heights top left bottom right) (sums_bounded plan kept heights fit top left bottom right inside)
  where
    by : (z : ℤ) → nat_abs z ≤ 2 ^ 55 → in_signed 64 z ≡ true
    by (pos n) small = lt-ltb n (2 ^ 63) (omega arith)
    by (negsuc n) small = lt-ltb n (2 ^ 63) (omega arith)
