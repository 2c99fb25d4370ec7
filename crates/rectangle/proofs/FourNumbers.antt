-- What the call answers to its four numbers. Assumes nothing.
use mathlib.Core.Path.{◌≡◌, sym}
use Prim.Native.Nat.{ℕ, ◌-◌, ◌*◌}
use native.Mathlib.Nat.{zero-mul, mul-zero}
use native.Mathlib.Omega.{arith}
use Rattle.passes.specs.Table.{rectangle_sum}
use Rattle.passes.proofs.Table.{no_row_sum, no_column_sum}
use Rattle.rectangle.specs.Rectangle.{table_of, lent_to_sum, rectangle_call}
use Rattle.rectangle.specs.FourNumbers.{Empty, no_row, no_column, FourNumbersDecide, InsideNever12}
use Rattle.rectangle.proofs.RectangleAnswers.{inside_not_12}
use Rattle.rectangle.proofs.SumAnswers.{accepted_when, refused_when, given_refused}
use Rattle.rectangle.proofs.Heights.{sums_at_ends}

pub no_pixels : (top left bottom right : ℕ) → Empty top left bottom right → (bottom - top) * (right - left) ≡ 0
no_pixels top left bottom right (no_row e) = let none : bottom - top ≡ 0 = omega arith in rw none (zero-mul (right - left))
no_pixels top left bottom right (no_column e) = let none : right - left ≡ 0 = omega arith in rw none (mul-zero (bottom - top))

empty_sum : (S : ℕ → ℕ → ℕ) (top left bottom right : ℕ) → Empty top left bottom right
    → rectangle_sum S top left bottom right ≡ 0
empty_sum S t l b r (no_row e) = no_row_sum S t l b r e
empty_sum S t l b r (no_column e) = no_column_sum S t l b r e

pub four_numbers_decide : FourNumbersDecide
four_numbers_decide plan table kept long t l b r =
    record {
      inside_accepted = accepted_when plan table t l b r kept long;
      empty_zero = λ inside empty.
          sums_at_ends.at_zero plan table kept long t l b r inside (empty_sum (table_of plan table) t l b r empty);
      others_refused = λ none. sym (given_refused plan table t l b r (refused_when plan table t l b r kept long none));
    }

pub inside_never_12 : InsideNever12
unfolding rectangle_call
inside_never_12 plan table t l b r place inside e = inside_not_12 plan (lent_to_sum table) t l b r inside e
