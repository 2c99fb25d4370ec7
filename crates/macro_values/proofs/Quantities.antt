-- A quantity by the tests that are made of it; what the calls answer, by what the rectangle sum answers. Assumes
-- nothing.
use mathlib.Core.Path.{◌≡◌, refl, sym, ap}
use mathlib.Core.Bool.{Bool, true, false, ◌||◌, cond, or-true}
use mathlib.Core.List.{List}
use Prim.Native.Nat.{ℕ, ◌*◌, ◌≤◌}
use native.Mathlib.Nat.{mul-le-mul}
use native.Mathlib.Omega.{arith}
use lib.IntN.{ℤ}
use lib.Dec.{eqb}
use borrow.Author.Tests.{eq-eqb, ne_eqb}
use Rattle.refusal.specs.declared.Refusal.{Refusal}
use Rattle.refusal.specs.Refusals.{accepted, refused, refused_for}
use Rattle.refusal.specs.Table.{Given}
use Rattle.plan.specs.declared.Plan.{Plan}
use Rattle.plan.proofs.Needed.{bounds}
use Rattle.std.specs.Prelude.{Result, Ok, Err}
use Rattle.rectangle.specs.Rectangle.{rectangle_call, sum_given}
use Rattle.rectangle.proofs.SumAnswers.{accepted_rules, accepted_fits}
use Rattle.macro_values.specs.declared.Quantity.{Quantity}
use Rattle.macro_values.specs.declared.Quantity.TheVariants as wanted
use Rattle.macro_values.specs.MacroValues.{Variable, vacant, holding, pixel_count, float_of, outside_floats, total_value, non_empty_value, quantity_value, value_by_sum, macro_call, VariablePair, pair_by_sum, pair_call}
use Rattle.macro_values.specs.SumFits.{RectangleFits, SumFits}

-- ---- a total

module _ (sum : ℤ) where
  pub total_outside_test : outside_floats sum ≡ true → total_value sum ≡ vacant
  unfolding total_value
  total_outside_test e = rw e

  pub total_inside_test : outside_floats sum ≡ false → total_value sum ≡ holding wanted.Total (float_of sum)
  unfolding total_value
  total_inside_test e = rw e

-- ---- a quantity

both_vacant : (test : Bool) → cond test vacant vacant ≡ vacant
both_vacant true = refl
both_vacant false = refl

module _ (quantity : Quantity) (sum : ℤ) (top left bottom right : ℕ) where
  pub value_no_row : top ≡ bottom → quantity_value quantity sum top left bottom right ≡ vacant
  unfolding quantity_value
  value_no_row e = rw (eq-eqb top bottom e)

  pub value_no_column : left ≡ right → quantity_value quantity sum top left bottom right ≡ vacant
  unfolding quantity_value
  value_no_column e = rw (eq-eqb left right e, or-true (eqb top bottom))

  pub value_not_empty : (top ≡ bottom → ⊥) → (left ≡ right → ⊥)
      → quantity_value quantity sum top left bottom right ≡ non_empty_value quantity sum (pixel_count top left bottom right)
  unfolding quantity_value
  value_not_empty rows columns = rw (ne_eqb top bottom rows, ne_eqb left right columns)

pub value_outside : (sum : ℤ) (top left bottom right : ℕ) → outside_floats sum ≡ true
    → quantity_value wanted.Total sum top left bottom right ≡ vacant
unfolding quantity_value
value_outside sum top left bottom right e =
    rw (total_outside_test sum e) (both_vacant (eqb top bottom || eqb left right))

-- ---- by the sum

module _ (answer : Result ℤ Refusal) (top left bottom right : ℕ) where
  pub value_of_refusal : (quantity : Quantity) {refusal : Refusal} → answer ≡ Err refusal
      → ◌≡◌ {A = Given Variable} (record { answer = refused_for refusal; value = vacant })
      (value_by_sum quantity (sum_given answer) top left bottom right)
  value_of_refusal quantity is = rw is

  pub pair_of_sum : {sum : ℤ} {total pixels : Variable} → answer ≡ Ok sum
      → total ≡ quantity_value wanted.Total sum top left bottom right
      → pixels ≡ quantity_value wanted.Pixels sum top left bottom right
      → ◌≡◌ {A = Given VariablePair} (record { answer = accepted; value = record { total = total; pixels = pixels } })
      (pair_by_sum (sum_given answer) top left bottom right)
  pair_of_sum is e f = rw (is, e, f)

-- ---- the calls

module _ (plan : Plan) (table : List ℕ) (top left bottom right : ℕ) where
  -- A rectangle of an accepted call has no more pixels than the map.
  pub fits_accepted : (rectangle_call plan table top left bottom right).answer ≡ accepted
      → RectangleFits top left bottom right
  fits_accepted accepts =
      let inside = (accepted_fits plan table top left bottom right accepts).1 in
      let within : pixel_count top left bottom right ≤ plan.grid.rows * plan.grid.columns =
      mul-le-mul (omega (arith, inside.bottom_low)) (omega (arith, inside.right_low)) in
      record {
        top_bottom = inside.top_bottom;
        left_right = inside.left_right;
        pixels_high =
            omega (arith, within, (bounds plan (accepted_rules plan table top left bottom right accepts)).pixels_high);
      }

  -- So has one whose sum was given.
  pub sum_fits : (answer : Result ℤ Refusal) → sum_given answer ≡ rectangle_call plan table top left bottom right
      → SumFits answer top left bottom right
  sum_fits (Ok sum) is = fits_accepted (sym (ap (λ (g : Given ℤ). g.answer) is))
  sum_fits (Err refusal) is = tt

  pub value_called : (quantity : Quantity) (answer : Result ℤ Refusal) (read : Given Variable)
      → sum_given answer ≡ rectangle_call plan table top left bottom right
      → read ≡ value_by_sum quantity (sum_given answer) top left bottom right
      → read ≡ macro_call quantity plan table top left bottom right
  unfolding macro_call
  value_called quantity answer read is e = rw is at e

  pub pair_called : (answer : Result ℤ Refusal) (read : Given VariablePair)
      → sum_given answer ≡ rectangle_call plan table top left bottom right
      → read ≡ pair_by_sum (sum_given answer) top left bottom right → read ≡ pair_call plan table top left bottom right
  unfolding pair_call
  pair_called answer read is e = rw is at e

  pub same_answer : (quantity : Quantity)
      → (macro_call quantity plan table top left bottom right).answer
      ≡ (rectangle_call plan table top left bottom right).answer
  unfolding macro_call
  same_answer quantity = refl

  -- A quantity of an accepted call, and of a refused one.
  pub value_accepted : (quantity : Quantity) → (rectangle_call plan table top left bottom right).answer ≡ accepted
      → {value : Variable}
      → quantity_value quantity (rectangle_call plan table top left bottom right).value top left bottom right ≡ value
      → macro_call quantity plan table top left bottom right ≡ record { answer = accepted; value = value }
  unfolding macro_call
  value_accepted quantity accepts e = rw (accepts, e)

  pub value_refused : (quantity : Quantity) {number place : ℕ}
      → (rectangle_call plan table top left bottom right).answer ≡ refused number place
      → macro_call quantity plan table top left bottom right ≡ record { answer = refused number place; value = vacant }
  unfolding macro_call
  value_refused quantity refuses = rw refuses
