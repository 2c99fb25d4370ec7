-- Exact or vacant: what the calls promise. Assumes nothing.
use mathlib.Core.Path.{◌≡◌, refl, sym, ap, ◌∙◌, subst}
use mathlib.Core.List.{List}
use mathlib.Core.Logic.{⊎_elim}
use Prim.Native.Nat.{ℕ, zero, suc, ◌-◌, ◌*◌, ◌≤◌, ◌^◌}
use native.Mathlib.Nat.{one-mul, mul-pos, mul_assoc, mul_comm, eq-zero-or-pos}
use native.Mathlib.Omega.{arith}
use lib.IntN.{ℤ, pos, ◌+ℤ◌}
use Rattle.refusal.specs.Refusals.{Answer, accepted, refused}
use Rattle.refusal.specs.Table.{Given, given, if_accepted}
use Rattle.plan.specs.declared.Plan.{Plan}
use Rattle.passes.specs.Table.{signed_sum_of, heights_inside}
use Rattle.rectangle.specs.Rectangle.{Inside, rectangle_call}
use Rattle.rectangle.specs.FourNumbers.{Empty, no_row, no_column}
use Rattle.rectangle.specs.Heights.{HeightsFit, height_sum}
use Rattle.rectangle.proofs.Bound.{rectangle_bounded}
use Rattle.rectangle.proofs.FourNumbers.{no_pixels}
use Rattle.macro_values.specs.declared.Quantity.{Quantity}
use Rattle.macro_values.specs.declared.Quantity.TheVariants as wanted
use Rattle.macro_values.specs.MacroValues.{Variable, vacant, holding, pixel_count, float_of, total_value, non_empty_value, quantity_value, macro_call, VariablePair, pair_call}
use Rattle.macro_values.specs.ExactOrVacant.{InFloatRange, whole_number, VacantCause, empty_rectangle, total_outside, GivesExactly, ExactOrVacant, TotalAtSum, TotalsAtEnds, PixelsCounted, PairOfBoth, TotalsHeights, FewPixelsGiven}
use Rattle.macro_values.proofs.Ends.{zero_given, greatest_given, least_given, past_greatest_vacant, past_least_vacant}
use Rattle.macro_values.proofs.WholeFloats.{in_range_test, out_of_range_test, range_decided, small_in_range, whole_floats}
use Rattle.macro_values.proofs.Quantities.{total_inside_test, value_no_row, value_no_column, value_not_empty, value_outside, fits_accepted, same_answer, value_accepted, value_refused}

-- ---- one quantity

module _ (plan : Plan) (table : List ℕ) (top left bottom right : ℕ) where
  -- The sum that the quantities are made of.
  abbrev sum : ℤ
  sum = (rectangle_call plan table top left bottom right).value

  not_empty : (quantity : Quantity) → (Empty top left bottom right → ⊥)
      → quantity_value quantity sum top left bottom right ≡ non_empty_value quantity sum (pixel_count top left bottom right)
  not_empty quantity filled =
      value_not_empty quantity sum top left bottom right (λ e. filled (no_row e)) (λ e. filled (no_column e))

  vacant_by : (quantity : Quantity) → VacantCause plan table top left bottom right quantity
      → quantity_value quantity sum top left bottom right ≡ vacant
  vacant_by quantity (empty_rectangle (no_row e)) = value_no_row quantity sum top left bottom right e
  vacant_by quantity (empty_rectangle (no_column e)) = value_no_column quantity sum top left bottom right e
  vacant_by wanted.Total (total_outside none) = value_outside sum top left bottom right (out_of_range_test sum none)

  -- Under no cause the whole number is small enough for a float,
  number_in_range : (quantity : Quantity) → (rectangle_call plan table top left bottom right).answer ≡ accepted
      → (VacantCause plan table top left bottom right quantity → ⊥)
      → InFloatRange (whole_number quantity plan table top left bottom right)
  number_in_range wanted.Total accepts none =
      ⊎_elim (λ range. range) (λ outside. absurd (none (total_outside outside))) (range_decided sum)
  number_in_range wanted.Pixels accepts none =
      small_in_range (pos (pixel_count top left bottom right))
      (omega (arith, (fits_accepted plan table top left bottom right accepts).pixels_high))

  -- and it is given as that.
  given_in_range : (quantity : Quantity) → InFloatRange (whole_number quantity plan table top left bottom right)
      → non_empty_value quantity sum (pixel_count top left bottom right)
      ≡ holding quantity (float_of (whole_number quantity plan table top left bottom right))
  given_in_range wanted.Total range = total_inside_test sum (in_range_test sum range)
  given_in_range wanted.Pixels range = refl

  exact_by : (quantity : Quantity) → (rectangle_call plan table top left bottom right).answer ≡ accepted
      → (VacantCause plan table top left bottom right quantity → ⊥)
      → GivesExactly quantity (whole_number quantity plan table top left bottom right) plan table top left bottom right
  exact_by quantity accepts none =
      let number = whole_number quantity plan table top left bottom right in
      let range = number_in_range quantity accepts none in
      record {
        float = float_of number;
        answered =
            value_accepted plan table top left bottom right quantity accepts
            (not_empty quantity (λ e. none (empty_rectangle e)) ∙ given_in_range quantity range);
        exact = whole_floats number range;
      }

pub exact_or_vacant : ExactOrVacant
exact_or_vacant quantity plan table top left bottom right =
    record {
      same_answer = same_answer plan table top left bottom right quantity;
      vacant_refused = λ number place refuses. value_refused plan table top left bottom right quantity refuses;
      vacant_by_cause = λ accepts cause.
          value_accepted plan table top left bottom right quantity accepts
          (vacant_by plan table top left bottom right quantity cause);
      exact_otherwise = exact_by plan table top left bottom right quantity;
    }

-- ---- the ends

total_at_sum : {sum : ℤ} {total : Variable} → total_value sum ≡ total → TotalAtSum sum total
total_at_sum e plan table top left bottom right is filled =
    let accepts = ap (λ (g : Given ℤ). g.answer) is in
    value_accepted plan table top left bottom right wanted.Total accepts
    (not_empty plan table top left bottom right wanted.Total filled
    ∙ ap (λ (g : Given ℤ). total_value g.value) is
    ∙ e)

pub totals_at_ends : TotalsAtEnds
totals_at_ends =
    record {
      at_zero = total_at_sum zero_given;
      at_greatest = total_at_sum greatest_given;
      at_least = total_at_sum least_given;
      past_greatest = total_at_sum past_greatest_vacant;
      past_least = total_at_sum past_least_vacant;
    }

-- ---- the number of pixels

same_sum : (each count : ℕ) → signed_sum_of count (λ place. pos each) ≡ pos (each * count)
unfolding signed_sum_of
same_sum each zero = ap pos (omega arith)
same_sum each (suc count) = ap (λ (z : ℤ). z +ℤ pos each) (same_sum each count) ∙ ap pos (omega arith)

module _ (top left bottom right : ℕ) where
  ones_counted : pos (pixel_count top left bottom right) ≡ heights_inside (λ row column. pos 1) top left bottom right
  unfolding heights_inside
  ones_counted =
      let rows = bottom - top in
      sym
      (ap (λ (z : ℤ). signed_sum_of (right - left) (λ k. z)) (same_sum 1 rows ∙ ap pos (one-mul rows))
      ∙ same_sum rows (right - left))

  empty_if_none : top ≤ bottom → left ≤ right → pixel_count top left bottom right ≡ 0 → Empty top left bottom right
  empty_if_none rows columns none =
      ⊎_elim (λ no_rows. no_row (omega arith))
      (λ some_rows.
      ⊎_elim (λ no_columns. no_column (omega arith))
      (λ some_columns. absurd (omega (arith, mul-pos some_rows some_columns)))
      (eq-zero-or-pos (right - left)))
      (eq-zero-or-pos (bottom - top))

pub pixels_counted : PixelsCounted
pixels_counted top left bottom right =
    record {
      counted = ones_counted top left bottom right;
      none_if_empty = no_pixels top left bottom right;
      empty_if_none = empty_if_none top left bottom right;
    }

-- ---- a pair

given_pair : (answer : Answer) (total pixels : Variable)
    → given {A = VariablePair} answer (record { total = total; pixels = pixels })
    (record { total = vacant; pixels = vacant })
    ≡ record {
      answer = answer;
      value = record { total = if_accepted answer total vacant; pixels = if_accepted answer pixels vacant };
    }
given_pair accepted total pixels = refl
given_pair (refused number place) total pixels = refl

pub pair_of_both : PairOfBoth
unfolding pair_call macro_call
pair_of_both plan table top left bottom right = given_pair (rectangle_call plan table top left bottom right).answer _ _

-- ---- heights

module _ (plan : Plan) (table : List ℕ) (top left bottom right : ℕ) where
  no_cause : {number : ℤ} → (rectangle_call plan table top left bottom right).value ≡ number → InFloatRange number
      → (Empty top left bottom right → ⊥) → VacantCause plan table top left bottom right wanted.Total → ⊥
  no_cause is range filled (empty_rectangle none) = filled none
  no_cause is range filled (total_outside none) = none (rw is range)

pub totals_heights : TotalsHeights
totals_heights plan heights table over top left bottom right inside filled =
    let e = over top left bottom right inside in
    let accepts = ap (λ (g : Given ℤ). g.answer) e in
    let is = ap (λ (g : Given ℤ). g.value) e in
    record {
      exact_inside = λ range.
          subst (λ (number : ℤ). GivesExactly wanted.Total number plan table top left bottom right) is
          (exact_by plan table top left bottom right wanted.Total accepts
          (no_cause plan table top left bottom right is range filled));
      vacant_outside = λ none.
          value_accepted plan table top left bottom right wanted.Total accepts
          (vacant_by plan table top left bottom right wanted.Total (total_outside (λ range. none (rw is at range))));
    }

-- Of so few pixels the sum of the heights is in range.
few_in_range : (plan : Plan) (heights : List ℤ) → HeightsFit plan heights
    → (top left bottom right : ℕ) → Inside plan top left bottom right → pixel_count top left bottom right ≤ 2 ^ 22
    → InFloatRange (height_sum plan heights top left bottom right)
few_in_range plan heights fit top left bottom right inside few =
    let rows = bottom - top in
    let columns = right - left in
    let regrouped : columns * (rows * 2 ^ 31) ≡ rows * columns * 2 ^ 31 =
    sym (mul_assoc columns rows (2 ^ 31)) ∙ ap (λ (n : ℕ). n * 2 ^ 31) (mul_comm columns rows) in
    small_in_range (height_sum plan heights top left bottom right)
    (omega (arith, rw regrouped at (rectangle_bounded plan heights fit top left bottom right inside)))

pub few_pixels_given : FewPixelsGiven
few_pixels_given plan heights table over fit top left bottom right inside filled few =
    (totals_heights plan heights table over top left bottom right inside filled).exact_inside
    (few_in_range plan heights fit top left bottom right inside few)
