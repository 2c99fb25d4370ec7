-- Quantities of a rectangle as macro variables: document 02, CR 6.
use Rattle.std.specs.Prelude.{Bool, ◌||◌, cond, List, ℕ, ◌-◌, ◌*◌, ◌^◌, ℤ, pos, neg_ℤ, eqb, Float, Result, Ok, Err}
use Rattle.std.specs.Int.Signed.{lt_z}
use Rattle.std.specs.Float.{binary64}
use Rattle.std.specs.Float.Ieee.{of_int}
use Rattle.refusal.specs.declared.Refusal.{Refusal}
use Rattle.refusal.specs.Refusals.{accepted, refused_for}
use Rattle.refusal.specs.Table.{Given, given}
use Rattle.plan.specs.declared.Plan.{Plan}
use Rattle.rectangle.specs.Rectangle.{rectangle_call}
use Rattle.macro_values.specs.declared.Macro.{Macro}
use Rattle.macro_values.specs.declared.Macro.TheVariants.{Vacant, Total, Pixels}
use Rattle.macro_values.specs.declared.Quantity.{Quantity}
use Rattle.macro_values.specs.declared.Quantity.TheVariants as wanted
use Rattle.macro_values.specs.declared.MacroPair.{MacroPair}

-- A macro variable of a control: vacant, the state for no value, or a quantity as a 64-bit float.
pub data Variable : Type 0 where
  vacant : Variable
  holding : (quantity : Quantity) (float : Float) → Variable

-- ---- a quantity

-- The number of pixels in a rectangle.
abbrev pub pixel_count : (top left bottom right : ℕ) → ℕ
pixel_count top left bottom right = (bottom - top) * (right - left)

-- A whole number as a 64-bit float: the number itself from -2^53 to 2^53 (`WholeFloats`), elsewhere the nearest one.
abbrev pub float_of : ℤ → Float
float_of number = of_int binary64 number

-- The test that a whole number lies outside -2^53 to 2^53.
abbrev pub outside_floats : ℤ → Bool
outside_floats number = lt_z number (neg_ℤ (pos (2 ^ 53))) || lt_z (pos (2 ^ 53)) number

-- The total of a rectangle that is not empty: vacant outside -2^53 to 2^53.
unfoldable pub total_value : (sum : ℤ) → Variable
total_value sum = cond (outside_floats sum) vacant (holding wanted.Total (float_of sum))

-- A quantity of a rectangle that is not empty, by its sum and its number of pixels.
abbrev pub non_empty_value : Quantity → (sum : ℤ) → (pixels : ℕ) → Variable
non_empty_value wanted.Total sum pixels = total_value sum
non_empty_value wanted.Pixels sum pixels = holding wanted.Pixels (float_of (pos pixels))

-- A quantity of a rectangle: vacant where it is empty, with top equal to bottom or left equal to right.
unfoldable pub quantity_value : Quantity → (sum : ℤ) → (top left bottom right : ℕ) → Variable
quantity_value quantity sum top left bottom right =
    cond (eqb top bottom || eqb left right) vacant (non_empty_value quantity sum (pixel_count top left bottom right))

-- ---- the calls

-- One quantity by the answer of the rectangle sum: the same answer, vacant beside a refusal.
abbrev pub value_by_sum : Quantity → Given ℤ → (top left bottom right : ℕ) → Given Variable
value_by_sum quantity sum top left bottom right =
    given sum.answer (quantity_value quantity sum.value top left bottom right) vacant

-- One quantity as a call.
unfoldable pub macro_call : Quantity → Plan → List ℕ → (top left bottom right : ℕ) → Given Variable
macro_call quantity plan table top left bottom right =
    value_by_sum quantity (rectangle_call plan table top left bottom right) top left bottom right

-- Total and number of pixels.
pub record VariablePair : Type 0 where
  pub total : Variable
  pub pixels : Variable

-- Both by the answer of the rectangle sum: the same answer, both vacant beside a refusal.
abbrev pub pair_by_sum : Given ℤ → (top left bottom right : ℕ) → Given VariablePair
pair_by_sum sum top left bottom right =
    given sum.answer
    (record {
      total = quantity_value wanted.Total sum.value top left bottom right;
      pixels = quantity_value wanted.Pixels sum.value top left bottom right;
    })
    (record { total = vacant; pixels = vacant })

-- Both as a call.
unfoldable pub pair_call : Plan → List ℕ → (top left bottom right : ℕ) → Given VariablePair
pair_call plan table top left bottom right =
    pair_by_sum (rectangle_call plan table top left bottom right) top left bottom right

-- ---- what the code answers

-- The variable that each case of `Macro` is,
abbrev pub variable_of : Macro → Variable
variable_of Vacant = vacant
variable_of (Total float) = holding wanted.Total float
variable_of (Pixels float) = holding wanted.Pixels float

-- those of a pair,
abbrev pub pair_of : MacroPair → VariablePair
pair_of pair = record { total = variable_of pair.total; pixels = variable_of pair.pixels }

-- the number and place, and the variable, that `macro_value` answers; vacant beside a refusal,
abbrev pub value_given : Result Macro Refusal → Given Variable
value_given (Ok value) = record { answer = accepted; value = variable_of value }
value_given (Err refusal) = record { answer = refused_for refusal; value = vacant }

-- and the pair that `macro_pair` answers; both vacant beside a refusal.
abbrev pub pair_given : Result MacroPair Refusal → Given VariablePair
pair_given (Ok pair) = record { answer = accepted; value = pair_of pair }
pair_given (Err refusal) = record { answer = refused_for refusal; value = record { total = vacant; pixels = vacant } }
