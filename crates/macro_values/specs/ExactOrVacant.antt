-- What the calls for macro variables promise: exact or vacant, never rounded. Document 02, CR 6.
use Rattle.std.specs.Prelude.{◌≡◌, true, false, List, ℕ, suc, ◌+◌, ◌≤◌, ◌^◌, ℤ, pos, negsuc, neg_ℤ, ◌≤ℤ◌, T, Float}
use Rattle.std.specs.Float.{binary64}
use Rattle.std.specs.Float.Ieee.{fits, to_bits, of_bits}
use Rattle.std.specs.Float.Ieee.Exact.{HasValue}
use Rattle.refusal.specs.Refusals.{accepted, refused}
use Rattle.plan.specs.declared.Plan.{Plan}
use Rattle.passes.specs.Table.{heights_inside}
use Rattle.rectangle.specs.Rectangle.{Inside, rectangle_call}
use Rattle.rectangle.specs.FourNumbers.{Empty}
use Rattle.rectangle.specs.Heights.{HeightsFit, height_sum, SumsOver}
use Rattle.macro_values.specs.declared.Quantity.{Quantity}
use Rattle.macro_values.specs.declared.Quantity.TheVariants as wanted
use Rattle.macro_values.specs.MacroValues.{Variable, vacant, holding, pixel_count, float_of, macro_call, pair_call}

-- ---- floats

-- From -2^53 to 2^53.
pub record InFloatRange (number : ℤ) : Type 0 where
  pub low : neg_ℤ (pos (2 ^ 53)) ≤ℤ number
  pub high : number ≤ℤ pos (2 ^ 53)

-- A float equals a whole number: it is finite, and has the number's sign and, as a fraction over 1, its size (the kit's
-- `HasValue`). Of 64-bit floats only +0.0 equals 0 in this sense.
abbrev pub EqualsWhole : Float → ℤ → Type 0
EqualsWhole float (pos n) = HasValue float false n 1
EqualsWhole float (negsuc n) = HasValue float true (suc n) 1

-- A float without rounding: a 64-bit float that equals a whole number,
pub record ExactFloat (float : Float) (number : ℤ) : Type 0 where
  pub held : T (fits binary64 float)
  pub equal : EqualsWhole float number
  -- the only one that does,
  pub no_other : (other : Float) → T (fits binary64 other) → EqualsWhole other number → other ≡ float
  -- and positive zero for 0: all its bits are 0.
  pub zero_bits : number ≡ pos 0 → to_bits binary64 float ≡ 0

-- So is the float of every whole number from -2^53 to 2^53.
abbrev pub WholeFloats : Type 0
WholeFloats = (number : ℤ) → InFloatRange number → ExactFloat (float_of number) number

-- ---- one quantity

-- The whole number that a quantity of a rectangle is: the rectangle sum, or the number of pixels.
abbrev pub whole_number : Quantity → Plan → List ℕ → (top left bottom right : ℕ) → ℤ
whole_number wanted.Total plan table top left bottom right = (rectangle_call plan table top left bottom right).value
whole_number wanted.Pixels plan table top left bottom right = pos (pixel_count top left bottom right)

-- Why a quantity of an accepted call is vacant: either of them where the rectangle is empty, a total also where it lies
-- outside -2^53 to 2^53.
pub data VacantCause (plan : Plan) (table : List ℕ) (top left bottom right : ℕ) : Quantity → Type 0 where
  empty_rectangle : {quantity : Quantity} → Empty top left bottom right
      → VacantCause plan table top left bottom right quantity
  total_outside : (InFloatRange (whole_number wanted.Total plan table top left bottom right) → ⊥)
      → VacantCause plan table top left bottom right wanted.Total

-- The call is accepted and gives a quantity as a float that equals this whole number.
pub record GivesExactly (quantity : Quantity) (number : ℤ) (plan : Plan) (table : List ℕ) (top left bottom right : ℕ)
    : Type 0 where
  pub float : Float
  pub answered : macro_call quantity plan table top left bottom right
      ≡ record { answer = accepted; value = holding quantity float }
  pub exact : ExactFloat float number

-- What the call answers. Its number and place are those of the rectangle sum,
pub record MacroAnswered (quantity : Quantity) (plan : Plan) (table : List ℕ) (top left bottom right : ℕ) : Type 0 where
  pub same_answer : (macro_call quantity plan table top left bottom right).answer
      ≡ (rectangle_call plan table top left bottom right).answer
  -- beside a refusal it is vacant,
  pub vacant_refused : (number place : ℕ)
      → (rectangle_call plan table top left bottom right).answer ≡ refused number place
      → macro_call quantity plan table top left bottom right ≡ record { answer = refused number place; value = vacant }
  -- accepted it is vacant under each of the causes,
  pub vacant_by_cause : (rectangle_call plan table top left bottom right).answer ≡ accepted
      → VacantCause plan table top left bottom right quantity
      → macro_call quantity plan table top left bottom right ≡ record { answer = accepted; value = vacant }
  -- and exact under none of them.
  pub exact_otherwise : (rectangle_call plan table top left bottom right).answer ≡ accepted
      → (VacantCause plan table top left bottom right quantity → ⊥)
      → GivesExactly quantity (whole_number quantity plan table top left bottom right) plan table top left bottom right

-- So it is for both quantities, every record, every table and any four numbers.
abbrev pub ExactOrVacant : Type 0
ExactOrVacant =
    (quantity : Quantity) (plan : Plan) (table : List ℕ) (top left bottom right : ℕ)
    → MacroAnswered quantity plan table top left bottom right

-- Where the rectangle sum gives this sum and the rectangle is not empty, its total is this variable.
abbrev pub TotalAtSum : ℤ → Variable → Type 0
TotalAtSum sum total =
    (plan : Plan) (table : List ℕ) (top left bottom right : ℕ)
    → rectangle_call plan table top left bottom right ≡ record { answer = accepted; value = sum }
    → (Empty top left bottom right → ⊥)
    → macro_call wanted.Total plan table top left bottom right ≡ record { answer = accepted; value = total }

-- At 0, at both ends and one past them, floats by their 64 bits: 0.0, 2^53, -2^53, and vacant.
pub record TotalsAtEnds : Type 0 where
  pub at_zero : TotalAtSum (pos 0) (holding wanted.Total (of_bits binary64 0))
  pub at_greatest : TotalAtSum (pos (2 ^ 53)) (holding wanted.Total (of_bits binary64 0x4340000000000000))
  pub at_least : TotalAtSum (neg_ℤ (pos (2 ^ 53))) (holding wanted.Total (of_bits binary64 0xC340000000000000))
  pub past_greatest : TotalAtSum (pos (2 ^ 53 + 1)) vacant
  pub past_least : TotalAtSum (neg_ℤ (pos (2 ^ 53 + 1))) vacant

-- The number of pixels is the total of a map with 1 at every pixel, and of edges that have not crossed it is 0 just
-- where the rectangle is empty.
pub record CountedPixels (top left bottom right : ℕ) : Type 0 where
  pub counted : pos (pixel_count top left bottom right) ≡ heights_inside (λ row column. pos 1) top left bottom right
  pub none_if_empty : Empty top left bottom right → pixel_count top left bottom right ≡ 0
  pub empty_if_none : top ≤ bottom → left ≤ right → pixel_count top left bottom right ≡ 0 → Empty top left bottom right

-- So it is for any four numbers.
abbrev pub PixelsCounted : Type 0
PixelsCounted = (top left bottom right : ℕ) → CountedPixels top left bottom right

-- ---- a pair

-- Total and number of pixels fetched together are those fetched one by one, with the answer of the rectangle sum.
abbrev pub PairOfBoth : Type 0
PairOfBoth =
    (plan : Plan) (table : List ℕ) (top left bottom right : ℕ)
    → pair_call plan table top left bottom right
    ≡ record {
      answer = (rectangle_call plan table top left bottom right).answer;
      value = record {
        total = (macro_call wanted.Total plan table top left bottom right).value;
        pixels = (macro_call wanted.Pixels plan table top left bottom right).value;
      };
    }

-- ---- heights

-- On a table whose rectangle sums are the heights' sums (as `SumsHeights` and `JobSumsHeights` say of summed-area
-- tables), the total of a rectangle of the map that is not empty is the exact sum of its heights (`height_sum`) from
-- -2^53 to 2^53,
pub record TotalHeights (plan : Plan) (heights : List ℤ) (table : List ℕ) (top left bottom right : ℕ) : Type 0 where
  pub exact_inside : InFloatRange (height_sum plan heights top left bottom right)
      → GivesExactly wanted.Total (height_sum plan heights top left bottom right) plan table top left bottom right
  -- and vacant outside that range.
  pub vacant_outside : (InFloatRange (height_sum plan heights top left bottom right) → ⊥)
      → macro_call wanted.Total plan table top left bottom right ≡ record { answer = accepted; value = vacant }

-- So it is for every such table and rectangle.
abbrev pub TotalsHeights : Type 0
TotalsHeights =
    (plan : Plan) (heights : List ℤ) (table : List ℕ) → SumsOver plan heights table
    → (top left bottom right : ℕ) → Inside plan top left bottom right → (Empty top left bottom right → ⊥)
    → TotalHeights plan heights table top left bottom right

-- With heights of 32 bits every rectangle of 1 to 2^22 pixels has its total.
abbrev pub FewPixelsGiven : Type 0
FewPixelsGiven =
    (plan : Plan) (heights : List ℤ) (table : List ℕ) → SumsOver plan heights table → HeightsFit plan heights
    → (top left bottom right : ℕ) → Inside plan top left bottom right → (Empty top left bottom right → ⊥)
    → pixel_count top left bottom right ≤ 2 ^ 22
    → GivesExactly wanted.Total (height_sum plan heights top left bottom right) plan table top left bottom right
