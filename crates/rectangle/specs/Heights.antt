-- On a summed-area table the rectangle sum is the heights' sum, a whole number and no residue; what it gives at zero
-- and at both ends on any table. Document 01, 'The four passes' and the rectangle sum; document 02, CR 2, CR 5, CR 7.
use Rattle.std.specs.Prelude.{◌≡◌, true, List, ℕ, ◌-◌, ◌≤◌, ◌<◌, ◌^◌, ℤ, pos, neg_ℤ, nat_abs, length}
use Rattle.number.specs.SignedBits.{in_signed}
use Rattle.refusal.specs.Refusals.{accepted}
use Rattle.plan.specs.declared.Plan.{Plan}
use Rattle.plan.specs.Rules.{keeps_rules}
use Rattle.plan.specs.Sizes.{needed_pixels}
use Rattle.buffer.specs.Lists.{number_at}
use Rattle.buffer.specs.Pixel.{reading_at}
use Rattle.passes.specs.Table.{heights_inside, rectangle_sum}
use Rattle.serial.specs.Serial.{serial_output}
use Rattle.rectangle.specs.Rectangle.{table_of, Inside, rectangle_call}
use Rattle.filter.specs.PlanFilters.{summed_area_passes}

-- ---- a summed-area table

-- A number of a map has signed 32 bits: a height, or a dropout, -2^31.
abbrev pub HeightFits : ℤ → Type 0
HeightFits height = in_signed 32 height ≡ true

-- Every one of a plan's map is such a number; of a map that a call is lent, its type `&[i32]` says so.
abbrev pub HeightsFit : Plan → List ℤ → Type 0
HeightsFit plan heights = (place : ℕ) → place < needed_pixels plan → HeightFits (number_at heights place)

-- The sum of the heights in a rectangle of a plan's map with dropouts replaced by 0, as a whole number.
abbrev pub height_sum : Plan → List ℤ → (top left bottom right : ℕ) → ℤ
height_sum plan heights top left bottom right =
    heights_inside (reading_at plan.grid.columns heights) top left bottom right

-- Its size is 2^24 × 2^31 = 2^55 at most.
abbrev pub SumsBounded : Type 0
SumsBounded =
    (plan : Plan) → keeps_rules plan ≡ true → (heights : List ℤ) → HeightsFit plan heights
    → (top left bottom right : ℕ) → Inside plan top left bottom right
    → nat_abs (height_sum plan heights top left bottom right) ≤ 2 ^ 55

-- Over every rectangle of the map, an empty one too, the call gives the sum of the heights in it (`height_sum`) from this
-- table.
abbrev pub SumsOver : Plan → List ℤ → (table : List ℕ) → Type 0
SumsOver plan heights table =
    (top left bottom right : ℕ) → Inside plan top left bottom right
    → rectangle_call plan table top left bottom right
    ≡ record { answer = accepted; value = height_sum plan heights top left bottom right }

-- So it is for every plan with the passes of the summed-area table, every map of such heights, and the output that the
-- serial passes leave of it.
abbrev pub SumsHeights : Type 0
SumsHeights =
    (plan : Plan) → keeps_rules plan ≡ true → plan.passes ≡ summed_area_passes
    → (heights : List ℤ) (output : List ℕ) → HeightsFit plan heights
    → needed_pixels plan ≤ length heights → needed_pixels plan ≤ length output
    → SumsOver plan heights (serial_output plan heights output)

-- ---- any table

-- Where the four corners of a rectangle make this word, the call gives this sum.
abbrev pub GivesAtWord : ℕ → ℤ → Type 0
GivesAtWord word sum =
    (plan : Plan) (table : List ℕ) → keeps_rules plan ≡ true → needed_pixels plan ≤ length table
    → (top left bottom right : ℕ) → Inside plan top left bottom right
    → rectangle_sum (table_of plan table) top left bottom right ≡ word
    → rectangle_call plan table top left bottom right ≡ record { answer = accepted; value = sum }

-- At zero and at both ends: 0 at the word 0, 2^63 - 1 at the word 2^63 - 1, -2^63 at the word 2^63.
pub record SumsAtEnds : Type 0 where
  pub at_zero : GivesAtWord 0 (pos 0)
  pub at_greatest : GivesAtWord (2 ^ 63 - 1) (pos (2 ^ 63 - 1))
  pub at_least : GivesAtWord (2 ^ 63) (neg_ℤ (pos (2 ^ 63)))
