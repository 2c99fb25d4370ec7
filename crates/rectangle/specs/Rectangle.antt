-- The rectangle sum as a call, and what every call about a rectangle tests: document 01, the paragraph on the rectangle
-- sum and refusals 6, 7 and 12; document 02, CR 2, CR 4, CR 5 and CR 7.
use Rattle.std.specs.Prelude.{Bool, ◌||◌, List, [], ◌∷◌, ◌++◌, ℕ, ◌≤◌, ℤ, pos, ltb, length, Result, Some}
use Rattle.refusal.specs.declared.Refusal.{Refusal}
use Rattle.refusal.specs.Table.{Row, ◌at◌when◌, first_due, Given, given, given_by}
use Rattle.number.specs.Numbers.{row_major}
use Rattle.word.specs.Word.{signed}
use Rattle.plan.specs.declared.BufferOf7.TheVariants.{Table}
use Rattle.plan.specs.declared.Lengths.{Lengths}
use Rattle.plan.specs.declared.Plan.{Plan}
use Rattle.plan.specs.FirstTests.{lent_rows, only_of7}
use Rattle.buffer.specs.Lists.{word_at}
use Rattle.passes.specs.Table.{rectangle_sum}

-- A table of h×w words, row after row, as a function of row and column.
abbrev pub table_of : Plan → List ℕ → ℕ → ℕ → ℕ
table_of plan table row column = word_at table (row_major plan.grid.columns row column)

-- A rectangle of the map, up to its far edges; it may be empty, without rows or without columns,
pub record Inside (plan : Plan) (top left bottom right : ℕ) : Type 0 where
  pub top_bottom : top ≤ bottom
  pub left_right : left ≤ right
  pub bottom_low : bottom ≤ plan.grid.rows
  pub right_low : right ≤ plan.grid.columns

-- and the test that four numbers are no such rectangle: top > bottom, left > right, bottom > h or right > w.
abbrev pub outside : Plan → (top left bottom right : ℕ) → Bool
outside plan top left bottom right =
    ltb bottom top || (ltb right left || (ltb plan.grid.rows bottom || ltb plan.grid.columns right))

-- What a call about a rectangle tests where it is lent buffers of these lengths, in this order: 6 for the record, the
-- lengths, 12 for the rectangle.
abbrev pub rectangle_rows : Plan → Lengths → (top left bottom right : ℕ) → List Row
rectangle_rows plan lent top left bottom right = lent_rows plan lent ++ (12 at 0 when outside plan top left bottom right ∷ [])

-- The sum is lent a table, so that 7 stands between 6 and 12.
abbrev pub lent_to_sum : List ℕ → Lengths
lent_to_sum table = only_of7 (Some (Table (length table)))

-- The sum over a rectangle, from -2^63 to 2^63 - 1: the word of the four corners, read as signed; 0 beside a refusal.
unfoldable pub rectangle_call : Plan → List ℕ → (top left bottom right : ℕ) → Given ℤ
rectangle_call plan table top left bottom right =
    given (first_due (rectangle_rows plan (lent_to_sum table) top left bottom right))
    (signed (rectangle_sum (table_of plan table) top left bottom right)) (pos 0)

-- Document 01's number and place, and the sum, of what `rectangle_sum` answers; 0 beside a refusal.
abbrev pub sum_given : Result ℤ Refusal → Given ℤ
sum_given = given_by (pos 0)
