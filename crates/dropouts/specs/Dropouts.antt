-- The number of dropouts in a rectangle of a map, as a call: document 02, CR 7, and refusals 6, 15 and 12.
use Rattle.std.specs.Prelude.{List, ℕ, ℤ, length, None, Some, Result}
use Rattle.number.specs.Numbers.{total, one}
use Rattle.refusal.specs.declared.Refusal.{Refusal}
use Rattle.refusal.specs.Table.{first_due, Given, given, given_by}
use Rattle.buffer.specs.Pixel.{is_dropout, height_at}
use Rattle.passes.specs.Table.{sum_inside}
use Rattle.plan.specs.declared.Lengths.{Lengths}
use Rattle.plan.specs.declared.Plan.{Plan}
use Rattle.rectangle.specs.Rectangle.{rectangle_rows}

-- The number of dropouts in a rectangle of a plan's map: 1 for each dropout and 0 for every other height, added up over
-- the rectangle.
unfoldable pub dropouts_inside : Plan → List ℤ → (top left bottom right : ℕ) → ℕ
dropouts_inside plan heights top left bottom right =
    sum_inside (λ n f. total f n) (λ row column. one (is_dropout (height_at plan.grid.columns heights row column)))
    top left bottom right

-- The count is lent a map.
abbrev pub lent_to_count : List ℤ → Lengths
lent_to_count heights = record { of7 = None; strips = None; map = Some (length heights); output = None }

-- The count: refused by 6 for the record, 15 for the map, 12 for the rectangle, in this order; 0 beside a refusal.
unfoldable pub dropouts_call : Plan → List ℤ → (top left bottom right : ℕ) → Given ℕ
dropouts_call plan heights top left bottom right =
    given (first_due (rectangle_rows plan (lent_to_count heights) top left bottom right))
    (dropouts_inside plan heights top left bottom right) 0

-- The documents' number and place, and the count, of what `count_dropouts` answers; 0 beside a refusal.
abbrev pub count_given : Result ℕ Refusal → Given ℕ
count_given = given_by 0
