-- What the rectangle sum answers to its four numbers, whatever words the table holds, once the record and the table's
-- length have passed 6 and 7: the sum 0 where they are an empty rectangle of the map, 12 where they are no rectangle of
-- it. Document 02, CR 5.
use Rattle.std.specs.Prelude.{◌≡◌, true, List, ℕ, ◌≤◌, pos, length}
use Rattle.refusal.specs.Refusals.{accepted, refused}
use Rattle.plan.specs.declared.Plan.{Plan}
use Rattle.plan.specs.Rules.{keeps_rules}
use Rattle.plan.specs.Sizes.{needed_pixels}
use Rattle.rectangle.specs.Rectangle.{Inside, rectangle_call}

-- An empty rectangle, with nothing in it: top equal to bottom, or left equal to right.
pub data Empty (top left bottom right : ℕ) : Type 0 where
  no_row : top ≡ bottom → Empty top left bottom right
  no_column : left ≡ right → Empty top left bottom right

-- A rectangle of the map is accepted,
pub record ByFourNumbers (plan : Plan) (table : List ℕ) (top left bottom right : ℕ) : Type 0 where
  pub inside_accepted : Inside plan top left bottom right → (rectangle_call plan table top left bottom right).answer ≡ accepted
  -- its sum is 0 where it is empty,
  pub empty_zero : Inside plan top left bottom right → Empty top left bottom right
      → rectangle_call plan table top left bottom right ≡ record { answer = accepted; value = pos 0 }
  -- and four numbers that are no rectangle of the map are refused by 12.
  pub others_refused : (Inside plan top left bottom right → ⊥)
      → rectangle_call plan table top left bottom right ≡ record { answer = refused 12 0; value = pos 0 }

-- So it is beside every record that keeps the rules and every table that is long enough;
abbrev pub FourNumbersDecide : Type 0
FourNumbersDecide =
    (plan : Plan) (table : List ℕ) → keeps_rules plan ≡ true → needed_pixels plan ≤ length table
    → (top left bottom right : ℕ) → ByFourNumbers plan table top left bottom right

-- and beside any other record or table, too, 12 refuses no rectangle of the map.
abbrev pub InsideNever12 : Type 0
InsideNever12 =
    (plan : Plan) (table : List ℕ) (top left bottom right place : ℕ) → Inside plan top left bottom right
    → (rectangle_call plan table top left bottom right).answer ≡ refused 12 place → ⊥
