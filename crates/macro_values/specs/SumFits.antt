-- Inner: what the number of pixels requires of the four numbers of a rectangle.
use Rattle.std.specs.Prelude.{ℕ, ◌≤◌, ◌^◌, ℤ, Result, Ok, Err}
use Rattle.refusal.specs.declared.Refusal.{Refusal}
use Rattle.macro_values.specs.MacroValues.{pixel_count}

-- Edges that have not crossed, around no more pixels than a map can have.
pub record RectangleFits (top left bottom right : ℕ) : Type 0 where
  pub top_bottom : top ≤ bottom
  pub left_right : left ≤ right
  pub pixels_high : pixel_count top left bottom right ≤ 2 ^ 24

-- So it is of a rectangle whose sum was given.
abbrev pub SumFits : Result ℤ Refusal → (top left bottom right : ℕ) → Type 0
SumFits (Ok sum) top left bottom right = RectangleFits top left bottom right
SumFits (Err refusal) top left bottom right = Unit {0}
