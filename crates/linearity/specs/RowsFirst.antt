-- What the calls of the serial passes write, with right and left before down and up: document 02, CR 10. The passes
-- themselves: passes/PassOrders.
use Rattle.std.specs.Prelude.{◌≡◌, List, [], ◌∷◌, ℕ, ◌<◌, ◌≤◌, length}
use Rattle.plan.specs.declared.Plan.{Plan}
use Rattle.plan.specs.Rules.{pass_at}
use Rattle.plan.specs.Sizes.{needed_pixels}
use Rattle.passes.specs.PassOrders.{passes_in_order, rows_first}
use Rattle.filter.specs.PlanFilters.{unchanged_pass, filters_of, word_map_of}
use Rattle.serial.specs.Serial.{passes_output, serial_words_output}
use Rattle.linearity.specs.Adding.{Accepted}

-- The plan of right and left alone, with order 0 and gain 1 for down and up,
abbrev pub rows_alone : Plan → Plan
rows_alone plan =
    record { grid = plan.grid; passes = unchanged_pass ∷ unchanged_pass ∷ pass_at plan 2 ∷ pass_at plan 3 ∷ [] }

-- and that of down and up alone, with order 0 and gain 1 for right and left.
abbrev pub columns_alone : Plan → Plan
columns_alone plan =
    record { grid = plan.grid; passes = pass_at plan 0 ∷ pass_at plan 1 ∷ unchanged_pass ∷ unchanged_pass ∷ [] }

-- Two calls in the place of one over a map X: with a first plan into a buffer between, and with a second plan over the
-- words of that buffer. Both are accepted, and the second leaves the output of the call with the whole plan.
pub record InTwoCalls (plan first second : Plan) (X : ℕ → ℕ → ℕ) (map_length : ℕ) (between output : List ℕ) : Type 0 where
  pub first_accepted : Accepted first map_length between
  pub second_accepted : Accepted second (length (passes_output first X map_length between)) output
  pub same_output :
      serial_words_output second (passes_output first X map_length between) output ≡ passes_output plan X map_length output

-- Of every accepted call, over heights or over words (X is `map_of` or `word_map_of` of what it is lent), the output has at
-- each pixel the word that the passes give with right and left before down and up;
pub record RowsFirst : Type 0 where
  pub each_pixel : (plan : Plan) (X : ℕ → ℕ → ℕ) (map_length : ℕ) (output : List ℕ) → Accepted plan map_length output
      → (row column : ℕ) → row < plan.grid.rows → column < plan.grid.columns
      → word_map_of plan (passes_output plan X map_length output) row column
      ≡ passes_in_order (filters_of plan) plan.grid.rows plan.grid.columns rows_first X row column
  -- and two calls leave the same, right and left in the first and down and up in the second, or the other way round,
  -- whatever the buffer between held.
  pub rows_then_columns : (plan : Plan) (X : ℕ → ℕ → ℕ) (map_length : ℕ) (between output : List ℕ)
      → Accepted plan map_length output → needed_pixels plan ≤ length between
      → InTwoCalls plan (rows_alone plan) (columns_alone plan) X map_length between output
  pub columns_then_rows : (plan : Plan) (X : ℕ → ℕ → ℕ) (map_length : ℕ) (between output : List ℕ)
      → Accepted plan map_length output → needed_pixels plan ≤ length between
      → InTwoCalls plan (columns_alone plan) (rows_alone plan) X map_length between output
