-- Inner: lines in a buffer, one to a row, with room beside each for the outputs past its ends.
use Rattle.std.specs.Prelude.{cond, List, [], ℕ, ◌+◌, ◌*◌, ◌<◌, ◌≤◌, ltb, get_or}
use Rattle.number.specs.Numbers.{total, row_major}
use Rattle.grid.specs.Grid.{side_limit}
use Rattle.plan.specs.Rules.{order_limit}
use Rattle.plan.specs.PaddedLine.{padded_line}
use Rattle.passes.specs.Filter.{Filter}
use Rattle.axis.specs.Axis.{Direction}
use Rattle.filter.specs.FilterWords.{filter_with}
use Rattle.filter.specs.Windows.{window_pass, beyond}
use Rattle.buffer.specs.Lists.{word_at}
use Rattle.buffer.specs.Written.{written}
use Rattle.filter.specs.declared.FilterWords.{FilterWords}
use Rattle.filter.specs.declared.Window.{Window}
use Rattle.squares.specs.LinePasses.{axis_passes}
use Rattle.plan.specs.Sizes.{order_sum_limit}

-- The words of a row: the longest line, and a history at both ends.
abbrev pub row_words : ℕ
row_words = padded_line

-- The rows of a buffer: one for each place of the histories of four passes.
abbrev pub line_rows : ℕ
line_rows = order_sum_limit

-- The words of a buffer.
abbrev pub line_words : ℕ
line_words = line_rows * row_words

-- Where place i of the line in row l stands,
abbrev pub line_place : (l i : ℕ) → ℕ
line_place l i = row_major row_words l (order_limit + i)

-- and the place that lies k + 1 places beyond the n places of the line, on the side where a pass comes from.
abbrev pub place_beyond : Direction → (n l k : ℕ) → ℕ
place_beyond d n l k = row_major row_words l (beyond d order_limit n k)

-- The filter of a pass, of the words of four filters.
abbrev pub filter_at : List FilterWords → ℕ → Filter
filter_at filters pass = filter_with (get_or filters pass (record { gain = 0; order = 0; coefficients = [] }))

-- No order is above the limit.
pub record OrdersFit (filters : ℕ → Filter) : Type 0 where
  pub order_limited : (pass : ℕ) → pass < 4 → (filters pass).order ≤ order_limit

-- The rows of the passes before a pass: as many as their orders sum to.
unfoldable pub rows_before : (ℕ → Filter) → ℕ → ℕ
rows_before filters pass = total (λ u. (filters u).order) pass

-- The lines of the first rows.
abbrev pub line_window : (rows places : ℕ) → Window
line_window rows places = record { stride = row_words; top = 0; left = order_limit; height = rows; width = places }

-- The pass along rows with the direction of a pass, 2 (right) or 3 (left): `axis_passes` is 1 forward and 2 backward.
abbrev pub row_pass : ℕ → ℕ
row_pass pass = 1 + axis_passes pass

-- The buffer after a pass along its lines, in the rows of the passes up to it.
unfoldable pub line_pass : (ℕ → Filter) → (places pass : ℕ) → List ℕ → List ℕ
line_pass filters places pass buffer =
    cond (ltb 0 (rows_before filters (pass + 1)))
    (window_pass (row_pass pass) (line_window (rows_before filters (pass + 1)) places) order_limit (filters pass) buffer)
    buffer

-- The buffer with a 1 at distance j past the end of line j from a row on, where a pass comes from, for each j below the
-- order: of zeros it makes the unit histories.
unfoldable pub unit_lines : Direction → (row places order : ℕ) → List ℕ → List ℕ
unit_lines d row places order buffer =
    written (λ j. place_beyond d places (row + j) j) (λ j. 1) order buffer

-- What a square has at a line and a place.
abbrev pub square_at : List (List ℕ) → (line place : ℕ) → ℕ
square_at square line place = word_at (get_or square line []) place

-- What the passes t, .. t+m-1 along the rows of a buffer of n words want.
pub record LinesFit (n : ℕ) (filters : ℕ → Filter) (places t m : ℕ) : Type 0 where
  pub some_places : 0 < places
  pub few_places : places ≤ side_limit
  pub long : line_words ≤ n
  pub passes : t + m ≤ 4
  pub orders : OrdersFit filters

-- What the unit histories from a row on want.
pub record UnitsFit (n row places order : ℕ) : Type 0 where
  pub few_places : places ≤ side_limit
  pub order_limited : order ≤ order_limit
  pub long : (row + order) * row_words ≤ n
