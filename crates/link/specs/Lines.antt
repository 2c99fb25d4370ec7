-- Inner: the lines of a link in rows of a buffer: the lines past the block's edges, and the unit histories.
use Rattle.std.specs.Prelude.{◌≡◌, cond, List, ℕ, zero, suc, ◌+◌, ◌-◌, ◌<◌, ◌≤◌, min, length, ltb}
use Rattle.word.specs.Word.{◌⊗◌}
use Rattle.grid.specs.Grid.{side_limit}
use Rattle.buffer.specs.Lists.{word_at}
use Rattle.buffer.specs.Written.{row_written}
use Rattle.passes.specs.Filter.{Filter}
use Rattle.axis.specs.Axis.{Direction}
use Rattle.passes.specs.Square.{unit_history}
use Rattle.task_words.specs.Strips.{from_edge}
use Rattle.strips.specs.StripRecord.{place_held, strip_read, StripFits}
use Rattle.strips.specs.declared.Strip.{Strip}
use Rattle.squares.specs.LinePasses.{only_at, pass_square, row_end}
use Rattle.squares.specs.LineBuffers.{line_rows, line_words, filter_at, rows_before, line_place}
use Rattle.squares.specs.Rows.{LineIs, RowsFilled, ZerosFrom}
use Rattle.link.specs.Courses.{LinkFits}
use Rattle.link.specs.declared.Course.{Course}
use Rattle.link.specs.declared.BlockLink.{BlockLink}

-- ---- the lines past a block's edges

-- How many of the first n lines of a strip have a word in the block at a place.
unfoldable pub lines_inside : Strip → (place n : ℕ) → ℕ
lines_inside strip place n = cond (place_held strip place) (min n strip.lines) 0

-- A buffer after the words of a strip at one place of its lines, where they lie in the block, have gone to a row of lines,
-- each times a gain.
unfoldable pub strip_line : (gain : ℕ) → Strip → List ℕ → (place row places : ℕ) → List ℕ → List ℕ
strip_line gain strip strips place row places buffer =
    row_written (line_place row 0) (λ j. gain ⊗ strip_read strip strips j place) (lines_inside strip place places)
    buffer

-- The same of the first n distances from the edge that a pass leaves by, each to its row, from a row on.
unfoldable pub strip_lines : (gain : ℕ) → Direction → (order : ℕ) → Strip → List ℕ → (row places n : ℕ) → List ℕ → List ℕ
strip_lines gain d order strip strips row places zero buffer = buffer
strip_lines gain d order strip strips row places (suc n) buffer =
    strip_line gain strip strips (from_edge d order n) (row + n) places
    (strip_lines gain d order strip strips row places n buffer)

-- What the lines of a strip want that go to `count` rows, from a row on, of a buffer of n words; the strips have m words.
pub record StripRows (n row count places m : ℕ) (strip : Strip) : Type 0 where
  pub rows_in_law : row + count ≤ line_rows
  pub few_places : places ≤ side_limit
  pub long : line_words ≤ n
  pub strip_fits : StripFits m strip

-- ---- the lines of a link: H u j k stands for place j of line k past the block's edge where pass u comes from

-- The outputs past the ends of row k of a pass: none where the pass runs along the other axis, and the unit history k of
-- the pass where it runs along the link's own.
unfoldable pub row_history : Course → (pass k : ℕ) → ℕ → ℕ → ℕ
row_history course pass k = cond (ltb pass course.first) (λ u i. 0) (only_at pass (unit_history k))

-- The words of that row: the line past the block's edge, or zeros.
unfoldable pub row_input : Course → (H : ℕ → ℕ → ℕ → ℕ) → (pass k : ℕ) → ℕ → ℕ
row_input course H pass k = cond (ltb pass course.first) (λ j. H pass j k) (λ i. 0)

-- The rows of a pass have got their lines, and no other row has changed.
abbrev pub PassFilled : (ℕ → Filter) → Course → (H : ℕ → ℕ → ℕ → ℕ) → (pass : ℕ) → (before after : List ℕ) → Type 0
PassFilled filters course H pass before after =
    RowsFilled course.places course.first course.passes (rows_before filters pass) (filters pass).order
    (row_history course pass) (row_input course H pass) before after

-- A buffer of n zeros.
pub record ZeroWords (n : ℕ) (buffer : List ℕ) : Type 0 where
  pub length_is : length buffer ≡ n
  pub zeros : (z : ℕ) → word_at buffer z ≡ 0

-- What is asked where the rows of a pass are filled: the rows from its first on are zeros.
pub record PassToFill (link : BlockLink) (strips pass : ℕ) (lines : List ℕ) : Type 0 where
  pub link_fits : LinkFits link strips
  pub in_course : pass < link.course.first + link.course.passes
  pub long : line_words ≤ length lines
  pub zeros : ZerosFrom (rows_before (filter_at link.filters) pass) lines

-- The rows of the first passes have their lines, and the others are zeros.
pub record LinesFilled (filters : ℕ → Filter) (course : Course) (H : ℕ → ℕ → ℕ → ℕ) (passes : ℕ) (buffer : List ℕ) : Type 0 where
  pub length_is : length buffer ≡ line_words
  pub zeros : ZerosFrom (rows_before filters passes) buffer
  pub lines : (pass k : ℕ) → pass < passes → k < (filters pass).order
      → LineIs course.places course.first course.passes (row_history course pass k) (row_input course H pass k) buffer
      (rows_before filters pass + k)

-- After the passes of the link's axis the rows have the ends of the lines past the block's edges, and the squares.
pub record LinesReady (filters : ℕ → Filter) (course : Course) (H : ℕ → ℕ → ℕ → ℕ) (buffer : List ℕ) : Type 0 where
  pub length_is : length buffer ≡ line_words
  pub ends : (pass k i : ℕ) → pass < course.first → k < (filters pass).order → i < course.places
      → word_at buffer (line_place (rows_before filters pass + k) i)
      ≡ row_end filters course.places course.pass i (λ j. H pass j k)
  pub squares : (pass k i : ℕ) → course.first ≤ pass → pass < course.first + course.passes → k < (filters pass).order
      → i < course.places
      → word_at buffer (line_place (rows_before filters pass + k) i)
      ≡ pass_square filters course.places pass ((course.first + course.passes) - pass) i k
