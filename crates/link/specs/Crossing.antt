-- Inner: the responses of a link, and the passes of the other axis over them.
use Rattle.std.specs.Prelude.{◌≡◌, List, ℕ, ◌+◌, ◌*◌, ◌<◌, ◌≤◌, length}
use Rattle.number.specs.Numbers.{row_major}
use Rattle.plan.specs.Rules.{order_limit}
use Rattle.buffer.specs.Lists.{word_at}
use Rattle.buffer.specs.Written.{rectangle_written}
use Rattle.passes.specs.Filter.{Filter}
use Rattle.axis.specs.Axis.{Direction, direction_of}
use Rattle.passes.specs.Passes.{filter_line}
use Rattle.filter.specs.Windows.{beyond}
use Rattle.squares.specs.LinePasses.{crossed}
use Rattle.squares.specs.LineBuffers.{row_words, line_rows, line_words, rows_before, OrdersFit}
use Rattle.link.specs.Courses.{Inside, index_at, CourseFits}
use Rattle.link.specs.declared.Course.{Course}

-- ---- the buffer of responses: rows of order_limit words, one to a line, between two margins of order_limit rows

-- The words of such a buffer.
abbrev pub response_words : ℕ
response_words = row_words * order_limit

-- Where the response at a line and a place stands.
abbrev pub response_place : ℕ → ℕ → ℕ
response_place line place = row_major order_limit (order_limit + line) place

-- The responses are these words, by line and by index in the line.
pub record Held (course : Course) (words : ℕ → ℕ → ℕ) (buffer : List ℕ) : Type 0 where
  pub length_is : length buffer ≡ response_words
  pub at : (line place : ℕ) → line < course.lines → Inside course place
      → word_at buffer (response_place line place) ≡ words line (index_at course place)

-- ---- the ends of the lines

-- The buffer of responses after the ends of n rows of lines, from a row on, have gone to its margin, on the side where a
-- pass comes from.
unfoldable pub ends_copied : Direction → Course → (row : ℕ) → List ℕ → ℕ → List ℕ → List ℕ
ends_copied d course row lines n buffer =
    rectangle_written (λ k p. row_major order_limit (beyond d order_limit course.lines k) p)
    (λ k p. word_at lines (row_major row_words (row + k) (course.from + p))) course.order n buffer

-- What the ends of `order` rows from a row on want; the buffers have so many words.
pub record EndsFit (course : Course) (row order lines responses : ℕ) : Type 0 where
  pub course_fits : CourseFits course
  pub order_limited : order ≤ order_limit
  pub rows_in_law : row + order ≤ line_rows
  pub lines_long : lines ≡ line_words
  pub responses_long : responses ≡ response_words

-- ---- the passes of the other axis

-- What they want; the buffers have so many words.
pub record CrossFits (filters : ℕ → Filter) (course : Course) (lines responses : ℕ) : Type 0 where
  pub course_fits : CourseFits course
  pub orders : OrdersFit filters
  pub lines_long : lines ≡ line_words
  pub responses_long : responses ≡ response_words

-- A pass over the responses of all lines, the ends of the rows of lines standing past them.
pub record Crossed (filters : ℕ → Filter) (course : Course) (pass : ℕ) (lines before after : List ℕ) : Type 0 where
  pub length_kept : length after ≡ length before
  pub at : (line place : ℕ) → line < course.lines → Inside course place
      → word_at after (response_place line place)
      ≡ filter_line (direction_of pass) (filters pass) course.lines
      (λ k. word_at lines (row_major row_words (rows_before filters pass + k) (course.from + place)))
      (λ y. word_at before (response_place y place)) line

-- The words after all of them, with H past the block's edges.
abbrev pub crossed_words : (ℕ → Filter) → Course → (H : ℕ → ℕ → ℕ → ℕ) → (line index : ℕ) → ℕ
crossed_words filters course H line index = crossed filters course.lines course.places H course.pass index line
