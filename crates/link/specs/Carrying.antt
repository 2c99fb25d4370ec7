-- Inner: the histories of the lines, added to the responses of a link.
use Rattle.std.specs.Prelude.{◌≡◌, List, ℕ, ◌+◌, ◌-◌, ◌*◌, ◌<◌, ◌≤◌, length}
use Rattle.word.specs.Word.{◌⊕◌, ◌⊗◌}
use Rattle.grid.specs.Grid.{side_limit}
use Rattle.plan.specs.Rules.{order_limit}
use Rattle.buffer.specs.Lists.{word_at}
use Rattle.buffer.specs.Written.{written}
use Rattle.buffer.specs.Copies.{WordsFit}
use Rattle.passes.specs.Filter.{Filter}
use Rattle.axis.specs.Axis.{Direction}
use Rattle.passes.specs.Square.{weighted_sum}
use Rattle.task_words.specs.Strips.{from_edge}
use Rattle.strips.specs.StripRecord.{strip_read, StripFits}
use Rattle.strips.specs.declared.Strip.{Strip}
use Rattle.squares.specs.LinePasses.{pass_square, response}
use Rattle.squares.specs.LineBuffers.{filter_at, square_at}
use Rattle.link.specs.Courses.{Inside, index_at, CourseFits, LinkFits, edges_of}
use Rattle.link.specs.Lines.{LinesReady}
use Rattle.link.specs.Crossing.{response_words, response_place}
use Rattle.link.specs.declared.Course.{Course}
use Rattle.link.specs.declared.BlockLink.{BlockLink}

-- ---- multiples of words that lie apart

-- What words of the strips that lie `step` apart, one for each line of the responses, want; the buffers have so many words.
pub record WordPerLine (responses strips at step lines : ℕ) : Type 0 where
  pub few_lines : lines ≤ side_limit
  pub responses_long : responses ≡ response_words
  pub words_fit : WordsFit strips at step lines

-- The responses after n lines have got a multiple of words of the strips added at one place.
unfoldable pub multiple_added : (place : ℕ) → List ℕ → (at step weight n : ℕ) → List ℕ → List ℕ
multiple_added place strips at step weight n buffer =
    written (λ l. response_place l place)
    (λ l. word_at buffer (response_place l place) ⊕ word_at strips (at + l * step) ⊗ weight)
    n buffer

-- What multiples of such words at the first places of the responses want.
pub record MultiplesFit (places responses strips at step lines : ℕ) : Type 0 where
  pub few_places : places ≤ order_limit
  pub word_per_line : WordPerLine responses strips at step lines

-- Multiples of a word for each line have been added to the first places of the responses.
pub record DistanceAdded (lines places : ℕ) (words weights : ℕ → ℕ) (before after : List ℕ) : Type 0 where
  pub length_kept : length after ≡ length before
  pub at : (line place : ℕ) → line < lines → place < places
      → word_at after (response_place line place) ≡ word_at before (response_place line place) ⊕ words line ⊗ weights place

-- The same, and no other response has changed.
pub record MultiplesAdded (lines places : ℕ) (words weights : ℕ → ℕ) (before after : List ℕ) : Type 0 where
  pub added : DistanceAdded lines places words weights before after
  pub rest : (line place : ℕ) → place < order_limit → (line < lines → place < places → ⊥)
      → word_at after (response_place line place) ≡ word_at before (response_place line place)

-- ---- histories

-- What the histories in a strip want; the buffers have so many words.
pub record HistoriesFit (course : Course) (responses strips : ℕ) (strip : Strip) : Type 0 where
  pub course_fits : CourseFits course
  pub responses_long : responses ≡ response_words
  pub strip_fits : StripFits strips strip

-- The history of a line of a strip, nearest first, times a gain.
abbrev pub history_word : (gain : ℕ) → Direction → (order : ℕ) → Strip → List ℕ → (line distance : ℕ) → ℕ
history_word gain d order strip strips line distance = gain ⊗ strip_read strip strips line (from_edge d order distance)

-- The first n places of the histories H of the lines have been added to the responses, weighted by a square.
pub record HistoriesAdded (lines places n : ℕ) (H : ℕ → ℕ → ℕ) (square : List (List ℕ)) (before after : List ℕ) : Type 0 where
  pub length_kept : length after ≡ length before
  pub at : (line place : ℕ) → line < lines → place < places
      → word_at after (response_place line place)
      ≡ word_at before (response_place line place) ⊕ weighted_sum n (H line) (λ distance. square_at square distance place)

-- ---- the passes of the link's axis

-- What they want of the lines: their rows have the squares.
pub record CarryFits (link : BlockLink) (strips lines : List ℕ) : Type 0 where
  pub link_fits : LinkFits link (length strips)
  pub ready : LinesReady (filter_at link.filters) link.course (edges_of link strips) lines

-- One of these passes, and responses of so many words.
pub record PassToCarry (course : Course) (pass responses : ℕ) : Type 0 where
  pub from_first : course.first ≤ pass
  pub in_course : pass < course.first + course.passes
  pub responses_long : responses ≡ response_words

-- The history H of a pass has been added to the responses, weighted by its square.
pub record Carried (filters : ℕ → Filter) (course : Course) (pass : ℕ) (H : ℕ → ℕ → ℕ) (before after : List ℕ) : Type 0 where
  pub length_kept : length after ≡ length before
  pub at : (line place : ℕ) → line < course.lines → Inside course place
      → word_at after (response_place line place)
      ≡ word_at before (response_place line place)
      ⊕ weighted_sum (filters pass).order (H line)
      (pass_square filters course.places pass ((course.first + course.passes) - pass) (index_at course place))

-- The words after all of them, with H past the block's edges.
abbrev pub response_of : (ℕ → Filter) → Course → (H : ℕ → ℕ → ℕ → ℕ) → (line index : ℕ) → ℕ
response_of filters course H line index = response filters course.lines course.places H course.pass line index
