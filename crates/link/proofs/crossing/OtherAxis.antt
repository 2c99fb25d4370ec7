-- The passes of the other axis over the responses. Assumes nothing.
use mathlib.Core.List.{List}
use mathlib.Core.Path.{◌≡◌, refl, ap, sym, ◌∙◌}
use Prim.Native.Nat.{ℕ, ◌+◌, ◌*◌, ◌<◌, ◌≤◌}
use native.Mathlib.Omega.{arith}
use native.Mathlib.Numerals.{add-one}
use native.Mathlib.Nat.{zero-add}
use lib.ListN.{length}
use Rattle.plan.specs.Rules.{order_limit}
use Rattle.buffer.specs.Lists.{word_at}
use Rattle.passes.proofs.Passes.{filter_line_reads}
use Rattle.passes.specs.Filter.{Filter}
use Rattle.axis.specs.Axis.{columns, Direction, forward, backward, axis_of, direction_of}
use Rattle.passes.specs.Passes.{filter_line, filter_lines}
use Rattle.axis.proofs.Passes.{axis_columns}
use Rattle.filter.proofs.Windows.{Passed, window_pass_passed}
use Rattle.filter.specs.Windows.{window_of, beyond, words_beside_window, window_pass, WindowFits}
use Rattle.filter.specs.declared.Window.{Window}
use Rattle.squares.proofs.Lines.{passed_along}
use Rattle.squares.specs.LinePasses.{line_passes, row_end, crossed}
use Rattle.squares.specs.LineBuffers.{row_words, rows_before}
use Rattle.link.specs.Courses.{index_at, CourseFits}
use Rattle.link.specs.Lines.{LinesReady}
use Rattle.link.specs.Crossing.{response_words, response_place, Held, ends_copied, Crossed, CrossFits, crossed_words}
use Rattle.link.specs.declared.Course.{Course}
use Rattle.link.proofs.crossing.Ends.{ends_length, ends_at, ends_rest}
use Rattle.number.specs.Numbers.{row_major}

-- ---- a pass over the responses

-- The window of the responses.
abbrev response_window : Course → Window
response_window course =
    record { stride = order_limit; top = order_limit; left = 0; height = course.lines; width = course.order }

response_fits_columns : (n : ℕ) (d : Direction) (course : Course) → CourseFits course → n ≡ response_words
    → WindowFits n columns d (response_window course) order_limit
response_fits_columns n forward course fits e =
    let few = fits.few_lines in
    let narrow = fits.order_limited in
    record {
      tall = fits.some_lines;
      wide = fits.some_order;
      start = omega arith;
      in_row = omega arith;
      in_buffer = omega arith;
    }
response_fits_columns n backward course fits e =
    let few = fits.few_lines in
    let narrow = fits.order_limited in
    record {
      tall = fits.some_lines;
      wide = fits.some_order;
      start = omega arith;
      in_row = omega arith;
      in_buffer = omega arith;
    }

pub response_fits : (n pass : ℕ) (course : Course) → CourseFits course → n ≡ response_words → pass < 2
    → WindowFits n (axis_of pass) (direction_of pass) (response_window course) order_limit
response_fits n pass course fits e h = rw (axis_columns pass h) (response_fits_columns n (direction_of pass) course fits e)

-- What `cross_pass` does.
pub cross_passed : (filters : ℕ → Filter) (course : Course) (lines before : List ℕ)
    → CrossFits filters course (length lines) (length before) → (pass : ℕ) → pass < 2 → {loaded after : List ℕ} {row : ℕ}
    → row ≡ rows_before filters pass
    → loaded ≡ ends_copied (direction_of pass) course row lines (filters pass).order before
    → after ≡ window_pass pass (response_window course) order_limit (filters pass) loaded
    → Crossed filters course pass lines before after
unfolding filter_lines
cross_passed filters course lines before cross pass b {loaded} {after} {row} r l e =
    record {
      length_kept = ap length e ∙ passed.length_kept ∙ kept;
      at = λ line place h i.
          let narrow = fits.order_limited in
          let below = i.below in
          at_place after line place
          ∙ ap (λ z. window_of W z line place) e
          ∙ passed.at line place h i.below
          ∙ filter_line_reads (direction_of pass) (filters pass) course.lines _ _ _ _
          (λ k c.
          sym (beside_place place k)
          ∙ ap (λ z. word_at z (row_major order_limit (beyond (direction_of pass) order_limit course.lines k) place)) l
          ∙ ends_at course fits (direction_of pass) row (filters pass).order few lines before cross.responses_long k place c
          i.below
          ∙ ap (λ z. word_at lines (row_major row_words (z + k) (course.from + place))) r)
          (λ y c.
          sym (at_place loaded y place)
          ∙ ap (λ z. word_at z (response_place y place)) l
          ∙ ends_rest course fits (direction_of pass) row (filters pass).order few lines before cross.responses_long y place c
          (omega arith))
          line h;
    }
  where
    W : Window
    W = response_window course

    fits : CourseFits course
    fits = cross.course_fits

    few : (filters pass).order ≤ order_limit
    few = cross.orders.order_limited pass (omega arith)

    kept : length loaded ≡ length before
    kept =
        ap length l
        ∙ ends_length course fits (direction_of pass) row (filters pass).order few lines before cross.responses_long

    at_place : (buffer : List ℕ) (line place : ℕ) → word_at buffer (response_place line place) ≡ window_of W buffer line place
    at_place buffer line place = ap (word_at buffer) (omega arith)

    beside_place : (place k : ℕ)
        → word_at loaded (beyond (direction_of pass) order_limit course.lines k * order_limit + place)
        ≡ words_beside_window columns (direction_of pass) W loaded place k
    beside_place place k = ap (word_at loaded) (omega arith)

    passed : Passed columns (direction_of pass) W (filters pass) (words_beside_window columns (direction_of pass) W loaded) loaded
        (window_pass pass W order_limit (filters pass) loaded)
    passed =
        passed_along (filters pass) (axis_columns pass b) refl
        (window_pass_passed pass W (filters pass) order_limit loaded
        (response_fits (length loaded) pass course fits (kept ∙ cross.responses_long) b) _
        (record {
          near = λ l k a b c. refl;
          far = λ l k a c d. absurd (omega (arith, few));
        }))

-- ---- the passes of the other axis, one after another

module _ (filters : ℕ → Filter) (course : Course) (H : ℕ → ℕ → ℕ → ℕ) where
  -- The responses after the first passes.
  unfoldable pub crossed_to : ℕ → ℕ → ℕ → ℕ
  crossed_to pass l i =
      line_passes filters course.lines (λ v k. row_end filters course.places course.pass i (λ j. H v j k)) (λ y. 0) 0
      pass l

  pub cross_none : (buffer : List ℕ) → length buffer ≡ response_words → ((z : ℕ) → word_at buffer z ≡ 0)
      → Held course (crossed_to 0) buffer
  unfolding crossed_to line_passes
  cross_none buffer long zeros = record { length_is = long; at = λ line place h i. zeros _ }

  pub cross_next : (pass : ℕ) {lines before after : List ℕ} → pass < course.first → LinesReady filters course H lines
      → Held course (crossed_to pass) before → Crossed filters course pass lines before after
      → Held course (crossed_to (pass + 1)) after
  unfolding crossed_to line_passes
  cross_next pass {lines} b ready held passed =
      rw (add-one pass)
      (record {
        length_is = passed.length_kept ∙ held.length_is;
        at = λ line place h i.
            passed.at line place h i
            ∙ filter_line_reads (direction_of pass) (filters pass) course.lines _ _ _ _
            (λ k c.
            let low = i.low in
            let high = i.high in
            ap (word_at lines) (omega arith) ∙ ready.ends pass k (index_at course place) b c (omega arith))
            (λ y c. held.at y place c i) line h
            ∙ ap
            (λ v.
            filter_line (direction_of v) (filters v) course.lines
            (λ k. row_end filters course.places course.pass (index_at course place) (λ j. H v j k))
            (λ y. crossed_to pass y (index_at course place)) line)
            (sym (zero-add pass));
      })

  pub cross_all : {pass : ℕ} {buffer : List ℕ} → CourseFits course → Held course (crossed_to pass) buffer
      → pass ≡ course.first → Held course (crossed_words filters course H) buffer
  unfolding crossed_to crossed
  cross_all fits held e =
      record {
        length_is = held.length_is;
        at = λ line place h i. rw (← (e ∙ fits.first_is)) (held.at line place h i);
      }
