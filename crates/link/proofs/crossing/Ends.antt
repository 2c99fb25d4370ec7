-- The ends of the lines in the margins of the responses. Assumes nothing.
use mathlib.Core.List.{List}
use mathlib.Core.Path.{◌≡◌, refl, ap, ◌∙◌}
use Prim.Native.Nat.{ℕ, ◌+◌, ◌*◌, ◌<◌, ◌≤◌}
use native.Mathlib.Omega.{arith}
use lib.ListN.{length}
use Rattle.number.specs.Numbers.{row_major}
use Rattle.plan.specs.Rules.{order_limit}
use Rattle.buffer.specs.Lists.{word_at}
use Rattle.buffer.specs.Copies.{words_from}
use Rattle.buffer.specs.Written.{row_written}
use Rattle.buffer.proofs.Written.{written_same}
use Rattle.buffer.proofs.Copies.{rectangle_none, rectangle_more, rectangle_length, rectangle_at, rectangle_other}
use Rattle.axis.specs.Axis.{Direction}
use Rattle.number.proofs.RowMajor.{same_row_column}
use Rattle.filter.specs.Windows.{beyond}
use Rattle.squares.proofs.Lines.{margin_below, margin_outside}
use Rattle.squares.proofs.Units.{margin_apart}
use Rattle.squares.specs.LineBuffers.{row_words}
use Rattle.link.specs.Courses.{CourseFits}
use Rattle.link.specs.Crossing.{response_words, response_place, ends_copied}
use Rattle.link.specs.declared.Course.{Course}

module _ (d : Direction) (course : Course) (row : ℕ) (lines before : List ℕ) where
  abbrev end_place : ℕ → ℕ → ℕ
  end_place k p = row_major order_limit (beyond d order_limit course.lines k) p

  abbrev end_word : ℕ → ℕ → ℕ
  end_word k p = word_at lines (row_major row_words (row + k) (course.from + p))

  -- No row yet.
  pub ends_none : before ≡ ends_copied d course row lines 0 before
  unfolding ends_copied
  ends_none = rectangle_none end_place end_word course.order before

  -- One row more.
  pub ends_next : (n : ℕ) {b a : List ℕ} {to : ℕ} → b ≡ ends_copied d course row lines n before
      → to ≡ beyond d order_limit course.lines n
      → a ≡ row_written (to * order_limit) (words_from lines ((row + n) * row_words + course.from)) course.order b
      → a ≡ ends_copied d course row lines (n + 1) before
  unfolding ends_copied row_written
  ends_next n e f g =
      rectangle_more end_place end_word course.order n before _ _ e
      ((rw f at g) ∙ written_same _ _ _ _ course.order _ (λ i h. refl) (λ i h. ap (word_at lines) (omega arith)))

module _ (course : Course) (fits : CourseFits course) (d : Direction) (row order : ℕ) (few_rows : order ≤ order_limit)
    (lines before : List ℕ) (long : length before ≡ response_words) where
  abbrev loaded : List ℕ
  loaded = ends_copied d course row lines order before

  abbrev place : ℕ → ℕ → ℕ
  place = end_place d course row lines before

  abbrev word : ℕ → ℕ → ℕ
  word = end_word d course row lines before

  pub ends_length : length loaded ≡ length before
  unfolding ends_copied
  ends_length = rectangle_length place word course.order order before

  pub ends_at : (k p : ℕ) → k < order → p < course.order → word_at loaded (place k p) ≡ word k p
  unfolding ends_copied
  ends_at k p h b =
      let narrow = fits.order_limited in
      rectangle_at place word course.order order before
      (λ i p k q a b c e z.
      let same = same_row_column order_limit _ p _ q (omega arith) (omega arith) z in
      (margin_apart d course.lines i k (omega arith) (omega arith) same.0, same.1))
      (λ k p a b. omega (arith, margin_below d course.lines k fits.few_lines (omega arith))) k p h b

  pub ends_rest : (line place : ℕ) → line < course.lines → place < order_limit
      → word_at loaded (response_place line place) ≡ word_at before (response_place line place)
  unfolding ends_copied
  ends_rest line p h b =
      rectangle_other place word course.order order before _
      (λ k j a c q.
      margin_outside d course.lines k line (omega arith) h
      (same_row_column order_limit (order_limit + line) p _ j b (omega (arith, fits.order_limited)) q).0)
