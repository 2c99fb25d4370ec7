-- Passes along the rows of a buffer are the passes over its lines. Assumes nothing.
use mathlib.Core.List.{List}
use mathlib.Core.Path.{◌≡◌, refl, ap, sym, ◌∙◌}
use mathlib.Core.Logic.{◌≢◌}
use Prim.Native.Nat.{ℕ, zero, suc, ◌+◌, ◌-◌, ◌<◌, ◌≤◌}
use native.Mathlib.Omega.{arith}
use native.Mathlib.Decide.{dec_lt}
use native.Mathlib.Nat.{zero-add}
use borrow.Author.Tests.{lt-ltb, le-ltb}
use lib.ListN.{length}
use Rattle.plan.specs.Rules.{order_limit}
use Rattle.buffer.specs.Lists.{word_at}
use Rattle.passes.proofs.Passes.{filter_line_reads}
use Rattle.passes.specs.Filter.{Filter}
use Rattle.axis.specs.Axis.{Axis, rows, Direction, forward, backward, axis_of, direction_of}
use Rattle.passes.specs.Passes.{filter_lines}
use Rattle.axis.proofs.Passes.{axis_rows}
use Rattle.number.proofs.RowMajor.{same_row_column}
use Rattle.filter.proofs.Windows.{Passed, window_pass_passed}
use Rattle.number.specs.Numbers.{row_major}
use Rattle.filter.specs.Windows.{beyond, words_beside_window, window_pass, WindowFits}
use Rattle.filter.specs.declared.Window.{Window}
use Rattle.squares.specs.LinePasses.{line_passes}
use Rattle.squares.specs.LineBuffers.{row_words, line_rows, line_words, line_window, row_pass, OrdersFit, rows_before, line_pass}
use Rattle.squares.specs.Rows.{JoinsAt, LinesPassed}

row_axis : (pass : ℕ) → axis_of (row_pass pass) ≡ rows
row_axis pass = axis_rows (row_pass pass) (omega arith)

row_direction : (pass : ℕ) → direction_of (row_pass pass) ≡ direction_of pass
row_direction zero = refl
row_direction (suc zero) = refl
row_direction (suc (suc pass)) = row_direction pass

-- ---- margins

pub margin_below : (d : Direction) (extent distance : ℕ) → extent ≤ 32 → distance < order_limit
    → beyond d order_limit extent distance < row_words
margin_below forward extent distance h k = omega arith
margin_below backward extent distance h k = omega arith

-- A margin is beside the lines.
pub margin_outside : (d : Direction) (extent k i : ℕ) → k < order_limit → i < extent
    → order_limit + i ≢ beyond d order_limit extent k
margin_outside forward extent k i a b e = omega arith
margin_outside backward extent k i a b e = omega arith

pub beside_lines : (d : Direction) (places l k y x : ℕ) → places ≤ 32 → k < order_limit → x < places
    → row_major row_words l (beyond d order_limit places k) ≢ row_major row_words y (order_limit + x)
beside_lines d places l k y x a b c e =
    let p =
    same_row_column row_words l (beyond d order_limit places k) y (order_limit + x) (margin_below d places k a b) (omega arith) e in
    margin_outside d places k x b c (sym p.1)

-- ---- passes along rows

-- The lines of a buffer fit it.
lines_fit_along : (n count places : ℕ) (d : Direction) → 0 < count → count ≤ line_rows → 0 < places → places ≤ 32
    → line_words ≤ n → WindowFits n rows d (line_window count places) order_limit
lines_fit_along n count places forward a b c d e =
    record { tall = a; wide = c; start = omega arith; in_row = omega arith; in_buffer = omega arith }
lines_fit_along n count places backward a b c d e =
    record { tall = a; wide = c; start = omega arith; in_row = omega arith; in_buffer = omega arith }

pub lines_fit : (n count places pass : ℕ) → 0 < count → count ≤ line_rows → 0 < places → places ≤ 32 → line_words ≤ n
    → WindowFits n (axis_of (row_pass pass)) (direction_of (row_pass pass)) (line_window count places) order_limit
lines_fit n count places pass a b c d e = rw (row_axis pass) (lines_fit_along n count places _ a b c d e)

-- A pass by another name of its axis and its direction.
pub passed_along : {a b : Axis} {d e : Direction} {W : Window} (f : Filter) {before after : List ℕ} → a ≡ b → d ≡ e
    → Passed a d W f (words_beside_window a d W before) before after
    → Passed b e W f (words_beside_window b e W before) before after
passed_along f p q passed = rw (← p, ← q) passed

-- ---- one pass more

-- No pass yet.
pub passed_none : (filters : ℕ → Filter) (places t : ℕ) (buffer : List ℕ) → LinesPassed filters places t 0 buffer buffer
unfolding line_passes
passed_none filters places t buffer =
    record {
      length_kept = refl;
      at = λ s l i h joins b. let none : 0 - s ≡ 0 = omega arith in rw none;
      beside = λ d l k h. refl;
    }

module _ (filters : ℕ → Filter) (places t m : ℕ) (before : List ℕ) where
  abbrev P : ℕ → ℕ → ℕ → ℕ
  P l u k = word_at before (row_major row_words l (beyond (direction_of u) order_limit places k))

  abbrev x : ℕ → ℕ → ℕ
  x l j = word_at before (row_major row_words l (order_limit + j))

  -- A row that pass t+m leaves out has not taken part yet.
  waiting : {b : List ℕ} → LinesPassed filters places t m before b → (s l i : ℕ) → s ≤ m + 1
      → JoinsAt filters t s (m + 1) l → rows_before filters (t + m + 1) ≤ l → i < places
      → word_at b (row_major row_words l (order_limit + i)) ≡ line_passes filters places (P l) (x l) (t + s) ((m + 1) - s) i
  unfolding line_passes
  waiting held s l i h joins out c =
      elim (dec_lt m s) [
        | yes late ↦
            let none : (m + 1) - s ≡ 0 = omega arith in
            let done : m - m ≡ 0 = omega arith in
            rw none
            (rw done at
            (held.at m l i (omega arith)
            (record {
              not_before = λ v b. joins.not_before v (omega arith);
              from_there = λ v a b. absurd (omega arith);
            })
            c))
        | no late ↦ absurd (omega (arith, joins.from_there m (omega arith) (omega arith)))
      ]

  -- A pass along no rows.
  passed_idle : {b : List ℕ} → LinesPassed filters places t m before b → rows_before filters (t + m + 1) ≡ 0
      → LinesPassed filters places t (m + 1) before b
  passed_idle held none =
      record {
        length_kept = held.length_kept;
        at = λ s l i h joins c. waiting held s l i h joins (omega arith) c;
        beside = held.beside;
      }

  -- A pass along the rows of the passes up to it.
  passed_more : OrdersFit filters → t + m < 4 → 0 < places → places ≤ 32 → {b after : List ℕ} (count : ℕ)
      → line_words ≤ length b → LinesPassed filters places t m before b → count ≡ rows_before filters (t + m + 1) → 0 < count
      → count ≤ line_rows → after ≡ window_pass (row_pass (t + m)) (line_window count places) order_limit (filters (t + m)) b
      → LinesPassed filters places t (m + 1) before after
  unfolding line_passes filter_lines
  passed_more fit h some few {b} {after} count long held r some_count few_count e =
      record {
        length_kept = ap length e ∙ now.length_kept ∙ held.length_kept;
        at = λ s l i a joins c.
            elim (dec_lt l count) [
              | yes in_rows ↦
                  let early : s ≤ m = not_late s l a joins in_rows in
                  let more : (m + 1) - s ≡ suc (m - s) = omega arith in
                  let here : t + s + (m - s) ≡ t + m = omega arith in
                  ap (λ z. word_at z (row_major row_words l (order_limit + i))) e
                  ∙ ap (λ z. word_at passed (row_major row_words z (order_limit + i))) (sym (zero-add l))
                  ∙ now.at l i in_rows c
                  ∙ filter_line_reads (direction_of (t + m)) (filters (t + m)) places _ _ _ _
                  (λ k q.
                  ap (λ z. word_at b (row_major row_words z (beyond (direction_of (t + m)) order_limit places k))) (zero-add l)
                  ∙ held.beside (direction_of (t + m)) l k (omega (arith, fit.order_limited (t + m) h)))
                  (λ j q.
                  ap (λ z. word_at b (row_major row_words z (order_limit + j))) (zero-add l)
                  ∙ held.at s l j early
                  (record {
                    not_before = joins.not_before;
                    from_there = λ v a b. joins.from_there v a (omega arith);
                  })
                  q)
                  i c
                  ∙ rw (more, here)
              | no in_rows ↦
                  ap (λ z. word_at z (row_major row_words l (order_limit + i))) e
                  ∙ now.elsewhere _
                  (λ y x p q z.
                  in_rows
                  (omega (
                    arith,
                    (same_row_column row_words l (order_limit + i) (0 + y) (order_limit + x) (omega arith) (omega arith) z).0,
                  )))
                  ∙ waiting held s l i a joins (omega (arith, r)) c
            ];
        beside = λ d l k c.
            ap (λ z. word_at z (row_major row_words l (beyond d order_limit places k))) e
            ∙ now.elsewhere _ (λ y x a q. beside_lines d places l k (0 + y) x few c q)
            ∙ held.beside d l k c;
      }
    where
      W : Window
      W = line_window count places

      passed : List ℕ
      passed = window_pass (row_pass (t + m)) W order_limit (filters (t + m)) b

      now : Passed rows (direction_of (t + m)) W (filters (t + m))
          (words_beside_window rows (direction_of (t + m)) W b) b passed
      now =
          passed_along (filters (t + m)) (row_axis (t + m)) (row_direction (t + m))
          (window_pass_passed (row_pass (t + m)) W (filters (t + m)) order_limit b
          (lines_fit (length b) count places (t + m) some_count few_count some few long) _
          (record {
            near = λ l k a b c. refl;
            far = λ l k a b c. absurd (omega (arith, fit.order_limited (t + m) h));
          }))

      not_late : (s l : ℕ) → s ≤ m + 1 → JoinsAt filters t s (m + 1) l → l < count → s ≤ m
      not_late s l a joins b =
          elim (dec_lt m s) [
            | yes late ↦ absurd (omega (arith, r, joins.not_before m late))
            | no late ↦ omega arith
          ]

  -- The next pass.
  pub passed_next : OrdersFit filters → t + m < 4 → 0 < places → places ≤ 32 → {b after : List ℕ} → line_words ≤ length b
      → LinesPassed filters places t m before b → rows_before filters (t + m + 1) ≤ line_rows
      → after ≡ line_pass filters places (t + m) b → LinesPassed filters places t (m + 1) before after
  unfolding line_pass
  passed_next fit h some few long held few_rows e =
      let count = rows_before filters (t + m + 1) in
      elim (dec_lt 0 count) [
        | yes l ↦ passed_more fit h some few count long held refl l few_rows (rw (lt-ltb 0 count l) at e)
        | no l ↦ rw (rw (le-ltb 0 count (omega arith)) at e) (passed_idle held (omega arith))
      ]

-- What `line_pass` does.
module _ (filters : ℕ → Filter) (places pass : ℕ) (buffer : List ℕ) {rows : ℕ} (r : rows ≡ rows_before filters (pass + 1)) where
  pub pass_some : 0 < rows → {after : List ℕ}
      → after ≡ window_pass (row_pass pass) (line_window rows places) order_limit (filters pass) buffer
      → after ≡ line_pass filters places pass buffer
  unfolding line_pass
  pass_some h e = rw (← r) (rw (lt-ltb 0 rows h) e)

  pub pass_none : (0 < rows → ⊥) → buffer ≡ line_pass filters places pass buffer
  unfolding line_pass
  pass_none h = rw (← r) (rw (le-ltb 0 rows (omega arith)))
