-- Inner: a window, which is a rectangle of a buffer of rows, and a pass over it, along its columns or its rows.
use Rattle.std.specs.Prelude.{cond, List, ℕ, suc, ◌+◌, ◌-◌, ◌*◌, ◌<◌, ◌≤◌, ltb}
use Rattle.number.specs.Numbers.{row_major}
use Rattle.word.specs.Word.{◌⊗◌}
use Rattle.buffer.specs.Lists.{word_at}
use Rattle.buffer.specs.Written.{rectangle_written}
use Rattle.passes.specs.Filter.{Filter}
use Rattle.passes.specs.Passes.{filter_lines}
use Rattle.axis.specs.Axis.{Axis, Direction, forward, backward, axis_of, direction_of, along, across, line_of, is_backward, if_forward, if_backward}
use Rattle.filter.specs.declared.in_place.Lines.{Lines}
use Rattle.filter.specs.declared.Window.{Window}

-- The place of row y and column x of a window,
abbrev pub window_place : Window → ℕ → ℕ → ℕ
window_place W y x = row_major W.stride (W.top + y) (W.left + x)

-- and the word of a buffer there.
abbrev pub window_of : Window → List ℕ → ℕ → ℕ → ℕ
window_of W buffer y x = word_at buffer (window_place W y x)

-- A buffer after given words have been written at the places of the first n rows of a window, and at no others.
abbrev pub window_written : Window → (words : ℕ → ℕ → ℕ) → (n : ℕ) → List ℕ → List ℕ
window_written W words n buffer = rectangle_written (window_place W) words W.width n buffer

-- A window that is not empty lies in a buffer of n words, with q places of history beside it.
pub record WindowFits (n : ℕ) (a : Axis) (d : Direction) (W : Window) (q : ℕ) : Type 0 where
  pub tall : 0 < W.height
  pub wide : 0 < W.width
  pub start : if_forward (is_backward d) q ≤ along a W.top W.left
  pub in_row : W.left + W.width + along a 0 (if_backward (is_backward d) q) ≤ W.stride
  pub in_buffer : (W.top + W.height + along a (if_backward (is_backward d) q) 0) * W.stride ≤ n

-- ---- a gain

-- The word of a window times a gain,
abbrev pub scaled_word : ℕ → Window → List ℕ → ℕ → ℕ → ℕ
scaled_word gain W buffer y x = gain ⊗ window_of W buffer y x

-- and the buffer after the words of the first n rows have been multiplied by it.
abbrev pub window_scaled : ℕ → Window → (n : ℕ) → List ℕ → List ℕ
window_scaled gain W n buffer = window_written W (scaled_word gain W buffer) n buffer

-- ---- a pass

-- The index of the place that lies k + 1 places beyond n places from `start` on, on the side where a pass comes from.
abbrev pub beyond : Direction → ℕ → ℕ → ℕ → ℕ
beyond forward start n k = start - suc k
beyond backward start n k = start + n + k

-- The words beyond line l of a window, on the side where a pass comes from, nearest first.
abbrev pub words_beside_window : Axis → Direction → Window → List ℕ → ℕ → ℕ → ℕ
words_beside_window a d W buffer l k =
    word_at buffer
    (line_of a (row_major W.stride) (across a W.top W.left + l)
    (beyond d (along a W.top W.left) (along a W.height W.width) k))

-- The first q of them, and 0 past these: what stands for the outputs before each line.
abbrev pub history_beside : Axis → Direction → Window → (q : ℕ) → List ℕ → ℕ → ℕ → ℕ
history_beside a d W q buffer l k = cond (ltb k q) (words_beside_window a d W buffer l k) 0

-- The word of pass 0, 1, 2 or 3 (down, up, right, left) of a filter at row y and column x of a window, after q words of
-- history beside each line,
abbrev pub pass_word : (pass : ℕ) → Window → (q : ℕ) → Filter → List ℕ → ℕ → ℕ → ℕ
pass_word pass W q f buffer =
    filter_lines (axis_of pass) (direction_of pass) f (along (axis_of pass) W.height W.width)
    (history_beside (axis_of pass) (direction_of pass) W q buffer) (window_of W buffer)

-- and the buffer after the pass: of a window that fits, at each of its places that word, at every other place what
-- stood there.
unfoldable pub window_pass : (pass : ℕ) → Window → (q : ℕ) → Filter → List ℕ → List ℕ
window_pass pass W q f buffer = window_written W (pass_word pass W q f buffer) W.height buffer

-- ---- the kernel's lines

-- The lines of a window, each with its q places of history first: in a forward pass they begin q places before the
-- window's first pixel, in a backward pass q places past its last.
abbrev pub window_lines : Axis → Direction → Window → ℕ → Lines
window_lines a d W q =
    record {
      first =
          (row_major W.stride W.top W.left
          + if_backward (is_backward d) ((along a W.height W.width + q) - 1) * along a W.stride 1)
          - if_forward (is_backward d) q * along a W.stride 1;
      forth = if_forward (is_backward d) (along a W.stride 1);
      back = if_backward (is_backward d) (along a W.stride 1);
      apart = across a W.stride 1;
      count = across a W.height W.width;
    }
