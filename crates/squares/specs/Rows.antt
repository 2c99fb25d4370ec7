-- Inner: what the passes along lines leave in the rows of a buffer.
use Rattle.std.specs.Prelude.{◌≡◌, List, ℕ, ◌+◌, ◌-◌, ◌*◌, ◌<◌, ◌≤◌, length}
use Rattle.plan.specs.Rules.{order_limit}
use Rattle.buffer.specs.Lists.{word_at}
use Rattle.passes.specs.Filter.{Filter}
use Rattle.axis.specs.Axis.{Direction, direction_of}
use Rattle.squares.specs.LinePasses.{line_passes}
use Rattle.squares.specs.LineBuffers.{row_words, line_place, place_beyond, rows_before}

-- Row l of a buffer has the line x, and past its ends P u k for the passes t, .. t+m-1.
pub record LineIs (places t m : ℕ) (P : ℕ → ℕ → ℕ) (x : ℕ → ℕ) (buffer : List ℕ) (l : ℕ) : Type 0 where
  pub inside : (i : ℕ) → i < places → word_at buffer (line_place l i) ≡ x i
  pub beside : (u k : ℕ) → t ≤ u → u < t + m → k < order_limit
      → word_at buffer (place_beyond (direction_of u) places l k) ≡ P u k

-- Of the passes t, .. t+m-1, each along the rows of the passes up to it, row l takes part in those from pass t+s on.
pub record JoinsAt (filters : ℕ → Filter) (t s m l : ℕ) : Type 0 where
  pub not_before : (v : ℕ) → v < s → rows_before filters (t + v + 1) ≤ l
  pub from_there : (v : ℕ) → s ≤ v → v < m → l < rows_before filters (t + v + 1)

-- A buffer after these passes: each row has the passes that it takes part in over its line, and the words beside the lines
-- are as they were.
pub record LinesPassed (filters : ℕ → Filter) (places t m : ℕ) (before after : List ℕ) : Type 0 where
  pub length_kept : length after ≡ length before
  pub at : (s l i : ℕ) → s ≤ m → JoinsAt filters t s m l → i < places
      → word_at after (line_place l i)
      ≡ line_passes filters places
      (λ u k. word_at before (place_beyond (direction_of u) places l k))
      (λ j. word_at before (line_place l j)) (t + s) (m - s) i
  pub beside : (d : Direction) (l k : ℕ) → k < order_limit
      → word_at after (place_beyond d places l k)
      ≡ word_at before (place_beyond d places l k)

-- All words from a row on are 0.
abbrev pub ZerosFrom : ℕ → List ℕ → Type 0
ZerosFrom row buffer = (z : ℕ) → row * row_words ≤ z → word_at buffer z ≡ 0

-- n rows from a row on have got lines, and no other row has changed.
pub record RowsFilled (places t m row n : ℕ) (P : ℕ → ℕ → ℕ → ℕ) (x : ℕ → ℕ → ℕ) (before after : List ℕ) : Type 0 where
  pub length_kept : length after ≡ length before
  pub below : (z : ℕ) → z < row * row_words → word_at after z ≡ word_at before z
  pub above : (z : ℕ) → (row + n) * row_words ≤ z → word_at after z ≡ word_at before z
  pub lines : (k : ℕ) → k < n → LineIs places t m (P k) (x k) after (row + k)
