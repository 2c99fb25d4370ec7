-- Inner: words that are copied, scaled and read, in a row or a rectangle.
use Rattle.std.specs.Prelude.{List, ℕ, ◌+◌, ◌*◌, ◌<◌, ◌≤◌, ℤ}
use Rattle.word.specs.Word.{◌⊗◌}
use Rattle.buffer.specs.Lists.{word_at, number_at}
use Rattle.buffer.specs.Pixel.{pixel}
use Rattle.buffer.specs.Written.{rectangle_written}

-- ---- one row

-- The words of a list from a place on.
abbrev pub words_from : List ℕ → ℕ → ℕ → ℕ
words_from list start i = word_at list (start + i)

-- Words of a list that lie `step` apart, times a gain.
abbrev pub scaled_from : ℕ → List ℕ → (start step : ℕ) → ℕ → ℕ
scaled_from gain list start step i = gain ⊗ word_at list (start + i * step)

-- The pixels of a list of heights from a place on.
abbrev pub heights_from : List ℤ → ℕ → ℕ → ℕ
heights_from heights start i = pixel (number_at heights (start + i))

-- So many words that lie `step` apart stand in a list of n words.
pub record WordsFit (n start step count : ℕ) : Type 0 where
  pub inside : (i : ℕ) → i < count → start + i * step < n

-- ---- a rectangle

-- The place of row y and column x of a rectangle of rows that lie `stride` apart.
abbrev pub stride_place : (start stride : ℕ) → ℕ → ℕ → ℕ
stride_place start stride y x = start + y * stride + x

-- The words of a rectangle of a list, times a gain.
abbrev pub stride_scaled : ℕ → List ℕ → (start stride : ℕ) → ℕ → ℕ → ℕ
stride_scaled gain list start stride y x = gain ⊗ word_at list (stride_place start stride y x)

-- The pixels of a rectangle of a list of heights.
abbrev pub stride_heights : List ℤ → (start stride : ℕ) → ℕ → ℕ → ℕ
stride_heights heights start stride y x = pixel (number_at heights (stride_place start stride y x))

-- A list after a rectangle of h rows has been written.
abbrev pub stride_written : (start stride w : ℕ) → (words : ℕ → ℕ → ℕ) → (h : ℕ) → List ℕ → List ℕ
stride_written start stride w words h list = rectangle_written (stride_place start stride) words w h list

-- The rows of a rectangle lie in a list of n words.
pub record StrideFits (n start stride h w : ℕ) : Type 0 where
  pub row : (y : ℕ) → y < h → stride_place start stride y w ≤ n
