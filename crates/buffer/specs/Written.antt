-- A list in which some places have been replaced.
use Rattle.std.specs.Prelude.{List, ℕ, zero, suc, ◌+◌, ◌*◌, set}
use Rattle.buffer.specs.Lists.{by_place}

-- A list after the words w 0, w 1, .. w (n-1) have gone to the places p 0, p 1, .. p (n-1), one after another.
unfoldable pub written : (p w : ℕ → ℕ) → ℕ → List ℕ → List ℕ
written p w zero list = list
written p w (suc n) list = set (written p w n list) (p n) (w n)

-- A list after `count` words have been written from a place on.
unfoldable pub row_written : (start : ℕ) → (words : ℕ → ℕ) → (count : ℕ) → List ℕ → List ℕ
row_written start words count list = written (λ i. start + i) words count list

-- A list after the words of h rows of w places have been written, row after row, each word at its place.
unfoldable pub rectangle_written : (place words : ℕ → ℕ → ℕ) → (w h : ℕ) → List ℕ → List ℕ
rectangle_written place words w h list = written (by_place w place) (by_place w words) (h * w) list

-- A list after `count` words that lie `step` apart have been set to 0.
unfoldable pub cleared : (start step count : ℕ) → List ℕ → List ℕ
cleared start step count list = written (λ i. start + i * step) (λ i. 0) count list
