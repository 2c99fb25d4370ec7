-- Tests and sums over the numbers below a bound, and places in rows of equal width.
use Rattle.std.specs.Prelude.{Bool, true, false, ◌&&◌, ℕ, zero, suc, ◌+◌, ◌*◌, leb}

-- From 1 to `most`.
abbrev pub within : ℕ → ℕ → Bool
within number most = leb 1 number && leb number most

-- A test holds of every number below n.
unfoldable pub all_below : (ℕ → Bool) → ℕ → Bool
all_below test zero = true
all_below test (suc n) = all_below test n && test n

-- f 0 + f 1 + .. + f (n - 1).
unfoldable pub total : (ℕ → ℕ) → ℕ → ℕ
total f zero = 0
total f (suc n) = total f n + f n

-- 1 for yes, 0 for no.
abbrev pub one : Bool → ℕ
one true = 1
one false = 0

-- The place of a row and a column in rows of `width` places, one after another.
abbrev pub row_major : (width row column : ℕ) → ℕ
row_major width row column = row * width + column
