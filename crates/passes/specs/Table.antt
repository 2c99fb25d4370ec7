-- The summed-area table and the sum over a rectangle of it: document 01, 'The four passes' and the rectangle sum.
use Rattle.std.specs.Prelude.{ℕ, zero, suc, ◌+◌, ◌-◌, ℤ, pos, ◌+ℤ◌}
use Rattle.word.specs.Word.{minus_one, ◌⊕◌, ◌⊖◌}
use Rattle.passes.specs.Filter.{Filter}

-- A word at place 0, and 0 at all others.
abbrev pub first_alone : ℕ → ℕ → ℕ
first_alone word zero = word
first_alone word (suc place) = 0

-- Order 1, gain 1, coefficient -1.
abbrev pub running_sum : Filter
running_sum = record { gain = 1; order = 1; coefficient = first_alone minus_one }

-- Order 0, gain 1.
abbrev pub unchanged : Filter
unchanged = record { gain = 1; order = 0; coefficient = λ k. 0 }

-- The filters of the summed-area table: down and right add up, up and left leave as it is.
abbrev pub summed_area_table : ℕ → Filter
summed_area_table zero = running_sum
summed_area_table (suc zero) = unchanged
summed_area_table (suc (suc zero)) = running_sum
summed_area_table (suc (suc (suc t))) = unchanged

-- f 0 + .. + f (n-1) modulo 2^64.
unfoldable pub sum_of : ℕ → (ℕ → ℕ) → ℕ
sum_of zero f = 0
sum_of (suc n) f = sum_of n f ⊕ f n

-- z 0 + .. + z (n-1), of signed numbers.
unfoldable pub signed_sum_of : ℕ → (ℕ → ℤ) → ℤ
signed_sum_of zero z = pos 0
signed_sum_of (suc n) z = signed_sum_of n z +ℤ z n

-- The sum over the rectangle from row top and column left to before row bottom and column right, where `sum` adds up
-- the first values of a function.
abbrev pub sum_inside : {A : Type 0} → (sum : ℕ → (ℕ → A) → A) → (ℕ → ℕ → A) → (top left bottom right : ℕ) → A
sum_inside sum X top left bottom right = sum (right - left) (λ k. sum (bottom - top) (λ j. X (top + j) (left + k)))

-- The sum of the heights in a rectangle, as a signed number.
unfoldable pub heights_inside : (ℕ → ℕ → ℤ) → (top left bottom right : ℕ) → ℤ
heights_inside heights top left bottom right = sum_inside signed_sum_of heights top left bottom right

-- A table S at (row - 1, column - 1), a row or column of -1 counting as 0.
unfoldable pub corner_of : (ℕ → ℕ → ℕ) → (row column : ℕ) → ℕ
corner_of S zero column = 0
corner_of S (suc row) zero = 0
corner_of S (suc row) (suc column) = S row column

-- S at (bottom-1, right-1) less (top-1, right-1) less (bottom-1, left-1) plus (top-1, left-1).
unfoldable pub rectangle_sum : (ℕ → ℕ → ℕ) → (top left bottom right : ℕ) → ℕ
rectangle_sum S top left bottom right =
    corner_of S bottom right ⊖ corner_of S top right ⊖ corner_of S bottom left ⊕ corner_of S top left
