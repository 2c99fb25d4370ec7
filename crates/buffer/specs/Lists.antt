-- Lists: the word or the number at a place, the list of a function's values, a function's lists as one, and a map row after
-- row.
use Rattle.std.specs.Prelude.{List, [], ◌∷◌, ◌++◌, ℕ, zero, suc, ◌/◌, ◌%◌, ℤ, pos, get_or}
use Rattle.number.specs.Numbers.{row_major}

-- The word at a place, 0 past the end.
abbrev pub word_at : List ℕ → ℕ → ℕ
word_at words place = get_or words place 0

-- The signed number at a place, 0 past the end.
abbrev pub number_at : List ℤ → ℕ → ℤ
number_at numbers place = get_or numbers place (pos 0)

-- The values of a function at 0 to count - 1, as a list.
unfoldable pub list_of : {A : Type 0} → (ℕ → A) → ℕ → List A
list_of f zero = []
list_of f (suc count) = list_of f count ++ (f count ∷ [])

-- The lists of a function at 0 to count - 1, one behind another.
unfoldable pub joined : {A : Type 0} → (ℕ → List A) → ℕ → List A
joined f zero = []
joined f (suc count) = joined f count ++ f count

-- A function of row and column as a function of the place, the rows of `width` places standing one after another.
abbrev pub by_place : {A : Type 0} → (width : ℕ) → (ℕ → ℕ → A) → ℕ → A
by_place width X place = X (place / width) (place % width)

-- The word at a row and a column of a map whose words stand in a list, row after row, `width` in a row.
abbrev pub word_map : (width : ℕ) → List ℕ → (row column : ℕ) → ℕ
word_map width words row column = word_at words (row_major width row column)
