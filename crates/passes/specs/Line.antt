-- One line through one recursive filter. The filter is given by its step: the output at a place, from the input there
-- and the outputs before it, nearest first.
use Rattle.std.specs.Prelude.{ℕ, zero, suc}

-- The outputs before place i of a line x, nearest first; past the start of the line stands p, nearest first.
unfoldable pub history : {A : Type 0} → (A → (ℕ → A) → A) → (ℕ → A) → (ℕ → A) → ℕ → ℕ → A
history step p x zero k = p k
history step p x (suc i) zero = step (x i) (history step p x i)
history step p x (suc i) (suc k) = history step p x i k

-- The output at place i.
unfoldable pub output : {A : Type 0} → (A → (ℕ → A) → A) → (ℕ → A) → (ℕ → A) → ℕ → A
output step p x i = step (x i) (history step p x i)

-- What stands before place i of a line y that is given, nearest first; past its start stands p, nearest first.
unfoldable pub words_before : {A : Type 0} → (ℕ → A) → (ℕ → A) → ℕ → ℕ → A
words_before p y zero k = p k
words_before p y (suc i) zero = y i
words_before p y (suc i) (suc k) = words_before p y i k
