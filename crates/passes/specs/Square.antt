-- Inner: how a history moves across a line of zero inputs. squares/LinePasses has the square of a link, document 01's
-- order × order words.
use Rattle.std.specs.Prelude.{ℕ, zero, suc}
use Rattle.word.specs.Word.{◌⊗◌}
use Rattle.passes.specs.Table.{sum_of}

-- The history that is 1 at place j and 0 at all others.
unfoldable pub unit_history : ℕ → ℕ → ℕ
unit_history zero zero = 1
unit_history zero (suc k) = 0
unit_history (suc j) zero = 0
unit_history (suc j) (suc k) = unit_history j k

-- p 0 × v 0 + .. + p (r-1) × v (r-1): a history p of r places, moved by the words v of one place.
unfoldable pub weighted_sum : ℕ → (ℕ → ℕ) → (ℕ → ℕ) → ℕ
weighted_sum r p v = sum_of r (λ k. p k ⊗ v k)
