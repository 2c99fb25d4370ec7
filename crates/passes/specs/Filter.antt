-- The filter of one pass, and its step: document 01, 'The four passes'.
use Rattle.std.specs.Prelude.{List, ℕ, zero, suc, ℤ}
use Rattle.word.specs.Word.{◌⊖◌, ◌⊗◌, residue}
use Rattle.buffer.specs.Lists.{number_at}

-- A pass's gain g, its order r, and its coefficients d1 to dr, d1 at place 0; places past the order are not read.
pub record Filter : Type 0 where
  pub gain : ℕ
  pub order : ℕ
  pub coefficient : ℕ → ℕ

-- The filter of a gain, an order and a list of coefficients: gain and coefficients, which are signed, enter as residues
-- modulo 2^64.
abbrev pub filter_of_numbers : (gain : ℤ) → (order : ℕ) → (coefficients : List ℤ) → Filter
filter_of_numbers gain order coefficients =
    record { gain = residue gain; order = order; coefficient = λ k. residue (number_at coefficients k) }

-- A word v less the feedback of the first r coefficients d: v - d1 × y[i-1] - .. - dr × y[i-r], the outputs y nearest
-- first.
unfoldable pub less_feedback : (ℕ → ℕ) → ℕ → ℕ → (ℕ → ℕ) → ℕ
less_feedback d zero v y = v
less_feedback d (suc r) v y = less_feedback d r v y ⊖ d r ⊗ y r

-- The step of a filter: g × x[i] - d1 × y[i-1] - .. - dr × y[i-r].
unfoldable pub filter_step : Filter → ℕ → (ℕ → ℕ) → ℕ
filter_step f x y = less_feedback f.coefficient f.order (f.gain ⊗ x) y
