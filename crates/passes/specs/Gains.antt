-- Inner: filters with their gains moved: what passes with gains are in terms of passes of gain 1.
use Rattle.std.specs.Prelude.{ℕ, zero, suc}
use Rattle.word.specs.Word.{◌⊗◌}
use Rattle.passes.specs.Filter.{Filter}

-- A filter with another gain in place of its own,
abbrev pub filter_with_gain : ℕ → Filter → Filter
filter_with_gain gain f = record { gain = gain; order = f.order; coefficient = f.coefficient }

-- and with gain 1.
abbrev pub unit_gain : Filter → Filter
unit_gain f = filter_with_gain 1 f

-- The product of the gains of the passes u, .. u+n-1.
unfoldable pub gains_from : (ℕ → Filter) → (u n : ℕ) → ℕ
gains_from filters u zero = 1
gains_from filters u (suc n) = (filters u).gain ⊗ gains_from filters (suc u) n

-- The filters with all gains of the first t passes in the first, and gain 1 in the others.
abbrev pub gains_first : (ℕ → Filter) → ℕ → ℕ → Filter
gains_first filters t zero = filter_with_gain (gains_from filters 0 t) (filters 0)
gains_first filters t (suc u) = unit_gain (filters (suc u))
