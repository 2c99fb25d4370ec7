-- The four passes: document 01, 'The four passes'. A map is a function of row and column.
use Rattle.std.specs.Prelude.{ℕ, zero, suc, ◌-◌}
use Rattle.axis.specs.Axis.{Axis, Direction, forward, backward, axis_of, direction_of, along, line_of}
use Rattle.passes.specs.Line.{output}
use Rattle.passes.specs.Filter.{Filter, filter_step}

-- The index of the place that a pass over n places comes to after i others: direction is one reflection of the index.
abbrev pub reflect : Direction → ℕ → ℕ → ℕ
reflect forward n i = i
reflect backward n i = n - suc i

-- A pass over a line x of n places; p stands for the outputs past the end where the pass starts, nearest first.
unfoldable pub filter_line : Direction → Filter → ℕ → (ℕ → ℕ) → (ℕ → ℕ) → ℕ → ℕ
filter_line d f n p x i = output (filter_step f) p (λ j. x (reflect d n j)) (reflect d n i)

-- A pass over each line of a map X by itself, the lines having n places; H l stands for the outputs past the end of
-- line l. `line_of` is its own inverse: it gives line l of X, and it gives back rows and columns from lines and places.
unfoldable pub filter_lines : Axis → Direction → Filter → ℕ → (ℕ → ℕ → ℕ) → (ℕ → ℕ → ℕ) → ℕ → ℕ → ℕ
filter_lines a d f n H X = line_of a (λ l. filter_line d f n (H l) (line_of a X l))

-- The first t passes over a block X of h rows and w columns, each on the result of the one before; pass u has the
-- filter `filters u` and the outputs H u past the block's edge.
unfoldable pub passes_over : (ℕ → Filter) → ℕ → ℕ → (ℕ → ℕ → ℕ → ℕ) → (ℕ → ℕ → ℕ) → ℕ → ℕ → ℕ → ℕ
passes_over filters h w H X zero = X
passes_over filters h w H X (suc t) =
    filter_lines (axis_of t) (direction_of t) (filters t) (along (axis_of t) h w) (H t) (passes_over filters h w H X t)

-- The first t passes over a whole map of h rows and w columns: outputs with an index outside the map count as 0.
unfoldable pub serial_passes : (ℕ → Filter) → ℕ → ℕ → (ℕ → ℕ → ℕ) → ℕ → ℕ → ℕ → ℕ
serial_passes filters h w X t = passes_over filters h w (λ u l k. 0) X t
