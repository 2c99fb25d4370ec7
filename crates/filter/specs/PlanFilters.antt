-- Passes, a plan's filters, and its passes over a whole map: document 01, 'The four passes'.
use Rattle.std.specs.Prelude.{List, [], ◌∷◌, ◌++◌, ℕ, ◌-◌, ℤ, pos, negsuc, length, replicate}
use Rattle.plan.specs.declared.Pass.{Pass}
use Rattle.plan.specs.declared.Plan.{Plan}
use Rattle.plan.specs.Rules.{order_limit, pass_at}
use Rattle.buffer.specs.Lists.{word_map}
use Rattle.buffer.specs.Pixel.{height_map}
use Rattle.passes.specs.Filter.{Filter, filter_of_numbers}
use Rattle.passes.specs.Passes.{serial_passes}

-- ---- passes

-- A pass with a gain and the coefficients d1 to dr.
abbrev pub pass_of : ℤ → List ℤ → Pass
pass_of gain coefficients =
    record {
      order = length coefficients;
      gain = gain;
      coefficients = coefficients ++ replicate (order_limit - length coefficients) (pos 0);
    }

-- Order 0, gain 1: what it is handed stays.
abbrev pub unchanged_pass : Pass
unchanged_pass = pass_of (pos 1) []

-- Order 1, gain 1, coefficient -1: what it is handed is summed up.
abbrev pub running_sum_pass : Pass
running_sum_pass = pass_of (pos 1) (negsuc 0 ∷ [])

-- The passes of the summed-area table: down and right sum up, up and left change nothing.
abbrev pub summed_area_passes : List Pass
summed_area_passes = running_sum_pass ∷ unchanged_pass ∷ running_sum_pass ∷ unchanged_pass ∷ []

-- ---- filters

-- The filter of a pass.
unfoldable pub filter_of : Pass → Filter
filter_of pass = filter_of_numbers pass.gain pass.order pass.coefficients

-- The four filters of a plan: 0 down, 1 up, 2 right, 3 left.
abbrev pub filters_of : Plan → ℕ → Filter
filters_of plan i = filter_of (pass_at plan i)

-- The map that a row-major list of heights holds, as the passes read it: dropouts as 0, modulo 2^64.
abbrev pub map_of : Plan → List ℤ → ℕ → ℕ → ℕ
map_of plan heights = height_map plan.grid.columns heights

-- The map that a row-major list of words holds, each word as it is: none is taken for a dropout.
abbrev pub word_map_of : Plan → List ℕ → ℕ → ℕ → ℕ
word_map_of plan words = word_map plan.grid.columns words

-- The result of the first t passes, run serially over the whole map X.
abbrev pub serial_result : Plan → (X : ℕ → ℕ → ℕ) → ℕ → ℕ → ℕ → ℕ
serial_result plan X t = serial_passes (filters_of plan) plan.grid.rows plan.grid.columns X t
