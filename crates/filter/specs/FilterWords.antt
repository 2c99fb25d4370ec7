-- Inner: the words of a filter in code, and the gains of several passes taken in one.
use Rattle.std.specs.Prelude.{List, map, ℕ, suc, ◌-◌}
use Rattle.word.specs.Word.{residue}
use Rattle.plan.specs.declared.Pass.{Pass}
use Rattle.plan.specs.declared.Plan.{Plan}
use Rattle.plan.specs.Rules.{pass_at}
use Rattle.buffer.specs.Lists.{word_at}
use Rattle.passes.specs.Filter.{Filter}
use Rattle.passes.specs.Gains.{gains_from, gains_first}
use Rattle.filter.specs.PlanFilters.{filters_of}
use Rattle.filter.specs.declared.FilterWords.{FilterWords}

-- The filter of a gain, an order and a list of coefficients.
abbrev pub filter_by : ℕ → ℕ → List ℕ → Filter
filter_by gain order coefficients = record { gain = gain; order = order; coefficient = word_at coefficients }

-- The filter that given words are.
abbrev pub filter_with : FilterWords → Filter
filter_with words = filter_by words.gain words.order words.coefficients

-- The words of the filter of a pass.
unfoldable pub filter_words : Pass → FilterWords
filter_words pass =
    record { gain = residue pass.gain; order = pass.order; coefficients = map residue pass.coefficients }

-- The words of a filter with another gain.
abbrev pub with_gain : ℕ → FilterWords → FilterWords
with_gain gain words = record { gain = gain; order = words.order; coefficients = words.coefficients }

-- The product of the gains of the passes after a pass, up to the last.
unfoldable pub gains_after : Plan → (pass last : ℕ) → ℕ
gains_after plan pass last = gains_from (filters_of plan) (suc pass) (last - pass)

-- A plan's filters with the gains of all four passes in the first, and gain 1 in the others,
abbrev pub gains_first_filters : Plan → ℕ → Filter
gains_first_filters plan = gains_first (filters_of plan) 4

-- and their words.
unfoldable pub gains_first_words : Plan → ℕ → FilterWords
gains_first_words plan pass = with_gain (gains_first_filters plan pass).gain (filter_words (pass_at plan pass))
