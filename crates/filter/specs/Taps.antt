-- Inner: the filter that taps are.
use Rattle.passes.specs.Filter.{Filter}
use Rattle.filter.specs.FilterWords.{filter_by}
use Rattle.filter.specs.declared.output.Taps.{Taps}

-- The filter of gain 1 with given taps.
abbrev pub filter_of_taps : Taps → Filter
filter_of_taps taps = filter_by 1 taps.order taps.coefficients.now
