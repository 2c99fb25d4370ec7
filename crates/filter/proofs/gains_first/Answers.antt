-- `gains_first` has all gains for the first pass, and 1 for each other.
use mathlib.Core.Path.{ap, ◌∙◌}
use Rattle.plan.specs.Rules.{pass_at}
use Rattle.filter.specs.FilterWords.{with_gain, filter_words}
use Rattle.filter.proofs.Filters.{gains_first_words_first, gains_first_words_other}
use Rattle.filter.proofs.gains_first.Goals as goal

pub returns-then-pass-eq0 : goal.returns-then-pass-eq0
returns-then-pass-eq0 c =
    c.filter_with_gain.ensures
    ∙ ap (λ gain. with_gain gain (filter_words (pass_at c.args.plan 0))) c.gains_from.ensures
    ∙ gains_first_words_first c.args.plan c.args.pass c.if-pass-eq0.true

pub returns-else-pass-eq0 : goal.returns-else-pass-eq0
returns-else-pass-eq0 c =
    c.filter_with_gain-else-pass-eq0.ensures ∙ gains_first_words_other c.args.plan c.args.pass c.if-pass-eq0.false
