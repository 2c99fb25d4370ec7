-- `unit_gain_filters` has the words of the four filters, with gain 1.
use Rattle.link.specs.Courses.{unit_gain_filters}
use Rattle.link.proofs.unit_gain_filters.Goals as goal

pub returns : goal.returns
unfolding unit_gain_filters
returns c =
    rw (
      c.filter_with_gain.ensures,
      c.filter_with_gain-2.ensures,
      c.filter_with_gain-3.ensures,
      c.filter_with_gain-4.ensures,
    )
