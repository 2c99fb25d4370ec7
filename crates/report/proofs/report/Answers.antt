-- As many marks are lent as are needed.
use Rattle.report.proofs.LentMarks.{marks_lent}
use Rattle.report.proofs.report.Goals as goal

pub report_on-requires : goal.report_on-requires
report_on-requires c =
    marks_lent _ c.args.marks.now _ (rw c.only_of_7.ensures at c.sizes_for.ensures) _ c.in_ok-sizes_for.was
