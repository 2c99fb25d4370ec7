-- As many marks are lent as are needed.
use Rattle.report.proofs.LentMarks.{marks_lent}
use Rattle.recall.proofs.test_recall.Goals as goal

pub test_marks-requires : goal.test_marks-requires
test_marks-requires c =
    marks_lent _ c.args.marks.now _ (rw c.only_of_7.ensures at c.sizes_for.ensures) _ c.in_ok-sizes_for.was
