-- Each way out is one law of `Tasking`.
use Rattle.std.proofs.lemmas.Result.{err_from_is_err_and}
use Rattle.job.proofs.Tasking.{answer_lent, answer_marks, marks_lent}
use Rattle.job.proofs.test_task.Goals as goal

pub verdict-requires : goal.verdict-requires
verdict-requires c =
    let a = c.args in
    marks_lent a.plan a.map.now a.marks.now a.strips.now a.output.now a.task a.block _ c.sizes_for.ensures _
    c.in_ok-sizes_for.was

pub returns : goal.returns
returns c = answer_marks _ _ _ _ _ _ _ _ c.sizes_for.ensures _ c.in_ok-sizes_for.was c.verdict.result c.verdict.ensures

pub returns-in_err-sizes_for : goal.returns-in_err-sizes_for
returns-in_err-sizes_for c =
    let passed = err_from_is_err_and c.from_residual.result c.from_residual.ensures.1 in
    rw (passed.1, passed.2) (answer_lent _ _ _ _ _ _ _ _ c.sizes_for.ensures _ c.in_err-sizes_for.was)
