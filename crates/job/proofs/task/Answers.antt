-- Accepted or refused: one law of `Tasking` each.
use mathlib.Core.Path.{sym}
use Rattle.std.proofs.lemmas.Result.{err_from_is_err_and}
use Rattle.job.proofs.Tasking.{task_accepted, task_refused}
use Rattle.job.proofs.task.Goals as goal

pub perform-requires : goal.perform-requires
perform-requires c = sym (rw c.in_ok-test_task.was at c.test_task.ensures)

pub returns : goal.returns
returns c =
    let both = task_accepted _ _ _ _ _ _ c.test_task.ensures c.in_ok-test_task.was _ c.perform.ensures in
    record { answer = both.0; written = both.1 }

pub returns-in_err-test_task : goal.returns-in_err-test_task
returns-in_err-test_task c =
    let passed = err_from_is_err_and c.from_residual.result c.from_residual.ensures.1 in
    let both = task_refused _ _ _ _ _ _ c.test_task.ensures _ c.in_err-test_task.was in
    record { answer = rw (passed.1, passed.2) both.0; written = both.1 }
