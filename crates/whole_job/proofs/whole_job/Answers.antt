-- `whole_job::whole_job` meets its contract: each way through its tests is one of the definition's.
-- Assumes nothing.
use Rattle.std.proofs.lemmas.Result.{err_from_is_err_and}
use Rattle.whole_job.proofs.Performed.{whole_refused, whole_accepted}
use Rattle.whole_job.proofs.whole_job.Goals as goal

pub returns : goal.returns
returns c =
    let both = whole_accepted _ _ _ _ c.sizes_for.ensures _ c.in_ok-sizes.was _ _
    c.start.ensures.marked c.start.ensures.stripped _ c.perform_steps.ensures in
    record { answer = both.0; buffers = both.1 }

pub returns-in_err-sizes : goal.returns-in_err-sizes
returns-in_err-sizes c =
    let passed = err_from_is_err_and c.from_residual.result c.from_residual.ensures.1 in
    let both = whole_refused _ _ _ _ c.sizes_for.ensures _ c.in_err-sizes.was in
    record { answer = rw (passed.1, passed.2) both.0; buffers = both.1 }
