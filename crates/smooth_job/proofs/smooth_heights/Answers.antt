-- `smooth_job::smooth_heights` meets its contract: the job on marks and strips of zeros, and the report on its marks.
-- Assumes nothing.
use Rattle.std.proofs.Common.{refl}
use Rattle.std.proofs.lemmas.Result.{err_from_is_err_and}
use Rattle.smooth_job.proofs.SmoothAnswers.{job_accepted, job_refused}
use Rattle.smooth_job.proofs.smooth_heights.Goals as goal

pub returns : goal.returns
returns c =
    let both = job_accepted _ _ _ _ refl _ refl _ c.whole_job.ensures.answer _ _ _
    c.whole_job.ensures.buffers c.in_ok-whole_job.was c.reported.result c.reported.ensures in
    record { answer = both.0; output = both.1 }

pub returns-in_err-whole_job : goal.returns-in_err-whole_job
returns-in_err-whole_job c =
    let passed = err_from_is_err_and c.from_residual.result c.from_residual.ensures.1 in
    let both = job_refused _ _ _ _ refl _ refl _ c.whole_job.ensures.answer _ _ _
    c.whole_job.ensures.buffers _ c.in_err-whole_job.was in
    record { answer = rw (passed.1, passed.2) both.0; output = both.1 }
