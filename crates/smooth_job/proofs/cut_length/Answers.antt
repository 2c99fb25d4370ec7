-- `smooth_job::cut_length` meets its contract. Assumes nothing.
use native.Mathlib.Omega.{arith}
use Rattle.smooth_job.proofs.Input.{cut_whole, cut_long}
use Rattle.smooth_job.proofs.cut_length.Goals as goal

pub returns-then-length-le-INPUT_LIMIT : goal.returns-then-length-le-INPUT_LIMIT
returns-then-length-le-INPUT_LIMIT c = (cut_whole _ c.if-length-le-INPUT_LIMIT.true, omega arith)

pub returns-else-length-le-INPUT_LIMIT : goal.returns-else-length-le-INPUT_LIMIT
returns-else-length-le-INPUT_LIMIT c = (cut_long _ c.if-length-le-INPUT_LIMIT.false, omega arith)
