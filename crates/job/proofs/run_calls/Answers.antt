-- Calls of tasks are steps on one map.
use Rattle.job.proofs.Running.{calls_ran}
use Rattle.job.proofs.run_calls.Goals as goal

pub returns : goal.returns
returns c = calls_ran _ _ _ _ _ _ _ c.run_list.ensures
