-- Demand 3 with recalls is a law of the lists that steps leave.
use Rattle.job.proofs.Running.{steps_ran}
use Rattle.job.proofs.run_steps.Goals as goal

pub returns : goal.returns
returns c = steps_ran _ _ _ _ _ _ _ c.run_list.ensures
