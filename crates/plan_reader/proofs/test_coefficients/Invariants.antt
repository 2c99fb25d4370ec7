-- `plan_reader::test_coefficients` meets its contract: the rows of the first j words accept. Assumes nothing.
use mathlib.Core.Path.{◌≡◌}
use Rattle.refusal.specs.Refusals.{accepted}
use Rattle.refusal.specs.Table.{first_due}
use Rattle.plan_reader.specs.ReadPlan.{coefficient_rows}
use Rattle.plan_reader.proofs.test_coefficients.Given as goal

abbrev pub invariant-loop-j : goal.invariant-loop-j
invariant-loop-j l = accepted ≡ first_due (coefficient_rows l.words l.place l.j)
