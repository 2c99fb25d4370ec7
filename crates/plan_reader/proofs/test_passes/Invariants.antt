-- `plan_reader::test_passes` meets its contract: the rows of the first i passes accept. Assumes nothing.
use mathlib.Core.Path.{◌≡◌}
use Rattle.refusal.specs.Refusals.{accepted}
use Rattle.refusal.specs.Table.{first_due}
use Rattle.plan_reader.specs.ReadPlan.{passes_rows}
use Rattle.plan_reader.proofs.test_passes.Given as goal

abbrev pub invariant-loop-i : goal.invariant-loop-i
invariant-loop-i l = accepted ≡ first_due (passes_rows l.words l.i)
