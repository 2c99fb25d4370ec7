-- `plan_reader::test_passes` meets its contract: the first pass that is refused decides. Assumes nothing.
use Rattle.std.proofs.Common.{rules}
use Rattle.plan_reader.specs.ReadPlan.{passes_rows}
use Rattle.plan_reader.proofs.RefusalRows.{joined_refused}
use Rattle.plan_reader.proofs.test_passes.Goals as goal

pub returns-in_err-test_pass : goal.returns-in_err-test_pass
unfolding passes_rows
returns-in_err-test_pass c =
    let e = joined_refused _ 4 c.loop-i.i c.loop-i.invariant c.in_err-test_pass.ensures c.loop-i-test.true in
    search rules
