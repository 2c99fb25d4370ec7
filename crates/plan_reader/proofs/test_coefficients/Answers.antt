-- `plan_reader::test_coefficients` meets its contract: the first word that is refused decides. Assumes nothing.
use Rattle.std.proofs.Common.{rules}
use Rattle.plan_reader.specs.ReadPlan.{coefficient_rows}
use Rattle.plan_reader.proofs.RefusalRows.{joined_refused}
use Rattle.plan_reader.proofs.test_coefficients.Goals as goal

pub returns-in_err-test_word : goal.returns-in_err-test_word
unfolding coefficient_rows
returns-in_err-test_word c =
    let e = joined_refused _ c.args.count c.loop-j.j c.loop-j.invariant c.in_err-test_word.ensures c.loop-j-test.true in
    search rules
