-- `plan::Plan::passes_kept` meets its contract: every pass passed keeps its rules. Assumes nothing.
use mathlib.Core.Path.{◌≡◌, sym}
use native.Mathlib.Omega.{arith}
use Rattle.plan.specs.Rules.{passes_kept}
use Rattle.number.proofs.Tests.{all_none, all_more, all_fails, failed, passed}
use Rattle.plan.proofs.Plan.passes_kept.Goals as goal

pub loop-pass-init : goal.loop-pass-init
loop-pass-init c = all_none _

pub returns-then-not-check : goal.returns-then-not-check
unfolding passes_kept
returns-then-not-check c =
    sym (all_fails _ 4 _ c.loop-pass-test.true (failed c.check.ensures c.if-not-check.true))

pub loop-pass-preserved : goal.loop-pass-preserved
loop-pass-preserved c =
    all_more _ _ c.loop-pass.invariant (passed c.check.ensures c.if-not-check.false)

pub returns : goal.returns
unfolding passes_kept
returns c =
    let e : c.loop-pass.pass-index ≡ 4 = omega arith in
    sym (rw e at c.loop-pass.invariant)
