-- `plan::Pass::coefficients_kept` meets its contract: every place passed holds what its rule says. Assumes nothing.
use mathlib.Core.Path.{◌≡◌, sym, ap, ◌∙◌}
use native.Mathlib.Omega.{arith}
use mir.Syntax.{w64}
use mir.ValLaws.{to_z-of_z}
use borrow.Author.Rules.{sfits_of}
use Rattle.plan.specs.Rules.{order_limit, coefficient_at, coefficient_kept, coefficients_kept}
use Rattle.number.proofs.Tests.{all_none, all_more, all_fails, failed, passed}
use Rattle.plan.proofs.Pass.coefficients_kept.Goals as goal
use Rattle.plan.proofs.Pass.coefficients_kept.Invariants.{test}
use Rattle.plan.proofs.Pass.coefficients_kept.Goals.{After-coefficient_kept}

tested : (c : After-coefficient_kept) → c.coefficient_kept.result ≡ test c.args.self c.loop-place.place
tested c =
    let pass = c.args.self in
    let place = c.loop-place.place in
    c.coefficient_kept.ensures ∙ ap (coefficient_kept pass.order place) (to_z-of_z w64 (coefficient_at pass place) (sfits_of c.coefficient_kept-arg-1.given))

pub loop-place-init : goal.loop-place-init
loop-place-init c = all_none _

pub returns-then-not-coefficient_kept : goal.returns-then-not-coefficient_kept
unfolding coefficients_kept
returns-then-not-coefficient_kept c =
    sym (all_fails _ order_limit _ c.loop-place-test.true (failed (tested (goal.at.returns-then-not-coefficient_kept c).After-coefficient_kept) c.if-not-coefficient_kept.true))

pub loop-place-preserved : goal.loop-place-preserved
loop-place-preserved c =
    all_more _ _ c.loop-place.invariant (passed (tested (goal.at.loop-place-preserved c).After-coefficient_kept) c.if-not-coefficient_kept.false)

pub returns : goal.returns
unfolding coefficients_kept
returns c =
    let e : c.loop-place.place ≡ order_limit = omega arith in
    sym (rw e at c.loop-place.invariant)
