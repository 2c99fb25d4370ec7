-- `plan::Pass::coefficients_kept` meets its contract: every place passed holds what its rule says. Assumes nothing.
use mathlib.Core.Path.{◌≡◌}
use mathlib.Core.Bool.{Bool, true}
use Prim.Native.Nat.{ℕ}
use Rattle.plan.specs.declared.Pass.{Pass}
use Rattle.plan.specs.Rules.{coefficient_at, coefficient_kept}
use Rattle.number.specs.Numbers.{all_below}
use Rattle.plan.proofs.Pass.coefficients_kept.Given as goal

abbrev pub test : Pass → ℕ → Bool
test pass j = coefficient_kept pass.order j (coefficient_at pass j)

abbrev pub invariant-loop-place : goal.invariant-loop-place
invariant-loop-place l =
    all_below (test l.fn.self) l.place ≡ true
