-- `order_sum` has the sum of the orders passed so far of the first `count`, which stays small.
use mathlib.Core.Path.{◌≡◌}
use Prim.Native.Nat.{min}
use Rattle.plan.specs.Sizes.{order_sum}
use Rattle.plan.proofs.Plan.order_sum.Given as goal

abbrev pub invariant-loop-i : goal.invariant-loop-i
invariant-loop-i l = l.sum ≡ order_sum l.fn.self (min l.i l.count)
