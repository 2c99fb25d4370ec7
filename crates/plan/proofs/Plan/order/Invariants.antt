-- `order` has the order of the pass once its loop is past it, and 0 before.
use mathlib.Core.Path.{◌≡◌}
use mathlib.Core.Bool.{cond}
use lib.Dec.{ltb}
use Rattle.plan.specs.Sizes.{order_of}
use Rattle.plan.proofs.Plan.order.Given as goal

abbrev pub invariant-loop-i : goal.invariant-loop-i
invariant-loop-i l = l.order ≡ cond (ltb l.pass l.i) (order_of l.fn.self l.pass) 0
