-- `order_sum` has the sum of the orders passed so far of the first `count`, which stays small.
use mathlib.Core.Path.{◌≡◌, ap₂, sym, ◌∙◌}
use Prim.Native.Nat.{◌+◌, min}
use native.Mathlib.Omega.{arith}
use Rattle.plan.specs.Sizes.{order_of}
use Rattle.number.proofs.Sums.{total_none, sum_below}
use Rattle.plan.proofs.Record.{order_sum_limited}
use Rattle.plan.proofs.Plan.order_sum.Goals as goal

pub loop-i-init : goal.loop-i-init
loop-i-init c = let e : min 0 c.args.count ≡ 0 = omega arith in rw e (sym (total_none _))

pub overflow_add-sum : goal.overflow_add-sum
overflow_add-sum c =
    let plan = c.args.self in
    let kept = c.requires.0 in
    let next = sum_below (order_of plan) c.loop-i.i c.args.count in
    omega (arith, c.counted_if-sum.ensures, next, order_sum_limited plan kept (min (c.loop-i.i + 1) c.args.count) (omega arith))

pub loop-i-preserved : goal.loop-i-preserved
loop-i-preserved c =
    ap₂ ◌+◌ c.loop-i.invariant c.counted_if-sum.ensures ∙ sum_below (order_of c.args.self) c.loop-i.i c.args.count
