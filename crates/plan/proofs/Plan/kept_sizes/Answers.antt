-- No product overflows, and the tasks do not go below 0.
use native.Mathlib.Omega.{arith}
use Rattle.plan.specs.Sizes.{sizes_of}
use Rattle.plan.proofs.Needed.{Bounds, bounds}
use Rattle.plan.proofs.Plan.kept_sizes.Goals as goal
use Rattle.plan.proofs.Plan.kept_sizes.Goals.{After-order_sum-orders}

small : (c : After-order_sum-orders)
    → Bounds c.args.self c.block_rows-block_rows.result c.block_columns-block_columns.result c.order_sum-orders.result
small c =
    rw (c.block_rows-block_rows.ensures, c.block_columns-block_columns.ensures, c.order_sum-orders.ensures)
    (bounds _ c.requires)

pub overflow_mul-marks : goal.overflow_mul-marks
overflow_mul-marks c = omega (arith, small (goal.at.overflow_mul-marks c).After-order_sum-orders)

pub overflow_add-result : goal.overflow_add-result
overflow_add-result c = omega (arith, small (goal.at.overflow_add-result c).After-order_sum-orders)

pub overflow_mul-result : goal.overflow_mul-result
overflow_mul-result c =
    rw c.half_words.ensures (omega (arith, small (goal.at.overflow_mul-result c).After-order_sum-orders))

pub overflow_mul-result-2 : goal.overflow_mul-result-2
overflow_mul-result-2 c =
    rw c.half_words.ensures (omega (arith, small (goal.at.overflow_mul-result-2 c).After-order_sum-orders))

pub overflow_mul-result-3 : goal.overflow_mul-result-3
overflow_mul-result-3 c = omega (arith, small (goal.at.overflow_mul-result-3 c).After-order_sum-orders)

pub overflow_mul-result-4 : goal.overflow_mul-result-4
overflow_mul-result-4 c = omega (arith, small (goal.at.overflow_mul-result-4 c).After-order_sum-orders)

pub overflow_mul-result-5 : goal.overflow_mul-result-5
overflow_mul-result-5 c = omega (arith, small (goal.at.overflow_mul-result-5 c).After-order_sum-orders)

pub overflow_sub-result : goal.overflow_sub-result
overflow_sub-result c = omega (arith, small (goal.at.overflow_sub-result c).After-order_sum-orders)

pub overflow_mul-result-6 : goal.overflow_mul-result-6
overflow_mul-result-6 c = omega (arith, small (goal.at.overflow_mul-result-6 c).After-order_sum-orders)

pub overflow_sub-result-2 : goal.overflow_sub-result-2
overflow_sub-result-2 c = omega (arith, small (goal.at.overflow_sub-result-2 c).After-order_sum-orders)

pub returns : goal.returns
unfolding sizes_of
returns c = cc
