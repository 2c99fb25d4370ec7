-- `half_words` is the side times the sum of the four orders, and small.
use native.Mathlib.Omega.{arith}
use Rattle.plan.proofs.Needed.{bounds}
use Rattle.plan.proofs.Plan.half_words.Goals as goal

pub overflow_mul-result : goal.overflow_mul-result
overflow_mul-result c = rw c.order_sum.ensures (omega (arith, bounds _ c.requires))
