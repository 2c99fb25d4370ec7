-- `strip_start` is the first word of the strip.
use mathlib.Core.Path.{◌≡◌}
use native.Mathlib.Omega.{arith}
use Prim.Native.Nat.{◌+◌, ◌*◌}
use Rattle.task_words.specs.Strips.{half_start}
use Rattle.strips.proofs.Slots.{StartFits, start_fits}
use Rattle.strips.proofs.strip_start.Goals as goal
use Rattle.strips.proofs.strip_start.Goals.{After-half_words, After-words_before_half}

-- Nothing here overflows.
small : (c : After-half_words)
    → StartFits c.args.plan c.args.half c.args.k c.args.pass
small c =
    let a = c.args in
    let pre = c.requires in
    start_fits a.plan a.half a.k a.pass pre.kept pre.counted pre.pass_below

-- The slot's start and the words before the half are the half's start.
half_start_law : (c : After-words_before_half)
    → let a = c.args in
    a.k * (2 * c.half_words.result) + c.words_before_half.result ≡ half_start a.plan a.half a.k
half_start_law c = cc

pub overflow_mul-slot : goal.overflow_mul-slot
overflow_mul-slot c =
    omega (arith, c.half_words.ensures, small (goal.at.overflow_mul-slot c).After-half_words)

pub overflow_mul-slot-2 : goal.overflow_mul-slot-2
overflow_mul-slot-2 c =
    rw c.half_words.ensures (omega (arith, small (goal.at.overflow_mul-slot-2 c).After-half_words))

pub overflow_add-result : goal.overflow_add-result
overflow_add-result c =
    omega (arith, half_start_law (goal.at.overflow_add-result c).After-words_before_half, small (goal.at.overflow_add-result c).After-half_words)

pub overflow_mul-result : goal.overflow_mul-result
overflow_mul-result c =
    rw c.order_sum.ensures (omega (arith, small (goal.at.overflow_mul-result c).After-half_words))

pub overflow_add-result-2 : goal.overflow_add-result-2
overflow_add-result-2 c =
    rw c.order_sum.ensures (omega (arith, half_start_law (goal.at.overflow_add-result-2 c).After-words_before_half, small (goal.at.overflow_add-result-2 c).After-half_words))
