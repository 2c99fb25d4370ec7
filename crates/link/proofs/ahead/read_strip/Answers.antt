-- `read_strip` stays in the list of strips.
use Prim.Native.Nat.{◌+◌, ◌≤◌}
use native.Mathlib.Omega.{arith}
use Rattle.plan.specs.Sizes.{needed_strips}
use Rattle.plan.proofs.Needed.{bounds}
use Rattle.task_words.specs.Strips.{strip_start, strip_words}
use Rattle.task_words.proofs.Strips.{strip_in_list}
use Rattle.link.proofs.ahead.read_strip.Goals as goal
use Rattle.link.proofs.ahead.read_strip.Goals.{After-strip_start-start}

-- The strip lies in the list.
inside : (c : After-strip_start-start)
    → let a = c.args in
    strip_start a.plan a.half a.k a.pass + strip_words a.plan a.pass ≤ needed_strips a.plan
inside c =
    let a = c.args in
    let at = c.requires.strip_at in
    strip_in_list a.plan a.half a.k a.pass at.counted at.pass_below

pub overflow_mul-count : goal.overflow_mul-count
overflow_mul-count c =
    let most = bounds c.args.plan c.requires.strip_at.kept in
    rw c.order.ensures (omega (arith, inside (goal.at.overflow_mul-count c).After-strip_start-start, most))

pub overflow_add-start : goal.overflow_add-start
overflow_add-start c =
    let most = bounds c.args.plan c.requires.strip_at.kept in
    rw (c.order.ensures, c.strip_start-start.ensures)
    (omega (arith, inside (goal.at.overflow_add-start c).After-strip_start-start, most))

pub offset_bounds-strips-start : goal.offset_bounds-strips-start
offset_bounds-strips-start c =
    let most = bounds c.args.plan c.requires.strip_at.kept in
    rw c.strip_start-start.ensures
    (omega (arith, inside (goal.at.offset_bounds-strips-start c).After-strip_start-start, most))

pub slice_bounds-read_words-end : goal.slice_bounds-read_words-end
slice_bounds-read_words-end c =
    rw (c.order.ensures, c.strip_start-start.ensures)
    (omega (arith, inside (goal.at.slice_bounds-read_words-end c).After-strip_start-start, c.requires.strips_long))
