-- There are few blocks, and a block adds at most 6 and 2,048, so that nothing wraps.
use native.Mathlib.Omega.{arith}
use Prim.Native.Nat.{◌≤◌, ◌+◌}
use Rattle.number.proofs.Sums.{sum_on, total_most}
use Rattle.grid.proofs.Blocks.{ranges}
use Rattle.tasks.proofs.Counting.{done_at_most}
use Rattle.tasks.specs.Counts.{done_at}
use Rattle.tasks.specs.Marks.{is_marked}
use Rattle.report.proofs.Tallies.{tally_at_most}
use Rattle.report.specs.Tally.{tally_at}
use Rattle.report.proofs.sums_of.Goals as goal
use Rattle.report.proofs.sums_of.Goals.{At-loop-block}

few : (c : At-loop-block) → c.blocks-block-end.result ≤ 16777216
few c = omega (arith, c.blocks-block-end.ensures, (ranges _ c.requires.kept).total_high)

pub overflow_add-marked : goal.overflow_add-marked
overflow_add-marked c =
    let done = is_marked c.args.marks.now in
    let most = total_most (done_at done) 6 (c.loop-block.block + 1) (λ k l. done_at_most done k) in
    omega
    (arith, few (goal.at.overflow_add-marked c).At-loop-block, sum_on _ _ _ _ c.loop-block.invariant.0 c.marked_at-marked.ensures)

pub overflow_add-tally : goal.overflow_add-tally
overflow_add-tally c =
    let grid = c.args.grid in
    let done = is_marked c.args.marks.now in
    let each = tally_at_most grid (ranges grid c.requires.kept).side_high in
    let most = total_most (tally_at grid done) 2048 (c.loop-block.block + 1) (λ k l. each k done) in
    omega
    (arith, few (goal.at.overflow_add-tally c).At-loop-block, sum_on _ _ _ _ c.loop-block.invariant.1 c.tally_at-tally.ensures)
