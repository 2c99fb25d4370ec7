-- The dropouts that `count_inside` counts are no more than the map has heights.
use native.Mathlib.Omega.{arith}
use Rattle.dropouts.proofs.Rows.{count_fits}
use Rattle.dropouts.proofs.count_inside.Goals as goal

pub overflow_add-found : goal.overflow_add-found
overflow_add-found c =
    let a = c.args in
    let r = a.rectangle in
    omega (
      arith,
      count_fits a.plan a.map.now r.top r.left r.bottom r.right c.requires.1 c.requires.0 c.loop-row.row
          c.loop-row.auto.row c.loop-row-test.true c.loop-row.invariant (rw c.width-width.ensures at c.count_row-found.ensures),
    )
