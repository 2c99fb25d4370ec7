-- `count_inside` has counted the dropouts of the rows passed so far.
use mathlib.Core.Path.{◌≡◌}
use Prim.Native.Nat.{◌-◌}
use Rattle.dropouts.proofs.Rows.{in_rows}
use Rattle.dropouts.proofs.count_inside.Given as goal

abbrev pub invariant-loop-row : goal.invariant-loop-row
invariant-loop-row l =
    let r = l.rectangle in
    l.found ≡ in_rows l.plan l.map r.top r.left r.bottom r.right (l.row - r.top)
