-- `rows_before` has the rows of the passes so far.
use mathlib.Core.Path.{◌≡◌}
use Prim.Native.Nat.{◌*◌, ◌≤◌}
use Rattle.plan.specs.Rules.{order_limit}
use Rattle.squares.specs.LineBuffers.{filter_at, rows_before}
use Rattle.squares.proofs.rows_before.Given as goal

abbrev pub invariant-loop-filter : goal.invariant-loop-filter
invariant-loop-filter l =
    (l.rows ≡ rows_before (filter_at l.filters) l.filter-index) × (l.rows ≤ l.filter-index * order_limit)
