-- Invariant: the sum over the tasks so far, at most one for each.
use mathlib.Core.Path.{◌≡◌}
use Prim.Native.Nat.{◌≤◌}
use Rattle.tasks.specs.Counts.{one_at}
use Rattle.number.specs.Numbers.{total}
use Rattle.tasks.specs.Marks.{is_marked}
use Rattle.report.proofs.marked_at.Given as goal

abbrev pub invariant-loop-task : goal.invariant-loop-task
invariant-loop-task l = (l.sum ≡ total (one_at (is_marked l.marks) l.block) l.task) × (l.sum ≤ l.task)
