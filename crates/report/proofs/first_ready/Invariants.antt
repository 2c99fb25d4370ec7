-- Invariant of both loops: what is left of the search from this task and this block on is the whole search.
use mathlib.Core.Path.{◌≡◌}
use Prim.Native.Nat.{◌+◌, ◌-◌}
use Rattle.report.specs.Report.{first_block, first_ready, first_task, or_else}
use Rattle.tasks.specs.Marks.{is_marked}
use Rattle.tasks.specs.Tasks.{ready}
use Rattle.report.proofs.first_ready.Given as goal

abbrev pub invariant-loop-block : goal.invariant-loop-block
invariant-loop-block l =
    first_ready l.grid (is_marked l.marks)
    ≡ or_else (first_block (ready l.grid (is_marked l.marks)) l.task l.block (l.blocks - l.block))
    (first_task (ready l.grid (is_marked l.marks)) l.blocks (l.task + 1) (6 - (l.task + 1)))

abbrev pub invariant-loop-task : goal.invariant-loop-task
invariant-loop-task l =
    first_ready l.grid (is_marked l.marks) ≡ first_task (ready l.grid (is_marked l.marks)) l.blocks l.task (6 - l.task)
