-- Invariant: none of the blocks before this one is broken.
use mathlib.Core.Path.{◌≡◌}
use Rattle.grid.specs.Grid.{block_total}
use Rattle.tasks.proofs.Verdicts.{least_below}
use Rattle.report.proofs.first_broken.Given as goal

abbrev pub invariant-loop-block : goal.invariant-loop-block
invariant-loop-block l = least_below l.grid l.marks l.block ≡ block_total l.grid
