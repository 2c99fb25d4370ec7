-- Invariant: both sums over the blocks so far.
use mathlib.Core.Path.{◌≡◌}
use Rattle.number.specs.Numbers.{total}
use Rattle.tasks.specs.Counts.{done_at}
use Rattle.tasks.specs.Marks.{is_marked}
use Rattle.report.specs.Tally.{tally_at}
use Rattle.report.proofs.sums_of.Given as goal

abbrev pub invariant-loop-block : goal.invariant-loop-block
invariant-loop-block l =
    (l.marked ≡ total (done_at (is_marked l.marks)) l.block)
    × (l.tally ≡ total (tally_at l.grid (is_marked l.marks)) l.block)
