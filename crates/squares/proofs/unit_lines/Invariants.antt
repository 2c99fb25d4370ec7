-- `unit_lines` has set the units of the lines so far.
use mathlib.Core.Path.{◌≡◌}
use lib.ListN.{length}
use Rattle.axis.specs.Axis.{direction_of}
use Rattle.squares.specs.LineBuffers.{unit_lines}
use Rattle.squares.proofs.unit_lines.Given as goal

abbrev pub invariant-loop-line : goal.invariant-loop-line
invariant-loop-line l =
    (length l.lines ≡ length l.initial.lines) × (l.lines ≡ unit_lines (direction_of l.pass) l.row l.places l.line l.initial.lines)
