-- `copy_ends` has put the ends of the rows so far into the margin.
use Rattle.axis.specs.Axis.{direction_of}
use Rattle.link.specs.Crossing.{ends_copied}
use Rattle.link.proofs.Turns.{Turned}
use Rattle.link.proofs.crossing.copy_ends.Given as goal

abbrev pub invariant-loop-distance : goal.invariant-loop-distance
invariant-loop-distance l =
    Turned l.initial.responses l.responses (ends_copied (direction_of l.pass) l.course l.row l.lines l.distance l.initial.responses)
