-- `put_lines` has put the lines of the distances so far into their rows.
use Rattle.axis.specs.Axis.{direction_of}
use Rattle.link.specs.Lines.{strip_lines}
use Rattle.link.proofs.Turns.{Turned}
use Rattle.link.proofs.Edge.put_lines.Given as goal

abbrev pub invariant-loop-distance : goal.invariant-loop-distance
invariant-loop-distance l =
    Turned l.initial.lines l.lines (strip_lines l.self.gain (direction_of l.self.pass) l.self.order l.self.strip l.strips l.row l.places l.distance l.initial.lines)
