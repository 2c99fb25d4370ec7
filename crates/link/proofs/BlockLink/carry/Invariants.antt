-- `carry` has added the histories of the passes so far.
use Rattle.squares.specs.LineBuffers.{filter_at}
use Rattle.link.specs.Crossing.{Held}
use Rattle.link.proofs.carrying.Histories.{carried_to}
use Rattle.task_words.specs.ScaledEdges.{scaled_edges}
use Rattle.link.proofs.BlockLink.carry.Given as goal

abbrev pub invariant-loop-done : goal.invariant-loop-done
invariant-loop-done l =
    Held l.self.course (carried_to (filter_at l.self.filters) l.self.course (scaled_edges l.self.plan l.strips l.self.k l.self.course.pass) l.done) l.responses
