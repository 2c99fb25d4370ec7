-- `add_histories` has added the distances so far.
use Rattle.axis.specs.Axis.{direction_of}
use Rattle.link.specs.Carrying.{history_word, HistoriesAdded}
use Rattle.link.proofs.Edge.add_histories.Given as goal

abbrev pub invariant-loop-distance : goal.invariant-loop-distance
invariant-loop-distance l =
    HistoriesAdded l.course.lines l.course.order l.distance (history_word l.self.gain (direction_of l.self.pass) l.self.order l.self.strip l.strips) l.square
    l.initial.responses l.responses
