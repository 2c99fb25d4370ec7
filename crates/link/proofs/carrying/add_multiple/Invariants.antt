-- `add_multiple` has added the multiples of the lines so far.
use Rattle.link.specs.Carrying.{multiple_added}
use Rattle.link.proofs.Turns.{Turned}
use Rattle.link.proofs.carrying.add_multiple.Given as goal

abbrev pub invariant-loop-line : goal.invariant-loop-line
invariant-loop-line l =
    Turned l.initial.responses l.responses (multiple_added l.place l.strips l.at l.step l.weight l.line l.initial.responses)
