-- `add_responses` has added the responses of the lines so far.
use Rattle.link.specs.Writing.{responses_added}
use Rattle.link.proofs.Turns.{Turned}
use Rattle.link.proofs.writing.add_responses.Given as goal

abbrev pub invariant-loop-line : goal.invariant-loop-line
invariant-loop-line l =
    Turned l.initial.strips l.strips (responses_added l.from l.to l.step l.responses l.place l.line l.initial.strips)
