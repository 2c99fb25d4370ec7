-- `read_strips` is safe.
use Rattle.link.proofs.ahead.read_strips.Given as goal

abbrev pub invariant-loop-need : goal.invariant-loop-need
invariant-loop-need l = Unit {0}
