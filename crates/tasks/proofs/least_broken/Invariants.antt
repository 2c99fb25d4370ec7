-- Invariant: the least broken mark among the block's own and those of its neighbours for the passes so far.
use mathlib.Core.Path.{◌≡◌}
use Rattle.tasks.proofs.Verdicts.{least_around}
use Rattle.tasks.proofs.least_broken.Given as goal

abbrev pub invariant-loop-pass : goal.invariant-loop-pass
invariant-loop-pass l = l.least ≡ least_around l.grid l.marks l.block l.pass
