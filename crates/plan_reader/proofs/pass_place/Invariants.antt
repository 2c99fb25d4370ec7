-- `plan_reader::pass_place` meets its contract: `place` is that of the pass that the loop has come to. Assumes nothing.
use mathlib.Core.Path.{◌≡◌}
use Rattle.plan_reader.specs.ReadPlan.{pass_place}
use Rattle.plan_reader.proofs.pass_place.Given as goal

abbrev pub invariant-loop : goal.invariant-loop
invariant-loop l = l.place ≡ pass_place l.words l.counter
