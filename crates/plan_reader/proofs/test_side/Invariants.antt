-- `plan_reader::test_side` meets its contract: the side reaches the orders of the first i passes. Assumes nothing.
use mathlib.Core.Path.{◌≡◌}
use mathlib.Core.Bool.{true}
use Rattle.number.specs.Numbers.{all_below}
use Rattle.plan_reader.specs.ReadPlan.{side_reaches}
use Rattle.plan_reader.proofs.test_side.Given as goal

abbrev pub invariant-loop-i : goal.invariant-loop-i
invariant-loop-i l = all_below (side_reaches l.words) l.i ≡ true
