-- Inner: what the inner functions ask of their callers.
use Rattle.std.specs.Prelude.{◌≡◌, true, ℕ, ◌≤◌, ◌<◌}
use Rattle.plan.specs.declared.Plan.{Plan}
use Rattle.plan.specs.Rules.{keeps_rules}
use Rattle.plan.specs.Sizes.{needed_marks, needed_strips, needed_pixels}

-- The record keeps the rules, there are such a task and such a block, and map, strips and output are long enough.
pub record Fits (plan : Plan) (task block map_length strips_length output_length : ℕ) : Type 0 where
  pub rules : keeps_rules plan ≡ true
  pub task_below : task < 6
  pub block_below : block < needed_marks plan
  pub map_long : needed_pixels plan ≤ map_length
  pub strips_long : needed_strips plan ≤ strips_length
  pub output_long : needed_pixels plan ≤ output_length
