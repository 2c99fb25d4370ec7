-- The totals that an operator reads: the table of a job with all its tasks done gives the heights' sums, as whole
-- numbers. Document 01, the paragraph on the rectangle sum; document 02, CR 2, CR 5 and CR 7.
use Rattle.std.specs.Prelude.{◌≡◌, List, ℕ, ◌≤◌, ℤ, length}
use Rattle.refusal.specs.Refusals.{accepted}
use Rattle.plan.specs.declared.Plan.{Plan}
use Rattle.plan.specs.Sizes.{needed_pixels, task_count}
use Rattle.tasks.specs.Tasks.{BlockTask}
use Rattle.job_spec.specs.Calls.{Buffers, start_answer, started, after_calls}
use Rattle.job_spec.specs.Demand3.{count_after}
use Rattle.rectangle.specs.Heights.{HeightsFit, SumsOver}
use Rattle.filter.specs.PlanFilters.{summed_area_passes}

-- Calls that make a whole job: start accepts the plan with the lent marks and strips, map and output have h×w words,
-- and after the calls, whatever they are and in whatever order, all 6MN - 2M - 2N tasks are done.
pub record WholeJob (plan : Plan) (heights : List ℤ) (lent : Buffers) (calls : List BlockTask) : Type 0 where
  pub start_accepts : start_answer plan lent.marks lent.strips ≡ accepted
  pub map_long : needed_pixels plan ≤ length heights
  pub output_long : needed_pixels plan ≤ length lent.output
  pub all_done_law : count_after plan calls ≡ task_count plan

-- The output that a job leaves: that after its start and its calls.
abbrev pub job_output : Plan → List ℤ → Buffers → List BlockTask → List ℕ
job_output plan heights lent calls = (after_calls plan heights calls (started plan lent)).output

-- The table that a whole job with the passes of the summed-area table made of a map of 32-bit heights gives the sums of
-- the heights, dropouts replaced by 0 (`height_sum`).
abbrev pub JobSumsHeights : Type 0
JobSumsHeights =
    (plan : Plan) (heights : List ℤ) (lent : Buffers) (calls : List BlockTask) → WholeJob plan heights lent calls
    → plan.passes ≡ summed_area_passes → HeightsFit plan heights
    → SumsOver plan heights (job_output plan heights lent calls)
