-- What `run_calls` promises: the answers and the lists after the calls, and demand 3 of them.
use Rattle.std.specs.Prelude.{◌≡◌, List, ℕ, ◌≤◌, ℤ, length}
use Rattle.refusal.specs.Refusals.{accepted}
use Rattle.plan.specs.declared.Plan.{Plan}
use Rattle.plan.specs.Sizes.{needed_pixels}
use Rattle.tasks.specs.Tasks.{BlockTask}
use Rattle.job_spec.specs.Calls.{Buffers, start_answer, started, after_calls, answers_of, accepted_count}
use Rattle.job_spec.specs.Demand3.{Claim}

-- Calls on a map and lists `before`: how many were accepted, and the lists `after` them.
pub record Ran (plan : Plan) (heights : List ℤ) (calls : List BlockTask) (before after : Buffers) (count : ℕ) : Type 0 where
  -- The count is that of the accepted calls, and the lists are those that the calls leave, one after another.
  pub counted : count ≡ accepted_count (answers_of plan heights calls before)
  pub lists_after : after ≡ after_calls plan heights calls before
  -- Demand 3: where the lists are as an accepted start leaves lent ones, with a map and an output of h×w words, the claim holds of
  -- the calls, the lists after them and their answers.
  pub claimed : (lent : Buffers) → start_answer plan lent.marks lent.strips ≡ accepted → before ≡ started plan lent
      → needed_pixels plan ≤ length heights → needed_pixels plan ≤ length lent.output
      → Claim plan heights lent calls after (answers_of plan heights calls before)
