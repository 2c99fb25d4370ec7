-- What `run_steps` promises: the answers and the lists after task calls and recalls, and demand 3 of them. Document 02, CR 8.
use Rattle.std.specs.Prelude.{◌≡◌, cond, List, ◌++◌, ℕ, ◌≤◌, ℤ, eqb, length}
use Rattle.refusal.specs.Refusals.{accepted}
use Rattle.plan.specs.declared.Plan.{Plan}
use Rattle.plan.specs.Sizes.{needed_pixels}
use Rattle.job_spec.specs.Calls.{Buffers, start_answer, started, accepted_count}
use Rattle.job_spec.specs.Steps.{Step, perform, recall, after_steps, step_answers}
use Rattle.job_spec.specs.Rescan.{RescanClaim}
use Rattle.job.specs.RunList.{steps_by}

-- The step that a number stands for at a block: 6 for a recall, any other for a call of that task with the map.
unfoldable pub step_at : List ℤ → ℕ → ℕ → Step
step_at heights number block = cond (eqb number 6) (recall block) (perform heights number block)

-- The steps of two lists, as many as the shorter has.
abbrev pub steps_of : List ℤ → List ℕ → List ℕ → List Step
steps_of = steps_by step_at

-- Steps on lists `before`: how many were accepted, and the lists `after` them.
pub record RanSteps (plan : Plan) (steps : List Step) (before after : Buffers) (count : ℕ) : Type 0 where
  -- The count is that of the accepted steps, and the lists are those that the steps leave, one after another.
  pub counted : count ≡ accepted_count (step_answers plan steps before)
  pub lists_after : after ≡ after_steps plan steps before
  -- Demand 3 with recalls: where the lists are as any earlier steps, whatever their maps, left those of an accepted start, with
  -- an output of h×w words, the claim holds of the earlier steps and these, the lists after them and the answers of all.
  pub claimed : (lent : Buffers) (earlier : List Step) → start_answer plan lent.marks lent.strips ≡ accepted
      → before ≡ after_steps plan earlier (started plan lent) → needed_pixels plan ≤ length lent.output
      → RescanClaim plan lent (earlier ++ steps) after (step_answers plan (earlier ++ steps) (started plan lent))
