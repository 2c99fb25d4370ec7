-- What a list of numbers and blocks does, whatever its numbers stand for: tasks alone, or tasks and recalls.
use Rattle.std.specs.Prelude.{◌≡◌, List, [], ◌∷◌, ℕ, zero, suc, min, ℤ, length}
use Rattle.buffer.specs.Lists.{word_at}
use Rattle.plan.specs.declared.Plan.{Plan}
use Rattle.job_spec.specs.Calls.{Buffers, accepted_count}
use Rattle.job_spec.specs.Steps.{Step, perform, after_steps, step_answers}

-- The call of a task, as a step.
abbrev pub task_at : List ℤ → ℕ → ℕ → Step
task_at heights number block = perform heights number block

-- The n steps from number i on of two lists, each as a number stands for one.
unfoldable pub numbered_from : (List ℤ → ℕ → ℕ → Step) → List ℤ → List ℕ → List ℕ → ℕ → ℕ → List Step
numbered_from step heights numbers blocks i zero = []
numbered_from step heights numbers blocks i (suc n) =
    step heights (word_at numbers i) (word_at blocks i) ∷ numbered_from step heights numbers blocks (suc i) n

-- The steps of two lists, as many as the shorter has.
abbrev pub steps_by : (List ℤ → ℕ → ℕ → Step) → List ℤ → List ℕ → List ℕ → List Step
steps_by step heights numbers blocks = numbered_from step heights numbers blocks 0 (min (length numbers) (length blocks))

-- The steps were performed: how many were accepted, and the lists after them.
pub record StepsRun (plan : Plan) (steps : List Step) (before after : Buffers) (count : ℕ) : Type 0 where
  pub counted : count ≡ accepted_count (step_answers plan steps before)
  pub lists_after : after ≡ after_steps plan steps before
