-- One step: a recall where the number is 6, else a call of that task. Assumes nothing.
use mathlib.Core.Path.{◌≡◌}
use mathlib.Core.List.{List}
use Prim.Native.Nat.{ℕ}
use lib.IntN.{ℤ}
use borrow.Author.Tests.{eq-eqb, ne_eqb}
use Rattle.refusal.specs.Refusals.{Answer}
use Rattle.plan.specs.declared.Plan.{Plan}
use Rattle.recall.specs.RecallCall.{recall_answer, marks_after_recall}
use Rattle.job_spec.specs.Calls.{Buffers, lists, task_answer, after_task}
use Rattle.job_spec.specs.Steps.{after_step, step_answer}
use Rattle.job.specs.RunSteps.{step_at}

module _ (plan : Plan) (heights : List ℤ) (number k : ℕ) (before : Buffers) where
  -- What is promised of an answer and of the lists that a step leaves.
  abbrev Stepped : Answer → Buffers → Type 0
  Stepped answer after =
      (answer ≡ step_answer plan (step_at heights number k) before) × (after ≡ after_step plan (step_at heights number k) before)

  pub stepped_recall : (answer : Answer) (marks : List ℕ) → number ≡ 6 → answer ≡ recall_answer plan before.marks k
      → marks ≡ marks_after_recall plan k before.marks → Stepped answer (lists marks before.strips before.output)
  unfolding step_at step_answer after_step
  stepped_recall answer marks six answered cleared = rw (eq-eqb number 6 six) (answered, rw cleared)

  pub stepped_task : (answer : Answer) (after : Buffers) → (number ≡ 6 → ⊥)
      → answer ≡ task_answer plan heights before number k → after ≡ after_task plan heights number k before
      → Stepped answer after
  unfolding step_at step_answer after_step
  stepped_task answer after other answered wrote = rw (ne_eqb number 6 other) (answered, wrote)
