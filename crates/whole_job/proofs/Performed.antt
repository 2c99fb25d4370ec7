-- What the code's ways through a step, the steps and a whole job come to in the definitions.
-- Assumes nothing.
use mathlib.Core.Path.{◌≡◌, sym, ap}
use mathlib.Core.List.{List}
use Prim.Native.Nat.{ℕ, ◌+◌}
use native.Mathlib.Numerals.{add-one}
use lib.IntN.{ℤ}
use Rattle.std.specs.Prelude.{None, Some, Result, Ok, Err}
use Rattle.refusal.specs.declared.Refusal.{Refusal}
use Rattle.refusal.specs.Refusals.{accepted, refused_for}
use Rattle.plan.specs.declared.Plan.{Plan}
use Rattle.plan.specs.declared.Sizes.{Sizes}
use Rattle.plan.specs.Sizes.{task_count, sizes_of}
use Rattle.plan.specs.FirstTests.{sizes_for, sizes_given}
use Rattle.plan.proofs.Known.{sizes_known, sizes_refused}
use Rattle.report.specs.declared.Ready.{Ready}
use Rattle.report.specs.declared.Progress.{Progress}
use Rattle.report.specs.Values.{report_given}
use Rattle.report.specs.Report.{report}
use Rattle.job_spec.specs.Calls.{Buffers, lists, marks_after_start, strips_after_start, started, lent_to_task, after_task}
use Rattle.whole_job.specs.WholeJob.{after_step, after_steps, whole_answer, after_whole_job}

-- ---- one step

module _ (plan : Plan) (heights : List ℤ) (buffers : Buffers) (answer : Result Progress Refusal)
    (made : report_given answer ≡ report plan buffers.marks) where
  pub step_refused : (refusal : Refusal) → answer ≡ Err refusal → buffers ≡ after_step plan heights buffers
  unfolding after_step
  step_refused refusal e = rw (← made, e)

  pub step_nothing : (progress : Progress) → answer ≡ Ok progress → progress.next ≡ None
      → buffers ≡ after_step plan heights buffers
  unfolding after_step
  step_nothing progress e none = rw (← made, e, none)

  pub step_ready : (progress : Progress) → answer ≡ Ok progress → (next : Ready) → progress.next ≡ Some next
      → (now : Buffers) → now ≡ after_task plan heights next.task next.block buffers → now ≡ after_step plan heights buffers
  unfolding after_step
  step_ready progress e next named now performed = rw (← made, e, named) performed

-- ---- steps

module _ (plan : Plan) (heights : List ℤ) (from : Buffers) where
  pub steps_more : (count : ℕ) (before now : Buffers) → before ≡ after_steps plan heights count from
      → now ≡ after_step plan heights before → now ≡ after_steps plan heights (count + 1) from
  unfolding after_steps
  steps_more count before now e step = rw (add-one, ← e) step

-- ---- a whole job

module _ (plan : Plan) (heights : List ℤ) (lent : Buffers) (known : Result Sizes Refusal)
    (is : sizes_given known ≡ sizes_for plan (lent_to_task heights lent)) where
  pub whole_refused : (refusal : Refusal) → known ≡ Err refusal
      → (refused_for refusal ≡ whole_answer plan heights lent) × (lent ≡ after_whole_job plan heights lent)
  unfolding whole_answer after_whole_job
  whole_refused refusal e =
      let refuses = sizes_refused plan (lent_to_task heights lent) known is refusal e in (refuses, rw (← refuses))

  pub whole_accepted : (sizes : Sizes) → known ≡ Ok sizes → (marks strips : List ℕ)
      → marks ≡ marks_after_start plan lent.marks lent.strips
      → strips ≡ strips_after_start plan lent.marks lent.strips → (now : Buffers)
      → now ≡ after_steps plan heights sizes.tasks (lists marks strips lent.output)
      → (accepted ≡ whole_answer plan heights lent) × (now ≡ after_whole_job plan heights lent)
  unfolding whole_answer after_whole_job started sizes_of
  whole_accepted sizes e marks strips marked stripped now steps =
      let (accepts, are) = sizes_known plan (lent_to_task heights lent) known is sizes e in
      let count : sizes.tasks ≡ task_count plan = ap (λ (s : Sizes). s.tasks) are in
      (sym accepts, rw accepts (rw (count, marked, stripped) at steps))
