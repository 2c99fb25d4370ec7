-- Steps after an accepted start, where the output is too short: every one is refused, and nothing changes. Assumes nothing.
use mathlib.Core.Path.{◌≡◌, refl, ap, ap₂, ◌∙◌}
use mathlib.Core.Bool.{Bool, true, false, not, cond, false≢true}
use mathlib.Core.List.{List, [], ◌∷◌, map}
use Prim.Native.Nat.{ℕ, ◌<◌}
use lib.IntN.{ℤ}
use lib.Dec.{ltb}
use lib.ListN.{length}
use borrow.Author.Tests.{ltb-true, ltb-false}
use Rattle.refusal.specs.Refusals.{Answer, accepted, refused}
use Rattle.refusal.specs.Table.{◌at◌when◌, first_due}
use Rattle.plan.specs.declared.Plan.{Plan}
use Rattle.plan.specs.Sizes.{needed_marks, needed_pixels}
use Rattle.tasks.specs.Tasks.{BlockTask, nothing_done}
use Rattle.recall.specs.RecallCall.{marks_after_recall}
use Rattle.recall.proofs.Recalled.{recall_answered}
use Rattle.job_spec.specs.Calls.{Buffers, start_answer, started, task_answer, after_task, answers_of}
use Rattle.job_spec.specs.Steps.{Step, perform, recall, after_step, after_steps, step_answer, step_answers}
use Rattle.job_spec.specs.Rescan.{due_without_output, ShortOutputSteps}
use Rattle.job_spec.proofs.AllRefused.{short_after_start}
use Rattle.job_spec.proofs.Start.{start_tells}
use Rattle.job_spec.proofs.Started.{start_kept}

-- The first of two equal lists.
first_of : {x y : Answer} → x ∷ [] ≡ y ∷ [] → x ≡ y
first_of {x} e = ap (λ said. head said) e
  where
    head : List Answer → Answer
    head [] = x
    head (answer ∷ said) = answer

module _ (plan : Plan) (lent : Buffers) (start : start_answer plan lent.marks lent.strips ≡ accepted)
    (short : length lent.output < needed_pixels plan) where
  call_refused : (heights : List ℤ) (t k : ℕ)
      → task_answer plan heights (started plan lent) t k ≡ due_without_output plan (perform heights t k)
  unfolding answers_of
  call_refused heights t k = by (ltb (length heights) (needed_pixels plan)) refl
    where
      call : List BlockTask
      call = record { task = t; block = k } ∷ []

      by : (few : Bool) → ltb (length heights) (needed_pixels plan) ≡ few
          → task_answer plan heights (started plan lent) t k ≡ refused (cond (not few) 16 15) 0
      by true e = first_of ((short_after_start plan heights lent start).0 (ltb-true _ _ e) call).1
      by false e = first_of ((short_after_start plan heights lent start).1 (ltb-false _ _ e) short call).1

  step_refused : (step : Step) → step_answer plan step (started plan lent) ≡ due_without_output plan step
  unfolding step_answer
  step_refused (perform heights t k) = call_refused heights t k
  step_refused (recall k) =
      let accepts = start_tells plan lent.marks lent.strips start in
      let kept = start_kept plan lent start in
      recall_answered plan accepts.rules nothing_done (λ t j _ _ e. absurd (false≢true e)) (started plan lent).marks
      (rw kept.marks_length accepts.of7_long) kept.shows k
      ∙ by (ltb k (needed_marks plan))
    where
      by : (inside : Bool) → first_due (8 at 0 when not inside ∷ 17 at 0 when not false ∷ []) ≡ refused (cond inside 17 8) 0
      by true = refl
      by false = refl

  step_leaves : (step : Step) → after_step plan step (started plan lent) ≡ started plan lent
  unfolding after_step after_task marks_after_recall step_answer
  step_leaves (perform heights t k) = rw (step_refused (perform heights t k))
  step_leaves (recall k) = rw (step_refused (recall k))

  all_refused : (steps : List Step)
      → (after_steps plan steps (started plan lent) ≡ started plan lent)
      × (step_answers plan steps (started plan lent) ≡ map (due_without_output plan) steps)
  unfolding after_steps step_answers
  all_refused [] = (refl, refl)
  all_refused (step ∷ steps) = (
    ap (after_steps plan steps) (step_leaves step) ∙ (all_refused steps).0,
    ap₂ ◌∷◌ (step_refused step) (ap (step_answers plan steps) (step_leaves step) ∙ (all_refused steps).1),
  )

pub short_output_steps : ShortOutputSteps
short_output_steps plan lent start short steps = all_refused plan lent start short steps
