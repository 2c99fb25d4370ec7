-- Task calls, each with the map that is lent to it, and recalls, one after another: their answers and the marks, strips and
-- output after them; and what is done, by the list of steps alone. Document 02, CR 8.
use Rattle.std.specs.Prelude.{◌≡◌, Bool, true, false, not, ◌&&◌, ◌||◌, cond, List, [], ◌∷◌, ℕ, ℤ, ltb, length}
use Rattle.refusal.specs.Refusals.{Answer}
use Rattle.refusal.specs.Table.{◌at◌when◌, first_due}
use Rattle.grid.specs.Grid.{block_total}
use Rattle.plan.specs.declared.Plan.{Plan}
use Rattle.plan.specs.Sizes.{needed_pixels}
use Rattle.tasks.specs.Tasks.{BlockTask, ready, nothing_done, also_done}
use Rattle.tasks.specs.Verdict.{done_rows}
use Rattle.recall.specs.Recall.{done_without}
use Rattle.recall.specs.RecallCall.{recall_rows, recall_answer, marks_after_recall}
use Rattle.job_spec.specs.Calls.{Buffers, lists, task_answer, after_task}

-- A call of task t at block k with the map that is lent to it; or a recall of block k, which is lent no map.
pub data Step : Type 0 where
  perform : (heights : List ℤ) (t k : ℕ) → Step
  recall : (k : ℕ) → Step

-- ---- the calls

-- The lists after a recall of block k: strips and output are not lent to it.
abbrev pub after_recall : Plan → ℕ → Buffers → Buffers
after_recall plan k buffers = lists (marks_after_recall plan k buffers.marks) buffers.strips buffers.output

-- The lists after a step.
unfoldable pub after_step : Plan → Step → Buffers → Buffers
after_step plan (perform heights t k) buffers = after_task plan heights t k buffers
after_step plan (recall k) buffers = after_recall plan k buffers

-- The lists after steps one after another.
unfoldable pub after_steps : Plan → List Step → Buffers → Buffers
after_steps plan [] buffers = buffers
after_steps plan (step ∷ steps) buffers = after_steps plan steps (after_step plan step buffers)

-- The answer of a step.
unfoldable pub step_answer : Plan → Step → Buffers → Answer
step_answer plan (perform heights t k) buffers = task_answer plan heights buffers t k
step_answer plan (recall k) buffers = recall_answer plan buffers.marks k

-- The answer of each step.
unfoldable pub step_answers : Plan → List Step → Buffers → List Answer
step_answers plan [] buffers = []
step_answers plan (step ∷ steps) buffers = step_answer plan step buffers ∷ step_answers plan steps (after_step plan step buffers)

-- ---- what is done

-- A map has h×w heights or more.
abbrev pub is_long : Plan → List ℤ → Bool
is_long plan heights = not (ltb (length heights) (needed_pixels plan))

-- A task call is accepted where its map is long enough and its task is ready, a recall where the block is in the map and
-- collected.
unfoldable pub accepts : Plan → (ℕ → ℕ → Bool) → Step → Bool
accepts plan done (perform heights t k) = is_long plan heights && ready plan.grid done t k
accepts plan done (recall k) = ltb k (block_total plan.grid) && done 0 k

-- What is done after an accepted step: a call adds its task, a recall takes away what it clears.
abbrev pub done_with : Plan → (ℕ → ℕ → Bool) → Step → ℕ → ℕ → Bool
done_with plan done (perform heights t k) = also_done done t k
done_with plan done (recall k) = done_without plan.grid done k

-- What is done after a step: a refused one changes nothing.
unfoldable pub done_by_step : Plan → (ℕ → ℕ → Bool) → Step → ℕ → ℕ → Bool
done_by_step plan done step = cond (accepts plan done step) (done_with plan done step) done

-- What is done after more steps.
unfoldable pub done_by_steps : Plan → (ℕ → ℕ → Bool) → List Step → ℕ → ℕ → Bool
done_by_steps plan done [] = done
done_by_steps plan done (step ∷ steps) = done_by_steps plan (done_by_step plan done step) steps

-- What is done after steps from a start.
abbrev pub done_now : Plan → List Step → ℕ → ℕ → Bool
done_now plan steps = done_by_steps plan nothing_done steps

-- What a step is to be answered, by what was done before it, with no look at marks: a call 15 for a map that is too short,
-- then 8, 10 or 11 as without recalls; a recall 8 where there is no such block and 17 where it is not collected.
unfoldable pub due_to_step : Plan → (ℕ → ℕ → Bool) → Step → Answer
due_to_step plan done (perform heights t k) =
    first_due (15 at 0 when ltb (length heights) (needed_pixels plan) ∷ done_rows plan.grid done t k)
due_to_step plan done (recall k) = first_due (recall_rows plan.grid done [] k)

-- These answers for steps one after another.
unfoldable pub due_to_steps : Plan → (ℕ → ℕ → Bool) → List Step → List Answer
due_to_steps plan done [] = []
due_to_steps plan done (step ∷ steps) = due_to_step plan done step ∷ due_to_steps plan (done_by_step plan done step) steps

-- ---- one task over a list of steps

-- Task t of block k is done, and stays done through all the steps.
unfoldable pub stays_done : Plan → (ℕ → ℕ → Bool) → List Step → ℕ → ℕ → Bool
stays_done plan done [] t k = done t k
stays_done plan done (step ∷ steps) t k = done t k && stays_done plan (done_by_step plan done step) steps t k

-- Some step makes it done, that is, it is done after that step and was not before it.
unfoldable pub was_made : Plan → (ℕ → ℕ → Bool) → List Step → ℕ → ℕ → Bool
was_made plan done [] t k = false
was_made plan done (step ∷ steps) t k =
    (not (done t k) && done_by_step plan done step t k) || was_made plan (done_by_step plan done step) steps t k

-- Some step clears it, that is, it was done before that step and is not after it.
unfoldable pub was_cleared : Plan → (ℕ → ℕ → Bool) → List Step → ℕ → ℕ → Bool
was_cleared plan done [] t k = false
was_cleared plan done (step ∷ steps) t k =
    (done t k && not (done_by_step plan done step t k)) || was_cleared plan (done_by_step plan done step) steps t k

-- Every task that a recall among the steps cleared is done again at their end.
abbrev pub ClearedDoneAgain : Plan → List Step → Type 0
ClearedDoneAgain plan steps = (t k : ℕ) → was_cleared plan nothing_done steps t k ≡ true → done_now plan steps t k ≡ true

-- ---- steps without recalls

-- Task calls as steps that are all lent one map.
unfoldable pub on_map : List ℤ → List BlockTask → List Step
on_map heights [] = []
on_map heights (call ∷ calls) = perform heights call.task call.block ∷ on_map heights calls

-- The accepted task calls among the steps, in their order.
unfoldable pub accepted_calls : Plan → (ℕ → ℕ → Bool) → List Step → List BlockTask
accepted_calls plan done [] = []
accepted_calls plan done (perform heights t k ∷ steps) =
    cond (accepts plan done (perform heights t k)) (record { task = t; block = k } ∷ accepted_calls plan (also_done done t k) steps)
    (accepted_calls plan done steps)
accepted_calls plan done (recall k ∷ steps) = accepted_calls plan (done_by_step plan done (recall k)) steps
