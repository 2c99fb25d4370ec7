-- What the calls read of a map is its length and its pixels, and both stay where dropouts are replaced. Assumes nothing.
use mathlib.Core.Path.{◌≡◌, refl, ap, ap₂, ◌∙◌}
use mathlib.Core.List.{List, [], ◌∷◌, map}
use Prim.Native.Nat.{ℕ, zero, suc}
use lib.IntN.{ℤ}
use lib.ListN.{length-map}
use Rattle.buffer.specs.Pixel.{reading}
use Rattle.buffer.proofs.Pixel.{dropouts_replaced}
use Rattle.filter.specs.PlanFilters.{map_of}
use Rattle.plan.specs.declared.Plan.{Plan}
use Rattle.serial.specs.Serial.{serial_output, serial_words}
use Rattle.tasks.specs.Tasks.{BlockTask}
use Rattle.job_spec.specs.Calls.{Buffers, task_answer, strips_after, output_after, performed, after_task, after_calls, answers_of}
use Rattle.job_spec.specs.Steps.{Step, perform, recall, after_step, after_steps, step_answer, step_answers}
use Rattle.job_spec.specs.Replaced.{replaced, SameReplaced}

module _ (plan : Plan) (heights : List ℤ) where
  same_map : map_of plan (map reading heights) ≡ map_of plan heights
  same_map = dropouts_replaced.same_replaced plan.grid.columns heights

  serial_output_law : (output : List ℕ) → serial_output plan (map reading heights) output ≡ serial_output plan heights output
  unfolding serial_output serial_words
  serial_output_law output = rw (length-map heights reading, same_map)

  task_answer_law : (buffers : Buffers) (t k : ℕ)
      → task_answer plan (map reading heights) buffers t k ≡ task_answer plan heights buffers t k
  unfolding task_answer
  task_answer_law buffers t k = rw (length-map heights reading)

  strips_after_law : (t k : ℕ) (strips : List ℕ)
      → strips_after plan (map reading heights) t k strips ≡ strips_after plan heights t k strips
  unfolding strips_after
  strips_after_law zero k strips = rw same_map
  strips_after_law (suc pass) k strips = refl

  after_task_law : (t k : ℕ) (buffers : Buffers)
      → after_task plan (map reading heights) t k buffers ≡ after_task plan heights t k buffers
  unfolding after_task performed output_after
  after_task_law t k buffers = rw (task_answer_law buffers t k, strips_after_law t k buffers.strips, same_map)

  task_buffers : (calls : List BlockTask) (buffers : Buffers)
      → after_calls plan (map reading heights) calls buffers ≡ after_calls plan heights calls buffers
  unfolding after_calls
  task_buffers [] buffers = refl
  task_buffers (call ∷ calls) buffers =
      ap (after_calls plan (map reading heights) calls) (after_task_law call.task call.block buffers)
      ∙ task_buffers calls (after_task plan heights call.task call.block buffers)

  task_answers : (calls : List BlockTask) (buffers : Buffers)
      → answers_of plan (map reading heights) calls buffers ≡ answers_of plan heights calls buffers
  unfolding answers_of
  task_answers [] buffers = refl
  task_answers (call ∷ calls) buffers =
      ap₂ ◌∷◌ (task_answer_law buffers call.task call.block)
      (ap (answers_of plan (map reading heights) calls) (after_task_law call.task call.block buffers)
      ∙ task_answers calls (after_task plan heights call.task call.block buffers))

module _ (plan : Plan) where
  step_after : (step : Step) (buffers : Buffers) → after_step plan (replaced step) buffers ≡ after_step plan step buffers
  unfolding after_step
  step_after (perform heights t k) buffers = after_task_law plan heights t k buffers
  step_after (recall k) buffers = refl

  step_said : (step : Step) (buffers : Buffers) → step_answer plan (replaced step) buffers ≡ step_answer plan step buffers
  unfolding step_answer
  step_said (perform heights t k) buffers = task_answer_law plan heights buffers t k
  step_said (recall k) buffers = refl

  step_buffers : (steps : List Step) (buffers : Buffers)
      → after_steps plan (map replaced steps) buffers ≡ after_steps plan steps buffers
  unfolding after_steps
  step_buffers [] buffers = refl
  step_buffers (step ∷ steps) buffers =
      ap (after_steps plan (map replaced steps)) (step_after step buffers) ∙ step_buffers steps (after_step plan step buffers)

  step_answers_law : (steps : List Step) (buffers : Buffers)
      → step_answers plan (map replaced steps) buffers ≡ step_answers plan steps buffers
  unfolding step_answers
  step_answers_law [] buffers = refl
  step_answers_law (step ∷ steps) buffers =
      ap₂ ◌∷◌ (step_said step buffers)
      (ap (step_answers plan (map replaced steps)) (step_after step buffers) ∙ step_answers_law steps (after_step plan step buffers))

pub same_replaced : SameReplaced
same_replaced =
    record {
      serial_output_law = serial_output_law;
      task_answers = task_answers;
      task_buffers = task_buffers;
      step_answers_law = step_answers_law;
      step_buffers = step_buffers;
    }
