-- The serial passes and the task calls, with recalls or without, do the same with a map as with that map, its dropouts
-- replaced by 0: document 02, CR 7.
use Rattle.std.specs.Prelude.{◌≡◌, List, map, ℕ, ℤ}
use Rattle.buffer.specs.Pixel.{reading}
use Rattle.plan.specs.declared.Plan.{Plan}
use Rattle.serial.specs.Serial.{serial_output}
use Rattle.tasks.specs.Tasks.{BlockTask}
use Rattle.job_spec.specs.Calls.{Buffers, after_calls, answers_of}
use Rattle.job_spec.specs.Steps.{Step, perform, recall, after_steps, step_answers}

-- The same step, the dropouts of its map replaced by 0.
abbrev pub replaced : Step → Step
replaced (perform heights t k) = perform (map reading heights) t k
replaced (recall k) = recall k

-- The serial passes leave the same output,
pub record SameReplaced : Type 0 where
  pub serial_output_law : (plan : Plan) (heights : List ℤ) (output : List ℕ)
      → serial_output plan (map reading heights) output ≡ serial_output plan heights output
  -- and any list of task calls on any buffers has the same answers
  pub task_answers : (plan : Plan) (heights : List ℤ) (calls : List BlockTask) (buffers : Buffers)
      → answers_of plan (map reading heights) calls buffers ≡ answers_of plan heights calls buffers
  -- and leaves the same marks, strips and output.
  pub task_buffers : (plan : Plan) (heights : List ℤ) (calls : List BlockTask) (buffers : Buffers)
      → after_calls plan (map reading heights) calls buffers ≡ after_calls plan heights calls buffers
  -- So does any list of task calls, each with a map of its own, and recalls.
  pub step_answers_law : (plan : Plan) (steps : List Step) (buffers : Buffers)
      → step_answers plan (map replaced steps) buffers ≡ step_answers plan steps buffers
  pub step_buffers : (plan : Plan) (steps : List Step) (buffers : Buffers)
      → after_steps plan (map replaced steps) buffers ≡ after_steps plan steps buffers
