-- A whole job: start, and then as often as there are tasks the task that the report names.
use Rattle.std.specs.Prelude.{◌≡◌, cond, List, ℕ, zero, suc, ◌≤◌, ℤ, eqb, length}
use Rattle.refusal.specs.Refusals.{Answer, accepted}
use Rattle.refusal.specs.Table.{first_due, if_accepted}
use Rattle.plan.specs.declared.Plan.{Plan}
use Rattle.plan.specs.Sizes.{needed_marks, needed_strips, task_count}
use Rattle.plan.specs.FirstTests.{lent_rows}
use Rattle.buffer.specs.Lists.{word_at}
use Rattle.report.specs.Values.{Values, all_done_values}
use Rattle.report.specs.Report.{report}
use Rattle.serial.specs.Serial.{serial_output}
use Rattle.job_spec.specs.Calls.{Buffers, started, lent_to_task, after_task}

-- The lists after the task that a report's values name; as they were where they name none.
abbrev pub after_named : Plan → List ℤ → Values → Buffers → Buffers
after_named plan heights values buffers =
    cond (eqb values.ready 1) (after_task plan heights values.task values.block buffers) buffers

-- One step: the report is made, and what it names is performed. Beside a refusal its values are zeros, and name none.
unfoldable pub after_step : Plan → List ℤ → Buffers → Buffers
after_step plan heights buffers = after_named plan heights (report plan buffers.marks).value buffers

-- Steps one after another.
unfoldable pub after_steps : Plan → List ℤ → ℕ → Buffers → Buffers
after_steps plan heights zero buffers = buffers
after_steps plan heights (suc count) buffers = after_step plan heights (after_steps plan heights count buffers)

-- What a whole job answers: as a task, by the record and the four lists that it is lent, 6, 7, 14, 15, 16.
unfoldable pub whole_answer : Plan → List ℤ → Buffers → Answer
whole_answer plan heights lent = first_due (lent_rows plan (lent_to_task heights lent))

-- The lists after a whole job: a refused call leaves all as it was.
unfoldable pub after_whole_job : Plan → List ℤ → Buffers → Buffers
after_whole_job plan heights lent =
    if_accepted (whole_answer plan heights lent) (after_steps plan heights (task_count plan) (started plan lent)) lent

-- What is claimed of an accepted whole job, `after` being the lists after it.
pub record WholeClaim (plan : Plan) (heights : List ℤ) (lent after : Buffers) : Type 0 where
  -- The output is the one that the serial call leaves of the same map and output, the words past h×w included.
  pub output_is : after.output ≡ serial_output plan heights lent.output
  -- Marks and strips past the needed lengths are as they were, and so are their lengths.
  pub marks_past : (k : ℕ) → needed_marks plan ≤ k → word_at after.marks k ≡ word_at lent.marks k
  pub strips_past : (q : ℕ) → needed_strips plan ≤ q → word_at after.strips q ≡ word_at lent.strips q
  pub marks_length : length after.marks ≡ length lent.marks
  pub strips_length : length after.strips ≡ length lent.strips
  -- The report counts 6MN - 2M - 2N tasks and a tally of two for each pixel, and names none.
  pub report_is : report plan after.marks ≡ record { answer = accepted; value = all_done_values plan }

-- The claim holds of every whole job that is accepted.
abbrev pub WholeJobDone : Type 0
WholeJobDone =
    (plan : Plan) (heights : List ℤ) (lent : Buffers) → whole_answer plan heights lent ≡ accepted
    → WholeClaim plan heights lent (after_whole_job plan heights lent)
