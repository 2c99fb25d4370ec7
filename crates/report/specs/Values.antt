-- Document 01's numbers and values for each answer of the report.
use Rattle.std.specs.Prelude.{ℕ, ◌*◌, Option, None, Some, Result, Ok, Err}
use Rattle.refusal.specs.declared.Refusal.{Refusal}
use Rattle.refusal.specs.Refusals.{refused_for, accepted}
use Rattle.refusal.specs.Table.{Given}
use Rattle.plan.specs.declared.Plan.{Plan}
use Rattle.plan.specs.Sizes.{needed_pixels, task_count}
use Rattle.report.specs.declared.Ready.{Ready}
use Rattle.report.specs.declared.Progress.{Progress}

-- The count of marked tasks, the tally, 1 where a ready task is named, and its task and block.
pub record Values : Type 0 where
  pub count : ℕ
  pub tally : ℕ
  pub ready : ℕ
  pub task : ℕ
  pub block : ℕ

-- All values 0.
abbrev pub zero_values : Values
zero_values = record { count = 0; tally = 0; ready = 0; task = 0; block = 0 }

-- The values where a count, a tally and a ready task or none are found: where none is ready, the named task is all zeros.
abbrev pub made_values : ℕ → ℕ → Option Ready → Values
made_values count tally (Some next) = record { count = count; tally = tally; ready = 1; task = next.task; block = next.block }
made_values count tally None = record { count = count; tally = tally; ready = 0; task = 0; block = 0 }

-- The values with all tasks done: 6MN - 2M - 2N of them, a tally of two for each pixel, and none named.
abbrev pub all_done_values : Plan → Values
all_done_values plan = made_values (task_count plan) (2 * needed_pixels plan) None

-- The values of what was found.
abbrev pub values_of : Progress → Values
values_of progress = made_values progress.marked progress.tally progress.next

-- Document 01's number and place, and the values, of what `report` answers.
abbrev pub report_given : Result Progress Refusal → Given Values
report_given (Ok progress) = record { answer = accepted; value = values_of progress }
report_given (Err refusal) = record { answer = refused_for refusal; value = zero_values }
