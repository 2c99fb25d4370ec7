-- The report: how many tasks are marked, the tally, and the ready task with the least number, then the least block; or
-- none. Document 01, 'Blocks, marks and strips' and 'Refused calls'; document 02, CR 4.
use Rattle.std.specs.Prelude.{Bool, cond, List, [], ◌∷◌, ◌++◌, ℕ, zero, suc, length, Option, None, Some}
use Rattle.refusal.specs.Table.{Row, first_due, Given, given}
use Rattle.plan.specs.declared.BufferOf7.TheVariants.{Marks}
use Rattle.plan.specs.declared.Lengths.{Lengths}
use Rattle.plan.specs.declared.Plan.{Plan}
use Rattle.plan.specs.FirstTests.{lent_rows, only_of7}
use Rattle.grid.specs.declared.Grid.{Grid}
use Rattle.grid.specs.Grid.{block_total}
use Rattle.tasks.specs.Tasks.{ready}
use Rattle.tasks.specs.Counts.{done_count}
use Rattle.tasks.specs.Marks.{is_marked}
use Rattle.tasks.specs.Verdict.{all_blocks, least_broken_of, broken_row}
use Rattle.report.specs.declared.Ready.{Ready}
use Rattle.report.specs.declared.Progress.{Progress}
use Rattle.report.specs.Tally.{tally}
use Rattle.report.specs.Values.{Values, values_of, zero_values}

-- The first of two searches that finds one.
abbrev pub or_else : Option Ready → Option Ready → Option Ready
or_else (Some found) later = Some found
or_else None later = later

-- Task t at the n blocks from k on, in rising order: the first at which the test holds.
unfoldable pub first_block : (ℕ → ℕ → Bool) → ℕ → ℕ → ℕ → Option Ready
first_block test t k zero = None
first_block test t k (suc n) = cond (test t k) (Some (record { task = t; block = k })) (first_block test t (suc k) n)

-- The n tasks from t on, in rising order, each at `blocks` blocks: the first at which the test holds.
unfoldable pub first_task : (ℕ → ℕ → Bool) → ℕ → ℕ → ℕ → Option Ready
first_task test blocks t zero = None
first_task test blocks t (suc n) = or_else (first_block test t 0 blocks) (first_task test blocks (suc t) n)

-- The ready task with the least number, then the least block; or none.
unfoldable pub first_ready : Grid → (ℕ → ℕ → Bool) → Option Ready
first_ready grid done = first_task (ready grid done) (block_total grid) 0 6

-- The least of all blocks whose mark has a wrong kind or a spare bit; M×N where there is none.
unfoldable pub first_broken : Grid → List ℕ → ℕ
first_broken grid marks = least_broken_of grid marks (all_blocks grid)

-- What the report says where `done` tells what is done.
unfoldable pub progress_of : Grid → (ℕ → ℕ → Bool) → Progress
progress_of grid done = record { marked = done_count grid done; tally = tally grid done; next = first_ready grid done }

-- What the marks refuse, once there are enough: 9 at the least broken mark of all.
abbrev pub marks_rows : Grid → List ℕ → List Row
marks_rows grid marks = broken_row grid (first_broken grid marks) ∷ []

-- The report is lent marks.
abbrev pub lent_to_report : List ℕ → Lengths
lent_to_report marks = only_of7 (Some (Marks (length marks)))

-- The report on the marks of a plan: refused by 6, 7 or 9, with zeros beside it.
unfoldable pub report : Plan → List ℕ → Given Values
report plan marks =
    given (first_due (lent_rows plan (lent_to_report marks) ++ marks_rows plan.grid marks))
    (values_of (progress_of plan.grid (is_marked marks))) zero_values

-- What is left of it where the record keeps the rules and marks are enough.
unfoldable pub report_on : Grid → List ℕ → Given Values
report_on grid marks = given (first_due (marks_rows grid marks)) (values_of (progress_of grid (is_marked marks))) zero_values
