-- A turn: the next job after the one named last that has unmarked tasks, going round, with its first ready task. Document 02,
-- CR 9.
use Rattle.std.specs.Prelude.{Bool, not, ◌||◌, cond, List, ℕ, suc, ◌+◌, ◌%◌, ltb, length, drop, Option, None, Some}
use Rattle.number.specs.Numbers.{all_below}
use Rattle.grid.specs.Grid.{block_total}
use Rattle.tasks.specs.Tasks.{exists, ready}
use Rattle.tasks.specs.Marks.{is_marked}
use Rattle.report.specs.declared.Ready.{Ready}
use Rattle.report.specs.Report.{first_ready}
use Rattle.turns.specs.declared.Job.{Job}
use Rattle.turns.specs.declared.Turn.{Turn}
use Rattle.turns.specs.Jobs.{least_from, job_at, grid_of}

-- A job's marks, which the report would be lent: the common list from the job's start on.
abbrev pub marks_from : Job → List ℕ → List ℕ
marks_from job marks = drop job.marks_start marks

-- Task t of block k of a job is marked in the common list.
abbrev pub marked_in : Job → List ℕ → ℕ → ℕ → Bool
marked_in job marks = is_marked (marks_from job marks)

-- Task t of block k of a job is ready by the common list.
abbrev pub ready_in : Job → List ℕ → ℕ → ℕ → Bool
ready_in job marks = ready (grid_of job) (marked_in job marks)

-- Task t of block k of a job is marked, or there is no such task.
abbrev pub marked_if_exists : Job → List ℕ → (k t : ℕ) → Bool
marked_if_exists job marks k t = not (exists (grid_of job) t k) || marked_in job marks t k

-- A job has no unmarked task: it is done.
unfoldable pub job_done : Job → List ℕ → Bool
job_done job marks = all_below (λ k. all_below (marked_if_exists job marks k) 6) (block_total (grid_of job))

-- Where a turn begins to look: at the job after the last one, at job 0 where that is at or past the end of the list.
unfoldable pub look_from : List Job → (last : ℕ) → ℕ
look_from jobs last = cond (ltb last (length jobs)) (suc last) 0

-- The job d places after `look_from`, going round.
unfoldable pub going_round : List Job → (last d : ℕ) → ℕ
going_round jobs last d = (look_from jobs last + d) % length jobs

-- The job d places after `look_from` has unmarked tasks.
abbrev pub waits : List Job → (last : ℕ) → List ℕ → (d : ℕ) → Bool
waits jobs last marks d = not (job_done (job_at jobs (going_round jobs last d)) marks)

-- How many jobs are passed over before one with unmarked tasks; the number of jobs where all are done.
unfoldable pub passed_over : List Job → (last : ℕ) → List ℕ → ℕ
passed_over jobs last marks = least_from (waits jobs last marks) 0 (length jobs)

-- Task t of block k, as the report names a ready one;
abbrev pub ready_to : (t k : ℕ) → Ready
ready_to t k = record { task = t; block = k }

-- and the turn of job i with it.
abbrev pub turn_to : (i t k : ℕ) → Turn
turn_to i t k = record { job = i; task = t; block = k }

-- Job i with the ready task that is found for it; none where none is, which no job with unmarked tasks comes to.
abbrev pub turn_with : ℕ → Option Ready → Option Turn
turn_with i (Some next) = Some (turn_to i next.task next.block)
turn_with i None = None

-- A job as job i of the list, with its first ready task as the report finds it.
abbrev pub turn_of : (i : ℕ) → Job → List ℕ → Option Turn
turn_of i job marks = turn_with i (first_ready (grid_of job) (marked_in job marks))

-- The turn after the job `last` was named; none where all jobs are done.
unfoldable pub turn : List Job → (last : ℕ) → List ℕ → Option Turn
turn jobs last marks =
    let i = going_round jobs last (passed_over jobs last marks) in
    cond (ltb (passed_over jobs last marks) (length jobs)) (turn_of i (job_at jobs i) marks) None
