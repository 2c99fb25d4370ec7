-- Several jobs on one control: the records in the lent list, their parts of the common marks list, and what refusals 6, 18 and
-- 9 look at. Document 02, CR 9.
use Rattle.std.specs.Prelude.{Bool, not, ◌&&◌, ◌||◌, cond, List, ℕ, zero, suc, ◌+◌, ◌-◌, ltb, leb, eqb, length, get_or}
use Rattle.number.specs.Numbers.{all_below}
use Rattle.buffer.specs.Lists.{word_at}
use Rattle.grid.specs.declared.Grid.{Grid}
use Rattle.grid.specs.Grid.{grid_kept, block_total}
use Rattle.tasks.specs.Marks.{mark_valid}
use Rattle.turns.specs.declared.Job.{Job}

-- The most jobs on one control.
abbrev pub job_limit : ℕ
job_limit = 8

-- The least of the n numbers from i on of which a test holds; i + n where it holds of none.
unfoldable pub least_from : (ℕ → Bool) → (i n : ℕ) → ℕ
least_from test i zero = i
least_from test i (suc n) = cond (test i) i (least_from test (suc i) n)

-- ---- the records

-- Job i of the list.
abbrev pub job_at : List Job → ℕ → Job
job_at jobs i = get_or jobs i (record { rows = 0; columns = 0; side = 0; marks_start = 0 })

-- The blocks of a job's map.
abbrev pub grid_of : Job → Grid
grid_of job = record { rows = job.rows; columns = job.columns; side = job.side }

-- A job's sizes are in document 01's ranges.
abbrev pub sizes_kept : Job → Bool
sizes_kept job = grid_kept (grid_of job)

-- There are at most eight jobs, and the sizes of each are in range.
unfoldable pub jobs_kept : List Job → Bool
jobs_kept jobs = leb (length jobs) job_limit && all_below (λ i. sizes_kept (job_at jobs i)) (length jobs)

-- ---- where their marks lie

-- The place in the common list just after a job's M×N marks.
abbrev pub marks_end : Job → ℕ
marks_end job = job.marks_start + block_total (grid_of job)

-- The marks of two jobs overlap: those of each start before those of the other end.
unfoldable pub overlap : Job → Job → Bool
overlap a b = ltb a.marks_start (marks_end b) && ltb b.marks_start (marks_end a)

-- Job j is job i itself, or its marks do not overlap those of job i.
abbrev pub apart_unless_same : List Job → (i j : ℕ) → Bool
apart_unless_same jobs i j = eqb j i || not (overlap (job_at jobs i) (job_at jobs j))

-- The marks of job i lie inside a common list of `size` places and overlap no other job's.
unfoldable pub well_placed : List Job → (size i : ℕ) → Bool
well_placed jobs size i = leb (marks_end (job_at jobs i)) size && all_below (apart_unless_same jobs i) (length jobs)

-- The least job whose marks run past the list or overlap another's; the number of jobs where there is none.
unfoldable pub first_misplaced : List Job → (size : ℕ) → ℕ
first_misplaced jobs size = least_from (λ i. not (well_placed jobs size i)) 0 (length jobs)

-- ---- the marks themselves

-- A place of the common list is one of a job's marks.
unfoldable pub holds_place : Job → (place : ℕ) → Bool
holds_place job place = leb job.marks_start place && ltb place (marks_end job)

-- A place of the common list is one of a job's marks, and the mark there has a wrong kind or a spare bit for the job's block.
unfoldable pub broken_for : List ℕ → Job → (place : ℕ) → Bool
broken_for marks job place =
    holds_place job place && not (mark_valid (grid_of job) (place - job.marks_start) (word_at marks place))

-- So it is for one of the jobs; a place that is no job's is not looked at.
unfoldable pub broken_place : List Job → List ℕ → (place : ℕ) → Bool
broken_place jobs marks place = not (all_below (λ i. not (broken_for marks (job_at jobs i) place)) (length jobs))

-- The least such place of the common list; the list's length where there is none.
unfoldable pub first_broken_place : List Job → List ℕ → ℕ
first_broken_place jobs marks = least_from (broken_place jobs marks) 0 (length marks)
