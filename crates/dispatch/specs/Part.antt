-- Inner: the parts that jobs have in the common marks list, and what a test of a call answers.
use Rattle.std.specs.Prelude.{◌≡◌, Bool, true, cond, List, ℕ, ◌≤◌, ltb, length, Option, None, Some, Result, Ok, Err}
use Rattle.std.specs.List.{All}
use Rattle.refusal.specs.declared.Refusal.{Refusal}
use Rattle.turns.specs.declared.Job.{Job}
use Rattle.turns.specs.Jobs.{job_limit, least_from, sizes_kept, marks_end, broken_for}

-- A job has sizes in range, and its marks lie inside a list of `size` places.
pub record JobLent (job : Job) (size : ℕ) : Type 0 where
  pub kept : sizes_kept job ≡ true
  pub inside : marks_end job ≤ size

-- There are at most eight jobs, each with sizes in range and with its marks inside a list of `size` places.
pub record JobsLent (jobs : List Job) (size : ℕ) : Type 0 where
  pub few : length jobs ≤ job_limit
  pub each : All (λ job. JobLent job size) jobs

-- What a search for a number below a bound found; none where it ended at the bound.
abbrev pub found_below : (bound number : ℕ) → Option ℕ
found_below bound number = cond (ltb number bound) (Some number) None

-- The least place of a broken mark of one job; none where there is none.
abbrev pub first_broken_of : List ℕ → Job → Option ℕ
first_broken_of marks job = found_below (length marks) (least_from (broken_for marks job) 0 (length marks))

-- What a test answers: it refuses for its cause where that is due.
abbrev pub refused_if : Bool → Refusal → Result Unit Refusal
refused_if due cause = cond due (Err cause) (Ok tt)
