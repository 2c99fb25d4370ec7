-- What is claimed of one call of the dispatcher.
use Rattle.std.specs.Prelude.{◌≡◌, ◌⊎◌, ◌↔◌, ◌≢◌, true, false, List, ℕ, ◌+◌, ◌<◌, ◌≤◌, length, None, Some, Ok}
use Rattle.refusal.specs.Refusals.{accepted, refused}
use Rattle.refusal.specs.Table.{Given}
use Rattle.grid.specs.Grid.{block_total}
use Rattle.plan.specs.declared.Plan.{Plan}
use Rattle.plan.specs.Rules.{keeps_rules}
use Rattle.tasks.specs.Tasks.{exists}
use Rattle.tasks.specs.Marks.{mark_valid_at}
use Rattle.report.specs.Report.{report}
use Rattle.turns.specs.declared.Job.{Job}
use Rattle.turns.specs.Jobs.{job_limit, job_at, grid_of, sizes_kept, marks_end, overlap, holds_place}
use Rattle.turns.specs.Turn.{marks_from, marked_in, ready_in, job_done, going_round, turn_to}
use Rattle.turns.specs.Dispatch.{TurnValues, dispatch_given, dispatch}

-- ---- refusals

-- There are at most eight jobs, and the sizes of each are in range.
pub record Kept (jobs : List Job) : Type 0 where
  pub few : length jobs ≤ job_limit
  pub sizes : (i : ℕ) → i < length jobs → sizes_kept (job_at jobs i) ≡ true

-- The marks of job i run past a list of `size` places, or have a place in common with those of another job.
pub data Misplaced (jobs : List Job) (size i : ℕ) : Type 0 where
  past_the_list : size < marks_end (job_at jobs i) → Misplaced jobs size i
  shared : (j place : ℕ) → j < length jobs → j ≢ i → holds_place (job_at jobs i) place ≡ true
      → holds_place (job_at jobs j) place ≡ true → Misplaced jobs size i

-- The marks of two jobs with sizes in range overlap exactly if they have a place in common.
abbrev pub OverlapIsShared : Type 0
OverlapIsShared =
    (a b : Job) → sizes_kept a ≡ true → sizes_kept b ≡ true
    → (overlap a b ≡ true) ↔ ((place : ℕ) × (holds_place a place ≡ true) × (holds_place b place ≡ true))

-- Every mark of every job has the right kind and no spare bit, as the report would see it.
abbrev pub Sound : List Job → List ℕ → Type 0
Sound jobs marks =
    (i : ℕ) → i < length jobs → (k : ℕ) → k < block_total (grid_of (job_at jobs i))
    → mark_valid_at (grid_of (job_at jobs i)) (marks_from (job_at jobs i) marks) k ≡ true

-- Mark k of job i has a wrong kind or a spare bit.
pub record BrokenMark (jobs : List Job) (marks : List ℕ) (i k : ℕ) : Type 0 where
  pub listed : i < length jobs
  pub inside : k < block_total (grid_of (job_at jobs i))
  pub invalid : mark_valid_at (grid_of (job_at jobs i)) (marks_from (job_at jobs i) marks) k ≡ false

-- What the refusals let through.
pub record LetThrough (jobs : List Job) (marks : List ℕ) : Type 0 where
  pub kept : Kept jobs
  pub placed : (i : ℕ) → i < length jobs → Misplaced jobs (length marks) i → ⊥
  pub sound : Sound jobs marks

-- A call is accepted exactly on that.
abbrev pub LetThroughIsAccepted : Type 0
LetThroughIsAccepted =
    (jobs : List Job) (last : ℕ) (marks : List ℕ) → LetThrough jobs marks ↔ ((dispatch jobs last marks).answer ≡ accepted)

-- What each refusal says of the jobs and the marks.
pub record Refuses (jobs : List Job) (last : ℕ) (marks : List ℕ) : Type 0 where
  -- 6: too many jobs, or a size out of range;
  pub by_6 : (place : ℕ) → (dispatch jobs last marks).answer ≡ refused 6 place → (place ≡ 0) × (Kept jobs → ⊥)
  -- 18: none of that, and the least misplaced job;
  pub by_18 : (i : ℕ) → (dispatch jobs last marks).answer ≡ refused 18 i
      → Kept jobs × (i < length jobs) × Misplaced jobs (length marks) i
      × ((j : ℕ) → j < i → Misplaced jobs (length marks) j → ⊥)
  -- 9: none of these, and the least place of the common list that has a broken mark of a job.
  pub by_9 : (place : ℕ) → (dispatch jobs last marks).answer ≡ refused 9 place
      → Kept jobs × ((i : ℕ) → i < length jobs → Misplaced jobs (length marks) i → ⊥)
      × ((i : ℕ) × (k : ℕ) × BrokenMark jobs marks i k × (place ≡ (job_at jobs i).marks_start + k))
      × ((i k : ℕ) → BrokenMark jobs marks i k → place ≤ (job_at jobs i).marks_start + k)
  -- There is no other refusal.
  pub only : (number place : ℕ) → (dispatch jobs last marks).answer ≡ refused number place
      → (number ≡ 6) ⊎ ((number ≡ 18) ⊎ (number ≡ 9))

-- So it is for every list of jobs, last job and marks.
abbrev pub RefusesAtTheLeast : Type 0
RefusesAtTheLeast = (jobs : List Job) (last : ℕ) (marks : List ℕ) → Refuses jobs last marks

-- ---- turns

-- A job is done exactly if each of its tasks is marked.
abbrev pub DoneIfAllMarked : Type 0
DoneIfAllMarked =
    (job : Job) (marks : List ℕ)
    → (job_done job marks ≡ true) ↔ ((t k : ℕ) → exists (grid_of job) t k ≡ true → marked_in job marks t k ≡ true)

-- The answer that names task t of block k of job i,
abbrev pub naming : (i t k : ℕ) → Given TurnValues
naming i t k = dispatch_given (Ok (Some (turn_to i t k)))

-- and the one that names none.
abbrev pub naming_none : Given TurnValues
naming_none = dispatch_given (Ok None)

-- An accepted call names none exactly if every job is done; in an empty list that is always so.
abbrev pub NoneIfAllDone : Type 0
NoneIfAllDone =
    (jobs : List Job) (last : ℕ) (marks : List ℕ) → LetThrough jobs marks
    → (dispatch jobs last marks ≡ naming_none) ↔ ((i : ℕ) → i < length jobs → job_done (job_at jobs i) marks ≡ true)

-- Job j comes before job i where the search begins after job `last` and goes round: it lies between the two; or, where job i
-- lies not after the last one, it lies behind the last one, or before job i.
pub data ComesBefore (last j i : ℕ) : Type 0 where
  between : last < j → j < i → ComesBefore last j i
  behind : last < j → i ≤ last → ComesBefore last j i
  from_start : j < i → i ≤ last → ComesBefore last j i

-- What holds of a call that names task t of block k of job i.
pub record WellNamed (jobs : List Job) (last : ℕ) (marks : List ℕ) (i t k : ℕ) : Type 0 where
  -- The job is in the list and has unmarked tasks,
  pub inside : i < length jobs
  pub unmarked : job_done (job_at jobs i) marks ≡ false
  -- every job that comes before it is done,
  pub before_it : (j : ℕ) → j < length jobs → ComesBefore last j i → job_done (job_at jobs j) marks ≡ true
  -- its task is ready,
  pub ready : ready_in (job_at jobs i) marks t k ≡ true
  -- and it is the one that the report on the job's marks names, for any plan of these sizes.
  pub reported : (plan : Plan) → keeps_rules plan ≡ true → plan.grid ≡ grid_of (job_at jobs i)
      → ((report plan (marks_from (job_at jobs i) marks)).answer ≡ accepted)
      × ((report plan (marks_from (job_at jobs i) marks)).value.ready ≡ 1)
      × ((report plan (marks_from (job_at jobs i) marks)).value.task ≡ t)
      × ((report plan (marks_from (job_at jobs i) marks)).value.block ≡ k)

-- Every call that names a task names it so.
abbrev pub NamesWell : Type 0
NamesWell =
    (jobs : List Job) (last : ℕ) (marks : List ℕ) (i t k : ℕ) → dispatch jobs last marks ≡ naming i t k
    → WellNamed jobs last marks i t k

-- A last job at or past the end of the list means that the search begins with the first.
abbrev pub BeginsWithFirst : Type 0
BeginsWithFirst = (jobs : List Job) (last : ℕ) → length jobs ≤ last → (d : ℕ) → d < length jobs → going_round jobs last d ≡ d
