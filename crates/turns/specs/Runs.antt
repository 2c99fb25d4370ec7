-- A run of turns on one list of jobs, and what is claimed of it: no job waits for more turns than there are jobs. Document 02,
-- CR 9.
use Rattle.std.specs.Prelude.{◌≡◌, ◌↔◌, true, false, cond, List, ℕ, zero, suc, ◌+◌, ◌<◌, ◌≤◌, eqb, length}
use Rattle.refusal.specs.Refusals.{accepted}
use Rattle.refusal.specs.Table.{first_due, Given}
use Rattle.buffer.specs.Lists.{word_at}
use Rattle.tasks.specs.Marks.{with_bit}
use Rattle.tasks.specs.Verdict.{verdict_rows}
use Rattle.turns.specs.declared.Job.{Job}
use Rattle.turns.specs.Jobs.{job_at, grid_of}
use Rattle.turns.specs.Turn.{marks_from, ready_in, job_done}
use Rattle.turns.specs.Dispatch.{TurnValues, dispatch}
use Rattle.turns.specs.Answers.{LetThrough, naming}

-- The common marks after task t of block k of job i is performed: its bit is set.
unfoldable pub with_task : List Job → List ℕ → (i t k : ℕ) → List ℕ
with_task jobs marks i t k = with_bit marks t ((job_at jobs i).marks_start + k)

-- Performing task t of block k of job i is what an accepted call of the task does to the job's part of the marks.
pub record AsCalled (jobs : List Job) (marks : List ℕ) (i t k : ℕ) : Type 0 where
  -- The marks let the call through exactly if the task is ready.
  pub when_ready : (first_due (verdict_rows (grid_of (job_at jobs i)) (marks_from (job_at jobs i) marks) t k) ≡ accepted)
      ↔ (ready_in (job_at jobs i) marks t k ≡ true)
  -- It sets the task's bit in the job's part,
  pub own_marks : marks_from (job_at jobs i) (with_task jobs marks i t k) ≡ with_bit (marks_from (job_at jobs i) marks) t k
  -- and the marks before that stay.
  pub marks_before : (place : ℕ) → place < (job_at jobs i).marks_start
      → word_at (with_task jobs marks i t k) place ≡ word_at marks place

-- So it is on all marks that the refusals let through.
abbrev pub PerformsAsCalled : Type 0
PerformsAsCalled =
    (jobs : List Job) (marks : List ℕ) → LetThrough jobs marks → (i t k : ℕ) → i < length jobs → AsCalled jobs marks i t k

-- The job that the next turn gets: the one that this answer names, and where it names none the one that this turn got.
abbrev pub last_after : (last : ℕ) → TurnValues → ℕ
last_after last values = cond (eqb values.named 1) values.job last

-- ---- a run: `marks_at n` are the marks that turn n finds

-- The job that turn n gets: the first turn any, each later one the job named before.
unfoldable pub last_before : List Job → (first : ℕ) → (ℕ → List ℕ) → ℕ → ℕ
last_before jobs first marks_at zero = first
last_before jobs first marks_at (suc n) =
    last_after (last_before jobs first marks_at n) (dispatch jobs (last_before jobs first marks_at n) (marks_at n)).value

-- The answer of turn n.
abbrev pub answer_at : List Job → (first : ℕ) → (ℕ → List ℕ) → ℕ → Given TurnValues
answer_at jobs first marks_at n = dispatch jobs (last_before jobs first marks_at n) (marks_at n)

-- Turn n names task t of block k of job i.
abbrev pub NamesAt : List Job → (first : ℕ) → (ℕ → List ℕ) → (n i t k : ℕ) → Type 0
NamesAt jobs first marks_at n i t k = answer_at jobs first marks_at n ≡ naming i t k

-- Turn n or one before it names task t of block k of job i.
abbrev pub NamedBy : List Job → (first : ℕ) → (ℕ → List ℕ) → (n i t k : ℕ) → Type 0
NamedBy jobs first marks_at n i t k = (m : ℕ) × (m ≤ n) × NamesAt jobs first marks_at m i t k

-- Marks become others by performing tasks, in any order and number, each one that may be performed and is ready then.
pub data Performed (jobs : List Job) (May : ℕ → ℕ → ℕ → Type 0) : List ℕ → List ℕ → Type 0 where
  nothing : {marks : List ℕ} → Performed jobs May marks marks
  task : {marks later : List ℕ} (i t k : ℕ) → May i t k → ready_in (job_at jobs i) marks t k ≡ true
      → Performed jobs May (with_task jobs marks i t k) later → Performed jobs May marks later

-- In a run of so many turns: between turn n and the next only tasks that the turns up to n named are performed, at once, later
-- or not at all.
abbrev pub OnlyNamed : List Job → (first : ℕ) → (ℕ → List ℕ) → (turns : ℕ) → Type 0
OnlyNamed jobs first marks_at turns =
    (n : ℕ) → suc n < turns → Performed jobs (NamedBy jobs first marks_at n) (marks_at n) (marks_at (suc n))

-- All turns of such a run are accepted if the first is.
abbrev pub StaysLetThrough : Type 0
StaysLetThrough =
    (jobs : List Job) (first : ℕ) (marks_at : ℕ → List ℕ) (turns : ℕ) → OnlyNamed jobs first marks_at turns
    → LetThrough jobs (marks_at 0) → (n : ℕ) → n < turns → LetThrough jobs (marks_at n)

-- Fairness: a job with unmarked tasks at the start is named within as many turns as there are jobs.
abbrev pub Fair : Type 0
Fair =
    (jobs : List Job) (first : ℕ) (marks_at : ℕ → List ℕ) → OnlyNamed jobs first marks_at (length jobs)
    → LetThrough jobs (marks_at 0) → (i : ℕ) → i < length jobs → job_done (job_at jobs i) (marks_at 0) ≡ false
    → (n : ℕ) × (n < length jobs) × (t : ℕ) × (k : ℕ) × NamesAt jobs first marks_at n i t k

-- Whatever changes the marks between turns, so also tasks performed out of turn and recalls: where as many turns as there are
-- jobs, from turn m on, are accepted, a job that has unmarked tasks at each of them is named by one of them.
abbrev pub NeverPassedOver : Type 0
NeverPassedOver =
    (jobs : List Job) (first : ℕ) (marks_at : ℕ → List ℕ) (m : ℕ)
    → ((n : ℕ) → n < length jobs → LetThrough jobs (marks_at (m + n)))
    → (i : ℕ) → i < length jobs → ((n : ℕ) → n < length jobs → job_done (job_at jobs i) (marks_at (m + n)) ≡ false)
    → (n : ℕ) × (n < length jobs) × (t : ℕ) × (k : ℕ) × NamesAt jobs first marks_at (m + n) i t k

-- ---- the run in which each turn's task is performed at once

-- The marks after a turn whose task is performed at once.
unfoldable pub after_turn : List Job → List ℕ → TurnValues → List ℕ
after_turn jobs marks values = cond (eqb values.named 1) (with_task jobs marks values.job values.task values.block) marks

-- The job that turn n gets and the marks that it finds.
unfoldable pub run_at_once : List Job → (last : ℕ) → List ℕ → ℕ → ℕ × List ℕ
run_at_once jobs last marks zero = (last, marks)
run_at_once jobs last marks (suc n) =
    run_at_once jobs (last_after last (dispatch jobs last marks).value) (after_turn jobs marks (dispatch jobs last marks).value) n

-- It is a run of any number of turns in which only named tasks are performed, and each turn gets the job named before.
abbrev pub AtOnceIsARun : Type 0
AtOnceIsARun =
    (jobs : List Job) (last : ℕ) (marks : List ℕ) (turns : ℕ)
    → OnlyNamed jobs last (λ n. (run_at_once jobs last marks n).1) turns
    × ((n : ℕ) → last_before jobs last (λ m. (run_at_once jobs last marks m).1) n ≡ (run_at_once jobs last marks n).0)

-- Fairness of that run, which has no premise but that the start is accepted.
abbrev pub FairAtOnce : Type 0
FairAtOnce =
    (jobs : List Job) (last : ℕ) (marks : List ℕ) → LetThrough jobs marks → (i : ℕ) → i < length jobs
    → job_done (job_at jobs i) marks ≡ false
    → (n : ℕ) × (n < length jobs) × (t : ℕ) × (k : ℕ)
    × (dispatch jobs (run_at_once jobs last marks n).0 (run_at_once jobs last marks n).1 ≡ naming i t k)
