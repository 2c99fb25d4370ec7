-- Performing a ready task of one job leaves the marks of the others, and leaves all of them sound. Assumes nothing.
use mathlib.Core.Path.{◌≡◌, refl, sym, ◌∙◌}
use mathlib.Core.Logic.{◌≢◌, ⊎_elim}
use mathlib.Core.Bool.{true}
use mathlib.Core.List.{List}
use Prim.Native.Nat.{ℕ, ◌+◌, ◌<◌, ◌≤◌}
use native.Mathlib.Omega.{arith}
use native.Mathlib.Decide.{ℕ_discrete}
use lib.ListN.{length, drop, length-drop}
use lib.Seq.{get_or-drop, drop-set-add}
use Rattle.buffer.specs.Lists.{word_at}
use Rattle.grid.specs.declared.Grid.{Grid}
use Rattle.grid.specs.Grid.{block_total}
use Rattle.tasks.specs.Tasks.{ready, also_done}
use Rattle.tasks.specs.Marks.{is_marked, with_bit}
use Rattle.tasks.proofs.Existence.{exists_block, exists_task}
use Rattle.tasks.proofs.Needs.{ready_exists, ready_undone}
use Rattle.tasks.proofs.Marking.{Valid, valid_only, valid_shows, shows_valid}
use Rattle.tasks.proofs.Progress.{also_cases, bit_length, bit_other, shows_bit}
use Rattle.tasks.proofs.Verdicts.{verdict_shown, accepted_ready, ready_accepted}
use Rattle.turns.specs.declared.Job.{Job}
use Rattle.turns.specs.Jobs.{job_at, grid_of}
use Rattle.turns.specs.Turn.{marks_from, marked_in, ready_in, job_done}
use Rattle.turns.specs.Answers.{Sound, LetThrough}
use Rattle.turns.specs.Runs.{with_task, Performed, nothing, task, PerformsAsCalled}
use Rattle.turns.proofs.Parts.{marks_inside, places_apart}
use Rattle.turns.proofs.Turns.{done_same}

-- Setting a bit in the common list is setting it in a job's part of the list.
part_bit : (start : ℕ) (marks : List ℕ) (t k : ℕ) → drop start (with_bit marks t (start + k)) ≡ with_bit (drop start marks) t k
unfolding with_bit
part_bit start marks t k = rw (get_or-drop start marks k 0) (drop-set-add start marks k _)

-- The bit of a ready task keeps marks valid.
bit_valid : (grid : Grid) (marks : List ℕ) (t k : ℕ) → block_total grid ≤ length marks → Valid grid marks
    → ready grid (is_marked marks) t k ≡ true → Valid grid (with_bit marks t k)
bit_valid grid marks t k enough valid r =
    let done = is_marked marks in
    let there = ready_exists grid done t k r in
    shows_valid grid (also_done done t k) (with_bit marks t k)
    (shows_bit marks t k grid done (exists_task grid t k there) (exists_block grid t k there) enough
    (ready_undone grid done t k r) (valid_shows grid marks valid))
    (λ u j l h e.
    ⊎_elim (λ (p : done u j ≡ true). valid_only grid marks valid u j l h p)
    (λ (p : (u ≡ t) × (j ≡ k)). rw (p.0, p.1) there)
    (also_cases done t k u j e))

module _ (jobs : List Job) (marks : List ℕ) (i t k : ℕ) (inside : i < length jobs)
    (r : ready_in (job_at jobs i) marks t k ≡ true) (a : LetThrough jobs marks) where
  -- The marks of every other job stay.
  others_stay : (j : ℕ) → j < length jobs → j ≢ i → (n : ℕ) → n < block_total (grid_of (job_at jobs j))
      → word_at (marks_from (job_at jobs j) (with_task jobs marks i t k)) n ≡ word_at (marks_from (job_at jobs j) marks) n
  unfolding with_task
  others_stay j h ne n l =
      let s = (job_at jobs j).marks_start in
      let grid = grid_of (job_at jobs i) in
      let block = exists_block grid t k (ready_exists grid (marked_in (job_at jobs i) marks) t k r) in
      get_or-drop s _ n 0
      ∙ bit_other marks t ((job_at jobs i).marks_start + k) (s + n)
      (λ e. places_apart jobs (length marks) a.placed i j inside h ne k n block l (sym e))
      ∙ sym (get_or-drop s marks n 0)

  task_sound : Sound jobs (with_task jobs marks i t k)
  unfolding with_task
  task_sound j h = by (ℕ_discrete j i)
    where
      by : Dec (j ≡ i) → Valid (grid_of (job_at jobs j)) (marks_from (job_at jobs j) (with_task jobs marks i t k))
      by (yes e) =
          let job = job_at jobs i in
          let end = marks_inside jobs (length marks) a.placed i inside in
          rw (e, part_bit job.marks_start marks t k)
          (bit_valid (grid_of job) (marks_from job marks) t k (rw length-drop (omega arith)) (a.sound i inside) r)
      by (no e) = λ n l. rw (others_stay j h e n l) (a.sound j h n l)

  -- Performing a ready task keeps what the refusals let through.
  pub task_let_through : LetThrough jobs (with_task jobs marks i t k)
  unfolding with_task
  task_let_through =
      record {
        kept = a.kept;
        placed = rw (bit_length marks t ((job_at jobs i).marks_start + k)) a.placed;
        sound = task_sound;
      }

  -- The other jobs have the unmarked tasks that they had.
  pub others_same : (j : ℕ) → j < length jobs → j ≢ i
      → job_done (job_at jobs j) marks ≡ job_done (job_at jobs j) (with_task jobs marks i t k)
  others_same j h ne = done_same (job_at jobs j) marks (with_task jobs marks i t k) (others_stay j h ne)

module _ (jobs : List Job) (May : ℕ → ℕ → ℕ → Type 0) (in_list : (i t k : ℕ) → May i t k → i < length jobs) where
  pub performed_let_through : {marks later : List ℕ} → Performed jobs May marks later → LetThrough jobs marks → LetThrough jobs later
  performed_let_through nothing a = a
  performed_let_through (task i t k may r rest) a = performed_let_through rest (task_let_through jobs _ i t k (in_list i t k may) r a)

  -- A job none of whose tasks may be performed has the unmarked tasks that it had.
  pub performed_same : (j : ℕ) → j < length jobs → ((t k : ℕ) → May j t k → ⊥) → {marks later : List ℕ}
      → Performed jobs May marks later → LetThrough jobs marks → job_done (job_at jobs j) marks ≡ job_done (job_at jobs j) later
  performed_same j h not nothing a = refl
  performed_same j h not (task i t k may r rest) a =
      others_same jobs _ i t k (in_list i t k may) r a j h (λ (e : j ≡ i). not t k (rw e may))
      ∙ performed_same j h not rest (task_let_through jobs _ i t k (in_list i t k may) r a)

-- ---- as the task call does it

pub performs_as_called : PerformsAsCalled
unfolding with_task
performs_as_called jobs marks a i t k inside =
    let job = job_at jobs i in
    let grid = grid_of job in
    let part = marks_from job marks in
    let shown =
    verdict_shown grid (is_marked part) part (valid_shows grid part (a.sound i inside)) (valid_only grid part (a.sound i inside)) t k in
    record {
      when_ready =
          (λ e. accepted_ready grid (is_marked part) t k (sym shown ∙ e), λ r. shown ∙ ready_accepted grid (is_marked part) t k r);
      own_marks = part_bit job.marks_start marks t k;
      marks_before = λ place l. bit_other marks t (job.marks_start + k) place (λ (e : place ≡ job.marks_start + k). omega arith);
    }
