-- What a turn names, and when it names none: going round, every job is come to, and one with unmarked tasks has a ready one.
-- Assumes nothing.
use mathlib.Core.Path.{◌≡◌, refl, sym, ap, ◌∙◌}
use mathlib.Core.Logic.{⊎_elim}
use mathlib.Core.Bool.{Bool, true, false, not, ◌||◌}
use mathlib.Core.List.{List}
use Rattle.std.specs.Prelude.{Option, None, Some}
use Prim.Native.Nat.{ℕ, suc, ◌+◌, ◌-◌, ◌%◌, ◌<◌, ◌≤◌}
use native.Mathlib.Omega.{arith}
use native.Mathlib.Nat.{mod-lt, mod-eq_of_lt, add-mod_right, mod-add-mod}
use lib.ListN.{length}
use borrow.Author.Tests.{lt-ltb, le-ltb, not-true, not-false}
use Rattle.number.specs.Numbers.{all_below}
use Rattle.number.proofs.Tests.{all_at, same_test, lt_or_ge}
use Rattle.number.proofs.Sums.{all_below_law}
use Rattle.buffer.specs.Lists.{word_at}
use Rattle.grid.specs.Grid.{block_total}
use Rattle.tasks.specs.Tasks.{exists}
use Rattle.tasks.specs.Marks.{is_marked}
use Rattle.tasks.proofs.Existence.{exists_block, exists_task}
use Rattle.tasks.proofs.Needs.{All, ready_exists, ready_undone}
use Rattle.report.specs.declared.Ready.{Ready}
use Rattle.report.specs.Report.{first_ready}
use Rattle.report.proofs.Claims.{none_all, found_ready}
use Rattle.turns.specs.declared.Job.{Job}
use Rattle.turns.specs.declared.Turn.{Turn}
use Rattle.turns.specs.Jobs.{job_at, grid_of}
use Rattle.turns.specs.Turn.{ready_to, marks_from, marked_in, marked_if_exists, job_done, look_from, going_round, waits, passed_over, turn_to, turn_with, turn_of, turn}
use Rattle.turns.specs.Answers.{DoneIfAllMarked, ComesBefore, between, behind, from_start, BeginsWithFirst}
use Rattle.turns.proofs.Least.{clash, least_below_law, least_holds, least_none}

-- ---- unmarked tasks

module _ (job : Job) (marks : List ℕ) where
  -- A job without unmarked tasks has all its tasks done,
  pub done_all : job_done job marks ≡ true → All (grid_of job) (marked_in job marks)
  unfolding job_done
  done_all e t k x =
      let block : all_below (marked_if_exists job marks k) 6 ≡ true =
      all_at _ (block_total (grid_of job)) k e (exists_block (grid_of job) t k x) in
      let mark : marked_if_exists job marks k t ≡ true =
      all_at (marked_if_exists job marks k) 6 t block (exists_task (grid_of job) t k x) in
      rw x at mark

  -- and the other way round.
  pub all_done_law : All (grid_of job) (marked_in job marks) → job_done job marks ≡ true
  unfolding job_done
  all_done_law all =
      all_below_law _ (block_total (grid_of job))
      (λ k h.
      all_below_law (marked_if_exists job marks k) 6 (λ t l. by (exists (grid_of job) t k) (marked_in job marks t k) (all t k)))
    where
      by : (x m : Bool) → (x ≡ true → m ≡ true) → (not x || m) ≡ true
      by true m f = f refl
      by false m f = refl

  -- A job with unmarked tasks has a ready one, on any marks.
  pub unmarked_ready : job_done job marks ≡ false
      → (t : ℕ) × (k : ℕ) × (first_ready (grid_of job) (marked_in job marks) ≡ Some (ready_to t k))
  unmarked_ready e = by (first_ready (grid_of job) (marked_in job marks)) refl
    where
      by : (next : Option Ready) → first_ready (grid_of job) (marked_in job marks) ≡ next
          → (t : ℕ) × (k : ℕ) × (first_ready (grid_of job) (marked_in job marks) ≡ Some (ready_to t k))
      by (Some next) q = (next.task, next.block, q)
      by None q = clash (all_done_law (none_all (grid_of job) (marked_in job marks) q)) e

pub done_if_all_marked : DoneIfAllMarked
done_if_all_marked job marks = (done_all job marks, all_done_law job marks)

-- Whether a job has unmarked tasks depends on its own marks only.
pub done_same : (job : Job) (marks later : List ℕ)
    → ((k : ℕ) → k < block_total (grid_of job) → word_at (marks_from job later) k ≡ word_at (marks_from job marks) k)
    → job_done job marks ≡ job_done job later
unfolding is_marked
done_same job marks later same =
    same_test (job_done job marks) (job_done job later)
    (λ e. all_done_law job later (λ t k x. rw (same k (exists_block (grid_of job) t k x)) (done_all job marks e t k x)))
    (λ e. all_done_law job marks (λ t k x. rw (← same k (exists_block (grid_of job) t k x)) (done_all job later e t k x)))

-- ---- going round

module _ (jobs : List Job) (last : ℕ) where
  -- A turn begins with the job after the last one,
  pub look_next : last < length jobs → look_from jobs last ≡ suc last
  unfolding look_from
  look_next l = rw (lt-ltb last (length jobs) l)

  -- and with the first where there is no last one.
  pub look_first : length jobs ≤ last → look_from jobs last ≡ 0
  unfolding look_from
  look_first g = rw (le-ltb last (length jobs) g)

  -- So it begins inside the list or at its end.
  pub look_most : look_from jobs last ≤ length jobs
  look_most =
      ⊎_elim (λ (l : last < length jobs). rw (look_next l) l) (λ (g : length jobs ≤ last). rw (look_first g) (omega arith))
      (lt_or_ge last (length jobs))

module _ (jobs : List Job) (last : ℕ) where
  -- Going round stays in the list.
  pub round_in : (d : ℕ) → 0 < length jobs → going_round jobs last d < length jobs
  unfolding going_round
  round_in d h = mod-lt (look_from jobs last + d) h

  -- Every job is come to, within one round.
  pub come_to : (i : ℕ) → i < length jobs → (d : ℕ) × (d < length jobs) × (going_round jobs last d ≡ i)
  unfolding going_round
  come_to i h =
      let m = look_most jobs last in
      ⊎_elim
      (λ (l : i < look_from jobs last).
      let e : look_from jobs last + (i + length jobs - look_from jobs last) ≡ i + length jobs = omega arith in
      (i + length jobs - look_from jobs last, omega arith, rw (e, add-mod_right i (length jobs)) (mod-eq_of_lt h)))
      (λ (g : look_from jobs last ≤ i).
      let e : look_from jobs last + (i - look_from jobs last) ≡ i = omega arith in
      (i - look_from jobs last, omega arith, rw e (mod-eq_of_lt h)))
      (lt_or_ge i (look_from jobs last))

  -- From the job w places on, the job d places on is nearer by w + 1.
  pub round_next : (w d : ℕ) → 0 < length jobs → w < d
      → going_round jobs (going_round jobs last w) (d - w - 1) ≡ going_round jobs last d
  unfolding going_round
  round_next w d h l =
      let a = look_from jobs last in
      let j = (a + w) % length jobs in
      let e : look_from jobs j + (d - w - 1) ≡ j + (d - w) = rw (look_next jobs j (mod-lt (a + w) h)) (omega arith) in
      let f : a + w + (d - w) ≡ a + d = omega arith in
      rw (e, mod-add-mod (a + w) (length jobs) (d - w), f)

-- The job d places on is that many after the place looked from, less the number of jobs where that is past the list.
module _ (jobs : List Job) (last d : ℕ) where
  pub round_within : look_from jobs last + d < length jobs → going_round jobs last d ≡ look_from jobs last + d
  unfolding going_round
  round_within l = mod-eq_of_lt l

  pub round_past : length jobs ≤ look_from jobs last + d → d < length jobs
      → going_round jobs last d ≡ look_from jobs last + d - length jobs
  unfolding going_round
  round_past l h =
      let most = look_most jobs last in
      let e : look_from jobs last + d ≡ look_from jobs last + d - length jobs + length jobs = omega arith in
      ap (◌% length jobs) e ∙ add-mod_right (look_from jobs last + d - length jobs) (length jobs) ∙ mod-eq_of_lt (omega arith)

-- A job that comes before the one d places on is fewer places on.
module _ (jobs : List Job) (last d j : ℕ) (h : d < length jobs) (l : j < length jobs)
    (before : ComesBefore last j (going_round jobs last d)) where
  at_or_after : look_from jobs last ≤ j → j - look_from jobs last < d
  at_or_after high =
      ⊎_elim (λ (x : look_from jobs last + d < length jobs). by x before)
      (λ (x : length jobs ≤ look_from jobs last + d). omega arith)
      (lt_or_ge (look_from jobs last + d) (length jobs))
    where
      by : look_from jobs last + d < length jobs → ComesBefore last j (going_round jobs last d) → j - look_from jobs last < d
      by x (between p q) = omega (arith, round_within jobs last d x)
      by x (behind p q) = omega (arith, round_within jobs last d x, look_next jobs last (omega arith))
      by x (from_start p q) = omega (arith, round_within jobs last d x)

  below : j < look_from jobs last → j + length jobs - look_from jobs last < d
  below low =
      ⊎_elim (λ (x : last < length jobs). by (look_next jobs last x) before)
      (λ (x : length jobs ≤ last). omega (arith, look_first jobs last x))
      (lt_or_ge last (length jobs))
    where
      by : look_from jobs last ≡ suc last → ComesBefore last j (going_round jobs last d) → j + length jobs - look_from jobs last < d
      by x (between p q) = omega arith
      by x (behind p q) = omega arith
      by x (from_start p q) =
          ⊎_elim (λ (y : look_from jobs last + d < length jobs). omega (arith, round_within jobs last d y))
          (λ (y : length jobs ≤ look_from jobs last + d). omega (arith, look_most jobs last, round_past jobs last d y h))
          (lt_or_ge (look_from jobs last + d) (length jobs))

  pub come_before : (e : ℕ) × (e < d) × (going_round jobs last e ≡ j)
  come_before =
      ⊎_elim
      (λ (low : j < look_from jobs last).
      let most = look_most jobs last in
      (j + length jobs - look_from jobs last, below low, round_past jobs last _ (omega arith) (omega arith) ∙ omega arith))
      (λ (high : look_from jobs last ≤ j).
      (j - look_from jobs last, at_or_after high, round_within jobs last _ (omega arith) ∙ omega arith))
      (lt_or_ge j (look_from jobs last))

pub begins_with_first : BeginsWithFirst
unfolding going_round
begins_with_first jobs last past d l =
    let e : 0 + d ≡ d = omega arith in
    rw (look_first jobs last past, e) (mod-eq_of_lt l)

-- ---- the turn of one job

module _ (i : ℕ) (job : Job) (marks : List ℕ) where
  -- A job that has a turn has unmarked tasks,
  pub turn_waits : (found : Turn) → turn_of i job marks ≡ Some found → job_done job marks ≡ false
  turn_waits found e = by (job_done job marks) refl (first_ready (grid_of job) (marked_in job marks)) refl e
    where
      by : (done : Bool) → job_done job marks ≡ done → (next : Option Ready) → first_ready (grid_of job) (marked_in job marks) ≡ next
          → turn_with i next ≡ Some found → done ≡ false
      by false d next q e = refl
      by true d None q e = absurd cc
      by true d (Some next) q e =
          let ready = found_ready (grid_of job) (marked_in job marks) next q in
          clash (done_all job marks d next.task next.block (ready_exists (grid_of job) (marked_in job marks) next.task next.block ready))
          (ready_undone (grid_of job) (marked_in job marks) next.task next.block ready)

  -- and one that has none is done.
  pub no_turn_done : turn_of i job marks ≡ None → job_done job marks ≡ true
  no_turn_done e = by (first_ready (grid_of job) (marked_in job marks)) refl e
    where
      by : (next : Option Ready) → first_ready (grid_of job) (marked_in job marks) ≡ next → turn_with i next ≡ None
          → job_done job marks ≡ true
      by None q e = all_done_law job marks (none_all (grid_of job) (marked_in job marks) q)
      by (Some next) q e = absurd cc

-- ---- a turn

module _ (jobs : List Job) (last : ℕ) (marks : List ℕ) where
  -- The job at which the search ends.
  abbrev pub next_job : ℕ
  next_job = going_round jobs last (passed_over jobs last marks)

  -- Where it ends inside the list, that job has unmarked tasks, and its turn is the answer;
  pub next_unmarked : passed_over jobs last marks < length jobs → job_done (job_at jobs next_job) marks ≡ false
  unfolding passed_over
  next_unmarked l = not-true _ (least_holds (waits jobs last marks) 0 (length jobs) (omega arith))

  pub turn_found : passed_over jobs last marks < length jobs → turn jobs last marks ≡ turn_of next_job (job_at jobs next_job) marks
  unfolding turn
  turn_found l = rw lt-ltb

  -- where not, none is named.
  pub turn_none : length jobs ≤ passed_over jobs last marks → turn jobs last marks ≡ None
  unfolding turn
  turn_none g = rw le-ltb

  -- The jobs that are passed over are done.
  pub passed_done : (e : ℕ) → e < passed_over jobs last marks → job_done (job_at jobs (going_round jobs last e)) marks ≡ true
  unfolding passed_over
  passed_done e h = not-false _ (least_below_law (waits jobs last marks) 0 (length jobs) e (omega arith) h)

  -- Where the job d places on has unmarked tasks, it or one before it is named.
  pub names_upto : (d : ℕ) → d < length jobs → job_done (job_at jobs (going_round jobs last d)) marks ≡ false
      → (w : ℕ) × (w ≤ d) × (t : ℕ) × (k : ℕ) × (turn jobs last marks ≡ Some (turn_to (going_round jobs last w) t k))
  names_upto d h e =
      let w = passed_over jobs last marks in
      let l : w ≤ d = ⊎_elim (λ (g : d < w). clash (passed_done d g) e) (λ (g : w ≤ d). g) (lt_or_ge d w) in
      let (t, k, q) = unmarked_ready (job_at jobs next_job) marks (next_unmarked (omega arith)) in
      (w, l, t, k, turn_found (omega arith) ∙ ap (turn_with next_job) q)

  -- What a turn that names task t of block k of job i has found.
  pub record Found (i t k : ℕ) : Type 0 where
    pub inside : passed_over jobs last marks < length jobs
    pub round : i ≡ next_job
    pub unmarked : job_done (job_at jobs i) marks ≡ false
    pub first : first_ready (grid_of (job_at jobs i)) (marked_in (job_at jobs i) marks) ≡ Some (ready_to t k)

  pub named_found : (i t k : ℕ) → turn jobs last marks ≡ Some (turn_to i t k) → Found i t k
  named_found i t k e =
      ⊎_elim (λ (l : passed_over jobs last marks < length jobs). by l _ refl (sym (turn_found l) ∙ e))
      (λ (g : length jobs ≤ passed_over jobs last marks).
      let none = turn_none g in
      absurd cc)
      (lt_or_ge (passed_over jobs last marks) (length jobs))
    where
      by : passed_over jobs last marks < length jobs → (next : Option Ready)
          → first_ready (grid_of (job_at jobs next_job)) (marked_in (job_at jobs next_job) marks) ≡ next
          → turn_with next_job next ≡ Some (turn_to i t k) → Found i t k
      by l None q e = absurd cc
      by l (Some next) q e =
          let same : turn_to next_job next.task next.block ≡ turn_to i t k = cc in
          rw (← ap (λ (found : Turn). found.job) same, ← ap (λ (found : Turn). found.task) same, ← ap (λ (found : Turn). found.block) same)
          (record { inside = l; round = refl; unmarked = next_unmarked l; first = q })

  -- A turn that names none finds every job done,
  pub none_all_done : turn jobs last marks ≡ None → (i : ℕ) → i < length jobs → job_done (job_at jobs i) marks ≡ true
  none_all_done e i h = by (job_done (job_at jobs i) marks) refl
    where
      by : (is : Bool) → job_done (job_at jobs i) marks ≡ is → is ≡ true
      by true p = refl
      by false p =
          let (d, l, q) = come_to jobs last i h in
          let (w, m, t, k, n) = names_upto d l (rw q p) in
          absurd cc

  -- and one that finds every job done names none.
  pub all_done_none : ((i : ℕ) → i < length jobs → job_done (job_at jobs i) marks ≡ true) → turn jobs last marks ≡ None
  unfolding passed_over
  all_done_none all =
      let e =
      least_none (waits jobs last marks) 0 (length jobs)
      (λ d h l. rw (all (going_round jobs last d) (round_in jobs last d (omega arith)))) in
      turn_none (omega arith)
