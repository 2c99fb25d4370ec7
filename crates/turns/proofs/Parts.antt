-- What the refusals look at: the sizes, where the marks of each job lie, and the marks themselves. What they let through is
-- what their searches pass. Assumes nothing.
use mathlib.Core.Path.{◌≡◌, refl, sym, ap, ap₂, ◌∙◌}
use mathlib.Core.Logic.{⊎_elim, ◌≢◌}
use mathlib.Core.Bool.{Bool, true, false, not, ◌&&◌, true≢false}
use mathlib.Core.List.{List}
use Prim.Native.Nat.{ℕ, zero, suc, ◌+◌, ◌-◌, ◌<◌, ◌≤◌, max}
use native.Mathlib.Omega.{arith}
use native.Mathlib.Nat.{mul-le-mul}
use lib.Dec.{leb}
use lib.ListN.{length}
use lib.Seq.{get_or-drop}
use Rattle.std.proofs.lemmas.Bool.Decides.{nat_tests}
use borrow.Author.Tests.{not-true, not-false}
use Rattle.number.specs.Numbers.{all_below}
use Rattle.number.proofs.Tests.{and_left, lt_or_ge, all_at, all_fails}
use Rattle.number.proofs.Sums.{all_below_law}
use Rattle.grid.specs.Grid.{block_total}
use Rattle.grid.proofs.Blocks.{ranges}
use Rattle.tasks.specs.Marks.{mark_valid, mark_valid_at}
use Rattle.tasks.proofs.Marking.{Valid}
use Rattle.turns.specs.declared.Job.{Job}
use Rattle.turns.specs.Jobs.{job_at, grid_of, sizes_kept, jobs_kept, marks_end, overlap, apart_unless_same, well_placed, first_misplaced, holds_place, broken_for, broken_place, first_broken_place}
use Rattle.turns.specs.Turn.{marks_from}
use Rattle.turns.specs.Answers.{Kept, Misplaced, past_the_list, shared, OverlapIsShared, Sound, BrokenMark, LetThrough}
use Rattle.turns.proofs.Least.{clash, least_below_law, least_none}

-- A test that does not hold of all numbers below a bound fails for one of them.
pub one_fails : (test : ℕ → Bool) (n : ℕ) → all_below test n ≡ false → (i : ℕ) × (i < n) × (test i ≡ false)
unfolding all_below
one_fails test zero e = clash refl e
one_fails test (suc n) e = by (all_below test n) refl e (one_fails test n)
  where
    by : (all : Bool) → all_below test n ≡ all → (all && test n) ≡ false
        → (all_below test n ≡ false → (i : ℕ) × (i < n) × (test i ≡ false)) → (i : ℕ) × (i < suc n) × (test i ≡ false)
    by true p e before = (n, omega arith, e)
    by false p e before = let (i, l, f) = before p in (i, omega arith, f)

-- ---- 6: the sizes

-- The test says what `Kept` says.
pub kept_tested : (jobs : List Job) → Kept jobs → jobs_kept jobs ≡ true
unfolding jobs_kept
kept_tested jobs kept = grind (arith, nat_tests, all_below_law (λ i. sizes_kept (job_at jobs i)) (length jobs) kept.sizes)

pub tested_kept : (jobs : List Job) → jobs_kept jobs ≡ true → Kept jobs
unfolding jobs_kept
tested_kept jobs e =
    record {
      few = grind (arith, nat_tests);
      sizes = λ i l. grind (arith, nat_tests, all_at (λ i. sizes_kept (job_at jobs i)) (length jobs) i);
    }

-- ---- 18: where the marks lie

-- A place is one of a job's marks exactly from its start on and before its end.
module _ (job : Job) (place : ℕ) where
  pub holds : job.marks_start ≤ place → place < marks_end job → holds_place job place ≡ true
  unfolding holds_place
  holds l h = grind (arith, nat_tests)

  pub held : holds_place job place ≡ true → (job.marks_start ≤ place) × (place < marks_end job)
  unfolding holds_place
  held e = (grind (arith, nat_tests), grind (arith, nat_tests))

-- Marks with a common place overlap.
shared_overlap : (a b : Job) (place : ℕ) → holds_place a place ≡ true → holds_place b place ≡ true → overlap a b ≡ true
unfolding overlap
shared_overlap a b place p q =
    let in_a = held a place p in
    let in_b = held b place q in
    grind (arith, nat_tests)

-- Marks that overlap share the greater of the two starts, since each job has at least one mark.
overlap_shared : (a b : Job) → sizes_kept a ≡ true → sizes_kept b ≡ true → overlap a b ≡ true
    → (place : ℕ) × (holds_place a place ≡ true) × (holds_place b place ≡ true)
unfolding overlap
overlap_shared a b kept_a kept_b e =
    let some_a = job_marks a kept_a in
    let some_b = job_marks b kept_b in
    let l : a.marks_start < marks_end b = grind (arith, nat_tests) in
    let h : b.marks_start < marks_end a = grind (arith, nat_tests) in
    let place = max a.marks_start b.marks_start in
    (place, holds a place (omega arith) (omega arith), holds b place (omega arith) (omega arith))
  where
    job_marks : (job : Job) → sizes_kept job ≡ true → 1 ≤ block_total (grid_of job)
    job_marks job kept =
        let r = ranges (grid_of job) kept in
        mul-le-mul r.block_rows_low r.block_columns_low

pub overlap_is_shared : OverlapIsShared
overlap_is_shared a b kept_a kept_b =
    (overlap_shared a b kept_a kept_b, λ (place, p, q). shared_overlap a b place p q)

module _ (jobs : List Job) (size i : ℕ) where
  -- A misplaced job does not pass the test,
  pub misplaced_tested : Misplaced jobs size i → well_placed jobs size i ≡ false
  unfolding well_placed
  misplaced_tested (past_the_list l) = grind (arith, nat_tests)
  misplaced_tested (shared j place h ne p q) =
      grind (
        arith,
        nat_tests,
        shared_overlap (job_at jobs i) (job_at jobs j) place p q,
        all_fails (apart_unless_same jobs i) (length jobs) j h,
      )

  -- and one that does not pass is misplaced.
  pub tested_misplaced : Kept jobs → i < length jobs → well_placed jobs size i ≡ false → Misplaced jobs size i
  unfolding well_placed
  tested_misplaced kept l e = by (leb (marks_end (job_at jobs i)) size) refl e
    where
      by : (inside : Bool) → leb (marks_end (job_at jobs i)) size ≡ inside
          → (inside && all_below (apart_unless_same jobs i) (length jobs)) ≡ false → Misplaced jobs size i
      by false p e = past_the_list (grind (arith, nat_tests))
      by true p e =
          let (j, h, f) = one_fails (apart_unless_same jobs i) (length jobs) e in
          let o : overlap (job_at jobs i) (job_at jobs j) ≡ true = grind (arith, nat_tests) in
          let (place, x, y) = overlap_shared (job_at jobs i) (job_at jobs j) (kept.sizes i l) (kept.sizes j h) o in
          shared j place h (grind (arith, nat_tests)) x y

-- No job is misplaced.
abbrev pub Placed : List Job → (size : ℕ) → Type 0
Placed jobs size = (i : ℕ) → i < length jobs → Misplaced jobs size i → ⊥

module _ (jobs : List Job) (size : ℕ) where
  -- Then the search finds none,
  pub placed_searched : Kept jobs → Placed jobs size → first_misplaced jobs size ≡ length jobs
  unfolding first_misplaced
  placed_searched kept placed =
      least_none (λ i. not (well_placed jobs size i)) 0 (length jobs)
      (λ i l h. by i (omega arith) (well_placed jobs size i) refl)
      ∙ omega arith
    where
      by : (i : ℕ) → i < length jobs → (well : Bool) → well_placed jobs size i ≡ well → not well ≡ false
      by i h true e = refl
      by i h false e = absurd (placed i h (tested_misplaced jobs size i kept h e))

  -- and where it finds none, none is.
  pub searched_placed : first_misplaced jobs size ≡ length jobs → Placed jobs size
  unfolding first_misplaced
  searched_placed e i h m =
      grind (arith, nat_tests, least_below_law (λ j. not (well_placed jobs size j)) 0 (length jobs) i, misplaced_tested jobs size i m)

module _ (jobs : List Job) (size : ℕ) (placed : Placed jobs size) where
  -- The marks of every job end inside the list.
  pub marks_inside : (i : ℕ) → i < length jobs → marks_end (job_at jobs i) ≤ size
  marks_inside i h =
      ⊎_elim (λ (l : size < marks_end (job_at jobs i)). absurd (placed i h (past_the_list l))) (λ l. l)
      (lt_or_ge size (marks_end (job_at jobs i)))

  -- The place of a mark of one job is none of another's.
  pub places_apart : (i j : ℕ) → i < length jobs → j < length jobs → j ≢ i → (m n : ℕ)
      → m < block_total (grid_of (job_at jobs i)) → n < block_total (grid_of (job_at jobs j))
      → (job_at jobs i).marks_start + m ≢ (job_at jobs j).marks_start + n
  places_apart i j l h ne m n p q e =
      let place = (job_at jobs i).marks_start + m in
      placed i l
      (shared j place h ne
      (holds (job_at jobs i) place (omega arith) (omega arith))
      (holds (job_at jobs j) place (omega arith) (omega arith)))

-- ---- 9: the marks themselves

module _ (marks : List ℕ) (job : Job) where
  -- The mark of block k of a job stands k places after the job's start.
  pub broken_there : (k : ℕ) → k < block_total (grid_of job)
      → broken_for marks job (job.marks_start + k) ≡ not (mark_valid_at (grid_of job) (marks_from job marks) k)
  unfolding broken_for
  broken_there k l =
      let s = job.marks_start in
      let back : s + k - s ≡ k = omega arith in
      ap₂ (λ in_marks valid. in_marks && not valid) (holds job (s + k) (omega arith) (omega arith))
      (ap₂ (mark_valid (grid_of job)) back (sym (get_or-drop s marks k 0)))

  -- A broken place is that of a mark that is not valid,
  pub broken_mark : (place : ℕ) → broken_for marks job place ≡ true
      → (k : ℕ) × (k < block_total (grid_of job)) × (place ≡ job.marks_start + k)
      × (mark_valid_at (grid_of job) (marks_from job marks) k ≡ false)
  unfolding broken_for
  broken_mark place e =
      let s = job.marks_start in
      let inside = held job place (and_left (holds_place job place) _ e) in
      let k = place - s in
      let l : k < block_total (grid_of job) = omega arith in
      let there : place ≡ s + k = omega arith in
      (k, l, there, not-true _ (sym (broken_there k l) ∙ ap (broken_for marks job) (sym there) ∙ e))

  -- so that a job whose marks are all valid has none.
  pub valid_unbroken : Valid (grid_of job) (marks_from job marks) → (place : ℕ) → broken_for marks job place ≡ false
  valid_unbroken valid place = by (broken_for marks job place) refl
    where
      by : (broken : Bool) → broken_for marks job place ≡ broken → broken ≡ false
      by true e = let (k, l, there, invalid) = broken_mark place e in clash (valid k l) invalid
      by false e = refl

module _ (jobs : List Job) (marks : List ℕ) (place : ℕ) where
  -- A place is broken where it is so for one of the jobs,
  pub broken_one : broken_place jobs marks place ≡ true
      → (i : ℕ) × (i < length jobs) × (broken_for marks (job_at jobs i) place ≡ true)
  unfolding broken_place
  broken_one e =
      let (i, l, f) = one_fails (λ i. not (broken_for marks (job_at jobs i) place)) (length jobs) (not-true _ e) in
      (i, l, not-false _ f)

  -- and is not where it is so for none.
  pub unbroken_all : broken_place jobs marks place ≡ false → (i : ℕ) → i < length jobs
      → broken_for marks (job_at jobs i) place ≡ false
  unfolding broken_place
  unbroken_all e i l =
      not-true _ (all_at (λ i. not (broken_for marks (job_at jobs i) place)) (length jobs) i (not-false _ e) l)

  -- A broken place is that of a broken mark of a job,
  pub broken_at_law : broken_place jobs marks place ≡ true
      → (i : ℕ) × (k : ℕ) × BrokenMark jobs marks i k × (place ≡ (job_at jobs i).marks_start + k)
  broken_at_law e =
      let (i, l, f) = broken_one e in
      let (k, h, there, invalid) = broken_mark marks (job_at jobs i) place f in
      (i, k, record { listed = l; inside = h; invalid = invalid }, there)

  pub all_unbroken : ((i : ℕ) → i < length jobs → broken_for marks (job_at jobs i) place ≡ false)
      → broken_place jobs marks place ≡ false
  unfolding broken_place
  all_unbroken none =
      rw (all_below_law (λ i. not (broken_for marks (job_at jobs i) place)) (length jobs) (λ i l. rw (none i l)))

module _ (jobs : List Job) (marks : List ℕ) where
  -- Where all marks are sound the search finds no broken place,
  pub sound_searched : Sound jobs marks → first_broken_place jobs marks ≡ length marks
  unfolding first_broken_place
  sound_searched sound =
      least_none (broken_place jobs marks) 0 (length marks)
      (λ place l h. all_unbroken jobs marks place (λ i m. valid_unbroken marks (job_at jobs i) (sound i m) place))
      ∙ omega arith

  -- and where it finds none all marks are, since those of each job lie in the list.
  pub searched_sound : Placed jobs (length marks) → first_broken_place jobs marks ≡ length marks → Sound jobs marks
  unfolding first_broken_place
  searched_sound placed e i l k h =
      let inside = marks_inside jobs (length marks) placed i l in
      let place = (job_at jobs i).marks_start + k in
      let unbroken = least_below_law (broken_place jobs marks) 0 (length marks) place (omega arith) (omega arith) in
      not-false _ (sym (broken_there marks (job_at jobs i) k h) ∙ unbroken_all jobs marks place unbroken i l)

-- and the place of a broken mark is broken.
pub at_broken : (jobs : List Job) (marks : List ℕ) (i k : ℕ) → BrokenMark jobs marks i k
    → broken_place jobs marks ((job_at jobs i).marks_start + k) ≡ false → ⊥
at_broken jobs marks i k at e =
    let there = broken_there marks (job_at jobs i) k at.inside in
    true≢false (sym (there ∙ ap not at.invalid) ∙ unbroken_all jobs marks ((job_at jobs i).marks_start + k) e i at.listed)

-- ---- what they let through

-- What the three tests and searches give where nothing is refused.
pub record Passes (jobs : List Job) (marks : List ℕ) : Type 0 where
  pub sizes : jobs_kept jobs ≡ true
  pub none_misplaced : first_misplaced jobs (length marks) ≡ length jobs
  pub none_broken : first_broken_place jobs marks ≡ length marks

-- LetThrough is exactly that.
pub let_through_passes : (jobs : List Job) (marks : List ℕ) → LetThrough jobs marks → Passes jobs marks
let_through_passes jobs marks a =
    record {
      sizes = kept_tested jobs a.kept;
      none_misplaced = placed_searched jobs (length marks) a.kept a.placed;
      none_broken = sound_searched jobs marks a.sound;
    }

pub passes_let_through : (jobs : List Job) (marks : List ℕ) → Passes jobs marks → LetThrough jobs marks
passes_let_through jobs marks p =
    let placed = searched_placed jobs (length marks) p.none_misplaced in
    record {
      kept = tested_kept jobs p.sizes;
      placed = placed;
      sound = searched_sound jobs marks placed p.none_broken;
    }
