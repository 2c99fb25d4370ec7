-- One job's part of the common marks list: where it ends, whether two overlap, and its least broken place. Assumes nothing.
use mathlib.Core.Path.{◌≡◌, refl, sym, ap, ◌∙◌}
use mathlib.Core.Logic.{⊎_elim}
use mathlib.Core.Bool.{Bool, true, false, not, ◌&&◌}
use mathlib.Core.List.{List}
use Rattle.std.specs.Prelude.{None, Some}
use Prim.Native.Nat.{ℕ, ◌+◌, ◌-◌, ◌<◌, ◌≤◌}
use native.Mathlib.Omega.{arith}
use lib.Dec.{leb, ltb}
use lib.ListN.{length, take, drop, length-drop}
use lib.Seq.{take_all}
use borrow.Author.Tests.{lt-ltb, le-ltb, not-true, not-false}
use Rattle.std.proofs.lemmas.Bool.Decides.{nat_tests}
use Rattle.number.proofs.Tests.{lt_or_ge}
use Rattle.grid.specs.declared.Grid.{Grid}
use Rattle.grid.specs.Grid.{block_total}
use Rattle.tasks.specs.Marks.{mark_valid_at}
use Rattle.tasks.specs.Lent.{Lent}
use Rattle.tasks.proofs.Verdicts.{below_whole, all_valid, none_broken_valid, first_least}
use Rattle.report.specs.Report.{first_broken}
use Rattle.turns.specs.declared.Job.{Job}
use Rattle.turns.specs.Jobs.{least_from, grid_of, marks_end, overlap, broken_for}
use Rattle.turns.specs.Turn.{marks_from}
use Rattle.turns.proofs.Least.{clash, least_below_law, least_holds, least_none, least_most, least_is}
use Rattle.turns.proofs.Parts.{broken_there, broken_mark, valid_unbroken}
use Rattle.dispatch.specs.Part.{JobLent, first_broken_of}

-- ---- whether the parts of two jobs overlap

-- They do unless one ends before the other starts.
pub overlap_ends : (a b : Job) → overlap a b ≡ (not (leb (marks_end b) a.marks_start) && not (leb (marks_end a) b.marks_start))
unfolding overlap
overlap_ends a b = rw (before a.marks_start (marks_end b), before b.marks_start (marks_end a))
  where
    before : (m n : ℕ) → ltb m n ≡ not (leb n m)
    before m n = grind (arith, nat_tests)

-- ---- the part itself

-- The part that the code lends is all that follows the start,
pub part_all : (start : ℕ) (marks : List ℕ) → take (length marks - start) (drop start marks) ≡ drop start marks
part_all start marks = take_all (length marks - start) (drop start marks) (rw length-drop (omega arith))

-- and it is long enough.
pub part_lent : (job : Job) (marks : List ℕ) → JobLent job (length marks) → Lent (grid_of job) (length (marks_from job marks))
part_lent job marks lent =
    let inside = lent.inside in
    record { kept = lent.kept; enough = rw length-drop (omega arith) }

-- ---- its least broken place

-- The report's least broken block is the first whose mark fails the test.
first_failing : (grid : Grid) (marks : List ℕ) → least_from (λ k. not (mark_valid_at grid marks k)) 0 (block_total grid) ≡ first_broken grid marks
unfolding first_broken
first_failing grid marks =
    let fails : ℕ → Bool = λ k. not (mark_valid_at grid marks k) in
    let n = least_from fails 0 (block_total grid) in
    let most = least_most fails 0 (block_total grid) in
    let valid : (k : ℕ) → k < n → mark_valid_at grid marks k ≡ true =
    λ k h. not-false (mark_valid_at grid marks k) (least_below_law fails 0 (block_total grid) k (omega arith) h) in
    ⊎_elim
    (λ (l : n < block_total grid).
    first_least grid marks n l (below_whole grid marks n (omega arith) valid)
    (not-true (mark_valid_at grid marks n) (least_holds fails 0 (block_total grid) (omega arith))))
    (λ (g : block_total grid ≤ n).
    let e : n ≡ block_total grid = omega arith in
    e ∙ sym (all_valid grid marks (λ k h. valid k (omega arith))))
    (lt_or_ge n (block_total grid))

module _ (marks : List ℕ) (job : Job) where
  module _ (inside : marks_end job ≤ length marks) (grid : Grid) (is_grid : grid ≡ grid_of job) (broken : ℕ)
      (is_first : broken ≡ first_broken grid (take (length marks - job.marks_start) (drop job.marks_start marks))) where
    is : broken ≡ first_broken (grid_of job) (marks_from job marks)
    is = rw (part_all job.marks_start marks, is_grid) at is_first

    fails : ℕ → Bool
    fails k = not (mark_valid_at (grid_of job) (marks_from job marks) k)

    first : least_from fails 0 (block_total (grid_of job)) ≡ broken
    unfolding fails
    first = first_failing (grid_of job) (marks_from job marks) ∙ sym is

    -- A mark before the first that fails is valid, so that its place is not broken.
    sound_below : (place : ℕ) → place < job.marks_start + broken → broken_for marks job place ≡ false
    unfolding fails
    sound_below place h = by (broken_for marks job place) refl
      where
        by : (b : Bool) → broken_for marks job place ≡ b → broken_for marks job place ≡ false
        by false e = e
        by true e =
            let (k, l, there, invalid) = broken_mark marks job place e in
            let f = first in
            clash (ap not invalid) (least_below_law fails 0 (block_total (grid_of job)) k (omega arith) (omega arith))

    pub broken_at_law : broken < block_total grid → Some (job.marks_start + broken) ≡ first_broken_of marks job
    unfolding fails
    broken_at_law h =
        let l : broken < block_total (grid_of job) = rw is_grid at h in
        let e : least_from (broken_for marks job) 0 (length marks) ≡ job.marks_start + broken =
        least_is (broken_for marks job) (length marks) (job.marks_start + broken) (omega arith) sound_below
        (λ h. broken_there marks job broken l ∙ rw first at (least_holds fails 0 (block_total (grid_of job)) (omega (arith, first)))) in
        rw (e, lt-ltb (job.marks_start + broken) (length marks) (omega arith))

    pub broken_nowhere : block_total grid ≤ broken → None ≡ first_broken_of marks job
    unfolding first_broken
    broken_nowhere h =
        let l : block_total (grid_of job) ≤ broken = rw is_grid at h in
        let e = is in
        let valid = none_broken_valid (grid_of job) (marks_from job marks) (omega arith) in
        let e : least_from (broken_for marks job) 0 (length marks) ≡ length marks =
        least_none (broken_for marks job) 0 (length marks) (λ place a b. valid_unbroken marks job valid place) ∙ omega arith in
        rw (e, le-ltb (length marks) (length marks) (omega arith))
