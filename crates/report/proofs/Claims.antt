-- What the report says on marks that show what is done: it counts what is done, and until all is done it names the first
-- ready task. Assumes nothing.
use mathlib.Core.Path.{◌≡◌, refl, sym, ◌∙◌}
use mathlib.Core.Bool.{Bool, true, true≢false}
use mathlib.Core.List.{List}
use Prim.Native.Nat.{ℕ, ◌-◌, ◌*◌, ◌<◌, ◌≤◌}
use native.Mathlib.Omega.{arith}
use lib.ListN.{length}
use borrow.Author.Tests.{le-ltb}
use Rattle.refusal.specs.Refusals.{accepted}
use Rattle.refusal.proofs.Table.{accepted_before}
use Rattle.grid.specs.declared.Grid.{Grid}
use Rattle.grid.specs.Grid.{block_rows_of, block_columns_of, block_total}
use Rattle.plan.specs.declared.BufferOf7.TheVariants.{Marks}
use Rattle.plan.specs.declared.Plan.{Plan}
use Rattle.plan.specs.Rules.{keeps_rules}
use Rattle.plan.specs.Sizes.{needed_marks, needed_pixels, task_count}
use Rattle.plan.specs.FirstTests.{lent_rows}
use Rattle.plan.proofs.FirstTests.{only_accepted}
use Rattle.plan.proofs.Record.{rules}
use Rattle.plan.proofs.Needed.{bounds}
use Rattle.tasks.specs.Tasks.{ready}
use Rattle.tasks.specs.Counts.{done_count}
use Rattle.tasks.specs.Marks.{is_marked, Shows}
use Rattle.tasks.proofs.Needs.{All, all_done_law, ready_same, ready_exists, ready_undone}
use Rattle.tasks.proofs.Counting.{Only, task_count_law, count_all, all_of_count, count_most, count_same}
use Rattle.tasks.proofs.Marking.{shows_marked, shows_valid}
use Rattle.tasks.proofs.Verdicts.{all_valid}
use Rattle.std.specs.Prelude.{Option, None, Some}
use Rattle.report.specs.declared.Ready.{Ready}
use Rattle.report.specs.declared.Progress.{Progress}
use Rattle.report.specs.Tally.{tally}
use Rattle.report.specs.Values.{values_of}
use Rattle.report.specs.Report.{first_ready, first_broken, progress_of, marks_rows, lent_to_report, report}
use Rattle.report.proofs.Search.{First, task_found, task_none, task_same}
use Rattle.report.proofs.Tallies.{tally_whole, tally_same}

module _ (grid : Grid) (done : ℕ → ℕ → Bool) where
  found : (next : Ready) → first_ready grid done ≡ Some next
      → First (ready grid done) (block_total grid) 0 6 next.task next.block
  unfolding first_ready
  found next e = task_found (ready grid done) (block_total grid) 0 6 next e

  -- What the report names is ready.
  pub found_ready : (next : Ready) → first_ready grid done ≡ Some next → ready grid done next.task next.block ≡ true
  found_ready next e = (found next e).holds

  -- It names none only where all are done.
  pub none_all : first_ready grid done ≡ None → All grid done
  unfolding first_ready
  none_all e =
      all_done_law grid done (λ t k l i. task_none (ready grid done) (block_total grid) 0 6 e t k (omega arith) (omega arith) i)

  -- Where all are done it names none.
  all_none : All grid done → first_ready grid done ≡ None
  all_none all = by (first_ready grid done) refl
    where
      by : (x : Option Ready) → first_ready grid done ≡ x → x ≡ None
      by (Some next) e =
          let (t, k) : ℕ × ℕ = (next.task, next.block) in
          let r = found_ready next e in
          absurd (true≢false (sym (all t k (ready_exists grid done t k r)) ∙ ready_undone grid done t k r))
      by None e = refl

  -- While fewer are done than there are, it names one.
  names_one : 1 ≤ block_rows_of grid → 1 ≤ block_columns_of grid → Only grid done
      → done_count grid done < 6 * block_total grid - 2 * block_rows_of grid - 2 * block_columns_of grid
      → (next : Ready) × (first_ready grid done ≡ Some next)
  names_one m n only l = by (first_ready grid done) refl
    where
      by : (x : Option Ready) → first_ready grid done ≡ x → (next : Ready) × (first_ready grid done ≡ Some next)
      by (Some next) e = (next, e)
      by None e = absurd (omega (arith, count_all grid done only (none_all e), task_count_law grid m n))

-- The report on a plan where `done` tells what is done.
pub record Told (plan : Plan) (done : ℕ → ℕ → Bool) (progress : Progress) : Type 0 where
  pub count : progress.marked ≡ done_count plan.grid done
  pub tally : progress.tally ≡ tally plan.grid done
  pub most : progress.marked ≤ task_count plan
  -- until all are done it names the first task that is ready
  pub names : progress.marked < task_count plan
      → (next : Ready) × (progress.next ≡ Some next)
      × First (ready plan.grid done) (needed_marks plan) 0 6 next.task next.block
  -- with all done it names none, and the tally is two for each pixel
  pub none : progress.marked ≡ task_count plan → (progress.next ≡ None) × (progress.tally ≡ 2 * needed_pixels plan)
  -- it names none only then
  pub only : progress.next ≡ None → All plan.grid done

first_same : (grid : Grid) (p q : ℕ → ℕ → Bool) → ((t k : ℕ) → t < 6 → k < block_total grid → p t k ≡ q t k)
    → first_ready grid p ≡ first_ready grid q
unfolding first_ready
first_same grid p q same =
    task_same (ready grid p) (ready grid q) (block_total grid) 0 6 (λ t k l h b. ready_same grid p q same t k)

module _ (plan : Plan) (kept : keeps_rules plan ≡ true) (done : ℕ → ℕ → Bool) (only : Only plan.grid done) where
  pub told : Told plan done (progress_of plan.grid done)
  unfolding progress_of
  told =
      let known = bounds plan kept in
      let all_count = task_count_law plan.grid known.block_rows_low known.block_columns_low in
      record {
        count = refl;
        tally = refl;
        most = omega (arith, count_most plan.grid done only);
        names = λ l.
            let (next, e) = names_one plan.grid done known.block_rows_low known.block_columns_low only l in
            (next, e, found plan.grid done next e);
        none = λ e.
            let all = all_of_count plan.grid done only (e ∙ sym all_count) in (
              all_none plan.grid done all,
              tally_whole plan.grid done (rules plan kept).side_low all,
            );
        only = none_all plan.grid done;
      }

  -- Enough marks that show what is done are reported on, by what is done.
  pub reported : (marks : List ℕ) → needed_marks plan ≤ length marks → Shows plan.grid done marks
      → report plan marks ≡ record { answer = accepted; value = values_of (progress_of plan.grid done) }
  unfolding report progress_of first_broken
  reported marks enough shows =
      let same = shows_marked plan.grid done marks shows in
      let valid = shows_valid plan.grid done marks shows only in
      let whole = all_valid plan.grid marks valid in
      rw (
        accepted_before (lent_rows plan (lent_to_report marks)) (marks_rows plan.grid marks)
            (sym (only_accepted plan (Some (Marks (length marks))) kept enough)),
        le-ltb (first_broken plan.grid marks) (needed_marks plan) (omega arith),
        count_same plan.grid (is_marked marks) done same,
        tally_same plan.grid (is_marked marks) done same,
        first_same plan.grid (is_marked marks) done same,
      )
