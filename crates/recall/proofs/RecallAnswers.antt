-- The ways out of the call of recall, and what an accepted one may rely on. Assumes nothing.
use mathlib.Core.Path.{◌≡◌, sym}
use mathlib.Core.Bool.{true, false}
use mathlib.Core.List.{List}
use Prim.Native.Nat.{ℕ, ◌<◌, ◌≤◌}
use lib.Dec.{ltb}
use borrow.Author.Tests.{lt-ltb, le-ltb, ltb-true, ltb-false, not-false}
use Rattle.refusal.specs.declared.Refusal.TheVariants.{NoSuchTask, MarkBroken, BlockNotCollected}
use Rattle.refusal.specs.Refusals.{accepted, refused_for}
use Rattle.refusal.specs.Table.{Row, first_due}
use Rattle.refusal.proofs.Table.{rows_accepted, not_due}
use Rattle.grid.specs.declared.Grid.{Grid}
use Rattle.grid.specs.Grid.{block_total}
use Rattle.plan.specs.declared.Plan.{Plan}
use Rattle.plan.specs.FirstTests.{lent_rows}
use Rattle.plan.proofs.FirstTests.{suffices}
use Rattle.plan.proofs.Record.{rules}
use Rattle.tasks.specs.Marks.{is_marked}
use Rattle.tasks.proofs.Verdicts.{none_broken_valid}
use Rattle.report.specs.Report.{first_broken, marks_rows}
use Rattle.recall.specs.RecallCall.{lent_to_recall, recall_rows, recall_answer}
use Rattle.recall.specs.Clearing.{Clearable}

-- What a recall tests of its own.
abbrev pub own_rows : Grid → List ℕ → ℕ → List Row
own_rows grid marks k = recall_rows grid (is_marked marks) (marks_rows grid marks) k

-- ---- the tests, one after another

module _ (grid : Grid) (marks : List ℕ) (k : ℕ) where
  pub no_block : block_total grid ≤ k → refused_for NoSuchTask ≡ first_due (own_rows grid marks k)
  no_block l = rw (le-ltb k (block_total grid) l)

  module _ (inside : k < block_total grid) (broken : ℕ) (is : broken ≡ first_broken grid marks) where
    pub mark_broken : broken < block_total grid → refused_for (MarkBroken broken) ≡ first_due (own_rows grid marks k)
    mark_broken l = rw (lt-ltb k (block_total grid) inside, ← is, lt-ltb broken (block_total grid) l)

    module _ (whole : block_total grid ≤ broken) where
      pub not_collected : is_marked marks 0 k ≡ false → refused_for BlockNotCollected ≡ first_due (own_rows grid marks k)
      not_collected e = rw (lt-ltb k (block_total grid) inside, ← is, le-ltb broken (block_total grid) whole, e)

      pub collected : is_marked marks 0 k ≡ true → accepted ≡ first_due (own_rows grid marks k)
      collected e = rw (lt-ltb k (block_total grid) inside, ← is, le-ltb broken (block_total grid) whole, e)

-- ---- an accepted recall

-- The marks are enough and none is broken, and the block is in the map.
pub clearable : (plan : Plan) (marks : List ℕ) (k : ℕ) → accepted ≡ recall_answer plan marks k → Clearable plan.grid marks k
unfolding recall_answer first_broken
clearable plan marks k e =
    let (lent, own) = rows_accepted (lent_rows plan (lent_to_recall marks)) (own_rows plan.grid marks k) (sym e) in
    let enough = suffices plan (lent_to_recall marks) lent in
    let there = not_due _ _ _ _ own in
    let whole = not_due _ _ _ _ there.others in
    record {
      lent_at =
          record {
            lent = record { kept = (rules plan enough.rules).grid_kept_law; enough = enough.of7_long };
            inside = ltb-true k (block_total plan.grid) (not-false (ltb k (block_total plan.grid)) there.first);
          };
      valid =
          none_broken_valid plan.grid marks
          (ltb-false (first_broken plan.grid marks) (block_total plan.grid) whole.first);
    }
