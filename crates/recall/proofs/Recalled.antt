-- A recall on marks that show what is done: its answer, and the marks after it. Assumes nothing.
use mathlib.Core.Path.{◌≡◌, refl, sym, ap, ◌∙◌}
use mathlib.Core.Bool.{Bool, true, false, not, ◌&&◌, and-true, and-false}
use mathlib.Core.List.{List, [], ◌∷◌}
use Prim.Native.Nat.{ℕ, ◌≤◌, ◌<◌}
use native.Mathlib.Omega.{arith}
use lib.Dec.{ltb}
use lib.ListN.{length}
use borrow.Author.Tests.{ltb-true, le-ltb}
use Rattle.std.specs.Prelude.{Some}
use Rattle.number.proofs.Tests.{and_left}
use Rattle.refusal.specs.Table.{◌at◌when◌, first_due}
use Rattle.refusal.proofs.Table.{accepted_before}
use Rattle.buffer.specs.Lists.{word_at}
use Rattle.buffer.proofs.Written.{written_length, written_other, written_at}
use Rattle.grid.specs.declared.Grid.{Grid}
use Rattle.grid.specs.Grid.{block_total}
use Rattle.plan.specs.declared.BufferOf7.TheVariants.{Marks}
use Rattle.plan.specs.declared.Plan.{Plan}
use Rattle.plan.specs.Rules.{keeps_rules}
use Rattle.plan.specs.Sizes.{needed_marks}
use Rattle.plan.specs.FirstTests.{lent_rows}
use Rattle.plan.proofs.FirstTests.{only_accepted}
use Rattle.tasks.specs.Marks.{is_marked, mark_of, Shows}
use Rattle.tasks.proofs.Counting.{Only}
use Rattle.tasks.proofs.Marking.{Valid, mark_same, shows_marked, shows_valid, valid_shows, valid_only}
use Rattle.tasks.proofs.Verdicts.{below_whole, all_valid, first_least}
use Rattle.report.specs.Report.{first_broken}
use Rattle.recall.specs.Recall.{clears, done_without}
use Rattle.recall.specs.RecallCall.{recall_rows, recall_answer, marks_recalled, lent_to_recall, MarksDecideRecall, ClearsMarksOfWhatNeedsIt, OtherMarksStay, RecalledMarksWhole}
use Rattle.recall.proofs.Closure.{clears_what_needs_it}
use Rattle.recall.proofs.RecallAnswers.{own_rows, no_block, mark_broken, not_collected, collected}

-- ---- the answer

-- Beside a record that keeps the rules and enough marks, what a recall tests of its own decides.
own_tests : (plan : Plan) (marks : List ℕ) (k : ℕ) → keeps_rules plan ≡ true → needed_marks plan ≤ length marks
    → recall_answer plan marks k ≡ first_due (own_rows plan.grid marks k)
unfolding recall_answer
own_tests plan marks k kept enough =
    accepted_before (lent_rows plan (lent_to_recall marks)) (own_rows plan.grid marks k)
    (sym (only_accepted plan (Some (Marks (length marks))) kept enough))

none_broken : (grid : Grid) (marks : List ℕ) → Valid grid marks → block_total grid ≤ first_broken grid marks
unfolding first_broken
none_broken grid marks valid = omega (arith, all_valid grid marks valid)

pub marks_decide_recall : MarksDecideRecall
unfolding first_broken
marks_decide_recall plan marks k kept enough =
    let grid = plan.grid in
    let tested = own_tests plan marks k kept enough in
    record {
      no_block = λ h. tested ∙ sym (no_block grid marks k h);
      mark_broken = λ h j l broken before.
          let least = first_least grid marks j l (below_whole grid marks j (omega arith) before) broken in
          tested ∙ sym (mark_broken grid marks k h j least l);
      not_collected = λ h valid e. tested ∙ sym (not_collected grid marks k h _ refl (none_broken grid marks valid) e);
      block_collected = λ h valid e. tested ∙ sym (collected grid marks k h _ refl (none_broken grid marks valid) e);
    }

-- Enough marks that show what is done are answered by what is done.
pub recall_answered : (plan : Plan) → keeps_rules plan ≡ true → (done : ℕ → ℕ → Bool) → Only plan.grid done
    → (marks : List ℕ) → needed_marks plan ≤ length marks → Shows plan.grid done marks → (k : ℕ)
    → recall_answer plan marks k ≡ first_due (recall_rows plan.grid done [] k)
recall_answered plan kept done only marks enough shows k =
    let whole = none_broken plan.grid marks (shows_valid plan.grid done marks shows only) in
    own_tests plan marks k kept enough
    ∙ rw (le-ltb (first_broken plan.grid marks) (block_total plan.grid) whole) (by (ltb k (block_total plan.grid)) refl)
  where
    by : (inside : Bool) → ltb k (block_total plan.grid) ≡ inside
        → first_due (8 at 0 when not inside ∷ 17 at 0 when not (is_marked marks 0 k) ∷ [])
        ≡ first_due (8 at 0 when not inside ∷ 17 at 0 when not (done 0 k) ∷ [])
    by true e = rw (shows_marked plan.grid done marks shows 0 k (omega arith) (ltb-true k (block_total plan.grid) e))
    by false e = refl

-- ---- the marks

module _ (grid : Grid) (k : ℕ) (marks : List ℕ) where
  pub recalled_length : length (marks_recalled grid k marks) ≡ length marks
  unfolding marks_recalled
  recalled_length = written_length _ _ (block_total grid) marks

  -- Words past the needed marks stay.
  pub recalled_past : (j : ℕ) → block_total grid ≤ j → word_at (marks_recalled grid k marks) j ≡ word_at marks j
  unfolding marks_recalled
  recalled_past j h = written_other _ _ (block_total grid) marks j (λ i l. omega arith)

  -- A needed mark has the bits of the tasks that were marked and are not cleared.
  recalled_at : block_total grid ≤ length marks → (j : ℕ) → j < block_total grid
      → word_at (marks_recalled grid k marks) j ≡ mark_of (done_without grid (is_marked marks) k) j
  unfolding marks_recalled
  recalled_at enough j h =
      written_at (λ j. j) _ (block_total grid) marks (λ i j a b. omega arith) (λ i a. omega arith) j h

pub clears_marks_of_what_needs_it : ClearsMarksOfWhatNeedsIt
unfolding done_without
clears_marks_of_what_needs_it grid marks enough k here t j l h =
    let stays =
    shows_marked grid (done_without grid (is_marked marks) k) (marks_recalled grid k marks) (recalled_at grid k marks enough) t j l h
    in
    let (needed, needs) = clears_what_needs_it grid k t j here in (
      λ n. stays ∙ rw (needed n) (and-false (is_marked marks t j)),
      λ free. stays ∙ by (clears grid k t j) (λ c. free (needs c)),
    )
  where
    by : (cleared : Bool) → (cleared ≡ true → ⊥) → (is_marked marks t j && not cleared) ≡ is_marked marks t j
    by true u = absurd (u refl)
    by false u = and-true (is_marked marks t j)

-- The marks after a recall show what is done without what it clears.
pub recalled_shows : (grid : Grid) (done : ℕ → ℕ → Bool) (marks : List ℕ) → block_total grid ≤ length marks
    → Shows grid done marks → (k : ℕ) → Shows grid (done_without grid done k) (marks_recalled grid k marks)
unfolding done_without
recalled_shows grid done marks enough shows k j h =
    recalled_at grid k marks enough j h
    ∙ mark_same _ _ j (λ t l. ap (λ x. x && not (clears grid k t j)) (shows_marked grid done marks shows t j l h))

pub other_marks_stay : OtherMarksStay
unfolding done_without
other_marks_stay grid marks enough valid k j h free =
    recalled_at grid k marks enough j h
    ∙ mark_same _ (is_marked marks) j (λ t l. by (is_marked marks t j) (clears grid k t j) (free t l))
    ∙ sym (valid_shows grid marks valid j h)
  where
    by : (marked cleared : Bool) → (marked ≡ true → cleared ≡ false) → (marked && not cleared) ≡ marked
    by true cleared f = ap not (f refl)
    by false cleared f = refl

pub recalled_marks_whole : RecalledMarksWhole
unfolding done_without
recalled_marks_whole grid marks enough valid k j h =
    shows_valid grid (done_without grid (is_marked marks) k) (marks_recalled grid k marks) (recalled_at grid k marks enough)
    (λ t i l b e. valid_only grid marks valid t i l b (and_left (is_marked marks t i) (not (clears grid k t i)) e)) j h
