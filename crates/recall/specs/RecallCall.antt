-- The call of recall: its answer, and the marks after it. Document 02, CR 8.
use Rattle.std.specs.Prelude.{◌≡◌, Bool, true, false, not, List, [], ◌∷◌, ◌++◌, ℕ, ◌≤◌, ◌<◌, ltb, length, Some}
use Rattle.refusal.specs.Refusals.{Answer, accepted, refused}
use Rattle.refusal.specs.Table.{Row, ◌at◌when◌, first_due, if_accepted}
use Rattle.buffer.specs.Lists.{word_at}
use Rattle.buffer.specs.Written.{written}
use Rattle.grid.specs.declared.Grid.{Grid}
use Rattle.grid.specs.Grid.{block_total}
use Rattle.plan.specs.declared.Plan.{Plan}
use Rattle.plan.specs.Rules.{keeps_rules}
use Rattle.plan.specs.declared.BufferOf7.TheVariants.{Marks}
use Rattle.plan.specs.declared.Lengths.{Lengths}
use Rattle.plan.specs.FirstTests.{lent_rows, only_of7}
use Rattle.tasks.specs.Marks.{is_marked, mark_valid_at, mark_of}
use Rattle.report.specs.Report.{marks_rows}
use Rattle.recall.specs.Recall.{NeedsBlock, clears, done_without}

-- What a recall of block k is refused by: 8 where there is no such block, 17 where it is not collected. The tests of marks, if
-- any, stand between the two.
abbrev pub recall_rows : Grid → (done : ℕ → ℕ → Bool) → (broken : List Row) → ℕ → List Row
recall_rows grid done broken k =
    8 at 0 when not (ltb k (block_total grid)) ∷ (broken ++ (17 at 0 when not (done 0 k) ∷ []))

-- Recall is lent marks.
abbrev pub lent_to_recall : List ℕ → Lengths
lent_to_recall marks = only_of7 (Some (Marks (length marks)))

-- What a recall of block k answers: 6, 7 for the marks, which are all that it is lent, 8, 9 at the least broken mark of all, 17.
unfoldable pub recall_answer : Plan → List ℕ → ℕ → Answer
recall_answer plan marks k =
    first_due (lent_rows plan (lent_to_recall marks) ++ recall_rows plan.grid (is_marked marks) (marks_rows plan.grid marks) k)

-- The marks after an accepted recall of block k: the bits of the tasks that it clears are gone.
unfoldable pub marks_recalled : Grid → ℕ → List ℕ → List ℕ
marks_recalled grid k marks = written (λ j. j) (mark_of (done_without grid (is_marked marks) k)) (block_total grid) marks

-- The marks after a call of recall: a refused one leaves them.
unfoldable pub marks_after_recall : Plan → ℕ → List ℕ → List ℕ
marks_after_recall plan k marks = if_accepted (recall_answer plan marks k) (marks_recalled plan.grid k marks) marks

-- ---- what is claimed of it

-- What a recall is answered beside a record that keeps the rules and enough marks.
pub record AnsweredByMarks (plan : Plan) (marks : List ℕ) (k : ℕ) : Type 0 where
  -- Where there is no such block it is refused by 8, whatever the marks are.
  pub no_block : block_total plan.grid ≤ k → recall_answer plan marks k ≡ refused 8 0
  -- At a block of the map it is refused by 9 at the least broken mark of all, collected or not.
  pub mark_broken : k < block_total plan.grid → (j : ℕ) → j < block_total plan.grid
      → mark_valid_at plan.grid marks j ≡ false → ((i : ℕ) → i < j → mark_valid_at plan.grid marks i ≡ true)
      → recall_answer plan marks k ≡ refused 9 j
  -- Where no mark is broken, a block that is not collected is refused by 17,
  pub not_collected : k < block_total plan.grid
      → ((j : ℕ) → j < block_total plan.grid → mark_valid_at plan.grid marks j ≡ true)
      → is_marked marks 0 k ≡ false → recall_answer plan marks k ≡ refused 17 0
  -- and one that is collected is accepted.
  pub block_collected : k < block_total plan.grid
      → ((j : ℕ) → j < block_total plan.grid → mark_valid_at plan.grid marks j ≡ true)
      → is_marked marks 0 k ≡ true → recall_answer plan marks k ≡ accepted

-- So it is for every such record, marks and block.
abbrev pub MarksDecideRecall : Type 0
MarksDecideRecall =
    (plan : Plan) (marks : List ℕ) (k : ℕ) → keeps_rules plan ≡ true → block_total plan.grid ≤ length marks
    → AnsweredByMarks plan marks k

-- An accepted recall unmarks the block's tasks and every task that needs it, directly or through others, whatever is marked
-- between; and no further task.
abbrev pub ClearsMarksOfWhatNeedsIt : Type 0
ClearsMarksOfWhatNeedsIt =
    (grid : Grid) (marks : List ℕ) → block_total grid ≤ length marks → (k : ℕ) → k < block_total grid → (t j : ℕ) → t < 6
    → j < block_total grid
    → (NeedsBlock grid k t j → is_marked (marks_recalled grid k marks) t j ≡ false)
    × ((NeedsBlock grid k t j → ⊥) → is_marked (marks_recalled grid k marks) t j ≡ is_marked marks t j)

-- On any marks that refusal 9 lets through, a mark that has none of the bits that a recall clears stays as it was,
abbrev pub OtherMarksStay : Type 0
OtherMarksStay =
    (grid : Grid) (marks : List ℕ) → block_total grid ≤ length marks
    → ((j : ℕ) → j < block_total grid → mark_valid_at grid marks j ≡ true) → (k j : ℕ) → j < block_total grid
    → ((t : ℕ) → t < 6 → is_marked marks t j ≡ true → clears grid k t j ≡ false)
    → word_at (marks_recalled grid k marks) j ≡ word_at marks j

-- and a mark that loses bits keeps its kind and has no spare bit.
abbrev pub RecalledMarksWhole : Type 0
RecalledMarksWhole =
    (grid : Grid) (marks : List ℕ) → block_total grid ≤ length marks
    → ((j : ℕ) → j < block_total grid → mark_valid_at grid marks j ≡ true) → (k j : ℕ) → j < block_total grid
    → mark_valid_at grid (marks_recalled grid k marks) j ≡ true
