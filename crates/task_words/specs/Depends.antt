-- What a task writes depends only on the plan, the block's own heights (collect and finish), its own lone strip (a link) and
-- the linked strips in its needs: document 01, below the table of tasks; document 02, CR 8.
use Rattle.std.specs.Prelude.{◌≡◌, true, List, ℕ, suc, ◌<◌, Some}
use Rattle.plan.specs.declared.Plan.{Plan}
use Rattle.plan.specs.Sizes.{needed_marks, order_of}
use Rattle.buffer.specs.Lists.{word_at}
use Rattle.grid.specs.Grid.{rows_of, columns_of, neighbour, goes_on}
use Rattle.task_words.specs.declared.Half.{Half}
use Rattle.task_words.specs.declared.Half.TheVariants.{Lone, Linked}
use Rattle.task_words.specs.Strips.{strip_place, inside_block}
use Rattle.task_words.specs.Writes.{alone_word, link_word, finish_word}
use Rattle.task_words.specs.Matching.{SameBlock}

-- Two lists have the same words in block k's strip of a pass, in a half, at the places that lie in the block: those outside
-- are read as 0, whatever a lent buffer holds there.
abbrev pub SameStrip : Plan → Half → ℕ → ℕ → (s r : List ℕ) → Type 0
SameStrip plan half k pass s r =
    (line place : ℕ) → place < order_of plan pass → inside_block plan k pass line place ≡ true
    → word_at s (strip_place plan half k pass line place) ≡ word_at r (strip_place plan half k pass line place)

-- Two lists have the same linked strips past block k's edges for the first n passes: the needs of a link of pass n-1, and of finish
-- where n is 4.
abbrev pub SameNeeds : Plan → ℕ → ℕ → (s r : List ℕ) → Type 0
SameNeeds plan k n s r = (pass j : ℕ) → pass < n → neighbour plan.grid k pass ≡ Some j → SameStrip plan Linked j pass s r

-- The words that collect writes,
abbrev pub CollectDepends : Type 0
CollectDepends =
    (plan : Plan) (X Y : ℕ → ℕ → ℕ) (k pass : ℕ) → SameBlock plan k X Y → (line place : ℕ) → place < order_of plan pass
    → alone_word plan X k pass line place ≡ alone_word plan Y k pass line place

-- the words that the link of a pass writes,
abbrev pub LinkDepends : Type 0
LinkDepends =
    (plan : Plan) (s r : List ℕ) (k pass : ℕ) → SameStrip plan Lone k pass s r → SameNeeds plan k (suc pass) s r
    → (line place : ℕ) → place < order_of plan pass
    → link_word plan s k pass line place ≡ link_word plan r k pass line place

-- and the words that finish writes. The strips and the output that are written to enter into none of them.
abbrev pub FinishDepends : Type 0
FinishDepends =
    (plan : Plan) (X Y : ℕ → ℕ → ℕ) (s r : List ℕ) (k : ℕ) → SameBlock plan k X Y → SameNeeds plan k 4 s r
    → (y x : ℕ) → y < rows_of plan.grid k → x < columns_of plan.grid k → finish_word plan X s k y x ≡ finish_word plan Y r k y x

-- Two lists have the same strips, lone and linked, wherever a neighbour needs one: they may differ in the strips on the map's
-- border.
abbrev pub SameNeeded : Plan → (s r : List ℕ) → Type 0
SameNeeded plan s r =
    (half : Half) (k pass : ℕ) → k < needed_marks plan → pass < 4 → goes_on plan.grid k pass ≡ true
    → SameStrip plan half k pass s r

-- Strips on the map's border are read by no task, whatever a lent buffer holds there: they change no word of a link
abbrev pub LinkReadsNoBorder : Type 0
LinkReadsNoBorder =
    (plan : Plan) (s r : List ℕ) (k pass : ℕ) → k < needed_marks plan → pass < 4 → goes_on plan.grid k pass ≡ true
    → SameNeeded plan s r → (line place : ℕ) → place < order_of plan pass
    → link_word plan s k pass line place ≡ link_word plan r k pass line place

-- and no word of a finish; collect reads no strip.
abbrev pub FinishReadsNoBorder : Type 0
FinishReadsNoBorder =
    (plan : Plan) (X : ℕ → ℕ → ℕ) (s r : List ℕ) (k : ℕ) → k < needed_marks plan → SameNeeded plan s r
    → (y x : ℕ) → y < rows_of plan.grid k → x < columns_of plan.grid k → finish_word plan X s k y x ≡ finish_word plan X r k y x
