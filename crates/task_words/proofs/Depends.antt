-- What a task writes depends only on what document 01 says. Assumes nothing.
use mathlib.Core.Path.{◌≡◌, refl, ap, ap₂}
use mathlib.Core.Bool.{cond}
use mathlib.Core.List.{List}
use Prim.Native.Nat.{ℕ, suc, ◌<◌, ◌≤◌}
use native.Mathlib.Omega.{arith}
use Rattle.word.specs.Word.{◌⊕◌}
use Rattle.plan.specs.declared.Plan.{Plan}
use Rattle.plan.specs.Sizes.{needed_marks, order_of}
use Rattle.passes.proofs.Passes.{passes_over_reads}
use Rattle.filter.specs.PlanFilters.{filters_of}
use Rattle.grid.specs.Grid.{rows_of, columns_of, goes_on}
use Rattle.task_words.specs.declared.Half.{Half}
use Rattle.task_words.specs.declared.Half.TheVariants.{Lone, Linked}
use Rattle.task_words.specs.Strips.{inside_block, strip_word, past_edges}
use Rattle.task_words.specs.Depends.{SameStrip, SameNeeds, SameNeeded, CollectDepends, LinkDepends, FinishDepends, LinkReadsNoBorder, FinishReadsNoBorder}
use Rattle.task_words.specs.Writes.{block_passes, alone_word, link_word, finish_word}
use Rattle.grid.proofs.Neighbours.{neighbour_below, neighbour_goes_on}
use Rattle.task_words.proofs.StripReads.{masked_same, edge_same, past_same}

read_same : (plan : Plan) (half : Half) (k pass : ℕ) (s r : List ℕ) → SameStrip plan half k pass s r → (line place : ℕ)
    → place < order_of plan pass → strip_word plan s half k pass line place ≡ strip_word plan r half k pass line place
unfolding strip_word
read_same plan half k pass s r same line place h = masked_same (inside_block plan k pass line place) _ _ (same line place h)

-- The passes read the block and the strips past its edges.
passes_same : (plan : Plan) (k n : ℕ) (s r : List ℕ) (Y Z : ℕ → ℕ → ℕ) → SameNeeds plan k n s r
    → ((y x : ℕ) → y < rows_of plan.grid k → x < columns_of plan.grid k → Y y x ≡ Z y x) → (y x : ℕ) → y < rows_of plan.grid k
    → x < columns_of plan.grid k
    → block_passes plan k (past_edges plan s k) Y n y x ≡ block_passes plan k (past_edges plan r k) Z n y x
passes_same plan k n s r Y Z needs e =
    passes_over_reads (filters_of plan) (rows_of plan.grid k) (columns_of plan.grid k) _ _ Y Z n
    (λ u l i a b c. past_same plan s r k u (λ j f. read_same plan Linked j u s r (needs u j a f)) l i)
    e

pub collect_depends : CollectDepends
unfolding alone_word
collect_depends plan X Y k pass same line place h =
    ap (λ v. cond (goes_on plan.grid k pass) v 0)
    (edge_same plan k pass _ _
    (passes_over_reads (filters_of plan) (rows_of plan.grid k) (columns_of plan.grid k) _ _ _ _ (suc pass) (λ u l i a b c. refl) same)
    line place h)

pub link_depends : LinkDepends
unfolding link_word
link_depends plan s r k pass own needs line place h =
    ap₂ ◌⊕◌ (read_same plan Lone k pass s r own line place h)
    (edge_same plan k pass _ _ (passes_same plan k (suc pass) s r _ _ needs (λ y x a b. refl)) line place h)

pub finish_depends : FinishDepends
unfolding finish_word
finish_depends plan X Y s r k same needs = passes_same plan k 4 s r _ _ needs same

-- The needs of a task are strips that a neighbour needs, namely the task's own block.
needs_needed : (plan : Plan) (k n : ℕ) (s r : List ℕ) → k < needed_marks plan → n ≤ 4 → SameNeeded plan s r
    → SameNeeds plan k n s r
needs_needed plan k n s r here few same pass j b e =
    same Linked j pass (neighbour_below plan.grid k pass j here e) (omega arith)
    (neighbour_goes_on plan.grid k pass j here e)

pub link_reads_no_border : LinkReadsNoBorder
link_reads_no_border plan s r k pass here b needed same =
    link_depends plan s r k pass (same Lone k pass here b needed) (needs_needed plan k (suc pass) s r here (omega arith) same)

pub finish_reads_no_border : FinishReadsNoBorder
finish_reads_no_border plan X s r k here same =
    finish_depends plan X X s r k (λ y x a b. refl) (needs_needed plan k 4 s r here (omega arith) same)
