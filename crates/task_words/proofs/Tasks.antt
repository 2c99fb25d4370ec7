-- What tasks write is true: collect writes its four strips, a link whose needs are true writes the matching strip, and
-- a finish whose needs are true writes the serial words.
-- Assumes nothing.
use mathlib.Core.Path.{◌≡◌, refl, ap, ◌∙◌}
use mathlib.Core.Bool.{Bool, true, false, cond}
use mathlib.Core.List.{List}
use mathlib.Core.Logic.{◌≢◌}
use Prim.Native.Nat.{ℕ, suc, ◌≤◌, ◌<◌}
use native.Mathlib.Omega.{arith}
use lib.ListN.{length}
use Rattle.word.specs.Word.{◌⊕◌}
use Rattle.word.proofs.Ring.{zero_add}
use Rattle.plan.specs.declared.Plan.{Plan}
use Rattle.plan.specs.Sizes.{needed_marks, needed_strips, needed_pixels, order_of}
use Rattle.buffer.specs.Lists.{word_at}
use Rattle.axis.specs.Axis.{Axis, columns, rows, axis_of, along, across, line_of}
use Rattle.passes.proofs.Blocks.{passes_over_part}
use Rattle.passes.proofs.Link.{link_true}
use Rattle.filter.specs.PlanFilters.{filter_of, filters_of, serial_result}
use Rattle.grid.specs.Grid.{rows_of, columns_of, block_pixel_place, part_of, goes_on}
use Rattle.task_words.specs.declared.Half.TheVariants.{Lone, Linked}
use Rattle.task_words.specs.Strips.{inside_block, edge_word, past_edges}
use Rattle.task_words.specs.Writes.{block_passes, alone_word, collected, link_word, linked, finish_word, finished}
use Rattle.task_words.specs.Matching.{matching_word}
use Rattle.task_words.proofs.Places.{SideFits, place_of}
use Rattle.task_words.proofs.Strips.{HoldsStrip, OutsideStrip, strip_length, strip_holds, strip_outside, half_length, half_holds, half_outside}
use Rattle.task_words.proofs.Output.{block_length, block_holds, block_outside}
use Rattle.task_words.proofs.StripReads.{inside_line, inside_index, read_edge, NeedsTrue, past_true}

-- ---- true words

-- The block filtered alone, plus zero heights with the strips past its edges, is the whole map's block after that pass.
strips_add_up : (plan : Plan) → SideFits plan → (X : ℕ → ℕ → ℕ) (strips : List ℕ) (k pass : ℕ) → k < needed_marks plan
    → pass < 4 → NeedsTrue plan X strips k (suc pass) → (y x : ℕ) → y < rows_of plan.grid k → x < columns_of plan.grid k
    → block_passes plan k (λ u l i. 0) (part_of plan.grid k X) (suc pass) y x
    ⊕ block_passes plan k (past_edges plan strips k) (λ y x. 0) (suc pass) y x
    ≡ part_of plan.grid k (serial_result plan X (suc pass)) y x
unfolding place_of filter_of
strips_add_up plan fits X strips k pass here h needs =
    link_true (filters_of plan) (place_of plan k here) (past_edges plan strips k) X pass
    (λ u l i. past_true plan fits X strips k here (suc pass) h needs u l i)

edge_sum : (plan : Plan) (k pass : ℕ) (A B C : ℕ → ℕ → ℕ)
    → ((y x : ℕ) → y < rows_of plan.grid k → x < columns_of plan.grid k → A y x ⊕ B y x ≡ C y x)
    → (line place : ℕ) → place < order_of plan pass
    → edge_word plan k pass A line place ⊕ edge_word plan k pass B line place ≡ edge_word plan k pass C line place
unfolding edge_word
edge_sum plan k pass A B C e line place h =
    both (inside_block plan k pass line place) _ _ _
    (λ t. on_line (axis_of pass) _ _ (inside_line plan k pass line place t) (inside_index plan k pass line place t h))
  where
    both : (test : Bool) (a b c : ℕ) → (test ≡ true → a ⊕ b ≡ c) → cond test a 0 ⊕ cond test b 0 ≡ cond test c 0
    both true a b c f = f refl
    both false a b c f = zero_add

    on_line : (a : Axis) (l i : ℕ) → l < across a (rows_of plan.grid k) (columns_of plan.grid k)
        → i < along a (rows_of plan.grid k) (columns_of plan.grid k) → line_of a A l i ⊕ line_of a B l i ≡ line_of a C l i
    on_line columns l i p q = e i l q p
    on_line rows l i p q = e l i p q

-- A link whose needs are true, on the strip that collect wrote, gives the matching strip.
pub link_is : (plan : Plan) → SideFits plan → (X : ℕ → ℕ → ℕ) (strips : List ℕ) (k pass : ℕ) → k < needed_marks plan
    → pass < 4 → goes_on plan.grid k pass ≡ true → HoldsStrip plan strips Lone k pass (alone_word plan X k pass)
    → NeedsTrue plan X strips k (suc pass) → (line place : ℕ) → place < order_of plan pass
    → link_word plan strips k pass line place ≡ matching_word plan X k pass line place
unfolding link_word matching_word alone_word
link_is plan fits X strips k pass here h needed own needs line place p =
    ap (λ z. z ⊕ edge_word plan k pass (block_passes plan k (past_edges plan strips k) (λ y x. 0) (suc pass)) line place)
    (read_edge plan strips Lone k pass (block_passes plan k (λ u l i. 0) (part_of plan.grid k X) (suc pass))
    (λ l t a b. own l t a b ∙ rw needed) line place p)
    ∙ edge_sum plan k pass _ _ _ (strips_add_up plan fits X strips k pass here h needs) line place p

-- A finish whose needs are true gives the words of the four serial passes.
pub finish_is : (plan : Plan) → SideFits plan → (X : ℕ → ℕ → ℕ) (strips : List ℕ) (k : ℕ) → k < needed_marks plan
    → NeedsTrue plan X strips k 4 → (y x : ℕ) → y < rows_of plan.grid k → x < columns_of plan.grid k
    → finish_word plan X strips k y x ≡ part_of plan.grid k (serial_result plan X 4) y x
unfolding finish_word place_of filter_of
finish_is plan fits X strips k here needs =
    passes_over_part (filters_of plan) (place_of plan k here) (past_edges plan strips k) X 4
    (λ u l i. past_true plan fits X strips k here 4 (omega arith) needs u l i)

-- ---- the lists after a task

module _ (plan : Plan) (X : ℕ → ℕ → ℕ) (k : ℕ) (strips : List ℕ) where
  pub collected_length : length (collected plan X k strips) ≡ length strips
  unfolding collected
  collected_length = half_length plan Lone k _ 4 strips

  -- Collect writes the four lone strips of its slot,
  pub collected_holds : (pass : ℕ) → pass < 4 → k < needed_marks plan → needed_strips plan ≤ length strips
      → HoldsStrip plan (collected plan X k strips) Lone k pass (alone_word plan X k pass)
  unfolding collected
  collected_holds pass h here long = half_holds plan Lone k _ 4 strips pass (omega arith) h here long

  -- and no word outside them.
  pub collected_outside : (q : ℕ) → ((pass : ℕ) → pass < 4 → OutsideStrip plan Lone k pass q)
      → word_at (collected plan X k strips) q ≡ word_at strips q
  unfolding collected
  collected_outside q out = half_outside plan Lone k _ 4 strips q out

module _ (plan : Plan) (k pass : ℕ) (h : pass < 4) (strips : List ℕ) where
  pub linked_length : length (linked plan k pass strips) ≡ length strips
  unfolding linked
  linked_length = strip_length plan Linked k pass _ _ strips

  -- A link writes its strip in the linked half,
  pub linked_holds : k < needed_marks plan → needed_strips plan ≤ length strips
      → HoldsStrip plan (linked plan k pass strips) Linked k pass (link_word plan strips k pass)
  unfolding linked
  linked_holds here long = strip_holds plan Linked k pass _ strips here h long

  -- the matching strip where its needs are true,
  pub linked_true : (X : ℕ → ℕ → ℕ) → SideFits plan → k < needed_marks plan → needed_strips plan ≤ length strips
      → goes_on plan.grid k pass ≡ true → HoldsStrip plan strips Lone k pass (alone_word plan X k pass)
      → NeedsTrue plan X strips k (suc pass)
      → HoldsStrip plan (linked plan k pass strips) Linked k pass (matching_word plan X k pass)
  linked_true X fits here long needed own needs line place a b =
      linked_holds here long line place a b ∙ link_is plan fits X strips k pass here h needed own needs line place b

  -- and no word outside it.
  pub linked_outside : (q : ℕ) → OutsideStrip plan Linked k pass q → word_at (linked plan k pass strips) q ≡ word_at strips q
  unfolding linked
  linked_outside q out = strip_outside plan Linked k pass _ strips q out

module _ (plan : Plan) (X : ℕ → ℕ → ℕ) (strips : List ℕ) (k : ℕ) (output : List ℕ) where
  pub finished_length : length (finished plan X strips k output) ≡ length output
  unfolding finished
  finished_length = block_length plan k _ output

  -- Finish writes its block's words,
  pub finished_holds : (y x : ℕ) → needed_pixels plan ≤ length output → y < rows_of plan.grid k → x < columns_of plan.grid k
      → word_at (finished plan X strips k output) (block_pixel_place plan.grid k y x) ≡ finish_word plan X strips k y x
  unfolding finished
  finished_holds y x long a b = block_holds plan k _ output y x long a b

  -- the result of left where its needs are true,
  pub finished_true : SideFits plan → k < needed_marks plan → NeedsTrue plan X strips k 4
      → needed_pixels plan ≤ length output
      → (y x : ℕ) → y < rows_of plan.grid k → x < columns_of plan.grid k
      → word_at (finished plan X strips k output) (block_pixel_place plan.grid k y x)
      ≡ part_of plan.grid k (serial_result plan X 4) y x
  finished_true fits here needs long y x a b =
      finished_holds y x long a b ∙ finish_is plan fits X strips k here needs y x a b

  -- and no other word.
  pub finished_outside : (q : ℕ)
      → ((y x : ℕ) → y < rows_of plan.grid k → x < columns_of plan.grid k → q ≢ block_pixel_place plan.grid k y x)
      → word_at (finished plan X strips k output) q ≡ word_at output q
  unfolding finished
  finished_outside q out = block_outside plan k _ output q out
