-- Reading strips: which places lie in the block, and what stands past a block's edges.
-- Assumes nothing.
use mathlib.Core.Path.{◌≡◌, refl, sym, ◌∙◌}
use mathlib.Core.Bool.{Bool, true, false, cond}
use mathlib.Core.List.{List}
use Rattle.std.specs.Prelude.{Some}
use Prim.Native.Nat.{ℕ, suc, ◌+◌, ◌≤◌, ◌<◌}
use native.Mathlib.Omega.{arith}
use lib.Dec.{ltb}
use borrow.Author.Tests.{ltb-true, leb-true}
use Rattle.plan.specs.declared.Plan.{Plan}
use Rattle.plan.specs.Sizes.{needed_marks, order_of}
use Rattle.number.proofs.Tests.{and_left, and_right}
use Rattle.axis.specs.Axis.{Axis, columns, rows, Direction, forward, backward, axis_of, direction_of, along, across, line_of}
use Rattle.passes.proofs.Blocks.{words_beside}
use Rattle.grid.specs.Grid.{rows_of, columns_of, part_of, neighbour, extent_along, lines_across}
use Rattle.task_words.specs.declared.Half.{Half}
use Rattle.task_words.specs.declared.Half.TheVariants.{Linked}
use Rattle.task_words.specs.Strips.{place_inside, index_of_place, inside_block, edge_word, strip_word, from_edge, nearest_first, past_edges}
use Rattle.filter.specs.PlanFilters.{serial_result}
use Rattle.task_words.specs.Matching.{matching_word}
use Rattle.task_words.proofs.Places.{SideFits, place_of}
use Rattle.grid.proofs.Blocks.{lines_in_side}
use Rattle.task_words.proofs.BeyondEdges.{or_zero_same, beside_strip}
use Rattle.task_words.proofs.Strips.{HoldsStrip}

-- ---- inside the block

pub index_below : (d : Direction) (n order place : ℕ) → place < order → place_inside d n order place ≡ true
    → index_of_place d n order place < n
index_below forward n order place h e = let p = leb-true order (n + place) e in omega arith
index_below backward n order place h e = ltb-true place n e

module _ (plan : Plan) (k pass line place : ℕ) (inside : inside_block plan k pass line place ≡ true) where
  pub inside_line : line < lines_across plan.grid k pass
  unfolding inside_block
  inside_line = ltb-true _ _ (and_left _ _ inside)

  pub inside_side : line < plan.grid.side
  inside_side = omega (arith, inside_line, lines_in_side plan.grid k (axis_of pass))

  pub inside_index : place < order_of plan pass
      → index_of_place (direction_of pass) (extent_along plan.grid k pass)
      (order_of plan pass) place
      < extent_along plan.grid k pass
  unfolding inside_block
  inside_index h =
      let lines = ltb line (lines_across plan.grid k pass) in
      index_below (direction_of pass) _ (order_of plan pass) place h (and_right lines _ inside)

pub from_edge_below : (d : Direction) (n i : ℕ) → i < n → from_edge d n i < n
from_edge_below forward n i h = omega arith
from_edge_below backward n i h = h

-- What is 0 where a test fails need agree only where it holds.
pub masked_same : (test : Bool) (v w : ℕ) → (test ≡ true → v ≡ w) → cond test v 0 ≡ cond test w 0
masked_same true v w e = e refl
masked_same false v w e = refl

-- The strips of two blocks' words agree where the words do inside the block.
pub edge_same : (plan : Plan) (k pass : ℕ) (Y Z : ℕ → ℕ → ℕ)
    → ((y x : ℕ) → y < rows_of plan.grid k → x < columns_of plan.grid k → Y y x ≡ Z y x)
    → (line place : ℕ) → place < order_of plan pass → edge_word plan k pass Y line place
    ≡ edge_word plan k pass Z line place
unfolding edge_word
edge_same plan k pass Y Z e line place h =
    masked_same (inside_block plan k pass line place) _ _
    (λ t.
    on_line (axis_of pass) _ _ (inside_line plan k pass line place t) (inside_index plan k pass line place t h))
  where
    on_line : (a : Axis) (l i : ℕ) → l < across a (rows_of plan.grid k) (columns_of plan.grid k)
        → i < along a (rows_of plan.grid k) (columns_of plan.grid k) → line_of a Y l i ≡ line_of a Z l i
    on_line columns l i p q = e i l q p
    on_line rows l i p q = e l i p q

-- ---- a strip as it is read

-- Two ways of naming a strip's words by line and place, nearest first.
pub nearest_same : (plan : Plan) (pass : ℕ) (words other : ℕ → ℕ → ℕ)
    → ((line place : ℕ) → place < order_of plan pass → words line place ≡ other line place)
    → (line distance : ℕ) → nearest_first plan pass words line distance ≡ nearest_first plan pass other line distance
unfolding nearest_first
nearest_same plan pass words other e line i =
    masked_same (ltb i (order_of plan pass)) _ _
    (λ t. e line _ (from_edge_below (direction_of pass) (order_of plan pass) i (ltb-true i (order_of plan pass) t)))

-- Where a list holds a block's strip, it is read so, masked to the block.
pub read_held : (plan : Plan) (strips : List ℕ) (half : Half) (k pass : ℕ) (words : ℕ → ℕ → ℕ) → HoldsStrip plan strips half k pass words
    → (line place : ℕ) → place < order_of plan pass
    → strip_word plan strips half k pass line place ≡ cond (inside_block plan k pass line place) (words line place) 0
unfolding strip_word
read_held plan strips half k pass words holds line place h =
    masked_same (inside_block plan k pass line place) _ _
    (λ t. holds line place (inside_side plan k pass line place t) h)

masked_edge : (plan : Plan) (k pass : ℕ) (Z : ℕ → ℕ → ℕ) (line place : ℕ)
    → cond (inside_block plan k pass line place) (edge_word plan k pass Z line place) 0
    ≡ edge_word plan k pass Z line place
unfolding edge_word
masked_edge plan k pass Z line place = twice (inside_block plan k pass line place) _
  where
    twice : (test : Bool) (v : ℕ) → cond test (cond test v 0) 0 ≡ cond test v 0
    twice true v = refl
    twice false v = refl

-- Where a list holds the strip of a block's words, it is read so.
pub read_edge : (plan : Plan) (strips : List ℕ) (half : Half) (k pass : ℕ) (Z : ℕ → ℕ → ℕ)
    → HoldsStrip plan strips half k pass (edge_word plan k pass Z) → (line place : ℕ) → place < order_of plan pass
    → strip_word plan strips half k pass line place ≡ edge_word plan k pass Z line place
read_edge plan strips half k pass Z holds line place h =
    read_held plan strips half k pass (edge_word plan k pass Z) holds line place h ∙ masked_edge plan k pass Z line place

-- ---- past a block's edges

-- Two lists that have the same strip of a pass at the neighbour that it comes from.
pub past_same : (plan : Plan) (s r : List ℕ) (k pass : ℕ)
    → ((j : ℕ) → neighbour plan.grid k pass ≡ Some j → (line place : ℕ) → place < order_of plan pass
    → strip_word plan s Linked j pass line place ≡ strip_word plan r Linked j pass line place)
    → (line distance : ℕ) → past_edges plan s k pass line distance ≡ past_edges plan r k pass line distance
unfolding past_edges
past_same plan s r k pass e line i =
    or_zero_same _ _ (neighbour plan.grid k pass) (λ j n. nearest_same plan pass _ _ (e j n) line i)

-- The linked strips past block k's edges, for the first n passes, are the whole map's.
abbrev pub NeedsTrue : Plan → (ℕ → ℕ → ℕ) → List ℕ → ℕ → ℕ → Type 0
NeedsTrue plan X strips k n =
    (pass j : ℕ) → pass < n → neighbour plan.grid k pass ≡ Some j
    → HoldsStrip plan strips Linked j pass (matching_word plan X j pass)

-- Then what stands past its edges is what the whole map has there.
pub past_true : (plan : Plan) → SideFits plan → (X : ℕ → ℕ → ℕ) (strips : List ℕ) (k : ℕ) (here : k < needed_marks plan)
    (n : ℕ) → n ≤ 4 → NeedsTrue plan X strips k n → (pass line distance : ℕ) → pass < n
    → line < lines_across plan.grid k pass → distance < order_of plan pass
    → past_edges plan strips k pass line distance
    ≡ words_beside (axis_of pass) (direction_of pass) (place_of plan k here) (serial_result plan X (suc pass)) line distance
unfolding past_edges matching_word
past_true plan fits X strips k here n b needs pass line i h p q =
    or_zero_same _ _ (neighbour plan.grid k pass)
    (λ j e.
    nearest_same plan pass _ _
    (read_edge plan strips Linked j pass (part_of plan.grid j (serial_result plan X (suc pass))) (needs pass j h e)) line i)
    ∙ sym (beside_strip plan fits k here pass (omega arith) (serial_result plan X (suc pass)) line i p q)
