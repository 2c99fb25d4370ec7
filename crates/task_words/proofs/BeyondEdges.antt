-- What lies beyond a block, on the side where a pass comes from, is the strip of its neighbour there.
-- Assumes nothing.
use mathlib.Core.Path.{◌≡◌, refl, ap, sym, ◌∙◌}
use mathlib.Core.Bool.{Bool, true, false, ◌&&◌, cond}
use Rattle.std.specs.Prelude.{Option, None, Some, option_map}
use mathlib.Core.Logic.{⊎_elim}
use Prim.Native.Nat.{ℕ, zero, suc, ◌+◌, ◌*◌, ◌-◌, ◌≤◌, ◌<◌, min}
use native.Mathlib.Numerals.{add-one}
use native.Mathlib.Omega.{arith}
use lib.Dec.{ltb}
use borrow.Author.Tests.{ltb-true, lt-ltb, le-ltb, le-leb, lt-leb}
use Rattle.plan.specs.declared.Plan.{Plan}
use Rattle.grid.specs.Grid.{block_count, block_extent, block_rows_of, block_columns_of, block_row, block_column, first_row, first_column, rows_of, columns_of, part_of, neighbour, or_zero, extent_along, lines_across}
use Rattle.plan.specs.Sizes.{needed_marks, order_of}
use Rattle.number.proofs.Tests.{lt_or_ge}
use Rattle.grid.proofs.Extents.{counted_start, extent_full, extent_last}
use Rattle.passes.specs.Line.{words_before}
use Rattle.axis.specs.Axis.{Axis, columns, rows, Direction, forward, backward, axis_of, direction_of, along, across, line_of}
use Rattle.passes.proofs.Line.{words_before_inside, words_before_past}
use Rattle.passes.proofs.Blocks.{words_beyond, words_beside}
use Rattle.task_words.specs.Strips.{place_inside, index_of_place, inside_block, edge_word, from_edge, nearest_first}
use Rattle.task_words.proofs.Places.{SideFits, place_of}
use Rattle.grid.proofs.Neighbours.{block_before, before_below, block_beside, neighbour_beside}
use Rattle.grid.proofs.Blocks.{block_row_below, block_column_below, row_of_number, column_of_number}

-- ---- one line, cut into blocks of side b

-- What a line y of n places has at a distance from the edge of block j where a pass leaves it.
abbrev edge_of_line : Direction → (n b : ℕ) → (ℕ → ℕ) → (j distance : ℕ) → ℕ
edge_of_line d n b y j i = cond (ltb i (block_extent n b j)) (y (j * b + from_edge d (block_extent n b j) i)) 0

-- Beyond a block that is not the last, for a pass that runs backward: the first places of the next block.
next_block_law : (n b m : ℕ) (y : ℕ → ℕ) (i : ℕ) → i < b → suc m * b < n
    → words_before (λ k. 0) (λ i. y (n - suc i)) (n - (m * b + b)) i
    ≡ cond (ltb i (block_extent n b (suc m))) (y (suc m * b + i)) 0
unfolding block_extent
next_block_law n b m y i l start =
    ⊎_elim
    (λ (in_block : i < min b (n - suc m * b)).
    rw (lt-ltb i (min b (n - suc m * b)) in_block)
    (words_before_inside _ _ _ _ (omega arith) ∙ ap y (omega arith)))
    (λ (out : min b (n - suc m * b) ≤ i).
    rw (le-ltb i (min b (n - suc m * b)) out) (words_before_past _ _ _ _ (omega arith)))
    (lt_or_ge i (min b (n - suc m * b)))

pub beyond_is_edge : (d : Direction) (n b m : ℕ) (y : ℕ → ℕ) (i : ℕ) → m < block_count n b → i < b
    → words_beyond d n (m * b) (block_extent n b m) y i
    ≡ or_zero (λ j. edge_of_line d n b y j i) (block_before d (block_count n b) m)
unfolding words_beyond
beyond_is_edge forward n b zero y i h l = words_before_past _ _ _ _ (omega arith)
beyond_is_edge forward n b (suc m) y i h l =
    let full : block_extent n b m ≡ b = extent_full n b m (omega arith) in
    let m_is : suc m - 1 ≡ m = omega arith in
    rw (lt-ltb 0 (suc m) (omega arith), m_is, full, lt-ltb i b l)
    (words_before_inside _ _ _ _ (omega arith) ∙ ap y (omega arith))
beyond_is_edge backward n b m y i h l =
    ⊎_elim
    (λ (more : suc m < block_count n b).
    let full : block_extent n b m ≡ b = extent_full n b m (omega arith) in
    let start : suc m * b < n = counted_start n b (suc m) more in
    rw (lt-ltb (m + 1) (block_count n b) (omega arith), add-one m, full) (next_block_law n b m y i l start))
    (λ (last : block_count n b ≤ suc m).
    let end : m * b + block_extent n b m ≡ n = extent_last n b m (omega arith) in
    rw (le-ltb (m + 1) (block_count n b) (omega arith), end) (words_before_past _ _ _ _ (omega arith)))
    (lt_or_ge (suc m) (block_count n b))

-- ---- map order and nearest first

pub place_inside_law : (d : Direction) (n order i : ℕ) → i < order → place_inside d n order (from_edge d order i) ≡ ltb i n
place_inside_law forward n order i h =
    ⊎_elim (λ (l : i < n). le-leb order (n + (order - suc i)) (omega arith) ∙ sym (lt-ltb i n l))
    (λ (g : n ≤ i). lt-leb order (n + (order - suc i)) (omega arith) ∙ sym (le-ltb i n g))
    (lt_or_ge i n)
place_inside_law backward n order i h = refl

pub place_index : (d : Direction) (n order i : ℕ) → i < order → i < n
    → index_of_place d n order (from_edge d order i) ≡ from_edge d n i
place_index forward n order i h l = omega arith
place_index backward n order i h l = refl

and_then : (p q q' : Bool) (v v' : ℕ) → q ≡ q' → (q' ≡ true → v ≡ v') → cond (p && q) v 0 ≡ cond p (cond q' v' 0) 0
and_then false q q' v v' e f = refl
and_then true q true v v' e f = rw e (f refl)
and_then true q false v v' e f = rw e

-- A strip with the nearest place first: the block's words by their distance from the edge.
pub edge_nearest : (plan : Plan) (j pass : ℕ) (Z : ℕ → ℕ → ℕ) (l i : ℕ) → i < order_of plan pass
    → nearest_first plan pass (edge_word plan j pass Z) l i
    ≡ cond (ltb l (lines_across plan.grid j pass))
    (cond (ltb i (extent_along plan.grid j pass))
    (line_of (axis_of pass) Z l
    (from_edge (direction_of pass) (extent_along plan.grid j pass) i))
    0)
    0
unfolding nearest_first edge_word inside_block
edge_nearest plan j pass Z l i h =
    let n = extent_along plan.grid j pass in
    rw (lt-ltb i (order_of plan pass) h)
    (and_then (ltb l (lines_across plan.grid j pass)) _ (ltb i n) _ _
    (place_inside_law (direction_of pass) n (order_of plan pass) i h)
    (λ t.
    ap (line_of (axis_of pass) Z l)
    (place_index (direction_of pass) n (order_of plan pass) i h (ltb-true i n t))))

-- ---- a map, cut into blocks

or_zero_map : (f g : ℕ → ℕ) (s : ℕ → ℕ) (o : Option ℕ) → ((m : ℕ) → o ≡ Some m → f m ≡ g (s m))
    → or_zero f o ≡ or_zero g (option_map s o)
or_zero_map f g s None e = refl
or_zero_map f g s (Some m) e = e m refl

-- What block j of a map Z has at line l and a distance from the edge where a pass leaves it.
abbrev edge_of_block : Axis → Direction → Plan → (ℕ → ℕ → ℕ) → (l distance j : ℕ) → ℕ
edge_of_block a d plan Z l i j =
    cond (ltb l (across a (rows_of plan.grid j) (columns_of plan.grid j)))
    (cond (ltb i (along a (rows_of plan.grid j) (columns_of plan.grid j)))
    (line_of a (part_of plan.grid j Z) l (from_edge d (along a (rows_of plan.grid j) (columns_of plan.grid j)) i))
    0)
    0

beside_is_edge : (a : Axis) (d : Direction) (plan : Plan) (k : ℕ) (here : k < needed_marks plan) (Z : ℕ → ℕ → ℕ)
    (l i : ℕ) → l < across a (rows_of plan.grid k) (columns_of plan.grid k) → i < plan.grid.side
    → words_beside a d (place_of plan k here) Z l i
    ≡ or_zero (edge_of_block a d plan Z l i)
    (option_map (block_beside a plan.grid k)
    (block_before d (along a (block_rows_of plan.grid) (block_columns_of plan.grid)) (along a (block_row plan.grid k) (block_column plan.grid k))))
unfolding words_beside place_of
beside_is_edge columns d plan k here Z l i p q =
    let below = block_row_below plan.grid k here in
    let line : ℕ → ℕ = λ y. Z y (first_column plan.grid k + l) in
    beyond_is_edge d plan.grid.rows plan.grid.side (block_row plan.grid k) line i below q
    ∙ or_zero_map (λ m. edge_of_line d plan.grid.rows plan.grid.side line m i) (edge_of_block columns d plan Z l i)
    (block_beside columns plan.grid k)
    (block_before d (block_rows_of plan.grid) (block_row plan.grid k))
    (λ m b.
    let row = row_of_number plan.grid m (block_column plan.grid k) (block_column_below plan.grid k here) in
    let column = column_of_number plan.grid m (block_column plan.grid k) (block_column_below plan.grid k here) in
    rw (row, column, lt-ltb l (columns_of plan.grid k) p))
beside_is_edge rows d plan k here Z l i p q =
    let below = block_column_below plan.grid k here in
    let line : ℕ → ℕ = Z (first_row plan.grid k + l) in
    beyond_is_edge d plan.grid.columns plan.grid.side (block_column plan.grid k) line i below q
    ∙ or_zero_map (λ n. edge_of_line d plan.grid.columns plan.grid.side line n i) (edge_of_block rows d plan Z l i)
    (block_beside rows plan.grid k)
    (block_before d (block_columns_of plan.grid) (block_column plan.grid k))
    (λ n b.
    let counted = before_below d (block_columns_of plan.grid) (block_column plan.grid k) n below b in
    let row = row_of_number plan.grid (block_row plan.grid k) n counted in
    let column = column_of_number plan.grid (block_row plan.grid k) n counted in
    rw (row, column, lt-ltb l (rows_of plan.grid k) p))

pub or_zero_same : (f g : ℕ → ℕ) (o : Option ℕ) → ((j : ℕ) → o ≡ Some j → f j ≡ g j) → or_zero f o ≡ or_zero g o
or_zero_same f g None e = refl
or_zero_same f g (Some j) e = e j refl

-- The words of a map beyond block k, where a pass comes from, are the strip of the neighbour there, nearest first.
pub beside_strip : (plan : Plan) → SideFits plan → (k : ℕ) (here : k < needed_marks plan) (pass : ℕ) → pass < 4
    → (Z : ℕ → ℕ → ℕ) (l i : ℕ) → l < lines_across plan.grid k pass → i < order_of plan pass
    → words_beside (axis_of pass) (direction_of pass) (place_of plan k here) Z l i
    ≡ or_zero (λ j. nearest_first plan pass (edge_word plan j pass (part_of plan.grid j Z)) l i) (neighbour plan.grid k pass)
beside_strip plan fits k here pass h Z l i p q =
    let in_side = fits.order_in_side pass h in
    beside_is_edge (axis_of pass) (direction_of pass) plan k here Z l i p (omega arith)
    ∙ ap (or_zero (edge_of_block (axis_of pass) (direction_of pass) plan Z l i)) (sym (neighbour_beside plan.grid k pass))
    ∙ or_zero_same _ _ (neighbour plan.grid k pass) (λ j e. sym (edge_nearest plan j pass (part_of plan.grid j Z) l i q))
