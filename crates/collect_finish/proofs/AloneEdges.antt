-- The edge of the block filtered alone, times the gains so far, is the strip that collect owes. Assumes nothing.
use mathlib.Core.Path.{◌≡◌, refl, sym, ap, ap₂, ◌∙◌}
use mathlib.Core.Bool.{Bool, true, false, ◌&&◌, cond, false≢true}
use mathlib.Core.List.{List}
use Prim.Native.Nat.{ℕ, suc, ◌+◌, ◌≤◌, ◌<◌}
use native.Mathlib.Numerals.{add-one}
use native.Mathlib.Omega.{arith}
use lib.Dec.{ltb}
use borrow.Author.Tests.{lt-ltb}
use Rattle.word.specs.Word.{◌⊗◌}
use Rattle.word.proofs.Ring.{mul_zero}
use Rattle.plan.specs.declared.Plan.{Plan}
use Rattle.plan.specs.Rules.{order_limit}
use Rattle.plan.specs.Sizes.{order_of}
use Rattle.buffer.specs.Lists.{word_at}
use Rattle.plan.proofs.Record.{rules, order_limited_at}
use Rattle.number.proofs.Tests.{and_right}
use Rattle.passes.specs.Gains.{gains_from}
use Rattle.axis.specs.Axis.{Axis, columns, rows, Direction, axis_of, direction_of, along, across, line_of}
use Rattle.passes.specs.Passes.{passes_over}
use Rattle.passes.proofs.Gains.{gains_out}
use Rattle.filter.specs.PlanFilters.{filters_of}
use Rattle.grid.specs.Grid.{rows_of, columns_of, part_of, goes_on}
use Rattle.grid.specs.Shapes.{shape_of}
use Rattle.strips.proofs.Edges.{edge_index, edge_inside}
use Rattle.task_words.specs.Strips.{index_of_place, inside_block, edge_word}
use Rattle.task_words.specs.Writes.{block_passes, alone_word}
use Rattle.task_words.proofs.StripReads.{inside_line, inside_index, masked_same}
use Rattle.collect_finish.specs.Work.{pixel_in, work_place, ShapeFits, edge_first, work_edge}
use Rattle.collect_finish.specs.WorkFits.{BlockOf}
use Rattle.collect_finish.proofs.WorkPlaces.{shape_fits, extent_small, outside_block}
use Rattle.collect_finish.proofs.AloneBlock.{collect_filters, Alone}
use Rattle.collect_finish.proofs.WorkEdges.{edge_room}

not_both : (a b : Bool) → (a && b) ≡ false → a ≡ true → b ≡ true → ⊥
not_both a b e f g = false≢true (sym e ∙ rw f g)

module _ {plan : Plan} {k : ℕ} (block : BlockOf plan k) (pass : ℕ) (below : pass < 4) (X : ℕ → ℕ → ℕ) (work : List ℕ)
    (alone : Alone plan k (part_of plan.grid k X) (pass + 1) work) (gain : ℕ)
    (gains : gain ≡ gains_from (filters_of plan) 0 (pass + 1)) where
  abbrev a : Axis
  a = axis_of pass

  abbrev d : Direction
  d = direction_of pass

  abbrev r : ℕ
  r = order_of plan pass

  abbrev h : ℕ
  h = rows_of plan.grid k

  abbrev w : ℕ
  w = columns_of plan.grid k

  abbrev edge : ℕ
  edge = edge_first plan (shape_of plan.grid k) pass

  abbrev Z : ℕ → ℕ → ℕ
  Z = block_passes plan k (λ u l i. 0) (part_of plan.grid k X) (suc pass)

  -- The same with gain 1.
  abbrev U : ℕ → ℕ → ℕ
  U = passes_over (collect_filters plan) h w (λ u l i. 0) (part_of plan.grid k X) (suc pass)

  fits : ShapeFits (shape_of plan.grid k)
  fits = shape_fits block

  limited : r ≤ order_limit
  limited = order_limited_at plan block.kept pass below

  -- A pixel of the block times its gains.
  held_word : (y x : ℕ) → y < h → x < w → gain ⊗ word_at work (pixel_in y x) ≡ Z y x
  held_word y x p q =
      let held : word_at work (pixel_in y x) ≡ U y x = rw (← add-one pass) (alone.block.inside y x p q) in
      ap₂ ◌⊗◌ (gains ∙ ap (gains_from (filters_of plan) 0) (add-one pass)) held
      ∙ sym (gains_out (filters_of plan) h w (part_of plan.grid k X) pass y x)

  -- A place in the block,
  edge_held : (line place : ℕ) → place < r → inside_block plan k pass line place ≡ true
      → gain ⊗ word_at work (work_place a line (edge + place)) ≡ line_of a Z line (index_of_place d (along a h w) r place)
  unfolding inside_block shape_of
  edge_held line place b e =
      ap (λ z. gain ⊗ word_at work (work_place a line z))
      (edge_index d r (along a h w) place limited (and_right (ltb line (across a h w)) _ e))
      ∙ on_line a line _ (inside_line plan k pass line place e) (inside_index plan k pass line place e b)
    where
      on_line : (a : Axis) (l i : ℕ) → l < across a h w → i < along a h w
          → gain ⊗ word_at work (work_place a l (order_limit + i)) ≡ line_of a Z l i
      on_line columns l i p q = held_word i l q p
      on_line rows l i p q = held_word l i p q

  -- and one outside it.
  edge_zero : (line place : ℕ) → line < plan.grid.side → place < r → inside_block plan k pass line place ≡ false
      → word_at work (work_place a line (edge + place)) ≡ 0
  unfolding inside_block shape_of
  edge_zero line place b c e =
      alone.clear.around _
      (outside_block fits pass line (edge + place) (omega (arith, (rules plan block.kept).side_high))
      (omega (arith, edge_room d r (along a h w) limited (extent_small fits pass)))
      (λ p low high. not_both _ _ e (lt-ltb line _ p) (edge_inside d r (along a h w) place limited low high)))

  edge_is : (line place : ℕ) → line < plan.grid.side → place < r
      → gain ⊗ word_at work (work_place a line (edge + place)) ≡ edge_word plan k pass Z line place
  unfolding edge_word
  edge_is line place b c = by (inside_block plan k pass line place) refl
    where
      by : (t : Bool) → inside_block plan k pass line place ≡ t
          → gain ⊗ word_at work (work_place a line (edge + place))
          ≡ cond t (line_of a Z line (index_of_place d (along a h w) r place)) 0
      by true e = edge_held line place c e
      by false e = ap (gain ⊗◌) (edge_zero line place b c e) ∙ mul_zero gain

  pub alone_edge : (line place : ℕ) → line < plan.grid.side → place < r
      → work_edge plan k pass gain work line place ≡ alone_word plan X k pass line place
  unfolding work_edge alone_word
  alone_edge line place b c = masked_same (goes_on plan.grid k pass) _ _ (λ e. edge_is line place b c)
