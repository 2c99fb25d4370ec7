-- The edge of the block in the work array, times its gain, as the strip that collect writes. Assumes nothing.
use mathlib.Core.Path.{◌≡◌, refl, ap, ◌∙◌}
use mathlib.Core.Bool.{true, false}
use mathlib.Core.List.{List}
use Prim.Native.Nat.{ℕ, ◌+◌, ◌*◌, ◌/◌, ◌%◌, ◌≤◌}
use native.Mathlib.Nat.{mul-le-mul_right, div-add-mod'}
use native.Mathlib.Omega.{arith}
use Rattle.word.specs.Word.{◌⊗◌}
use Rattle.plan.specs.declared.Plan.{Plan}
use Rattle.plan.specs.Rules.{order_limit}
use Rattle.plan.specs.Sizes.{order_of}
use Rattle.buffer.specs.Lists.{word_at}
use Rattle.plan.proofs.Record.{rules}
use Rattle.axis.specs.Axis.{Axis, columns, rows, Direction, forward, backward, axis_of, direction_of, along, across}
use Rattle.grid.specs.Grid.{goes_on}
use Rattle.grid.specs.declared.BlockShape.{BlockShape}
use Rattle.task_words.specs.declared.Half.TheVariants.{Lone}
use Rattle.task_words.specs.Strips.{strip_words, strip_start, strip_written_to, strip_written}
use Rattle.task_words.proofs.Strips.{strip_in_list}
use Rattle.strips.specs.StripRecord.{edge_start}
use Rattle.buffer.specs.Written.{cleared, row_written}
use Rattle.buffer.specs.Copies.{stride_place, stride_scaled, stride_written}
use Rattle.collect_finish.specs.Rectangles.{CopyFits}
use Rattle.buffer.proofs.Written.{written_same}
use Rattle.buffer.proofs.Copies.{rectangle_same}
use Rattle.collect_finish.specs.Work.{work_stride, work_place, edge_first, work_edge}
use Rattle.collect_finish.specs.WorkFits.{ShapedBlock, StripMoves}
use Rattle.collect_finish.proofs.WorkPlaces.{shape_in_work, line_place_law, lines_fit, extent_small, move_limited}
use Rattle.grid.specs.Shapes.{shape_extent}

-- The words of a strip as a rectangle.
strip_count : (a : Axis) (side order : ℕ) → along a order side * across a order side ≡ side * order
strip_count columns side order = omega arith
strip_count rows side order = refl

-- ---- places of the edge

pub edge_room : (d : Direction) (order n : ℕ) → order ≤ order_limit → n ≤ 32 → edge_start d order n + order ≤ work_stride
edge_room forward order n h s = omega arith
edge_room backward order n h s = omega arith

-- ---- the code's copies

module _ {plan : Plan} {k pass : ℕ} {shape : BlockShape} {n m : ℕ} (placed : ShapedBlock plan k shape) (moves : StripMoves plan pass n m) where
  abbrev a : Axis
  a = axis_of pass

  abbrev r : ℕ
  r = order_of plan pass

  abbrev side : ℕ
  side = plan.grid.side

  abbrev edge : ℕ
  edge = edge_first plan shape pass

  pub edge_in_work : edge + r ≤ work_stride
  edge_in_work =
      edge_room (direction_of pass) r (shape_extent shape pass) (move_limited placed moves)
      (extent_small (shape_in_work placed) pass)

  edge_cell : (gain : ℕ) (work : List ℕ) → goes_on plan.grid k pass ≡ true → (y x : ℕ)
      → stride_scaled gain work (work_place a 0 edge) work_stride y x ≡ work_edge plan k pass gain work (across a y x) (along a y x)
  unfolding work_edge
  edge_cell gain work needed y x =
      rw (needed, ← placed.shaped) (ap (λ z. gain ⊗ word_at work z) (line_place_law a edge y x))

  module _ {start : ℕ} (starts : start ≡ strip_start plan Lone k pass) where
    pub words_in_strips : start + strip_words plan pass ≤ n
    words_in_strips =
        omega (arith, strip_in_list plan Lone k pass placed.block.counted moves.pass_below, moves.strips_long)

    -- A strip that no neighbour needs,
    pub cleared_strip : (gain : ℕ) (work strips : List ℕ) {after : List ℕ} → goes_on plan.grid k pass ≡ false
        → after ≡ cleared start 1 (strip_words plan pass) strips
        → after ≡ strip_written plan Lone k pass (work_edge plan k pass gain work) strips
    unfolding cleared strip_written_to row_written work_edge
    cleared_strip gain work strips unneeded e =
        e ∙ written_same _ _ _ _ (strip_words plan pass) strips (λ q h. omega (arith, starts)) (λ q h. rw unneeded)

    -- and one that a neighbour needs: the code's place in the work array, and rows and columns of the rectangle.
    module _ {index place height width : ℕ} (indexed : index ≡ edge) (at : place ≡ work_place a 0 index)
        (tall : height ≡ along a r side) (wide : width ≡ across a r side) where
      -- What the copy asks: the edge is in the work array, and the strip in the strips.
      pub edge_copied :
          CopyFits (record { start = place; stride = work_stride; height = height; width = width })
          (record { start = start; stride = width }) m n
          × (width ≤ width)
      edge_copied = (
        record {
          read =
              rw (at, indexed, tall, wide)
              (lines_fit a edge r side m edge_in_work (rules plan placed.block.kept).side_high moves.sized);
          written =
              rw (tall, wide)
              record {
                row =
                    λ y h.
                    let e : (y + 1) * across a r side ≤ along a r side * across a r side =
                    mul-le-mul_right (across a r side) (omega arith) in
                    omega (arith, words_in_strips, strip_count a side r);
              };
        },
        omega arith,
      )

      pub copied_strip : (gain : ℕ) (work strips : List ℕ) {after : List ℕ} → goes_on plan.grid k pass ≡ true
          → after ≡ stride_written start width width (stride_scaled gain work place work_stride) height strips
          → after ≡ strip_written plan Lone k pass (work_edge plan k pass gain work) strips
      unfolding strip_written_to row_written
      copied_strip gain work strips needed copied =
          let w = across a r side in
          (rw (at, indexed, tall, wide) at copied)
          ∙ rectangle_same (stride_place start w) _ w (along a r side) (λ q. strip_start plan Lone k pass + q) _ strips
          (λ q c. let e = div-add-mod' q w in rw (← starts) (omega arith))
          (λ q c. edge_cell gain work needed (q / w) (q % w))
          ∙ ap (λ z. strip_written_to plan Lone k pass (work_edge plan k pass gain work) z strips) (strip_count a side r)
