-- The rectangle of the neighbour's strip, times a gain, as the code copies it into a margin. Assumes nothing.
use mathlib.Core.Path.{◌≡◌, ◌∙◌}
use mathlib.Core.List.{List}
use Prim.Native.Nat.{ℕ, ◌+◌, ◌-◌, ◌≤◌}
use native.Mathlib.Omega.{arith}
use lib.ListN.{length}
use Rattle.plan.specs.declared.Plan.{Plan}
use Rattle.plan.specs.Sizes.{order_of}
use Rattle.axis.specs.Axis.{Axis, axis_of, direction_of, along, across}
use Rattle.grid.specs.declared.BlockShape.{BlockShape}
use Rattle.strips.specs.declared.Strip.{Strip}
use Rattle.strips.specs.StripRecord.{strip_before, address_in}
use Rattle.buffer.specs.Copies.{stride_scaled, stride_written}
use Rattle.collect_finish.specs.Rectangles.{CopyFits}
use Rattle.collect_finish.specs.Work.{work_stride, work_place, ShapeFits, margin_first, MarginClear, MarginLoaded}
use Rattle.collect_finish.specs.WorkFits.{ShapedBlock, StripMoves}
use Rattle.collect_finish.proofs.WorkPlaces.{shape_in_work, move_limited, lines_small, extent_small, lines_fit, lines_narrow}
use Rattle.collect_finish.proofs.StripRectangles.{StripLies, before_lies}
use Rattle.collect_finish.proofs.Margins.{margin_room, margin_loaded}
use Rattle.grid.specs.Shapes.{shape_extent, shape_lines}

module _ {plan : Plan} {k pass : ℕ} {shape : BlockShape} {n m : ℕ} (placed : ShapedBlock plan k shape) (moves : StripMoves plan pass n m) {strip : Strip}
    (stripped : strip ≡ strip_before plan k pass) where
  abbrev a : Axis
  a = axis_of pass

  abbrev places : ℕ
  places = strip.past - strip.first

  fits : ShapeFits shape
  fits = shape_in_work placed

  pub strip_lies : StripLies a n (order_of plan pass) (shape_lines shape pass) strip
  strip_lies =
      rw (stripped, placed.shaped) (before_lies placed.block pass moves.pass_below moves.strips_long)

  lines_few : strip.lines ≤ 32
  lines_few = omega (arith, lines_small fits pass, strip_lies.few_lines)

  -- What is copied begins at index start + first of each line.
  module _ {start : ℕ} (starts : start ≡ margin_first plan shape pass) where
    last_in_work : start + strip.past ≤ work_stride
    last_in_work =
        omega (
          arith,
          margin_room (direction_of pass) (order_of plan pass) (shape_extent shape pass) (move_limited placed moves) (extent_small fits pass),
          strip_lies.few_places,
        )

    pub first_in_work : start + strip.first ≤ work_stride
    first_in_work = omega (arith, last_in_work, strip_lies.ordered)

    places_in_work : start + strip.first + places ≤ work_stride
    places_in_work = omega (arith, last_in_work, strip_lies.ordered)

    -- The code's first word and step in the strips, place in the work array, and rows and columns of the rectangle.
    module _ {first step place height width : ℕ} (begins : first ≡ address_in strip 0 strip.first) (stepped : step ≡ along a strip.place_step strip.line_step)
        (at : place ≡ work_place a 0 (start + strip.first)) (tall : height ≡ along a places strip.lines)
        (wide : width ≡ across a places strip.lines) where
      -- No row of the rectangle copied is wider than the stride.
      pub strip_narrow : width ≤ work_stride
      strip_narrow = rw wide (lines_narrow a (start + strip.first) places strip.lines places_in_work lines_few)

      -- What the copy asks: it is in the strips and in the work array, and none of its rows reaches into the next.
      pub strip_asked :
          CopyFits (record { start = first; stride = step; height = height; width = width })
          (record { start = place; stride = work_stride }) n m
          × (width ≤ work_stride)
      strip_asked = (
        record {
          read = rw (begins, stepped, tall, wide) strip_lies.grid_in;
          written =
              rw (at, tall, wide)
              (lines_fit a (start + strip.first) places strip.lines m places_in_work lines_few moves.sized);
        },
        strip_narrow,
      )

      pub strip_loaded : (gain : ℕ) (strips : List ℕ) {before after : List ℕ} → length before ≡ m
          → MarginClear plan shape pass before
          → after
          ≡ stride_written place work_stride width
          (stride_scaled gain strips first step) height before
          → MarginLoaded plan shape pass gain (strip_before plan k pass) strips before after
      strip_loaded gain strips {before} {after} long clear copied =
          rw (← stripped)
          (margin_loaded plan shape fits pass (move_limited placed moves) gain n strip strips before after strip_lies
          (long ∙ moves.sized) (rw (begins, stepped, at, tall, wide, starts) at copied) clear)
