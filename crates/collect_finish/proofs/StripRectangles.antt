-- The linked strip of the neighbour that a pass comes from, as a rectangle: it lies in the list of strips, and its lines and
-- places are no more than the margin's. Assumes nothing.
use mathlib.Core.Path.{◌≡◌, refl}
use Rattle.std.specs.Prelude.{Option, None, Some}
use Prim.Native.Nat.{ℕ, ◌+◌, ◌-◌, ◌*◌, ◌≤◌, ◌<◌}
use native.Mathlib.Nat.{mul-le-mul_right}
use native.Mathlib.Omega.{arith}
use Rattle.plan.specs.declared.Plan.{Plan}
use Rattle.plan.specs.Sizes.{needed_marks, needed_strips, order_of}
use Rattle.plan.proofs.Record.{rules}
use Rattle.axis.specs.Axis.{Axis, columns, rows, Direction, forward, backward, axis_of, direction_of, along, across}
use Rattle.grid.specs.Grid.{neighbour, extent_along, lines_across}
use Rattle.task_words.specs.declared.Half.TheVariants.{Linked}
use Rattle.task_words.specs.Strips.{strip_start}
use Rattle.grid.proofs.Neighbours.{neighbour_below, neighbour_lines}
use Rattle.grid.proofs.Blocks.{lines_in_side}
use Rattle.task_words.proofs.Strips.{strip_in_list}
use Rattle.strips.proofs.StripRecords.{past_in_order}
use Rattle.strips.specs.declared.Strip.{Strip}
use Rattle.strips.specs.StripRecord.{first_inside, past_inside, strip_with, strip_of, empty_strip, strip_in, strip_before, address_in}
use Rattle.grid.specs.Shapes.{shape_of, shape_lines}
use Rattle.buffer.specs.Copies.{StrideFits}
use Rattle.collect_finish.specs.WorkFits.{BlockOf}

-- A strip in a list of n words that a margin of `order` places of `lines` lines takes.
pub record StripLies (a : Axis) (n order lines : ℕ) (strip : Strip) : Type 0 where
  pub few_lines : strip.lines ≤ lines
  pub few_places : strip.past ≤ order
  pub ordered : strip.first ≤ strip.past
  pub addressed : (y x : ℕ) → across a y x < strip.lines
      → address_in strip 0 strip.first + y * along a strip.place_step strip.line_step + x
      ≡ address_in strip (across a y x) (strip.first + along a y x)
  pub start_in : address_in strip 0 strip.first ≤ n
  pub grid_in : StrideFits n (address_in strip 0 strip.first)
      (along a strip.place_step strip.line_step) (along a (strip.past - strip.first) strip.lines)
      (across a (strip.past - strip.first) strip.lines)

-- Places from `first` to before `past` of a strip whose words start at `start`.
module _ (n order side start lines first past : ℕ) (fits : start + side * order ≤ n) (low : 1 ≤ side) (few : lines ≤ side)
    (ordered : first ≤ past) (limited : past ≤ order) where
  abbrev strip : Axis → Strip
  strip a =
      record {
        start = start;
        line_step = along a 1 order;
        place_step = along a side 1;
        lines = lines;
        first = first;
        past = past;
      }

  address : (a : Axis) (y x : ℕ)
      → address_in (strip a) 0 first + y * along a (along a side 1) (along a 1 order) + x
      ≡ address_in (strip a) (across a y x) (first + along a y x)
  address columns y x = omega arith
  address rows y x = omega arith

  first_in : (a : Axis) → address_in (strip a) 0 first ≤ n
  first_in columns = let e : first * side ≤ order * side = mul-le-mul_right side (omega arith) in omega arith
  first_in rows = let e : 1 * order ≤ side * order = mul-le-mul_right order low in omega arith

  places_in : (a : Axis)
      → StrideFits n (address_in (strip a) 0 first) (along a (along a side 1) (along a 1 order)) (along a (past - first) lines)
      (across a (past - first) lines)
  places_in columns =
      record {
        row = λ y h. let e : (first + y + 1) * side ≤ order * side = mul-le-mul_right side (omega arith) in omega arith;
      }
  places_in rows =
      record { row = λ y h. let e : (y + 1) * order ≤ side * order = mul-le-mul_right order (omega arith) in omega arith }

  lies : (a : Axis) → StripLies a n order lines (strip a)
  lies a =
      record {
        few_lines = omega arith;
        few_places = limited;
        ordered = ordered;
        addressed = λ y x h. address a y x;
        start_in = first_in a;
        grid_in = places_in a;
      }

nothing_lies : (a : Axis) (n order lines : ℕ) → StripLies a n order lines empty_strip
nothing_lies a n order lines =
    record {
      few_lines = omega arith;
      few_places = omega arith;
      ordered = omega arith;
      addressed = λ y x h. absurd (omega arith);
      start_in = omega arith;
      grid_in = record { row = λ y h. absurd (none_below a y h) };
    }
  where
    none_below : (a : Axis) (y : ℕ) → y < along a (0 - 0) 0 → ⊥
    none_below columns y h = omega arith
    none_below rows y h = omega arith

first_before_past : (d : Direction) (order n : ℕ) → first_inside d order n ≤ past_inside d order n
first_before_past forward order n = omega arith
first_before_past backward order n = omega arith

-- The strip before a block lies in a list of at least the needed length.
pub before_lies : {plan : Plan} {k : ℕ} → BlockOf plan k → (pass : ℕ) {n : ℕ} → pass < 4 → needed_strips plan ≤ n
    → StripLies (axis_of pass) n (order_of plan pass) (shape_lines (shape_of plan.grid k) pass) (strip_before plan k pass)
unfolding strip_before strip_of strip_with shape_of
before_lies {plan} {k} block pass {n} below long =
    by (neighbour plan.grid k pass)
    (λ j e. (neighbour_below plan.grid k pass j block.counted e, neighbour_lines plan.grid k pass j block.counted e))
  where
    lines : ℕ → ℕ
    lines j = lines_across plan.grid j pass

    by : (o : Option ℕ) → ((j : ℕ) → o ≡ Some j → (j < needed_marks plan) × (lines j ≡ lines k))
        → StripLies (axis_of pass) n (order_of plan pass) (lines k) (strip_in plan pass o)
    by None f = nothing_lies (axis_of pass) n (order_of plan pass) _
    by (Some j) f =
        let extent = extent_along plan.grid j pass in
        let d = direction_of pass in
        let order = order_of plan pass in
        rw (← (f j refl).1)
        (lies n order plan.grid.side (strip_start plan Linked j pass) _ _ _
        (omega (arith, strip_in_list plan Linked j pass (f j refl).0 below)) (rules plan block.kept).side_low
        (lines_in_side plan.grid j (axis_of pass)) (first_before_past d order extent) (past_in_order d order extent)
        (axis_of pass))
