-- The course of a link as the code chooses it by its number. Assumes nothing.
use mathlib.Core.List.{List}
use mathlib.Core.Path.{◌≡◌, refl, ap, ◌∙◌}
use mathlib.Core.Bool.{true}
use Prim.Native.Nat.{ℕ, zero, suc, ◌+◌, ◌<◌, ◌≤◌}
use native.Mathlib.Omega.{arith}
use Rattle.word.specs.Word.{◌⊗◌}
use Rattle.plan.proofs.Record.{order_limited_at}
use Rattle.plan.specs.Rules.{order_limit, pass_at, keeps_rules}
use Rattle.plan.specs.Sizes.{needed_marks, order_of}
use Rattle.plan.specs.declared.Plan.{Plan}
use Rattle.passes.specs.Filter.{Filter}
use Rattle.passes.specs.Gains.{unit_gain}
use Rattle.axis.specs.Axis.{Direction, forward, backward, axis_of, direction_of}
use Rattle.filter.proofs.Filters.{filter_words_filter}
use Rattle.filter.specs.PlanFilters.{filter_of, filters_of}
use Rattle.grid.specs.declared.Grid.{Grid}
use Rattle.grid.specs.Grid.{extent_along, lines_across}
use Rattle.task_words.specs.Strips.{from_edge}
use Rattle.strips.proofs.BlockBounds.{bounded, of_axis}
use Rattle.strips.proofs.StripRecords.{before_fits, past_edges_read}
use Rattle.strips.specs.StripRecord.{edge_start, strip_before, strip_read, StripFits}
use Rattle.grid.specs.Shapes.{shape_of, shape_extent, shape_lines}
use Rattle.grid.specs.declared.BlockShape.{BlockShape}
use Rattle.strips.specs.declared.Strip.{Strip}
use Rattle.squares.proofs.LinePasses.{passes_in_axis}
use Rattle.squares.specs.LinePasses.{axis_start, axis_passes}
use Rattle.squares.specs.LineBuffers.{filter_at, OrdersFit}
use Rattle.link.specs.Courses.{unit_gain_filters, course_along, course_of, CourseFits, LinkFits}
use Rattle.link.specs.declared.Course.{Course}
use Rattle.link.specs.declared.BlockLink.{BlockLink}
use Rattle.filter.specs.FilterWords.{gains_after}
use Rattle.task_words.specs.ScaledEdges.{scaled_edges}

-- ---- the course of block k's link

pub course_is : (plan : Plan) (k pass : ℕ) {shape : BlockShape} {n lines order : ℕ} {course : Course}
    → shape ≡ shape_of plan.grid k → n ≡ shape_extent shape pass → lines ≡ shape_lines shape pass → order ≡ order_of plan pass
    → course ≡ course_along pass n lines order → course ≡ course_of plan k pass
unfolding course_of shape_of
course_is plan k pass shaped a b o e = e ∙ rw (a, b, o, shaped)

-- A block's places along a pass and its lines: some, and few.
record BlockLines (grid : Grid) (k pass : ℕ) : Type 0 where
  pub some : (0 < extent_along grid k pass) × (0 < lines_across grid k pass)
  pub few : (extent_along grid k pass ≤ 32) × (lines_across grid k pass ≤ 32)

block_lines : (plan : Plan) (k pass : ℕ) → keeps_rules plan ≡ true → k < needed_marks plan → BlockLines plan.grid k pass
block_lines plan k pass kept here =
    let b = bounded plan k kept here in
    record {
      some = of_axis (axis_of pass) (λ z. 0 < z) _ _ b.tall b.wide;
      few = of_axis (axis_of pass) (λ z. z ≤ 32) _ _ b.rows_high b.columns_high;
    }

pub few_places : (plan : Plan) (k pass : ℕ) → keeps_rules plan ≡ true → k < needed_marks plan → (shape : BlockShape)
    → shape ≡ shape_of plan.grid k → shape_extent shape pass ≤ 32
unfolding shape_of
few_places plan k pass kept here shape e = rw e (block_lines plan k pass kept here).few.0

-- Passes of one axis, counted.
record Counted (pass : ℕ) : Type 0 where
  pub first_low : axis_start pass ≤ 2
  pub some_passes : 0 < axis_passes pass
  pub few_passes : axis_passes pass ≤ 2
  pub passes_counted : axis_start pass + axis_passes pass ≤ 4

counted : (pass : ℕ) → Counted pass
counted pass =
    let low = by pass in
    record {
      first_low = low;
      some_passes = (passes_in_axis pass).0;
      few_passes = (passes_in_axis pass).1;
      passes_counted = omega (arith, (passes_in_axis pass).1);
    }
  where
    by : (pass : ℕ) → axis_start pass ≤ 2
    by zero = omega arith
    by (suc zero) = omega arith
    by (suc (suc pass)) = omega arith

-- The last of the passes of an axis, up to a pass, is the pass itself.
last_of_axis : (pass : ℕ) → pass < 4 → axis_start pass + axis_passes pass ≡ suc pass
last_of_axis zero h = refl
last_of_axis (suc zero) h = refl
last_of_axis (suc (suc zero)) h = refl
last_of_axis (suc (suc (suc zero))) h = refl
last_of_axis (suc (suc (suc (suc pass)))) h = absurd (omega arith)

ends_in_line : (d : Direction) (order n : ℕ) → edge_start d order n ≤ order_limit + n
ends_in_line forward order n = omega arith
ends_in_line backward order n = omega arith

-- The course of a link whose order is not 0 fits the buffers.
pub course_fits : (plan : Plan) (k pass : ℕ) → keeps_rules plan ≡ true → k < needed_marks plan → pass < 4
    → 0 < order_of plan pass → CourseFits (course_of plan k pass)
unfolding course_of
course_fits plan k pass kept here h some =
    let b = block_lines plan k pass kept here in
    let c = counted pass in
    record {
      some_places = b.some.0;
      few_places = b.few.0;
      some_lines = b.some.1;
      few_lines = b.few.1;
      some_order = some;
      order_limited = order_limited_at plan kept pass h;
      inside = ends_in_line (direction_of pass) (order_of plan pass) _;
      some_passes = c.some_passes;
      few_passes = c.few_passes;
      first_low = c.first_low;
      passes_counted = c.passes_counted;
      first_is = refl;
      passes_are = refl;
      last_is = last_of_axis pass h;
    }

-- ---- filters and strips

pub filter_is : (plan : Plan) (pass : ℕ) → pass < 4 → filter_at (unit_gain_filters plan) pass ≡ unit_gain (filters_of plan pass)
unfolding unit_gain_filters
filter_is plan zero h = ap unit_gain (filter_words_filter (pass_at plan 0))
filter_is plan (suc zero) h = ap unit_gain (filter_words_filter (pass_at plan 1))
filter_is plan (suc (suc zero)) h = ap unit_gain (filter_words_filter (pass_at plan 2))
filter_is plan (suc (suc (suc zero))) h = ap unit_gain (filter_words_filter (pass_at plan 3))
filter_is plan (suc (suc (suc (suc pass)))) h = absurd (omega arith)

module _ {link : BlockLink} {n : ℕ} (fits : LinkFits link n) where
  order_is : (pass : ℕ) → pass < 4 → (filter_at link.filters pass).order ≡ order_of link.plan pass
  unfolding filter_of
  order_is pass h = rw fits.filters_are (ap (λ (f : Filter). f.order) (filter_is link.plan pass h))

  pub link_orders : OrdersFit (filter_at link.filters)
  link_orders =
      record { order_limited = λ pass h. rw (order_is pass h) (order_limited_at link.plan fits.kept pass h) }

  -- What is read at a distance in the strip of the block that a pass comes from, times the gains of the passes after it.
  pub scaled_edges_law : (strips : List ℕ) (pass : ℕ) → pass < 4 → {strip : Strip} → strip ≡ strip_before link.plan link.k pass → {gain : ℕ}
      → gain ≡ gains_after link.plan pass link.course.pass → (line distance : ℕ) → distance < (filter_at link.filters pass).order
      → gain ⊗ strip_read strip strips line (from_edge (direction_of pass) (filter_at link.filters pass).order distance)
      ≡ scaled_edges link.plan strips link.k link.course.pass pass line distance
  unfolding scaled_edges
  scaled_edges_law strips pass h s g line distance b =
      let b' : distance < order_of link.plan pass = rw (order_is pass h) at b in
      rw (s, g, order_is pass h)
      (ap (gains_after link.plan pass link.course.pass ⊗◌) (past_edges_read link.plan strips link.k pass line distance b'))

  pub before_strip_fits : (pass : ℕ) → pass < 4 → StripFits n (strip_before link.plan link.k pass)
  before_strip_fits pass h = before_fits link.plan link.k pass n fits.counted h fits.strips_long
